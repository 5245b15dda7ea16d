use Rattle.gf_tree.proofs.Common.{◌∙◌, ap}
use Rattle.indexmap.specs.IndexMap.{insert_all}
use Rattle.gf_tree.proofs.lemmas.stores.Keys.{moved}
use Rattle.gf_tree.proofs.hashers.rehash.Goals as goal

pub returns : goal.returns
returns g c =
    c.in_ok-append.ensures.entries
    ∙ ap (λ es. insert_all g.K.PartialEq.eq es c.args.map.now.entries) c.with_hasher-all.ensures.empty
    ∙ moved g.K.PartialEq.eq g.met.K.Eq.laws c.args.map.now.entries c.len-len.ensures.unique
