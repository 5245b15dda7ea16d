use Rattle.std.proofs.Common.{subst, arith, ◌∷◌, map, sym, ◌∙◌, [], ap}
use Rattle.std.proofs.lemmas.List.{map-append, length-map}
use Rattle.gf_jobs.specs.inner.KeptNames.{IsKeptOf, KeptNames}
use Rattle.gf_jobs.proofs.Grouped.{more_new, more_there, put_last, put_there}
use Rattle.gf_jobs.proofs.collections.groups.Groups.push.Goals as goal

pub returns-in_ok-push-in-Some : goal.returns-in_ok-push-in-Some
returns-in_ok-push-in-Some c = λ files is.
    let names = c.self.inside.names.items in
    more_there files _ (subst (λ (kept : KeptNames). IsKeptOf files kept) (sym c.self.view_is) is)
    (record { name = c.args.name.now; hash = c.args.hash }) _ c.in_ok-at.ensures.keys c.in_ok-at.at
    c.in_ok-at.ensures.index
    (omega (
      arith,
      c.in-Some.ensures.item.3.0,
      length-map names (λ group. map (λ name. name.now) group.items),
    ))
    (put_there (λ group. map (λ name. name.now) group.items) names c.push.new.self c.args.name.now
    c.in_ok-at.at c.in-Some.group.now c.in-Some.ensures.item.3.0 c.in-Some.ensures.item.1
    (ap (λ l. map (λ name. name.now) l) c.in_ok-push-in-Some.ensures.items
    ∙ map-append (λ name. name.now) c.in-Some.group.now.items (c.args.name ∷ [])))

pub returns-in_ok-push-in-None : goal.returns-in_ok-push-in-None
returns-in_ok-push-in-None c = λ files is.
    let names = c.self.inside.names.items in
    more_new files _ (subst (λ (kept : KeptNames). IsKeptOf files kept) (sym c.self.view_is) is)
    (record { name = c.args.name.now; hash = c.args.hash }) _ c.in_ok-at.ensures.keys c.in_ok-at.at
    c.in_ok-at.ensures.index
    (omega (
      arith,
      c.in-None.ensures.item.3,
      length-map names (λ group. map (λ name. name.now) group.items),
    ))
    (ap (λ l. map (λ group. map (λ name. name.now) group.items) l)
    c.in_ok-push-in-None.ensures.items
    ∙ put_last (λ group. map (λ name. name.now) group.items) names c.in_ok-vec-in-None.field-0
    c.args.name.now (ap (λ l. map (λ name. name.now) l) c.in_ok-vec-in-None.ensures.items))
