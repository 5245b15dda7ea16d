use Rattle.gf_nfg.proofs.Common.{content_of}
use Rattle.gf_nfg.proofs.lemmas.tables.Meaning.{held}
use Rattle.gf_nfg.proofs.lemmas.tables.Spelled.{spelled_is_spellable}
use Rattle.gf_nfg.proofs.heading.Heading.table.Goals as goal

pub of_parts-requires : goal.of_parts-requires
of_parts-requires c =
    let m = c.requires.1 in
    held (content_of c.args.self.now c.args.kept) m.complete c.in_ok-frame.frame c.in_ok-rows.rows
    c.in_ok-frame.ensures c.in_ok-rows.ensures c.args.self.now.profiles.within
    (spelled_is_spellable _ _ m.spelled).1
