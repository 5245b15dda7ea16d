use Rattle.gf_tree.proofs.Common.{◌∙◌}

pub returns-in-Ok-clause-only : Rattle.gf_tree.proofs.read.read_efg.Goals.returns-in-Ok-clause-only
returns-in-Ok-clause-only c = λ g spells. c.into_game.ensures ∙ c.in-Ok.ensures.only g spells
