use Rattle.gf_tree.proofs.Common.{arith}

pub child_count-requires : Rattle.gf_tree.proofs.game.Game.child_count.Goals.child_count-requires
child_count-requires c = grind arith

pub returns : Rattle.gf_tree.proofs.game.Game.child_count.Goals.returns
returns c = grind arith
