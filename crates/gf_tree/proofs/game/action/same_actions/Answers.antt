use Rattle.gf_tree.proofs.Common.{arith}
use Rattle.gf_tree.proofs.lemmas.stores.SameLists.{same_items}
use Rattle.gf_tree.proofs.game.action.same_actions.Goals as goal

pub returns-then-not-same_action : goal.returns-then-not-same_action
returns-then-not-same_action c = grind (arith, same_items)

pub loop-at-preserved : goal.loop-at-preserved
loop-at-preserved c = grind (arith, same_items)
