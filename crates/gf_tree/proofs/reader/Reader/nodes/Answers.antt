use Rattle.gf_tree.proofs.Common.{◌+◌, ◌-◌, ℕ, NodeDue, answer, arith, subst, sym, HasRead}
use Rattle.gf_tree.proofs.Common.{heading_read}
use Rattle.gf_tree.proofs.lemmas.reader.Telling.{read_one_more}

pub loop-self-preserved : Rattle.gf_tree.proofs.reader.Reader.nodes.Goals.loop-self-preserved
loop-self-preserved g c =
    let holds = g.R.Receive.holds in
    let node = c.in_ok-set.ensures in
    record {
      read = λ untold begun. subst (λ (n : ℕ).
          HasRead (λ r told. holds untold r (heading_read c.args.self.now) told)
          (answer NodeDue c.args.self.now) NodeDue
          (record c.node.new.self { due = c.node.new.self.due - 1 + n }) c.node.new.to) (sym
          c.child_count-children.ensures) (read_one_more holds untold (heading_read c.args.self.now)
          (c.loop-self.invariant.read untold begun) node.machine);
      room = omega (arith, node.machine.due, node.shorter, c.loop-self.invariant.room);
    }
