use Rattle.std.specs.Prelude.{◌+◌, ◌*◌, ◌^◌, ◌<◌}
use Rattle.gf_tree.proofs.Common.{[], length, NodeDue, answer, HasRead, heading_read}

abbrev pub invariant-loop-self : Rattle.gf_tree.proofs.reader.Reader.nodes.Given.invariant-loop-self
invariant-loop-self g l = record {
  read : (untold : g.row.R.Denot) → g.R.Receive.holds untold l.fn.to (heading_read l.fn.self) []
      → HasRead (λ r told. g.R.Receive.holds untold r (heading_read l.fn.self) told)
      (answer NodeDue l.fn.self) NodeDue l.self l.to;
  -- even if each token to come is a node with as many children as a set can have actions
  room : l.self.due + length l.self.tokens.ahead * 18446744073709551616 < 2 ^ 128;
}

abbrev pub decreases-loop-self : Rattle.gf_tree.proofs.reader.Reader.nodes.Given.decreases-loop-self
decreases-loop-self g l = length l.self.tokens.ahead
