-- What the private definitions of the crates above are built of.
pub use Rattle.gf_tree.specs.inner.Machine.{at, nothing, run}
pub use Rattle.gf_tree.specs.inner.Machine.Position.{Format}
