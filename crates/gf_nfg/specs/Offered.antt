-- What the private definitions of the crates above are built of.
pub use Rattle.gf_nfg.specs.inner.Machine.{start}
