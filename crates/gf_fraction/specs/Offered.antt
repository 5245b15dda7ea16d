-- What the private definitions of the crates above are built of.
unfoldable pub use Rattle.gf_fraction.specs.inner.Computed.{gcd_within, lowest_of, number_of}
unfoldable pub use Rattle.gf_fraction.specs.inner.Computed.{product_of, sum_of}
