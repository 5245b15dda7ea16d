-- What crates above cite of the lemmas here, passed on from one place. Declares nothing.
pub use Rattle.gf_run.proofs.Errors.{is_error}
pub use Rattle.gf_run.proofs.Written.{written}
