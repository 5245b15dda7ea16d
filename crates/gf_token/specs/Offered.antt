-- What the private definitions of the crates above are built of.
pub use Rattle.gf_token.specs.inner.Indices.{count_of, positive}
unfoldable pub use Rattle.gf_token.specs.inner.Indices.{index_of}
unfoldable pub use Rattle.gf_token.specs.inner.Lexing.{lex}
pub use Rattle.gf_token.specs.inner.Lexing.Mode.{Gap}
pub use Rattle.gf_token.specs.inner.Machine.{◌>>=◌, Answer, Fails, Goes, HasPassedPlace, heard}
pub use Rattle.gf_token.specs.inner.Machine.{placed, read_on, run, walk}
pub use Rattle.gf_token.specs.inner.Machine.Fails.{of_file, of_memory}
