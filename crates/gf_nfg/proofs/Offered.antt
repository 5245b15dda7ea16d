-- What the proofs of the crates above cite of these proofs, and nothing else of them.
pub use Rattle.gf_nfg.proofs.lemmas.places.Judged.{only_memory}
pub use Rattle.gf_nfg.proofs.lemmas.places.Led.{is_reader, spells_one_table}
pub use Rattle.gf_nfg.proofs.lemmas.places.Once.{answered, refused_once}
pub use Rattle.gf_nfg.proofs.lemmas.tables.NumbersInTurn.{get_or-numbers_from, length-numbers_from}
pub use Rattle.gf_nfg.proofs.lemmas.tables.NumbersInTurn.{numbers_joined}
pub use Rattle.gf_nfg.proofs.lemmas.tables.Profiles.{are_profiles, every_profile, length-profiles}
pub use Rattle.gf_nfg.proofs.lemmas.tables.Same.{same_is_equal}
pub use Rattle.gf_nfg.proofs.lemmas.tables.Spelled.{spelled_is_spellable}
pub use Rattle.gf_nfg.proofs.lemmas.texts.OneTable.{text_reads_back}
