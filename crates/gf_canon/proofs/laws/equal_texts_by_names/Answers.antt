use Rattle.gf_canon.proofs.lemmas.texts.ByNames.{equal_texts_by}
use Rattle.gf_canon.proofs.laws.equal_texts_by_names.Goals as goal

pub returns : goal.returns
returns c = equal_texts_by
