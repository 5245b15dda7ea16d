use Rattle.gf_token.proofs.Labels.{said_of_quotes}

pub returns : Rattle.gf_token.proofs.laws.labels_escape_quotes.Goals.returns
returns c = said_of_quotes
