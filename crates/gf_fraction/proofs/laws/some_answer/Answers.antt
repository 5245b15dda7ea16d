use Rattle.gf_fraction.proofs.ComputedAnswers.{some_answer}

pub returns : Rattle.gf_fraction.proofs.laws.some_answer.Goals.returns
returns c = some_answer
