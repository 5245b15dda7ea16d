-- How the text of an answer is written.
use Rattle.std.proofs.Common.{◌≡◌, ℕ, List, Result, Ok, Err, MatchResult}
use Rattle.gf_run.specs.Run.{Writes, answered, cut_off, refused}
use Rattle.gf_run.specs.Streams.{Stream}
use Rattle.gf_run.specs.declared.fault.RunFault.{RunFault}
use Rattle.gf_run.specs.declared.texts.answer.Answer.{Answer}

module _ {A W : Type 0} (writer : Stream W) (Answers : A → List ℕ → Type 0)
    (Refuses : RunFault → Type 0) (result : Result A RunFault) (o o' : W) where
  -- if there is one, and otherwise not
  pub written : (answer : Result (Answer A) RunFault)
      → MatchResult answer (λ answer. Answers answer.value answer.text.rest) Refuses
      → MatchResult answer
      (λ answer. Writes writer (λ value text. (value ≡ answer.value) × (text ≡ answer.text.rest))
      (λ fault. ⊥) result o o')
      (λ fault. (result ≡ Err fault) × (o' ≡ o)) → Writes writer Answers Refuses result o o'
  written (Ok answer) holds (answered value text is says all) =
      answered value text is (rw (says.0, says.1) holds) all
  written (Ok answer) holds (cut_off value text is says part) =
      cut_off value text is (rw (says.0, says.1) holds) part
  written (Ok answer) holds (refused fault is none same) = absurd none
  written (Err fault) holds wrote = refused fault wrote.0 holds wrote.1
