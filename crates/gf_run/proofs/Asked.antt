-- A reader or a writer that is asked turn by turn.
use Rattle.std.proofs.Common.{◌≡◌, ℕ, ◌+◌, ◌-◌, ◌<◌, ◌≤◌, List, ◌++◌, length, take, drop, add-one}
use Rattle.std.proofs.Common.{append_assoc, arith, length-append, length-drop, take-append-drop}
use Rattle.std.proofs.KnownBytes.{Appends-nil, Appends-trans, Keeps-refl, Keeps-trans}
use Rattle.std.proofs.lemmas.List.{take_all}
use Rattle.std.specs.Io.KnownBytes.{Appends, Keeps}
use Rattle.std.specs.declared.io.ErrorKind.{ErrorKind}
use Rattle.gf_run.specs.Streams.{HasRisen, Interruptions, IsError, Moves, Stream, more, next_count}
use Rattle.gf_run.specs.Streams.{none, IsBegun, IsNext, IsOffer, IsWriteFault, Stops}

-- ---- again after an interruption

module _ {S : Type 0} (stream : Stream S) (P : List ℕ → Type 0) where
  -- n requests in a row were interrupted: the known bytes stay, and each interruption was counted
  pub record IsAskedAgain (n : ℕ) (old new : S) : Type 0 where
    pub kept : Keeps (stream.known old) (stream.known new)
    pub interrupted : Interruptions stream.gives P n old new
    pub grown : stream.count old ≤ stream.count new
    pub counted : 0 < n → HasRisen (stream.count old) (stream.count new)

  -- no interruption yet
  pub asked_first : (s : S) → IsAskedAgain 0 s s
  unfolding Interruptions
  asked_first s = grind (arith, Keeps-refl)

  -- one more interruption
  pub asked_again : (n : ℕ) (old mid new : S) → IsAskedAgain n old mid
      → Keeps (stream.known mid) (stream.known new)
      → stream.count new ≡ next_count (stream.count mid) → IsError stream.gives P (λ kind. kind ≡ ErrorKind.Interrupted) mid new
      → IsAskedAgain (n + 1) old new
  unfolding Interruptions
  asked_again n old mid new before kept next last = grind (arith, Keeps-trans, add-one)

-- ---- a text that is written turn by turn

module _ {S : Type 0} (writer : Stream S) where
  -- none was
  pub nothing_yet : (s : S) (text : List ℕ) → IsBegun writer s s text text
  nothing_yet s text = grind (arith, Appends-nil, none)

  -- what was taken of a text that begins so is taken of any text that goes on so
  abbrev pub Goes : S → List ℕ → S → List ℕ → Type 0
  Goes old front new rest = (start : S) (whole after : List ℕ)
      → IsBegun writer start old whole (front ++ after)
      → IsBegun writer start new whole (rest ++ after)

  -- what is offered comes next
  module _ (start old new : S) (text offered after : List ℕ)
      (begun : IsBegun writer start old text (offered ++ after)) (some : 0 < length offered) where
    next : IsNext text begun.taken offered
    next = grind (arith, append_assoc begun.taken offered after)

    -- a turn took the first n bytes of it
    pub takes : (n : ℕ) → Appends (writer.known old) (writer.known new) (take n offered)
        → (0 < n) × Moves writer.gives (IsOffer offered) offered n old new
        → writer.count old ≤ writer.count new
        → IsBegun writer start new text (take (length offered - n) (drop n offered) ++ after)
    takes n appended turn grown =
        let left : take (length offered - n) (drop n offered) ≡ drop n offered =
        grind (arith, length-drop, take_all) in
        let parts : take n offered ++ drop n offered ≡ offered = take-append-drop n offered in
        let before = begun.grown in
        record {
          taken = begun.taken ++ take n offered;
          front = rw (left, append_assoc, ← append_assoc (take n offered) (drop n offered) after, parts)
              begun.front;
          appended = Appends-trans _ _ _ _ _ begun.appended appended;
          turns = more _ _ _ _ _ _ _ begun.turns next turn.0 turn.1;
          grown = omega arith;
        }

    -- a turn failed
    pub fails : Keeps (writer.known old) (writer.known new) → Stops writer (IsOffer offered) old new
        → HasRisen (writer.count old) (writer.count new) → IsWriteFault writer start new text
    fails kept stops counted = record {
      mid = old;
      rest = offered ++ after;
      begun = begun;
      less = rw length-append (omega arith);
      kept = kept;
      counted = counted;
      offered = offered;
      next = next;
      last = stops;
    }
