use Rattle.std.proofs.Common.{append-nil, Option, Some, None, inl, ap, arith}
use Rattle.std.proofs.Common.{sym, ◌≡◌, ◌∙◌, ℕ, List, [], ◌++◌, take, zero, suc, append_assoc}
use Rattle.std.specs.Prelude.{◌⊎◌}
use Rattle.gf_run.specs.Streams.{HasLength, IsReadWhole}
use Rattle.gf_run.specs.Streams.{Interruptions, Moves, Stream, Transfers, more, none}
use Rattle.gf_jobs.specs.Opening.{bytes_kept, kept_reader}
use Rattle.gf_jobs.specs.declared.opening.kept.Kept.{Kept}
use Rattle.gf_jobs.proofs.laws.kept_is_read.Goals as goal

-- after these bytes that were kept, nothing is kept, or these bytes more
abbrev IsMore : Option (List ℕ) → List ℕ → Option (List ℕ) → Type 0
IsMore None bytes after = after ≡ None
IsMore (Some kept) bytes after = (after ≡ Some (kept ++ bytes)) ⊎ (after ≡ None)

-- after bytes, and then more of them
IsMore-trans : (before mid after : Option (List ℕ)) (front back : List ℕ) → IsMore before front mid
    → IsMore mid back after → IsMore before (front ++ back) after
IsMore-trans before mid after front back h k = grind (arith, append_assoc)

module _ {S : Type 0} (reader : Stream S) where
  after_interruptions : (P : List ℕ → Type 0) (n : ℕ) (old new : Kept S)
      → Interruptions (kept_reader reader).gives P n old new → bytes_kept new ≡ bytes_kept old
  unfolding Interruptions
  after_interruptions P zero old new h = ap bytes_kept h
  after_interruptions P (suc n) old new h =
      let given = h.2.given.1 in grind (arith, after_interruptions P n old h.0 h.1)

  after_turn : (P : List ℕ → Type 0) (bytes : List ℕ) (n : ℕ) (old new : Kept S)
      → Moves (kept_reader reader).gives P bytes n old new
      → IsMore (bytes_kept old) (take n bytes) (bytes_kept new)
  after_turn P bytes n old new h =
      let same = after_interruptions P h.turn.interruptions old h.turn.mid h.turn.before in
      let last = h.turn.last.1 in grind arith

  after_turns : (Asks : List ℕ → ℕ → Type 0) (start moved : List ℕ) (old new : Kept S)
      → bytes_kept old ≡ Some start
      → Transfers (kept_reader reader).gives HasLength Asks moved old new
      → IsMore (Some start) moved (bytes_kept new)
  after_turns Asks start moved old new is (none s) = inl (is ∙ ap Some (sym (append-nil start)))
  after_turns Asks start moved old new is (more front room bytes n _ mid _ turns asks some turn) =
      IsMore-trans (Some start) (bytes_kept mid) (bytes_kept new) front (take n bytes)
      (after_turns Asks start front old mid is turns)
      (after_turn (HasLength room) bytes n mid new turn)

  -- all that was read
  kept_whole : (bytes : List ℕ) (old new : Kept S) → bytes_kept old ≡ Some []
      → IsReadWhole (kept_reader reader) old new bytes
      → (bytes_kept new ≡ Some bytes) ⊎ (bytes_kept new ≡ None)
  kept_whole bytes old new is h =
      grind (
        arith,
        append-nil,
        after_turns _ [] bytes old h.mid is h.read.turns,
        after_turn _ h.buffer 0 h.mid new h.last,
      )

pub returns : goal.returns
returns g c = λ old new bytes is whole. kept_whole g.S.Source.reader bytes old new is whole
