-- A text, or another list, that is handed out in the caller's buffer.
use Rattle.std.specs.Prelude.{◌≡◌, ℕ, ◌<◌, ◌≤◌, List, ◌++◌, drop, length}
use Rattle.gf_calls.specs.declared.status.Status.{Status}

-- The text is at the start of the buffer, and nothing else was changed; or the buffer is too small
-- and is as it was. Either way, the caller learns the length of the text.
pub data IsHandedOut {A : Type 0} (text old new : List A) (needed : ℕ) (status : Status)
    : Type 0 where
  fits : status ≡ Status.Done → needed ≡ length text → length text ≤ length old
      → new ≡ text ++ drop (length text) old → IsHandedOut text old new needed status
  too_small : status ≡ Status.TooSmall → needed ≡ length text → length old < length text
      → new ≡ old → IsHandedOut text old new needed status
