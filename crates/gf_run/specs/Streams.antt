-- What a reader or a writer shows, is asked and answers, and how an input is read and an output written.
use Rattle.std.specs.Prelude.{◌≡◌, ◌≢◌, ◌⊎◌, ℕ, ◌+◌, ◌-◌, ◌^◌, ◌<◌, ◌≤◌, min, max, zero, suc, List}
use Rattle.std.specs.Prelude.{[], ◌++◌, length, take, Option, Some, Result, Ok, Err, MatchResult}
use Rattle.std.specs.Io.KnownBytes.{Appends, Consumes, IsAtEnd, Keeps}
use Rattle.std.specs.IoError.{error_kind}
use Rattle.std.specs.declared.io.Error.{Error}
use Rattle.std.specs.declared.io.ErrorKind.{ErrorKind}
use Rattle.gf_token.specs.declared.fault.Why.{Why}
use Rattle.gf_run.specs.declared.fault.RunFault.{RunFault}
use Rattle.gf_run.specs.declared.fault.Which.{Which}
use Rattle.gf_run.specs.declared.streams.counted.Counted.{Counted}

-- of a reader or a writer: the bytes that a reader has left or a writer holds, if it reports them;
-- its count of failures; and what a request gives: `gives old bytes answer new` holds if a request
-- with these bytes may have this answer at `old`, and leads to `new`. The bytes of a pull are its
-- buffer as the pull leaves it, and those of a push are what it offers.
pub record Stream (S : Type 0) : Type 1 where
  pub known : S → Option (List ℕ)
  pub count : S → ℕ
  pub gives : S → List ℕ → Result ℕ Error → S → Type 0

-- ---- failures

-- one more failure; a count at its greatest value stays there
abbrev pub next_count : ℕ → ℕ
next_count n = max n (min (n + 1) (2 ^ 64 - 1))

-- the count after a pull's answer: an error is a failure
abbrev pub CountsPull : ℕ → Result ℕ Error → ℕ → Type 0
CountsPull old answer new = MatchResult answer (λ _. new ≡ old) (λ _. new ≡ next_count old)

-- the count after a push's answer: an error is a failure, and so is taking nothing
abbrev pub CountsPush : ℕ → Result ℕ Error → ℕ → Type 0
CountsPush old answer new = MatchResult answer
    (λ n. (0 < n → new ≡ old) × (n ≡ 0 → new ≡ next_count old)) (λ _. new ≡ next_count old)

-- the count rose, or it was at its greatest value
pub record HasRisen (old new : ℕ) : Type 0 where
  pub risen : next_count old ≤ new

-- ---- turns

module _ {S : Type 0} (gives : S → List ℕ → Result ℕ Error → S → Type 0) where
  -- a request was answered with such an error, and P held for its bytes
  pub record IsError (P : List ℕ → Type 0) (Kind : ErrorKind → Type 0) (old new : S) : Type 0 where
    pub bytes : List ℕ
    pub asked : P bytes
    pub error : Error
    pub given : gives old bytes (Err error) new
    pub kind : Kind (error_kind error)

  -- n requests in a row were interrupted
  unfoldable pub Interruptions : (List ℕ → Type 0) → ℕ → S → S → Type 0
  Interruptions P zero old new = new ≡ old
  Interruptions P (suc n) old new = (mid : S) × Interruptions P n old mid
      × IsError P (λ kind. kind ≡ ErrorKind.Interrupted) mid new

  -- a turn: fewer than sixteen interruptions in a row, and then such an answer
  pub record IsTurn (P : List ℕ → Type 0) (answer : S → S → Type 0) (old new : S) : Type 0 where
    pub mid : S
    pub interruptions : ℕ
    pub fewer : interruptions < 16
    pub before : Interruptions P interruptions old mid
    pub last : answer mid new

  -- a turn moved the first n of these bytes
  pub record Moves (P : List ℕ → Type 0) (bytes : List ℕ) (n : ℕ) (old new : S) : Type 0 where
    pub asked : P bytes
    pub within : n ≤ length bytes
    pub turn : IsTurn P (λ mid last. gives mid bytes (Ok n) last) old new

  -- a turn failed, but not by an interruption; or sixteen requests in a row were interrupted
  abbrev pub GivesUp : (List ℕ → Type 0) → S → S → Type 0
  GivesUp P old new = IsTurn P (IsError P (λ kind. kind ≢ ErrorKind.Interrupted)) old new
      ⊎ Interruptions P 16 old new

  -- one turn after another moved these bytes, each at least one of them. `Asks moved request` says
  -- what a turn asks after `moved`, and `Has request` which bytes each request of the turn has.
  pub data Transfers {X : Type 0} (Has : X → List ℕ → Type 0) (Asks : List ℕ → X → Type 0)
      : List ℕ → S → S → Type 0 where
    none : (s : S) → Transfers Has Asks [] s s
    more : (moved : List ℕ) (request : X) (bytes : List ℕ) (n : ℕ) (old mid new : S)
        → Transfers Has Asks moved old mid → Asks moved request → 0 < n
        → Moves (Has request) bytes n mid new → Transfers Has Asks (moved ++ take n bytes) old new

-- ---- a reader or a writer that counts its failures

-- the reader or writer that it wraps
abbrev pub inner_of : {T : Type 0} → Counted T → T
inner_of counted = counted.inner

-- its count of failures
abbrev pub failures_of : {T : Type 0} → Counted T → ℕ
failures_of counted = counted.failures

-- its last error
abbrev pub last_of : {T : Type 0} → Counted T → Option Error
last_of counted = counted.last_error

-- what it shows: the bytes that the one that it wraps reports, and its own count and last error
abbrev pub counting : {T : Type 0} → (T → Option (List ℕ)) → (ℕ → Result ℕ Error → ℕ → Type 0)
    → Stream (Counted T)
counting known Counts = record {
  known = λ counted. known (inner_of counted);
  count = failures_of;
  gives = λ old _ answer new. Counts (failures_of old) answer (failures_of new)
      × MatchResult answer
      (λ _. last_of new ≡ last_of old) (λ error. last_of new ≡ Some error);
}

-- ---- how an input is read

-- the most bytes that an input has
abbrev pub limit : ℕ
limit = 16777216

-- a buffer of n bytes
abbrev pub HasLength : ℕ → List ℕ → Type 0
HasLength n buffer = length buffer ≡ n

-- after these bytes a buffer has room for one more, and for no byte but one past the limit
pub record HasRoom (bytes : List ℕ) (room : ℕ) : Type 0 where
  pub some : 0 < room
  pub within : length bytes + room ≤ limit + 1

module _ {S : Type 0} (reader : Stream S) where
  -- these bytes came
  pub record IsRead (old new : S) (bytes : List ℕ) : Type 0 where
    pub consumed : Consumes (reader.known old) (reader.known new) bytes
    pub turns : Transfers reader.gives HasLength HasRoom bytes old new
    pub grown : reader.count old ≤ reader.count new

  -- these bytes came, no more than the limit, and then the end
  pub record IsReadWhole (old new : S) (bytes : List ℕ) : Type 0 where
    pub within : length bytes ≤ limit
    pub mid : S
    pub read : IsRead old mid bytes
    pub consumed : Consumes (reader.known old) (reader.known new) bytes
    pub at_end : IsAtEnd (reader.known new)
    pub room : ℕ
    pub asked : HasRoom bytes room
    pub buffer : List ℕ
    pub last : Moves reader.gives (HasLength room) buffer 0 mid new

  -- no more bytes came than the limit, and then the reader failed, which was counted
  pub record IsReadFault (old new : S) : Type 0 where
    pub bytes : List ℕ
    pub within : length bytes ≤ limit
    pub mid : S
    pub read : IsRead old mid bytes
    pub kept : Keeps (reader.known mid) (reader.known new)
    pub counted : HasRisen (reader.count mid) (reader.count new)
    pub room : ℕ
    pub asked : HasRoom bytes room
    pub last : GivesUp reader.gives (HasLength room) mid new

  -- an input could not be read whole: one byte more than the limit came, and no other was taken; or
  -- the reader failed; or memory ran out, when no more bytes had come than the limit
  abbrev pub IsNotRead : Which → RunFault → S → S → Type 0
  IsNotRead input (RunFault.Refused which fault) old new = (which ≡ input)
      × (fault ≡ record { span = record { start = limit; end = limit }; why = Why.TooLong })
      × ((bytes : List ℕ) × (length bytes ≡ limit + 1) × IsRead old new bytes)
  IsNotRead input (RunFault.Read which) old new = (which ≡ input) × IsReadFault old new
  IsNotRead input RunFault.Memory old new =
      (bytes : List ℕ) × (length bytes ≤ limit) × IsRead old new bytes
  IsNotRead input fault old new = ⊥

-- ---- how an output is written

-- these bytes are offered
abbrev pub IsOffer : List ℕ → List ℕ → Type 0
IsOffer offered bytes = bytes ≡ offered

-- these bytes, at least one, come next in a text after those that were taken
pub record IsNext (text taken offered : List ℕ) : Type 0 where
  pub some : 0 < length offered
  pub after : List ℕ
  pub in_text : taken ++ offered ++ after ≡ text

module _ {S : Type 0} (writer : Stream S) where
  -- the writer gave up, or took nothing
  abbrev pub Stops : (List ℕ → Type 0) → S → S → Type 0
  Stops P old new = GivesUp writer.gives P old new
      ⊎ ((bytes : List ℕ) × Moves writer.gives P bytes 0 old new)

  -- of a text, all before this rest was taken: each turn offered bytes that came next
  pub record IsBegun (old new : S) (text rest : List ℕ) : Type 0 where
    pub taken : List ℕ
    pub front : taken ++ rest ≡ text
    pub appended : Appends (writer.known old) (writer.known new) taken
    pub turns : Transfers writer.gives IsOffer (IsNext text) taken old new
    pub grown : writer.count old ≤ writer.count new

  -- a text was taken whole
  abbrev pub IsWritten : S → S → List ℕ → Type 0
  IsWritten old new text = IsBegun old new text []

  -- a prefix of a text was taken, less than the whole, and then the writer failed, which was
  -- counted
  pub record IsWriteFault (old new : S) (text : List ℕ) : Type 0 where
    pub mid : S
    pub rest : List ℕ
    pub begun : IsBegun old mid text rest
    pub less : 0 < length rest
    pub kept : Keeps (writer.known mid) (writer.known new)
    pub counted : HasRisen (writer.count mid) (writer.count new)
    pub offered : List ℕ
    pub next : IsNext text begun.taken offered
    pub last : Stops (IsOffer offered) mid new
