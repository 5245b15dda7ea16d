use Rattle.std.proofs.Common.{◌≡◌, ◌++◌, ◌<◌, ◌≤◌, List, ℕ, Option, append-nil, arith, length}
use Rattle.std.proofs.Common.{length-append, length-take, refl, sym, take}
use Rattle.std.proofs.KnownBytes.{Consumes-trans}
use Rattle.std.proofs.lemmas.List.{take-append-le}
use Rattle.std.specs.Io.KnownBytes.{Consumes}
use Rattle.gf_run.proofs.Errors.{only_error}
use Rattle.gf_run.specs.Streams.{Moves, Stream, more, HasLength, HasRoom, IsRead}
use Rattle.gf_run.proofs.streams.source.pull_next.Goals as goal

-- one more turn gave the first n bytes of a buffer
read_more : {S : Type 0} (reader : Stream S) (bytes buffer : List ℕ) (room n : ℕ) (old mid new : S)
    → IsRead reader old mid bytes → HasRoom bytes room → 0 < n
    → Consumes (reader.known mid) (reader.known new) (take n buffer)
    → Moves reader.gives (HasLength room) buffer n mid new → reader.count mid ≤ reader.count new
    → IsRead reader old new (bytes ++ take n buffer)
read_more reader bytes buffer room n old mid new before asked some consumed turn grown =
    let so_far = before.grown in
    record {
      consumed = Consumes-trans _ (reader.known mid) _ bytes _ before.consumed consumed;
      turns = more bytes room buffer n old mid new before.turns asked some turn;
      grown = omega arith;
    }

-- none more came
none_more : (a b c : Option (List ℕ)) (bytes buffer : List ℕ) (n : ℕ) → n ≡ 0 → Consumes a b bytes
    → Consumes b c (take n buffer) → Consumes a c bytes
none_more a b c bytes buffer n none first last = grind (arith, append-nil)

pub returns-in_err-count-clause-next : goal.returns-in_err-count-clause-next
returns-in_err-count-clause-next g c = λ start read. grind (arith, length-take, only_error)

pub returns-then-left-count-clause-next : goal.returns-then-left-count-clause-next
returns-then-left-count-clause-next g c = λ start read.
    let turn = c.in_ok-count.ensures in
    let size = length-take c.min-room.result c.args.buffer.now in
    let came = take c.in_ok-count.count c.pull_again.new.to in
    let all = length-append c.args.bytes.now came in
    rw c.at_end-fault.ensures (
      refl,
      refl,
      (
        c.args.bytes.now ++ came,
        omega (arith, all, size, turn.bound, c.pull_again.auto.to),
        read_more _ _ _ _ _ _ _ _ read
            (record { some = omega (arith, size); within = omega (arith, size) }) (omega arith)
            turn.bytes.0 turn.turn turn.counted,
      ),
    )

pub returns-clause-next : goal.returns-clause-next
returns-clause-next g c = λ start read.
    let turn = c.in_ok-count.ensures in
    let size = length-take c.min-room.result c.args.buffer.now in
    let asked : HasRoom c.args.bytes.now (length (take c.min-room.result c.args.buffer.now)) =
    record { some = omega (arith, size); within = omega (arith, size) } in
    let here : c.in_ok-count.count ≤ length c.pull_again.new.to = turn.bound.0 in (
      λ none. record {
        within = c.requires.bytes;
        mid = _;
        read = read;
        consumed = none_more _ _ _ _ _ _ none read.consumed turn.bytes.0;
        at_end = turn.bytes.1 none (omega (arith, size, c.pull_again.auto.to));
        room = _;
        asked = asked;
        buffer = c.pull_again.new.to;
        last = rw (sym none) turn.turn;
      },
      λ some. rw take-append-le
          (read_more _ _ _ _ _ _ _ _ read asked some turn.bytes.0 turn.turn turn.counted),
    )
