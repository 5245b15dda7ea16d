-- Tables that are the same are equal.
use Rattle.gf_nfg.proofs.Common.{◌≡◌, ℕ, ◌<◌, List, [], length, map, get_or, arith}
use Rattle.gf_nfg.proofs.Common.{◌↔◌, Bool, IsTrue, Contains, length-map, get_or-map}
use Rattle.gf_nfg.proofs.Common.{get_or_default, same_lists, Ratio, profiles, Entry, Table, IsTable}
use Rattle.gf_nfg.proofs.Common.{rows, Frame, SamePlay, SameTable}
use Rattle.gf_nfg.proofs.lemmas.tables.Agreement as agrees
use Rattle.gf_nfg.proofs.lemmas.tables.Profiles.{profiles_distinct}

profile_at : (counts : List ℕ) (xs : List Entry) (i : ℕ) (d : Entry)
    → map (λ e. e.profile) xs ≡ profiles counts → i < length xs
    → (i < length (profiles counts)) × (get_or (profiles counts) i [] ≡ (get_or xs i d).profile)
profile_at counts xs i d r h = grind (arith, length-map, get_or-map)

-- an entry for each profile, and each of the entries among the others: the same entries
same_entries : (counts : List ℕ) (es fs : List Entry) → map (λ e. e.profile) es ≡ profiles counts
    → map (λ e. e.profile) fs ≡ profiles counts → ((e : Entry) → Contains es e → Contains fs e)
    → es ≡ fs
same_entries counts es fs p q pays = same_lists es fs (grind (arith, length-map)) same
  where
    same : (k : ℕ) (d : Entry) → k < length es → get_or es k d ≡ get_or fs k d
    same k d h =
        let e = get_or es k d in
        let c = pays e (k, h, get_or_default es k e d h) in
        let place : k ≡ c.0 = grind (arith, profile_at, profiles_distinct counts k c.0 []) in
        grind (arith, get_or_default)

-- each table pays what the other does: the same entries
same_payoffs : (t u : Table) → IsTable t → IsTable u → SamePlay t u → t.entries ≡ u.entries
same_payoffs t u ht hu h =
    same_entries (map length t.strategies) t.entries u.entries ht.one_entry_each (grind arith)
    (λ e c. (h.payoffs e.profile e.payoffs).0 c)

pub same_play_by_rows : (t u : Table) → IsTable t → IsTable u
    → SamePlay t u ↔ ((t.players ≡ u.players) × (t.strategies ≡ u.strategies) × (rows t ≡ rows u))
same_play_by_rows t u ht hu = grind (arith, agrees.same_entries, same_payoffs)

-- a table without its payoffs
abbrev pub frame_in : Table → Frame
frame_in t = record {
  title = t.title;
  comment = t.comment;
  players = t.players;
  strategies = t.strategies;
}

-- by what is kept of both tables, if the frames are the same
pub same_play_as_kept : (t u : Table) (m n : Frame) (xs ys : List (List Ratio)) (answer : Bool)
    → IsTable t → IsTable u → m ≡ frame_in t → n ≡ frame_in u
    → (m.players ≡ n.players) × (m.strategies ≡ n.strategies) → xs ≡ rows t → ys ≡ rows u
    → IsTrue answer ↔ (xs ≡ ys) → IsTrue answer ↔ SamePlay t u
same_play_as_kept t u m n xs ys answer ht hu left right both mine others same =
    grind (arith, same_play_by_rows)

pub same_is_equal : (t u : Table) → IsTable t → IsTable u → SameTable t u ↔ (t ≡ u)
same_is_equal t u ht hu = grind (arith, same_play_by_rows, agrees.same_entries)

pub ruleset same_tables = (same_is_equal, same_play_by_rows)
