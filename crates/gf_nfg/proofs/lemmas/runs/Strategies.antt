-- Runs over the heading, and over the strategies: a count for each player, or a list of labels for
-- each.
use Rattle.gf_nfg.proofs.Common
use Common.{AllByRecursion, counted_labels, strategies_end, with_players, append_assoc, IsLabelList}
use Common.{count_again, with_labels, with_count, append-nil, with_title, mul_assoc, Position, Each}
use Common.{count_is, count_of, Closing, Content, IsCount, Opening, counted, nothing, product, Bare}
use Common.{mul-one, Option, braced, length, finish, State, start, ◌>>=◌, Token, arith, run}
use Common.{codes, List, Some, Text, refl, zero, ◌++◌, step, map, suc, ◌*◌, ◌+◌, ◌<◌}
use Common.{◌∷◌, ◌≡◌, ◌⊎◌, Ok, [], ap, at, p, ℕ}
use Rattle.gf_nfg.proofs.lemmas.runs.Common.{Leads, walk}
use Rattle.gf_token.proofs.Offered.{same_bytes, run_after, walk_on}
use Rattle.gf_nfg.proofs.lemmas.tables.Lists.{joined, length-counted_labels}

-- ---- groups of tokens, one for each of some items

-- after these items, if each adds something
abbrev pub all_in : {A : Type 0} → (Content → A → Content) → Content → List A → Content
all_in add c [] = c
all_in add c (x ∷ xs) = all_in add (add c x) xs

pub each_both : {A : Type 0} (P : List Token → A → Type 0) (Q : A → Type 0) (xs : List A)
    (ts : List Token) → Each (λ us x. P us x × Q x) ts xs → Each P ts xs × AllByRecursion Q xs
each_both P Q [] ts h = (h, tt)
each_both P Q (x ∷ xs) ts h = grind (arith, each_both P Q xs h.1 h.4)

pub each_parts : {A : Type 0} (P : List Token → A → Type 0) (xs ys : List A) (ts : List Token)
    → Each P ts (xs ++ ys)
    → (front : List Token) × (rest : List Token) × (ts ≡ front ++ rest)
    × Each P front xs × Each P rest ys
each_parts P [] ys ts h = ([], ts, refl, refl, h)
each_parts P (x ∷ xs) ys ts h =
    let k = each_parts P xs ys h.1 h.4 in
    (h.0 ++ k.0, k.1, cc (h.2, k.2, append_assoc h.0 k.0 k.1), (h.0, k.0, refl, h.3, k.3), k.4)

-- which tokens are a group, in which state so many are due, and what an item adds
module _ {A : Type 0} (P : List Token → A → Type 0) (state : ℕ → Content → State)
    (add : Content → A → Content) where
  -- tokens are a group and the rest, from which it goes on
  abbrev pub First : List Token → ℕ → Content → Content → Type 0
  First ts due c r = (first : List Token) × (rest : List Token) × (item : A) × (ts ≡ first ++ rest)
      × P first item × (run (state due (add c item)) rest ≡ Ok r)

  -- they are as many groups as are due and the rest, if each run that ends well takes a group first
  pub groups_found : ((ts : List Token) (due : ℕ) (c r : Content)
      → run (state (suc due) c) ts ≡ Ok r → First ts due c r)
      → (ts : List Token) (due : ℕ) (c r : Content) → run (state due c) ts ≡ Ok r
      → (inner : List Token) × (rest : List Token) × (items : List A)
      × (ts ≡ inner ++ rest) × Each P inner items × (length items ≡ due)
      × (run (state 0 (all_in add c items)) rest ≡ Ok r)
  groups_found one ts zero c r e = ([], ts, [], refl, refl, refl, e)
  groups_found one ts (suc due) c r e =
      let f = one ts due c r e in
      let h = groups_found one f.1 due (add c f.2) r f.5 in
      let parts : ts ≡ (f.0 ++ h.0) ++ h.1 = cc (f.3, h.3, append_assoc f.0 h.0 h.1) in
      (f.0 ++ h.0, h.1, f.2 ∷ h.2, parts, (f.0, h.0, refl, f.4, h.4), ap suc h.5, h.6)

-- ---- the heading

-- ---- what was read

begun_found : (format version letter : List ℕ) (ts : List Token) (r : Content)
    → run start (Bare format ∷ Bare version ∷ Bare letter ∷ ts) ≡ Ok r
    → (format ≡ codes "NFG") × (version ≡ codes "1")
    × ((letter ≡ codes "R") ⊎ (letter ≡ codes "D")) × (run (at p.Title nothing) ts ≡ Ok r)
begun_found format version letter ts r e = grind (arith, same_bytes)

-- Text* Closing
players_found : (ts : List Token) (c r : Content) → run (at p.InPlayers c) ts ≡ Ok r
    → (players : List (List ℕ)) × (rest : List Token) × (ts ≡ map Text players ++ Closing ∷ rest)
    × (run (at p.BeforeStrategies (with_players c players)) rest ≡ Ok r)
players_found (Text label ∷ ts) c r e = grind (arith, append_assoc, players_found ts)
players_found (Closing ∷ ts) c r e = ([], ts, refl, rw append-nil e)
players_found _ c r e = absurd cc

-- of this title and these players
abbrev pub heading : List ℕ → List (List ℕ) → Content
heading title players = record nothing { title = title; players = players }

pub record Heading (ts : List Token) (r : Content) : Type 0 where
  pub letter : List ℕ
  pub title : List ℕ
  pub players : List (List ℕ)
  pub rest : List Token
  pub parts : ts ≡ Bare (codes "NFG") ∷ Bare (codes "1") ∷ Bare letter ∷ Text title
      ∷ (braced (map Text players) ++ rest)
  pub is_letter : (letter ≡ codes "R") ⊎ (letter ≡ codes "D")
  pub goes_on : run (at p.BeforeStrategies (heading title players)) rest ≡ Ok r

pub heading_found : (ts : List Token) (r : Content) → run start ts ≡ Ok r → Heading ts r
heading_found (Bare format ∷ Bare version ∷ Bare letter ∷ Text title ∷ Opening ∷ ts) r e =
    let h = begun_found format version letter (Text title ∷ Opening ∷ ts) r e in
    grind (arith, append_assoc, map, players_found)
heading_found _ r e = absurd (grind arith)

-- ---- where each heading leads

abbrev pub heading_line : List ℕ → List ℕ → List (List ℕ) → List Token
heading_line letter title players =
    Bare (codes "NFG") ∷ Bare (codes "1") ∷ Bare letter ∷ Text title ∷ braced (map Text players)

players_walk : (players : List (List ℕ)) (c : Content)
    → walk (at p.InPlayers c) (map Text players) ≡ Ok (at p.InPlayers (with_players c players))
players_walk (label ∷ players) c = grind (arith, append_assoc, players_walk players)
players_walk [] c = rw append-nil refl

pub heading_leads : (letter title : List ℕ) (players : List (List ℕ))
    → (letter ≡ codes "R") ⊎ (letter ≡ codes "D") → Leads (heading_line letter title players)
    (at p.BeforeStrategies (heading title players))
heading_leads letter title players h =
    let c : Content = with_title nothing title in
    let walks = walk_on step (map Text players) (Closing ∷ []) (at p.InPlayers c) _ _
    (players_walk players c) refl in
    grind arith

-- ---- the strategies

-- the labels of some players' strategies, a list for each
abbrev pub StrategyLists : Type 0
StrategyLists = List (List (List ℕ))

abbrev pub AllSome : StrategyLists → Type 0
AllSome strategies = AllByRecursion (λ labels. 0 < length labels) strategies

-- counts, or lists of labels
pub data Kind : Type 0 where
  ByCounts : Kind
  ByLists : Kind

abbrev pub IsGroup : Kind → List Token → List (List ℕ) → Type 0
IsGroup ByCounts = IsCount
IsGroup ByLists = IsLabelList

-- where the next of them is read
abbrev pub next : Kind → ℕ → Position
next ByCounts = p.Counts
next ByLists = p.BeforeList

-- the labels that are kept
abbrev pub labels_in : Kind → StrategyLists → List (List ℕ)
labels_in ByCounts strategies = []
labels_in ByLists strategies = joined strategies

abbrev pub with_group : Kind → Content → List (List ℕ) → Content
with_group ByCounts c labels = with_count c (length labels)
with_group ByLists c labels = with_count (with_labels c labels) (length labels)

-- more players, with this many strategies each and with these labels
abbrev pub with_counts : Content → List ℕ → List (List ℕ) → Content
with_counts c counts labels = record c {
  counts = c.counts ++ counts;
  labels = c.labels ++ labels;
  profiles = c.profiles * product counts;
}

pub all_groups : (k : Kind) (strategies : StrategyLists) (c : Content)
    → all_in (with_group k) c strategies
    ≡ with_counts c (map length strategies) (labels_in k strategies)
all_groups k [] c = grind (arith, append-nil, mul-one)
all_groups k (labels ∷ strategies) c =
    grind (arith, all_groups k strategies, append_assoc, append-nil, mul_assoc, joined)

-- ---- what was read

abbrev IsSome : Kind → List Token → List (List ℕ) → Type 0
IsSome k group labels = IsGroup k group labels × (0 < length labels)

abbrev pub due_at : Kind → ℕ → Content → State
due_at k due c = at (next k due) c

counted_found : (due : ℕ) (c : Content) (o : Option ℕ) (ts : List Token) (r : Content)
    → (counted due c o >>= λ after. run after ts) ≡ Ok r
    → (n : ℕ) × (o ≡ Some n) × (run (at (p.Counts due) (with_count c n)) ts ≡ Ok r)
counted_found due c o ts r e = grind arith

-- Text* Closing, after this many labels
labels_found : (ts : List Token) (due n : ℕ) (c r : Content)
    → run (at (p.InList due n) c) ts ≡ Ok r
    → (labels : List (List ℕ)) × (rest : List Token) × (ts ≡ map Text labels ++ Closing ∷ rest)
    × (0 < n + length labels) × (run (at (p.BeforeList due)
    (with_count (with_labels c labels) (n + length labels))) rest ≡ Ok r)
labels_found (Text label ∷ ts) due n c r e =
    let h = labels_found ts due (n + 1) (with_labels c (label ∷ [])) r e in
    (label ∷ h.0, h.1, cc h.2, omega (arith, h.3), grind (arith, h.4, append_assoc))
labels_found (Closing ∷ ts) due (suc n) c r e =
    ([], ts, refl, omega arith, grind (arith, append-nil))
labels_found _ due n c r e = absurd (grind arith)

one_group : (k : Kind) (ts : List Token) (due : ℕ) (c r : Content)
    → run (due_at k (suc due) c) ts ≡ Ok r
    → First (IsSome k) (due_at k) (with_group k) ts due c r
one_group ByCounts (Bare b ∷ ts) due c r e =
    let h = counted_found due c (count_of b) ts r e in
    let k = count_is b h.0 h.1 in
    let n = length-counted_labels h.0 in
    let is : IsCount (Bare b ∷ []) (counted_labels h.0) = (b, h.0, refl, k.1, refl) in
    (Bare b ∷ [], ts, counted_labels h.0, refl, (is, omega (arith, n, k.0)), cc n)
one_group ByLists (Opening ∷ ts) due c r e =
    let h = labels_found ts due 0 c r e in
    let parts = append_assoc (map Text h.0) (Closing ∷ []) h.1 in
    (braced (map Text h.0), h.1, h.0, cc (h.2, parts), (refl, grind arith), grind arith)
one_group k _ due c r e = absurd (grind arith)

-- what the strategies still due and the closing brace read
pub record Read (ts : List Token) (due : ℕ) (c r : Content) : Type 0 where
  pub kind : Kind
  pub inner : List Token
  pub rest : List Token
  pub strategies : StrategyLists
  pub parts : ts ≡ braced inner ++ rest
  pub each : Each (IsGroup kind) inner strategies
  pub some : AllSome strategies
  pub count : length strategies ≡ due
  pub goes_on : run (strategies_end (with_counts c (map length strategies)
      (labels_in kind strategies))) rest ≡ Ok r

closed_found : (k : Kind) (ts : List Token) (c r : Content) → run (due_at k 0 c) ts ≡ Ok r
    → (rest : List Token) × (ts ≡ Closing ∷ rest) × (run (strategies_end c) rest ≡ Ok r)
closed_found ByCounts (Closing ∷ ts) c r e = (ts, refl, e)
closed_found ByLists (Closing ∷ ts) c r e = (ts, refl, e)
closed_found k _ c r e = grind arith

read_by : (k : Kind) (ts : List Token) (due : ℕ) (c r : Content) → run (due_at k due c) ts ≡ Ok r
    → Read (Opening ∷ ts) due c r
read_by k ts due c r e =
    let h = groups_found (IsSome k) (due_at k) (with_group k) (one_group k) ts due c r e in
    let each = each_both (IsGroup k) (λ labels. 0 < length labels) h.2 h.0 h.4 in
    grind (arith, append_assoc, run, all_groups, closed_found)

first_found : (ts : List Token) (due : ℕ) (c r : Content)
    → run (at (p.FirstStrategies due) c) ts ≡ Ok r → Read (Opening ∷ ts) due c r
first_found (Opening ∷ ts) (suc due) c r e = read_by ByLists (Opening ∷ ts) (suc due) c r e
first_found ts due c r e = read_by ByCounts ts due c r (grind arith)

pub strategies_found : (ts : List Token) (c r : Content) → run (at p.BeforeStrategies c) ts ≡ Ok r
    → Read ts (length c.players) c r
strategies_found (Opening ∷ ts) c r e = first_found ts (length c.players) c r e
strategies_found _ c r e = absurd (grind arith)

-- ---- where strategies lead

pub labels_walk : (labels : List (List ℕ)) (due n : ℕ) (c : Content)
    → walk (at (p.InList due n) c) (map Text labels)
    ≡ Ok (at (p.InList due (n + length labels)) (with_labels c labels))
labels_walk (label ∷ labels) due n c = grind (arith, append_assoc, labels_walk labels)
labels_walk [] due n c = grind (arith, append-nil)

group_walk : (k : Kind) (due : ℕ) (c : Content) (group : List Token) (labels : List (List ℕ))
    → IsGroup k group labels → 0 < length labels
    → walk (due_at k (suc due) c) group ≡ Ok (due_at k due (with_group k c labels))
group_walk ByCounts due c group labels h some =
    grind (arith, length-counted_labels, count_again h.0 h.1)
group_walk ByLists due c group labels h some =
    let whole = walk_on step (Opening ∷ map Text labels) (Closing ∷ []) (due_at ByLists (suc due) c)
    (at (p.InList due (length labels)) (with_labels c labels)) in
    grind (arith, labels_walk)

-- where groups of all players lead
groups_walk : (k : Kind) (strategies : StrategyLists) (inner : List Token) (c : Content)
    → Each (IsGroup k) inner strategies → AllSome strategies
    → walk (due_at k (length strategies) c) inner
    ≡ Ok (due_at k 0 (all_in (with_group k) c strategies))
groups_walk k (labels ∷ strategies) inner c h some =
    grind (arith, group_walk, walk_on, groups_walk k strategies h.1 (with_group k c labels) h.4)
groups_walk k [] inner c h some = ap (walk (due_at k 0 c)) h

-- the first may be of either kind
either_first : (k : Kind) (strategies : StrategyLists) (inner rest : List Token) (c : Content)
    → Each (IsGroup k) inner strategies
    → run (at (p.FirstStrategies (length strategies)) c) (inner ++ Closing ∷ rest)
    ≡ run (due_at k (length strategies) c) (inner ++ Closing ∷ rest)
either_first k [] inner rest c h = grind arith
either_first k (labels ∷ strategies) inner rest c h = grind arith

pub strategies_again : (k : Kind) (strategies : StrategyLists) (inner rest : List Token)
    (c : Content) → Each (IsGroup k) inner strategies → AllSome strategies
    → run (at (p.FirstStrategies (length strategies)) c) (inner ++ Closing ∷ rest)
    ≡ run (strategies_end (with_counts c (map length strategies) (labels_in k strategies))) rest
strategies_again k strategies inner rest c h some =
    let goes =
    run_after step finish inner (Closing ∷ rest) _ _ (groups_walk k strategies inner c h some) in
    grind (arith, all_groups, either_first k strategies inner rest c h)
