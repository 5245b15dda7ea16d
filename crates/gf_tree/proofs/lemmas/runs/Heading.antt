-- Runs over the heading of an extensive file: its format, title and players.
use Rattle.gf_tree.proofs.Common.{append_assoc, AfterPlayers, with_player, pointwise}
use Rattle.gf_tree.proofs.Common.{append-nil, run_tokens, InPlayers, Opening, Closing, Content, ◌≡◌}
use Rattle.gf_tree.proofs.Common.{nothing, Version, nat_eq, braced, Format, Letter, ℕ}
use Rattle.gf_tree.proofs.Common.{arith, codes, Token, Title, List, ◌++◌, refl, Text}
use Rattle.gf_tree.proofs.Common.{Bare, ◌||◌, ◌∷◌, map, sym, ◌∙◌, ◌⊎◌, [], ap, at, inl, inr}
use Rattle.gf_tree.proofs.lemmas.runs.Tokens.{Reads, guard_ok, refused, same_bytes}

-- ---- what was read

only_format : (ts : List Token) (c r : Content) → Reads Format c ts r
    → (rest : List Token) × (ts ≡ Bare (codes "EFG") ∷ rest) × Reads Version c rest r
only_format (Bare b ∷ rest) c r e =
    let h = guard_ok (pointwise nat_eq b (codes "EFG")) (at Version c) _ rest r e in
    (rest, ap (λ (x : List ℕ). Bare x ∷ rest) (same_bytes b (codes "EFG") h.0), h.1)
only_format _ c r e = absurd (refused _ r tt e)

only_version : (ts : List Token) (c r : Content) → Reads Version c ts r
    → (rest : List Token) × (ts ≡ Bare (codes "2") ∷ rest) × Reads Letter c rest r
only_version (Bare b ∷ rest) c r e =
    let h = guard_ok (pointwise nat_eq b (codes "2")) (at Letter c) _ rest r e in
    (rest, ap (λ (x : List ℕ). Bare x ∷ rest) (same_bytes b (codes "2") h.0), h.1)
only_version _ c r e = absurd (refused _ r tt e)

only_letter : (ts : List Token) (c r : Content) → Reads Letter c ts r
    → (letter : List ℕ) × (rest : List Token) × (ts ≡ Bare letter ∷ rest)
    × ((letter ≡ codes "R") ⊎ (letter ≡ codes "D")) × Reads Title c rest r
only_letter (Bare b ∷ rest) c r e =
    let h = guard_ok (pointwise nat_eq b (codes "R") || pointwise nat_eq b (codes "D")) (at Title c)
    _ rest r e in
    (b, rest, refl, (grind (arith, same_bytes)), h.1)
only_letter _ c r e = absurd (refused _ r tt e)

only_title : (ts : List Token) (c r : Content) → Reads Title c ts r
    → (title : List ℕ) × (rest : List Token) × (ts ≡ Text title ∷ Opening ∷ rest)
    × Reads InPlayers (record c { title = title }) rest r
only_title (Text title ∷ Opening ∷ rest) c r e = (title, rest, refl, e)
only_title ts c r e = absurd (refused _ r tt e)

abbrev with_players : Content → List (List ℕ) → Content
with_players c players = record c { players = c.players ++ players }

no_players : (c : Content) → with_players c [] ≡ c
no_players c = ap (λ (ps : List (List ℕ)). record c { players = ps }) (append-nil c.players)

more_players : (c : Content) (p : List ℕ) (ps : List (List ℕ))
    → with_players (with_player c p) ps ≡ with_players c (p ∷ ps)
more_players c p ps =
    ap (λ (x : List (List ℕ)). record c { players = x }) (append_assoc c.players (p ∷ []) ps)

-- Text* Closing
players_found : (ts : List Token) (c r : Content) → Reads InPlayers c ts r
    → (players : List (List ℕ)) × (rest : List Token) × (ts ≡ map Text players ++ Closing ∷ rest)
    × Reads AfterPlayers (with_players c players) rest r
players_found (Text label ∷ ts) c r e =
    let h = players_found ts (with_player c label) r e in
    (label ∷ h.0, h.1, cc (h.2), rw (← more_players c label h.0) h.3)
players_found (Closing ∷ ts) c r e = ([], ts, refl, rw (no_players c) e)
players_found _ c r e = absurd (refused _ r tt e)

-- of this title and these players
abbrev pub heading : List ℕ → List (List ℕ) → Content
heading title players = record nothing { title = title; players = players }

pub record Heading (ts : List Token) (r : Content) : Type 0 where
  pub letter : List ℕ
  pub title : List ℕ
  pub players : List (List ℕ)
  pub rest : List Token
  pub parts : ts ≡ Bare (codes "EFG") ∷ Bare (codes "2") ∷ Bare letter ∷ Text title
      ∷ (braced (map Text players) ++ rest)
  pub is_letter : (letter ≡ codes "R") ⊎ (letter ≡ codes "D")
  pub goes_on : Reads AfterPlayers (heading title players) rest r

pub heading_found : (ts : List Token) (r : Content) → Reads Format nothing ts r → Heading ts r
heading_found ts r e =
    let a = only_format ts nothing r e in
    let b = only_version a.0 nothing r a.2 in
    let c = only_letter b.0 nothing r b.2 in
    let d = only_title c.1 nothing r c.4 in
    let g = players_found d.1 (record nothing { title = d.0 }) r d.3 in
    record {
      letter = c.0;
      title = d.0;
      players = g.0;
      rest = g.1;
      parts = cc (a.1, b.1, c.2, d.2, g.2, append_assoc (map Text g.0) (Closing ∷ []) g.1);
      is_letter = c.3;
      goes_on = g.3;
    }

-- ---- each heading is read

players_again : (players : List (List ℕ)) (c : Content) (rest : List Token)
    → run_tokens InPlayers c (map Text players ++ Closing ∷ rest)
    ≡ run_tokens AfterPlayers (with_players c players) rest
players_again [] c rest = ap (λ (d : Content). run_tokens AfterPlayers d rest) (sym (no_players c))
players_again (label ∷ players) c rest =
    players_again players (with_player c label) rest
    ∙ ap (λ (d : Content). run_tokens AfterPlayers d rest) (more_players c label players)

letter_again : (letter : List ℕ) (c : Content) (rest : List Token)
    → (letter ≡ codes "R") ⊎ (letter ≡ codes "D")
    → run_tokens Letter c (Bare letter ∷ rest) ≡ run_tokens Title c rest
letter_again letter c rest (inl is) =
    ap (λ (b : List ℕ). run_tokens Letter c (Bare b ∷ rest)) is
letter_again letter c rest (inr is) =
    ap (λ (b : List ℕ). run_tokens Letter c (Bare b ∷ rest)) is

pub heading_again : (letter title : List ℕ) (players : List (List ℕ)) (rest : List Token)
    → (letter ≡ codes "R") ⊎ (letter ≡ codes "D")
    → run_tokens Format nothing (Bare (codes "EFG") ∷ Bare (codes "2") ∷ Bare letter ∷ Text title
    ∷ (braced (map Text players) ++ rest)) ≡ run_tokens AfterPlayers (heading title players) rest
heading_again letter title players rest h =
    letter_again letter nothing (Text title ∷ (braced (map Text players) ++ rest)) h
    ∙ ap (run_tokens InPlayers (record nothing { title = title }))
    (append_assoc (map Text players) (Closing ∷ []) rest)
    ∙ players_again players (record nothing { title = title }) rest
