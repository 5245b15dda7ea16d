-- The machine of the reader is one of those of which gf_token speaks, and it reads the extensive
-- files.
use Rattle.gf_tree.proofs.Common.{IsExtensiveFile, tokens_of, Position, Content, game_in, nothing}
use Rattle.gf_tree.proofs.Common.{Format, Lexeme, State, Token, subst, List, run, ◌↔◌, ◌≡◌, Ok, at}
use Rattle.gf_tree.proofs.Common.{ℕ}
use Rattle.gf_token.specs.Offered.{walk}
use Rattle.gf_tree.specs.inner.Machine.{at_end, next}
use Rattle.gf_token.proofs.Offered.{IsReader, AllSpelled}
use Rattle.gf_token.proofs.Offered as any_walk
use Rattle.gf_tree.proofs.lemmas.games.Consistent.{some_game}
use Rattle.gf_tree.proofs.lemmas.games.Learned.{game_learned_once}
use Rattle.gf_tree.proofs.lemmas.runs.Games.{file_found, file_again}
use Rattle.gf_tree.proofs.lemmas.runs.Keeps.{Fine, LeadsFine, keeps}
use Rattle.gf_tree.proofs.lemmas.runs.Ends.{ends}
use Rattle.gf_tree.proofs.lemmas.runs.Tokens.{Reads}

-- ---- the machine

pub run_reads : (end : ℕ) (q : Position) (c : Content) (ls : List Lexeme) (r : Content)
    → run end q c ls ≡ Ok r ↔ Reads q c (tokens_of ls) r
run_reads end q c ls r = any_walk.reads next at_end end (at q c) ls r

-- ---- where tokens lead

-- what holds for each state that tokens lead to
pub leads_fine : (ts : List Token) (s : State) → walk next (at Format nothing) ts ≡ Ok s
    → Fine (AllSpelled ts) s.position s.content
leads_fine ts s = any_walk.kept_by_spelled next (AllSpelled ts)
    (λ x. Fine (AllSpelled ts) x.position x.content)
    (λ x after t spelled fine e. subst (LeadsFine (AllSpelled ts)) e
    (keeps (AllSpelled ts) x.position x.content t spelled fine)) ts
    (at Format nothing) s (λ all. all) (tt, tt, tt)

-- ---- what is read

pub is_read : (tokens : List Token) → IsExtensiveFile tokens
    → (r : Content) × Reads Format nothing tokens r
is_read tokens h =
    let g = some_game h.0 h.2 in
    let k = file_again tokens h.0 g.0 h.1 ((game_learned_once h.0 g.0).1 (h.2, g.1)) in
    (k.content, k.read)

-- it reads the extensive files
pub is_reader : IsReader next at_end (at Format nothing) IsExtensiveFile
is_reader = record {
  is_file = λ tokens r e.
      let f = file_found tokens r e in
      (f.file, f.sentence, ((game_learned_once f.file (game_in r)).0 f.learns).0);
  is_read = is_read;
  ends = λ tokens s h. ends (AllSpelled tokens) s.position s.content (leads_fine tokens s h);
}
