-- What a receiver holds after the end of a file is the game that the file means.
use Rattle.gf_tree.proofs.Common.{◌≡◌, ℕ, List, [], length, Ok, Err, refl, sym, subst, ◌∙◌}
use Rattle.gf_tree.proofs.Common.{tokens_of, Lexeme, Fault, InformationSet, Outcome, SetKey}
use Rattle.gf_tree.proofs.Common.{Described, Game, SpellsGame, game_in, AreAmong, Kept, game_with}
use Rattle.gf_tree.proofs.Common.{NodeDue, IsJudged, ByFirstUse, Reader, Memory, IsListed, answer}
use Rattle.gf_tree.proofs.Common.{content_of, heading_read, to_all, Heading, Told, told_from}
use Rattle.gf_tree.specs.inner.ReaderState.{HasReadAll, content_with, IsRead, KeepsNodes}
use Rattle.gf_tree.specs.ToldGame.{HasToldGame}
use Rattle.gf_tree.specs.Told.{heading_in}
use Rattle.gf_tree.proofs.lemmas.reader.Games.{answer_judged, answer_only, read_parts, read_spells}
use Rattle.gf_tree.proofs.lemmas.reader.Games.{IsWhole, whole}
use Rattle.gf_tree.proofs.lemmas.reader.Telling.{kept_told}
use Rattle.gf_tree.proofs.lemmas.reader.ToldNodes.{told_of_file}
use Rattle.gf_tree.proofs.lemmas.runs.Files.{nodes_found}
use Rattle.gf_tree.proofs.lemmas.runs.Results.{AreOutcomes}
use Rattle.gf_tree.proofs.lemmas.runs.Sets.{AreSets}
use Rattle.gf_tree.proofs.lemmas.runs.Places.{run_reads}
use Rattle.gf_tree.proofs.lemmas.reader.Steps.{refused_why}

-- ---- the heading

-- the reader has passed the heading, and knows no set and no outcome
pub record IsPastHeading (bytes : List ℕ) (ls : List Lexeme) (r : Reader) : Type 0 where
  pub goes : to_all bytes ls ≡ answer NodeDue r
  pub sets : r.sets.known ≡ []
  pub outcomes : r.outcomes.known ≡ []

-- the heading stays as it was
module _ {T : Type 0} (holds : T → Heading → List Told → Type 0) (bytes : List ℕ) (ls : List Lexeme)
    (r new : Reader) (to : T) (behind : IsPastHeading bytes ls r) where
  pub read_whole : HasReadAll (λ t. holds t (heading_read r)) (answer NodeDue r) new to
      → HasReadAll (λ t. holds t (heading_read new)) (to_all bytes ls) new to
  read_whole h =
      let c = content_with new h.nodes in
      let sets = subst (λ (known : List (Described SetKey InformationSet)).
      AreSets (length (content_of r).players) known) (sym behind.sets) tt in
      let outcomes = subst (λ (known : List (Described ℕ Outcome)).
      AreOutcomes (length (content_of r).players) known) (sym behind.outcomes) tt in
      let n = nodes_found (tokens_of r.tokens.ahead) (content_of r) c sets outcomes
      ((run_reads (length r.tokens.input) NodeDue (content_of r) r.tokens.ahead c).0 h.whole) in
      let same : heading_read r ≡ heading_in (game_in c) = cc in
      record {
        nodes = h.nodes;
        whole = cc (behind.goes, h.whole);
        has_told = record {
          placed = h.has_told.placed;
          told = rw (← same) h.has_told.told;
          told_sets = h.has_told.told_sets;
          told_outcomes = h.has_told.told_outcomes;
        };
      }

-- ---- a file that was read

module _ {T : Type 0} {holds : T → Heading → List Told → Type 0} {bytes : List ℕ} {to : T} where
  pub told_game : {r : Reader} → IsRead holds bytes (Ok r) to
      → (g : Game) × SpellsGame bytes g × HasToldGame holds to g
  told_game {r} h =
      let a = h.answered in
      let c = content_with r a.nodes in (
        game_in c,
        read_spells bytes h.tokens c h.spelled a.whole,
        record {
          told = told_from ByFirstUse r.sets.known r.outcomes.known 0 0 a.nodes;
          holding = a.has_told.told;
          nodes = told_of_file bytes h.tokens c a.nodes h.spelled a.whole refl a.has_told.placed;
        },
      )

  -- ---- one that was refused

  pub refused_for_memory : {f : Fault} → IsRead holds bytes (Err f) to → (g : Game)
      → SpellsGame bytes g → f.why ≡ Memory
  refused_for_memory {f} h g spells =
      answer_only bytes h.tokens f g h.spelled h.answered spells

  pub refused_as_judged : {f : Fault} → IsRead holds bytes (Err f) to → IsJudged f.why bytes f.span
  refused_as_judged {f} h = answer_judged bytes h.tokens f h.spelled h.answered

-- ---- nodes that are kept

module _ (bytes : List ℕ) (r : Reader) (nodes : List Kept)
    (h : IsRead KeepsNodes bytes (Ok r) nodes) where
  all_kept : h.answered.nodes ≡ nodes
  all_kept = sym (h.answered.has_told.told
      ∙ kept_told r.sets.known r.outcomes.known 0 0 h.answered.nodes)

  is_whole : IsWhole bytes (read_parts (content_with r nodes)) nodes
  is_whole = subst (λ (ns : List Kept). IsWhole bytes (read_parts (content_with r ns)) ns) all_kept
      (whole bytes h.tokens (content_with r h.answered.nodes) h.answered.nodes h.spelled
      h.answered.whole refl)

  pub listed : IsListed (read_parts (content_with r nodes)) nodes
  listed = record {
    placed = subst (AreAmong (length r.sets.known) (length r.outcomes.known)) all_kept
        h.answered.has_told.placed;
    fills = is_whole.fills;
    is_game = is_whole.is_game;
    spellable = is_whole.spellable;
  }

  pub listed_spelled : SpellsGame bytes (game_with (read_parts (content_with r nodes)) nodes)
  listed_spelled = is_whole.spelled

pub ruleset told = (refused_as_judged, refused_for_memory, told_game, refused_why)
