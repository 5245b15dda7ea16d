-- Game files of both kinds: their canonical texts are equal exactly when they are the same.
use Rattle.gf_canon.proofs.Common.{◌≡◌, ℕ, List, ap, subst, arith, ◌↔◌, same_tokens}
use Rattle.gf_canon.proofs.Common.{Game, IsGame, SpellsGame, IsSpellable, spells_one_game}
use Rattle.gf_canon.proofs.Common.{canonical_game, game_text, GameFile, IsGameFile, SpellsFile}
use Rattle.gf_canon.proofs.Common.{SameFile, canonical_file, canonical_text, extensive, strategic}
use Rattle.gf_canon.proofs.Common.{same_by_canonical, canonical_is_game, canonical_twice}
use Rattle.gf_nfg.specs.TableText.{table_text}
use Rattle.gf_nfg.proofs.Offered.{same_is_equal, text_reads_back as table_reads_back}
use Rattle.gf_nfg.proofs.Offered.{spelled_is_spellable as spelled_table, spells_one_table}
use Rattle.gf_tree.proofs.Offered.{spelled_is_spellable as spelled_game}
use Rattle.gf_canon.proofs.lemmas.files.Formats.{tokens_in, two_words}
use Rattle.gf_canon.proofs.lemmas.texts.ReadsBack.{text_reads_back}
use Rattle.gf_canon.proofs.lemmas.texts.Spellables.{canonical_is_spellable}

pub same_by_canonical_file : (a b : GameFile) → IsGameFile a → IsGameFile b
    → SameFile a b ↔ (canonical_file a ≡ canonical_file b)
same_by_canonical_file a b first second = grind (arith, same_by_canonical, same_is_equal)

-- ---- texts

-- by the numbers that it has
abbrev pub file_text : GameFile → List ℕ
file_text (extensive g) = game_text g
file_text (strategic t) = table_text t

pub equal_game_texts : (g h : Game) → IsGame g → IsSpellable g → IsGame h → IsSpellable h
    → (game_text g ≡ game_text h) ↔ (g ≡ h)
equal_game_texts g h game can game' can' = (
  λ e. spells_one_game (game_text h) g h
      (subst (λ bytes. SpellsGame bytes g) e (text_reads_back g game can))
      (text_reads_back h game' can'),
  λ e. ap game_text e,
)

-- ---- bytes mean one file

pub spells_one_file : (bytes : List ℕ) (x y : GameFile) → SpellsFile bytes x → SpellsFile bytes y
    → x ≡ y
spells_one_file bytes (extensive g) (extensive h) p q = ap extensive (spells_one_game bytes g h p q)
spells_one_file bytes (strategic t) (strategic u) p q = cc (spells_one_table bytes t u p q)
spells_one_file bytes x y p q = grind (arith, two_words, tokens_in, same_tokens)

-- ---- the canonical text of what bytes mean

pub canonical_reads_back : (bytes : List ℕ) (x : GameFile) → SpellsFile bytes x
    → SpellsFile (canonical_text x) (canonical_file x)
canonical_reads_back bytes (extensive g) h =
    let s = spelled_game bytes g h in
    text_reads_back (canonical_game g) (canonical_is_game g s.0) (canonical_is_spellable g s.0 s.1)
canonical_reads_back bytes (strategic t) h =
    let s = spelled_table bytes t h in table_reads_back t s.0 s.1

pub is_game_file : (bytes : List ℕ) (x : GameFile) → SpellsFile bytes x → IsGameFile x
is_game_file bytes (extensive g) h = (spelled_game bytes g h).0
is_game_file bytes (strategic t) h = (spelled_table bytes t h).0

pub text_twice : (x : GameFile) → IsGameFile x
    → canonical_text (canonical_file x) ≡ canonical_text x
text_twice x file = grind (arith, canonical_twice)

pub canonical_again : (bytes : List ℕ) (x y : GameFile)
    → SpellsFile bytes x → SpellsFile (canonical_text x) y → canonical_text y ≡ canonical_text x
canonical_again bytes x y h k =
    grind (arith, spells_one_file, canonical_reads_back, text_twice, is_game_file)

pub equal_canonical_texts : (a b : List ℕ) (x y : GameFile) → SpellsFile a x → SpellsFile b y
    → (canonical_text x ≡ canonical_text y) ↔ SameFile x y
equal_canonical_texts a b x y h k =
    let same = same_by_canonical_file x y (is_game_file a x h) (is_game_file b y k) in
    grind (arith, spells_one_file, canonical_reads_back)

-- ---- laws

pub ruleset by_canonical = (same_by_canonical, same_by_canonical_file)

pub ruleset game_texts = (text_reads_back, equal_game_texts, canonical_is_spellable)

pub ruleset equal_texts = (equal_canonical_texts, canonical_reads_back, canonical_again)
