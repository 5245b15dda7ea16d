-- What a text that is being written has of a file that is being told.
use Rattle.std.specs.Prelude.{◌≡◌, ℕ, zero, suc, List, ◌∷◌, ◌++◌, length}
use Rattle.gf_fraction.specs.Ratio.{Ratio}
use Rattle.gf_token.specs.declared.names.Names.{Names}
use Rattle.gf_nfg.specs.inner.Meaning.{frame_in}
use Rattle.gf_nfg.specs.inner.ReaderState.{content_in}
use Rattle.gf_nfg.specs.inner.TextParts.{heading_text, frame_by, payoffs_text}
use Rattle.gf_nfg.specs.inner.Told.{Told}
use Rattle.gf_nfg.specs.declared.receive.Version.{Version}
use Rattle.gf_nfg.specs.declared.text.ToldText.{ToldText}

-- the lines of payoffs, so many in each; without players the only line is empty
abbrev pub laid_lines : ℕ → List Ratio → List ℕ
laid_lines zero payoffs = 10 ∷ payoffs_text 0 0 payoffs
laid_lines (suc n) payoffs = payoffs_text (suc n) (suc n) payoffs

-- With any payoffs after these, the text is the heading and the lines of all of them.
pub record AreLaid (width left : ℕ) (heading text : List ℕ) (payoffs : List Ratio) : Type 0 where
  pub with_more : (more : List Ratio)
      → text ++ payoffs_text width left more ≡ heading ++ laid_lines width (payoffs ++ more)

abbrev pub told_text : Names → Told → List ℕ
told_text names told = heading_text (frame_by names (frame_in (content_in told.heading)))

-- the text has the heading of what was told, and its payoffs, or else they are kept
pub record HasText (names : Names) (t : ToldText) (told : Told) : Type 0 where
  pub names_are : t.names ≡ names
  pub version_is : t.version ≡ told.version
  pub width_is : t.width ≡ length (content_in told.heading).players
  pub lines : t.version ≡ Version.Payoffs
      → AreLaid t.width t.left (told_text names told) t.text.items told.payoffs
  pub kept : t.version ≡ Version.Outcomes
      → (t.text.items ≡ told_text names told) × (t.kept.payoffs.items ≡ told.payoffs)
  pub numbers_are : t.kept.numbers.items ≡ told.numbers
