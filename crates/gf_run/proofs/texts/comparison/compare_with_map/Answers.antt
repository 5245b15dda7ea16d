use Rattle.std.proofs.Common.{◌≡◌, ◌++◌, ◌∙◌, List, [], ap, arith, false, rules, true, Bool, ℕ}
use Rattle.std.specs.List.{flat_map}
use Rattle.std.specs.Prelude.{◌↔◌, IsTrue}
use Rattle.gf_canon.specs.GameFile.{GameFile, SameFile}
use Rattle.gf_canon.specs.Pairs.{ArePairs}
use Rattle.gf_canon.specs.declared.numbering.pairs.NumberPair.{NumberPair}
use Rattle.gf_run.specs.Texts.{IsLineAndMap, answer_line, pair_line}
use Rattle.gf_run.specs.declared.texts.comparison.PairLines.{PairLines}
use Rattle.gf_run.proofs.texts.comparison.compare_with_map.Goals as goal

-- the lines are those of the pairs of two files, if these are the same
line_and_map : (x y : GameFile) (same : Bool) (lines text : List ℕ)
    → (IsTrue same ↔ SameFile x y) → (same ≡ true → (pairs : List NumberPair) × ArePairs x y pairs
    × (lines ≡ flat_map pair_line pairs)) → (same ≡ false → lines ≡ [])
    → text ≡ answer_line same ++ lines → IsLineAndMap x y same text
line_and_map x y same lines text says told untold is = grind arith

pub returns : goal.returns
returns c =
    let says = c.in_ok-same.ensures.told in
    let none = c.new.ensures.items in
    let same = c.in_ok-same.same in
    let lines = c.pairs_of_files.new.to.text.items in
    let text : c.extend_from_slice.new.self.items ≡ answer_line same ++ lines = search rules in
    rw (c.answer_with.ensures.value, c.answer_with.ensures.text) (
      says.0,
      says.1,
      says.2,
      says.3,
      says.4,
      line_and_map says.0 says.1 same lines _ says.4 (λ yes. says.5 yes none)
          (λ no. ap (λ (told : PairLines). told.text.items) (c.in_ok-same.ensures.untold no) ∙ none) text,
    )
