-- A game has one file tree in which exactly the first uses are described.
use Rattle.gf_canon.proofs.Common
use Common.{outcomes_in_order, same_set_equality, AllByRecursion, description_at, AreConsistent, []}
use Common.{sets_in_order, used_outcomes, IsConsistent, append_assoc, outcome_uses, Decides-eqb, ap}
use Common.{flatten_map, IsEquality, first_uses, keys_alone, map-append}
use Common.{Described, Describes, has_place, map_entry, use_after, used_sets, FileNode, FileTree}
use Common.{IsGameOf, contains, same_set, set_uses, flatten, IsGame, Listed, Option, nat_eq, arith}
use Common.{subst, Bool, Game, List, Some, refl, ◌++◌, Has, Use, map, sym, ◌↔◌, ◌∙◌, ◌∷◌, ◌≡◌}
use Rattle.gf_tree.proofs.Offered.{flatten_once, told_found, is_game}
use Rattle.gf_canon.specs.FirstDescribed.{DescribeFirstUses, IsFileOf}
use Rattle.gf_canon.proofs.lemmas.texts.FileOf.{file_of_game, first_is_new, none_of_them}
use Rattle.gf_canon.proofs.lemmas.texts.FileOf.{uses_after}

-- ---- uses by their keys

-- at : what the game has at a key, as each description says
module _ {K D : Type 0} (same : K → K → Bool) (equality : IsEquality same) (at : K → Option D)
    (us : List (Use K D)) (first : DescribeFirstUses us)
    (told : (u : Use K D) (d : D) → Has us u → u.description ≡ Some d → at u.key ≡ Some d) where
  use_is : (before after : List (Use K D)) (u : Use K D) → us ≡ before ++ u ∷ after
      → u ≡ use_after same at (map (λ v. v.key) before) u.key
  use_is before after u split = grind (arith, has_place, told, none_of_them, first_is_new)

  uses_are : (before rest : List (Use K D)) → us ≡ before ++ rest
      → rest ≡ uses_after same at (map (λ v. v.key) before) (map (λ v. v.key) rest)
  uses_are before [] split = refl
  uses_are before (u ∷ rest) split =
      grind (arith, append_assoc, uses_after, map-append, use_is, uses_are (before ++ u ∷ []) rest)

-- ---- entries

same_entries : (es fs : List (Listed FileNode))
    → map (map_entry keys_alone) es ≡ map (map_entry keys_alone) fs → set_uses es ≡ set_uses fs
    → outcome_uses es ≡ outcome_uses fs → es ≡ fs
same_entries [] [] keys sets outcomes = refl
same_entries (e ∷ es) (f ∷ fs) keys sets outcomes = grind (arith, same_entries es fs)
same_entries _ _ keys sets outcomes = absurd cc

-- ---- the file tree

-- uses of these keys that describe what the game has, and that at first uses
uses_of : {K D : Type 0} (same : K → K → Bool) → IsEquality same → (used : List K)
    → (es : List (Described K D)) (us : List (Use K D)) → map (λ e. e.key) es ≡ first_uses same used
    → used ≡ map (λ u. u.key) us → AllByRecursion (λ e. Describes us e.key e.description) es
    → AreConsistent us → DescribeFirstUses us
    → us ≡ uses_after same (description_at same es) [] used
uses_of {K} {D} same equality used es us entries uses described alike first =
    uses_are same equality (description_at same es) us first told [] us refl
    ∙ ap (uses_after same (description_at same es) []) (sym uses)
  where
    told : (u : Use K D) (d : D) → Has us u → u.description ≡ Some d
        → description_at same es u.key ≡ Some d
    told u d among is =
        let own = contains us (record { key = u.key; description = Some d })
        (subst (λ v. Has us v) (λ i. record { key = u.key; description = is i }) among) in
        (told_found same equality us es alike (entries ∙ ap (first_uses same) uses) described
        u.key d own).0

pub one_file : (g : Game) (f h : FileTree) → IsFileOf g f → IsFileOf g h → f ≡ h
one_file g f h p q =
    let of = p.game in
    let too = q.game in
    let es = flatten f.tree in
    let fs = flatten h.tree in
    let sets_of = uses_of same_set same_set_equality (used_sets g.tree) g.sets in
    let paid_of = uses_of nat_eq Decides-eqb (used_outcomes g.tree) g.outcomes in
    let sets : set_uses es ≡ set_uses fs =
    sets_of (set_uses es) of.set_keys (sets_in_order f g of) of.sets p.consistent.sets p.sets
    ∙ sym (sets_of (set_uses fs) too.set_keys (sets_in_order h g too) too.sets q.consistent.sets
    q.sets) in
    let outcomes : outcome_uses es ≡ outcome_uses fs = grind (arith, outcomes_in_order) in
    let entries : map (map_entry keys_alone) es ≡ map (map_entry keys_alone) fs =
    cc (flatten_map keys_alone f.tree, flatten_map keys_alone h.tree) in
    let tree = flatten_once f.tree h.tree (same_entries es fs entries sets outcomes) in
    λ i. record {
      title = (of.kept.title ∙ sym too.kept.title) i;
      comment = (of.kept.comment ∙ sym too.kept.comment) i;
      players = (of.kept.players ∙ sym too.kept.players) i;
      tree = tree i;
    }

pub are_games : (g : Game) → IsGame g ↔ ((f : FileTree) × IsConsistent f × IsGameOf f g)
are_games g = grind (arith, file_of_game, is_game)

pub ruleset files_of_games = (file_of_game, one_file, are_games)
