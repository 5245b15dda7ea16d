-- Sameness of games: identity, inverse and composition of renumberings.
use Rattle.gf_tree.proofs.Common.{◌≡◌, ℕ, ◌<◌, List, [], ◌∷◌, map, sym, ap, subst, ◌∙◌, arith}
use Rattle.gf_tree.proofs.Common.{Decides-eqb, renumbered, Renumbering, HasSet, renumbered_set}
use Rattle.gf_tree.proofs.Common.{Game, IsGame, used_sets, used_outcomes, SetKey, same_set, set_of}
use Rattle.gf_tree.proofs.Common.{nat_eq, HasOutcome, Carries, SameGame}
use Rattle.gf_tree.proofs.lemmas.games.FirstUseNumbers.{AreApart}
use Rattle.gf_tree.proofs.lemmas.games.TreesOnce.{same_set_equality}
use Rattle.gf_tree.proofs.lemmas.games.Carried.{undo, undone, undone_apart, apart_twice}
use Rattle.gf_tree.proofs.lemmas.games.Renumberings.{used_sets_of, used_outcomes_of, agreed_games}
use Rattle.gf_tree.proofs.lemmas.games.Renumberings.{identity, itself, composed, composed_games}
use Rattle.gf_tree.proofs.lemmas.games.Renumberings.{sets_apart, outcomes_apart, is_renumbering}
use Rattle.gf_tree.proofs.lemmas.games.Renumberings.{set_number_positive, outcome_number_positive}
use Rattle.gf_tree.proofs.lemmas.games.Uses.{Has, has, contains, has_map, mapped_from}

-- ---- what a carried game uses

pub carried_sets : (r : Renumbering) (g h : Game) → Carries r g h
    → used_sets h.tree ≡ map (renumbered_set r) (used_sets g.tree)
carried_sets r g h c = ap (λ (k : Game). used_sets k.tree) (sym c.image) ∙ used_sets_of r g.tree

pub carried_outcomes : (r : Renumbering) (g h : Game) → Carries r g h
    → used_outcomes h.tree ≡ map r.outcome (used_outcomes g.tree)
carried_outcomes r g h c = grind (arith, used_outcomes_of)

-- ---- identity

pub same_itself : (g : Game) → IsGame g → SameGame g g
same_itself g game = (
  identity,
  record {
    renumbering = is_renumbering g identity (set_number_positive g game)
        (outcome_number_positive g game) (λ a b i j e. e) (λ a b i j e. e);
    image = itself g;
  },
)

-- ---- composition

pub carries_on : (r s : Renumbering) (g h k : Game) → Carries r g h → Carries s h k
    → Carries (composed r s) g k
carries_on r s g h k c d = record {
  renumbering = is_renumbering g (composed r s) positive positive' apart apart';
  image = sym (composed_games r s g) ∙ ap (renumbered s) c.image ∙ d.image;
}
  where
    set_there : (key : SetKey) → Has (used_sets g.tree) key
        → Has (used_sets h.tree) (renumbered_set r key)
    set_there key i = subst (λ ks. Has ks (renumbered_set r key)) (sym (carried_sets r g h c))
        (has_map (renumbered_set r) (used_sets g.tree) key i)

    outcome_there : (number : ℕ) → Has (used_outcomes g.tree) number
        → Has (used_outcomes h.tree) (r.outcome number)
    outcome_there number i = subst (λ ks. Has ks (r.outcome number))
        (sym (carried_outcomes r g h c)) (has_map r.outcome (used_outcomes g.tree) number i)

    positive : (key : SetKey) → Has (used_sets g.tree) key
        → 0 < s.set key.player (r.set key.player key.number)
    positive key i = d.renumbering.positive_sets key.player (r.set key.player key.number)
        (contains (used_sets h.tree) (renumbered_set r key) (set_there key i))

    positive' : (number : ℕ) → Has (used_outcomes g.tree) number → 0 < s.outcome (r.outcome number)
    positive' number i = d.renumbering.positive_outcomes (r.outcome number)
        (contains (used_outcomes h.tree) (r.outcome number) (outcome_there number i))

    apart : AreApart (renumbered_set (composed r s)) (used_sets g.tree)
    apart =
        apart_twice (renumbered_set r) (renumbered_set s)
        (used_sets g.tree) (sets_apart g r c.renumbering)
        (subst (AreApart (renumbered_set s)) (carried_sets r g h c) (sets_apart h s d.renumbering))

    apart' : AreApart (λ number. s.outcome (r.outcome number)) (used_outcomes g.tree)
    apart' =
        apart_twice r.outcome s.outcome (used_outcomes g.tree) (outcomes_apart g r c.renumbering)
        (subst (AreApart s.outcome) (carried_outcomes r g h c) (outcomes_apart h s d.renumbering))

pub same_on : (g h k : Game) → SameGame g h → SameGame h k → SameGame g k
same_on g h k c d = (composed c.0 d.0, carries_on c.0 d.0 g h k c.1 d.1)

-- ---- inverse

abbrev pub inverse : Renumbering → Game → Renumbering
inverse r g = record {
  set = λ player number.
      (undo same_set (renumbered_set r) (used_sets g.tree) (set_of player number)).number;
  outcome = λ number. undo nat_eq r.outcome (used_outcomes g.tree) number;
}

pub carries_back : (r : Renumbering) (g h : Game) → IsGame g → Carries r g h
    → Carries (inverse r g) h g
carries_back r g h game c = record {
  renumbering = is_renumbering h s positive positive' apart apart';
  image =
      ap (renumbered s) (sym c.image) ∙ composed_games r s g
      ∙ agreed_games (composed r s) identity g game (record { sets = back; outcomes = back' })
      ∙ itself g;
}
  where
    s : Renumbering
    s = inverse r g

    back : (key : SetKey) → Has (used_sets g.tree) key
        → renumbered_set s (renumbered_set r key) ≡ key
    back key i =
        let e = undone same_set same_set_equality (renumbered_set r) (used_sets g.tree) key
        (sets_apart g r c.renumbering) i in
        λ j. record { player = key.player; number = (e j).number }

    back' : (number : ℕ) → Has (used_outcomes g.tree) number → s.outcome (r.outcome number) ≡ number
    back' number i = undone nat_eq Decides-eqb r.outcome (used_outcomes g.tree) number
        (outcomes_apart g r c.renumbering) i

    of_set : (key : SetKey) → Has (used_sets h.tree) key
        → (k : SetKey) × Has (used_sets g.tree) k × (renumbered_set r k ≡ key)
    of_set key i = mapped_from (renumbered_set r) (used_sets g.tree) key
        (subst (λ ks. Has ks key) (carried_sets r g h c) i)

    of_outcome : (number : ℕ) → Has (used_outcomes h.tree) number
        → (k : ℕ) × Has (used_outcomes g.tree) k × (r.outcome k ≡ number)
    of_outcome number i = mapped_from r.outcome (used_outcomes g.tree) number
        (subst (λ ks. Has ks number) (carried_outcomes r g h c) i)

    positive : (key : SetKey) → Has (used_sets h.tree) key → 0 < s.set key.player key.number
    positive key i =
        let k = of_set key i in
        let e : renumbered_set s key ≡ k.0 = ap (renumbered_set s) (sym k.2) ∙ back k.0 k.1 in
        subst (λ (q : SetKey). 0 < q.number) (sym e) (set_number_positive g game k.0 k.1)

    positive' : (number : ℕ) → Has (used_outcomes h.tree) number → 0 < s.outcome number
    positive' number i =
        let k = of_outcome number i in
        let e : s.outcome number ≡ k.0 = ap s.outcome (sym k.2) ∙ back' k.0 k.1 in
        subst (λ q. 0 < q) (sym e) (outcome_number_positive g game k.0 k.1)

    apart : AreApart (renumbered_set s) (used_sets h.tree)
    apart = subst (AreApart (renumbered_set s)) (sym (carried_sets r g h c))
        (undone_apart (renumbered_set r) (renumbered_set s) (used_sets g.tree) back)

    apart' : AreApart s.outcome (used_outcomes h.tree)
    apart' = subst (AreApart s.outcome) (sym (carried_outcomes r g h c))
        (undone_apart r.outcome s.outcome (used_outcomes g.tree) back')

pub same_back : (g h : Game) → IsGame g → SameGame g h → SameGame h g
same_back g h game c = (inverse c.0 g, carries_back c.0 g h game c.1)

-- ---- uniqueness

images_told : {X Y : Type 0} (f g : X → Y) (xs : List X) → map f xs ≡ map g xs → (x : X) → Has xs x
    → f x ≡ g x
images_told f g [] e x i = absurd i
images_told {X} {Y} f g (y ∷ xs) e x i = go i (images_told f g xs rest x)
  where
    rest : map f xs ≡ map g xs
    rest = cc

    go : Has (y ∷ xs) x → (Has xs x → f x ≡ g x) → f x ≡ g x
    go h h2 = grind arith

pub only_sets : (r s : Renumbering) (g h : Game) → Carries r g h → Carries s g h
    → (player number : ℕ) → HasSet g player number → r.set player number ≡ s.set player number
only_sets r s g h c d player number i =
    let key = set_of player number in
    ap (λ (k : SetKey). k.number)
    (images_told (renumbered_set r) (renumbered_set s) (used_sets g.tree)
    (sym (carried_sets r g h c) ∙ carried_sets s g h d) key (has (used_sets g.tree) key i))

pub only_outcomes : (r s : Renumbering) (g h : Game) → Carries r g h → Carries s g h → (number : ℕ)
    → HasOutcome g number → r.outcome number ≡ s.outcome number
only_outcomes r s g h c d number i =
    cc (images_told r.outcome s.outcome (used_outcomes g.tree) (sym (carried_outcomes r g h c) ∙
    carried_outcomes s g h d) number (has (used_outcomes g.tree) number i))
