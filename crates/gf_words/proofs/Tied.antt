-- The rule of an argument that rules out or needs others.
use Rattle.std.proofs.Common.{◌≡◌, ◌∙◌, ◌==◌, ◌&&◌, ℕ, Bool, true, false, not, List, [], ◌∷◌, ◌++◌}
use Rattle.std.proofs.Common.{ap, ap₂, map, length, refl, rules, tests, suc}
use Rattle.std.proofs.lemmas.List.{length-map}
use Rattle.std.specs.Borrow.{Bor}
use Rattle.clap.specs.Adds.{AddsConflicts, AddsRequirements}
use Rattle.clap.specs.Walk.{Rule, Text, is_empty, is_free_arg, rule_of}
use Rattle.clap.specs.declared.builder.arg.Arg.{Arg}
use Rattle.clap.specs.declared.builder.arg.ArgPredicate.{ArgPredicate}
use Rattle.gf_words.specs.declared.commands.Form.{Form}
use Rattle.gf_words.specs.inner.Table.{form_rule}

pub form_is_free : (form : Form) (name : Text) → (form_rule form name).is_free ≡ true
form_is_free Form.Flag name = refl
form_is_free (Form.FlagOrLetter letter) name = refl
form_is_free (Form.Option value) name = refl
form_is_free Form.Optional name = refl
form_is_free Form.Required name = refl
form_is_free (Form.Many value) name = refl

-- of a conjunction that holds, what is left if two of its parts are exchanged
two_exchanged : (a b c d b' c' : Bool) → (a && (b && (c && d))) ≡ true
    → (a && (b' && (c' && d))) ≡ (b' && c')
two_exchanged true true true true true true holds = refl
two_exchanged true true true true true false holds = refl
two_exchanged true true true true false c' holds = refl
two_exchanged true true true false b' c' holds = cc
two_exchanged true true false d b' c' holds = cc
two_exchanged true false c d b' c' holds = cc
two_exchanged false b c d b' c' holds = cc

second_holds : (a b c d : Bool) → (a && (b && (c && d))) ≡ true → b ≡ true
second_holds true true c d holds = refl
second_holds true false c d holds = cc
second_holds false b c d holds = cc

third_holds : (a b c d : Bool) → (a && (b && (c && d))) ≡ true → c ≡ true
third_holds true true true d holds = refl
third_holds true true false d holds = cc
third_holds true false c d holds = cc
third_holds false b c d holds = cc

not_zero : (n : ℕ) → (suc n == 0) ≡ false
not_zero n = search (tests, rules)

joined : {X : Type 0} (xs ys : List X) → is_empty xs ≡ true → is_empty (xs ++ ys) ≡ is_empty ys
joined [] ys empty = refl
joined (x ∷ xs) ys empty =
    let bad : false ≡ true = rw (not_zero (length xs)) at empty in
    cc

pub is_empty_map : {X Y : Type 0} (f : X → Y) (xs : List X) → is_empty (map f xs) ≡ is_empty xs
is_empty_map f xs = ap (λ (n : ℕ). n == 0) (length-map xs f)

-- an argument is needed and given under no condition
abbrev others : Arg → Bool
others a = is_empty a.r_ifs.items && (is_empty a.r_ifs_all.items
    && (is_empty a.r_unless.items && is_empty a.r_unless_all.items))

-- an argument that was free, with what it rules out and what it needs
pub tied_rule : (plain excluding arg : Arg) (rule : Rule) (excludes : List (Bor Text))
    (needs : List (ArgPredicate × Bor Text)) → rule_of plain ≡ rule → rule.is_free ≡ true
    → AddsConflicts plain excluding excludes → AddsRequirements excluding arg needs
    → rule_of arg ≡ record rule { is_free = is_empty excludes && is_empty needs }
tied_rule plain excluding arg rule excludes needs is free excluded needed =
    let was_free : is_free_arg plain ≡ true = ap (λ (r : Rule). r.is_free) is ∙ free in
    let arg_is : arg ≡ record plain { conflicts = excluding.conflicts; needs = arg.needs } =
    needed.0 ∙ ap (λ (a : Arg). record a { needs = arg.needs }) excluded.0 in
    let same_needs : excluding.needs.items ≡ plain.needs.items =
    ap (λ (a : Arg). a.needs.items) excluded.0 in
    let left : is_free_arg (record plain { conflicts = excluding.conflicts; needs = arg.needs })
    ≡ (is_empty excluding.conflicts.items && is_empty arg.needs.items) =
    two_exchanged (not plain.exclusive) (is_empty plain.conflicts.items)
    (is_empty plain.needs.items) (others plain) (is_empty excluding.conflicts.items)
    (is_empty arg.needs.items) was_free in
    let conflicts : is_empty excluding.conflicts.items ≡ is_empty excludes =
    ap is_empty excluded.1
    ∙ joined plain.conflicts.items excludes
    (second_holds (not plain.exclusive) (is_empty plain.conflicts.items)
    (is_empty plain.needs.items) (others plain) was_free) in
    let no_needs : is_empty excluding.needs.items ≡ true =
    ap is_empty same_needs ∙ third_holds (not plain.exclusive)
    (is_empty plain.conflicts.items) (is_empty plain.needs.items) (others plain) was_free in
    let wants : is_empty arg.needs.items ≡ is_empty needs =
    ap is_empty needed.1 ∙ joined excluding.needs.items needs no_needs in
    ap rule_of arg_is
    ∙ ap₂ (λ (r : Rule) (b : Bool). record r { is_free = b }) is (left ∙ ap₂ ◌&&◌ conflicts wants)

pub still_local : (plain excluding arg : Arg) (excludes : List (Bor Text))
    (needs : List (ArgPredicate × Bor Text)) → plain.global ≡ false
    → AddsConflicts plain excluding excludes → AddsRequirements excluding arg needs
    → arg.global ≡ false
still_local plain excluding arg excludes needs is excluded needed =
    ap (λ (a : Arg). a.global) needed.0 ∙ (ap (λ (a : Arg). a.global) excluded.0 ∙ is)
