-- Arguments and commands that are added one by one.
use Rattle.std.proofs.Common.{◌≡◌, ◌∙◌, ◌++◌, List, [], ◌∷◌, ap, ap₂, map, refl, sym}
use Rattle.std.proofs.lemmas.List.{map_push}
use Rattle.std.specs.Borrow.{Bor}
use Rattle.clap.specs.Simple.{App, Shape, with_rule, with_subcommand}
use Rattle.clap.specs.Walk.{Rule, Text}
use Rattle.gf_words.specs.declared.commands.Argument.{Argument}
use Rattle.gf_words.specs.declared.commands.Entry.{Entry}
use Rattle.gf_words.specs.declared.commands.Form.{Form}
use Rattle.gf_words.specs.inner.Table.{argument_rule, entry_shape, leaf, shape_for, with_commands}

abbrev nothing : {X : Type 0} → Bor (List X)
nothing = record { ref_ptr = (0, 0); now = [] }

-- what stands past the end of a list of arguments or of commands
abbrev pub no_argument : Argument
no_argument = record {
  name = nothing;
  form = Form.Flag;
  about = nothing;
  excludes = nothing;
  needs = nothing;
}

abbrev pub no_entry : Entry
no_entry = record { name = nothing; about = nothing; after = nothing; arguments = nothing }

pub one_argument : (name : Text) (seen : List Argument) (argument : Argument) (app : App)
    (rule : Rule)
    → app ≡ leaf (entry_shape name seen) → rule ≡ argument_rule argument
    → with_rule app rule ≡ leaf (entry_shape name (seen ++ argument ∷ []))
one_argument name seen argument app rule is rule_is =
    ap₂ with_rule is rule_is
    ∙ ap (λ rules. leaf (record (entry_shape name []) { rules = rules }))
    (sym (map_push argument_rule seen argument))

pub one_command : (app : App) (shapes : List Shape) (shape : Shape)
    → with_commands app (shapes ++ shape ∷ []) ≡ with_subcommand (with_commands app shapes) shape
one_command app [] shape = refl
one_command app (first ∷ shapes) shape = one_command (with_subcommand app first) shapes shape

pub one_entry : (app : App) (seen : List Entry) (entry : Entry) (old : App) (shape : Shape)
    → old ≡ with_commands app (map shape_for seen) → shape ≡ shape_for entry
    → with_subcommand old shape ≡ with_commands app (map shape_for (seen ++ entry ∷ []))
one_entry app seen entry old shape is shape_is =
    ap₂ with_subcommand is shape_is
    ∙ (sym (one_command app (map shape_for seen) (shape_for entry))
    ∙ ap (with_commands app) (sym (map_push shape_for seen entry)))
