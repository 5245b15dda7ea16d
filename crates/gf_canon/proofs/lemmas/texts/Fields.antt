-- Lists in braces, and lines field by field.
use Rattle.gf_canon.proofs.Common
use Common.{common_steps}
use Common.{flat_map-append, InformationSet, action_fields, append_assoc, heading_text, others_text}
use Common.{mover_fields, step_fields, append-nil, file_nodes, first_line, heading_in, lines_text}
use Common.{game_text, list_text, node_line, node_text, FileNode, drop-set, flat_map, label_of, Use}
use Common.{Heading, decimal, Option, SetKey, length, quoted, spaced, arith, codes, Game, List, map}
use Common.{Keeps, None, Some, drop, refl, set, take, zero, length-append, ◌+◌, ◌++◌, suc, sym, ◌<◌, ◌^◌, ◌∙◌, ◌∷◌, ◌≡◌, ◌≤◌, [], ap, ℕ}
use Rattle.std.specs.Prelude.{◌*◌, ◌/◌}
use Rattle.gf_fraction.specs.NumberText.{number_text}
use Rattle.std.proofs.Math.Seq.{take-add, take-append_seam}
use Rattle.std.proofs.lemmas.List.{take-take}
use Rattle.std.proofs.lemmas.Fmt.{decimal_digit, decimal_step}
use Rattle.std.specs.Fmt.{digits}
use Rattle.gf_fraction.specs.Ratio.{Ratio}
use Rattle.gf_token.specs.declared.label.Label.{Label}
use Rattle.gf_tree.specs.Actions.{actions_of}
use Rattle.gf_tree.specs.declared.game.action.Action.{Action}

-- ---- lists in braces

-- each item and a space, and the closing brace
abbrev pub items_text : List (List ℕ) → List ℕ
items_text [] = codes "}"
items_text (item ∷ items) = item ++ 32 ∷ items_text items

spaced_items : (first : List ℕ) (items : List (List ℕ))
    → spaced (first ∷ (items ++ codes "}" ∷ [])) ≡ first ++ 32 ∷ items_text items
spaced_items first [] = refl
spaced_items first (item ∷ items) = ap (λ (bs : List ℕ). first ++ 32 ∷ bs) (spaced_items item items)

pub list_text_is : (items : List (List ℕ)) → list_text items ≡ codes "{ " ++ items_text items
list_text_is items = spaced_items (codes "{") items

-- what is still to come of a list
abbrev pub labels_left : List Label → List ℕ
labels_left labels = items_text (map quoted (map label_of labels))

abbrev pub actions_left : List Action → List ℕ
actions_left actions = items_text (flat_map action_fields (actions_of actions))

abbrev pub payoffs_left : List Ratio → List ℕ
payoffs_left payoffs = items_text (map number_text payoffs)

-- the whole list, of which nothing is left
pub list_closed : (all : List (List ℕ)) (old opened out new left : List ℕ)
    → opened ≡ old ++ codes "{ " → new ≡ out ++ codes "}" → left ≡ codes "}"
    → out ++ left ≡ opened ++ items_text all → new ≡ old ++ list_text all
list_closed all old opened out new left e f none h = grind (arith, append_assoc, list_text_is)

-- ---- fields one after another

pub spaced_is : (first : List ℕ) (items : List (List ℕ))
    → spaced (first ∷ items) ≡ first ++ others_text items
spaced_is first [] = sym (append-nil first)
spaced_is first (item ∷ items) = ap (λ (bs : List ℕ). first ++ 32 ∷ bs) (spaced_is item items)

others_joined : (xs ys : List (List ℕ)) → others_text (xs ++ ys) ≡ others_text xs ++ others_text ys
others_joined [] ys = refl
others_joined (x ∷ xs) ys = grind (arith, append_assoc, others_joined xs ys)

-- who moves, and what comes after
pub mover_joined : (name : List ℕ) (player : ℕ) (ys : List (List ℕ))
    → spaced (mover_fields name player ++ ys) ≡ spaced (mover_fields name player) ++ others_text ys
mover_joined name player ys = grind (arith, spaced_is, others_joined, append_assoc)

pub step_joined : (name : List ℕ) (set : Option (Use SetKey InformationSet)) (ys : List (List ℕ))
    → spaced (step_fields name set ++ ys) ≡ spaced (step_fields name set) ++ others_text ys
step_joined name set ys = grind (arith, spaced_is, others_joined, append_assoc, mover_joined)

-- ---- lines

-- what was kept of a text is kept of its beginning
pub kept_from : (old more out new : List ℕ) → out ≡ old ++ more → Keeps out new → Keeps old new
kept_from old more out new e kept =
    let long = ap length e ∙ length-append old more in
    cc (take-take (length old) (length out) new (omega (arith, long)), take-append_seam old more)

-- the lines of the nodes
abbrev pub node_lines : List FileNode → List ℕ
node_lines nodes = flat_map node_line nodes

lines_of_nodes : (nodes : List FileNode) → lines_text (map node_text nodes) ≡ node_lines nodes
lines_of_nodes [] = refl
lines_of_nodes (n ∷ nodes) = ap (λ (bs : List ℕ). node_line n ++ bs) (lines_of_nodes nodes)

-- the text of a game is its heading and the lines of its nodes
pub game_text_is : (g : Game)
    → game_text g ≡ heading_text (heading_in g) ++ node_lines (file_nodes g)
game_text_is g =
    flat_map-append (λ (line : List ℕ). line ++ 10 ∷ [])
    (first_line (heading_in g) ∷ quoted g.comment ∷ [] ∷ []) (map node_text (file_nodes g))
    ∙ ap (λ (bs : List ℕ). heading_text (heading_in g) ++ bs) (lines_of_nodes (file_nodes g))

pub text_done : (g : Game) (h : Heading) (left : List FileNode) (old heading out : List ℕ)
    → h ≡ heading_in g → heading ≡ old ++ heading_text h → left ≡ []
    → out ++ node_lines left ≡ heading ++ node_lines (file_nodes g) → out ≡ old ++ game_text g
text_done g h left old heading out is e none lines =
    grind (arith, append-nil, append_assoc, game_text_is)

-- ---- numbers

-- a space and digits are written after what is kept
pub spaced_from : (text old new number rest : List ℕ) (at start end : ℕ) → start ≡ at + 1
    → at < length text → old ≡ set text at 32 → start + length number ≡ end
    → take start new ≡ take start old → drop start new ≡ number ++ rest
    → take end new ≡ take at text ++ 32 ∷ number
spaced_from text old new number rest at start end e within space long before written =
    let whole = take-add start (length number) new in
    let seam = take-append_seam number rest in
    grind (arith, common_steps)

-- as many digits as the power of ten below the number tells
pub counted : (k n : ℕ) → 10 ^ k ≤ n → n < 10 * 10 ^ k → n < 2 ^ 64 → length (decimal n) ≡ k + 1
counted zero n lo hi small = ap length (decimal_digit n (omega arith))
counted (suc k) n lo hi small =
    let tens = counted k (n / 10) (omega arith) (omega arith) (omega arith) in
    grind (arith, decimal_step n (omega arith) small, length-append)

pub ruleset number_at = (common_steps, counted, decimal_digit)

-- ---- the line of a node

pub zero_text : decimal 0 ≡ codes "0"
unfolding digits
zero_text = refl

pub ruleset result_written = (common_steps, kept_from, zero_text)

pub ruleset line_done = (common_steps, kept_from, step_joined)
