-- What is told of a game: its heading, and then its nodes one after another in prefix order.
use Rattle.std.specs.Prelude.{ℕ, suc, ◌==◌, max, Bool, List, [], ◌∷◌, length, take, Some, None}
use Rattle.std.specs.Prelude.{Option, option_map, if◌then◌else◌, map}
use Rattle.gf_token.specs.Label.{label_of}
use Rattle.gf_token.specs.Positions.{at_position}
use Rattle.gf_tree.specs.Description.{InformationSet, Outcome, SetKey, set_of}
use Rattle.gf_tree.specs.FileTree.{FileNode, Use}
use Rattle.gf_tree.specs.FiniteMap.{Described}
use Rattle.gf_tree.specs.Game.{Game}
use Rattle.gf_tree.specs.KeptNode.{Kept}
use Rattle.gf_tree.specs.KnownSets.{known_of}
use Rattle.gf_tree.specs.declared.reader.receive.ToldHeading.{ToldHeading}
use Rattle.gf_tree.specs.declared.game.numbered_node.NumberedNode.{NumberedNode}
use Rattle.gf_tree.specs.declared.game.numbered_node.Numbering.{Numbering}
use Rattle.gf_tree.specs.declared.game.numbered_node.Numbering.TheVariants.{OfFile, ByFirstUse}

-- Everything before the nodes. Labels are lists of bytes.
pub record Heading : Type 0 where
  pub title : List ℕ
  pub comment : List ℕ
  pub players : List (List ℕ)

abbrev pub heading_of : ToldHeading → Heading
heading_of h = record {
  title = label_of h.title;
  comment = label_of h.comment;
  players = map label_of h.players.now;
}

abbrev pub heading_in : Game → Heading
heading_in g = record { title = g.title; comment = g.comment; players = g.players }

-- A node, which describes a set or an outcome if it is its first use; and the positions of its set
-- and of its outcome in order of first use, or 0 if it has none.
pub record Told : Type 0 where
  pub node : FileNode
  pub set : ℕ
  pub outcome : ℕ

abbrev pub kept_as : Told → Kept
kept_as t = record { name = t.node.name; set = t.set; outcome = t.outcome }

-- the key of the set with this position: that of the file, or its position among the sets of its
-- player
abbrev pub set_key : Numbering → List (Described SetKey InformationSet) → ℕ → SetKey → SetKey
set_key OfFile sets position key = key
set_key ByFirstUse sets position key =
    set_of key.player (length (known_of key.player (take position sets)))

-- the number of the outcome with this position: that of the file, or the position
abbrev pub outcome_key : Numbering → ℕ → ℕ → ℕ
outcome_key OfFile position number = number
outcome_key ByFirstUse position number = position

-- a use of this key, with this description or without it
abbrev pub use_with : {K D : Type 0} → K → Bool → D → Use K D
use_with key described d = record { key = key; description = if described then Some d else None }

-- the use of the set with this position
abbrev pub told_set : Numbering → List (Described SetKey InformationSet) → ℕ → Bool
    → Option (Use SetKey InformationSet)
told_set numbering sets position described =
    option_map (λ s. use_with (set_key numbering sets position s.key) described s.description)
    (at_position sets position)

-- the use of the outcome with this position
abbrev pub told_outcome : Numbering → List (Described ℕ Outcome) → ℕ → Bool
    → Option (Use ℕ Outcome)
told_outcome numbering outcomes position described =
    option_map (λ o. use_with (outcome_key numbering position o.key) described o.description)
    (at_position outcomes position)

-- The node as it is told after nodes that use this many sets and outcomes: it describes its set or its
-- outcome if that is the next one.
abbrev pub told_node : Numbering → List (Described SetKey InformationSet)
    → List (Described ℕ Outcome) → ℕ → ℕ → Kept → Told
told_node numbering sets outcomes known_sets known_outcomes n = record {
  node = record {
    name = n.name;
    set = told_set numbering sets n.set (n.set == suc known_sets);
    outcome = told_outcome numbering outcomes n.outcome (n.outcome == suc known_outcomes);
  };
  set = n.set;
  outcome = n.outcome;
}

abbrev pub told_of : NumberedNode → Told
told_of n = told_node n.numbering n.sets.now.known n.outcomes.now.known n.used_sets n.used_outcomes
    (record { name = label_of n.name; set = n.set; outcome = n.outcome })

abbrev pub told_from : Numbering → List (Described SetKey InformationSet)
    → List (Described ℕ Outcome) → ℕ → ℕ → List Kept → List Told
told_from numbering sets outcomes known_sets known_outcomes [] = []
told_from numbering sets outcomes known_sets known_outcomes (n ∷ ns) =
    told_node numbering sets outcomes known_sets known_outcomes n
    ∷ told_from numbering sets outcomes (max known_sets n.set) (max known_outcomes n.outcome) ns

-- this many positions are used at these nodes, and each is first used in its turn
abbrev pub used_sets_from : ℕ → List Kept → ℕ
used_sets_from known [] = known
used_sets_from known (n ∷ ns) = used_sets_from (max known n.set) ns

abbrev pub used_outcomes_from : ℕ → List Kept → ℕ
used_outcomes_from known [] = known
used_outcomes_from known (n ∷ ns) = used_outcomes_from (max known n.outcome) ns
