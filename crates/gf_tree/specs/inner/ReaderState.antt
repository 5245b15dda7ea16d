-- What a reader stands for, regardless of where it is in memory. It keeps nothing of its nodes: it
-- stands for a machine that begins where the reader is, and has read none.
use Rattle.std.specs.Prelude.{◌≡◌, ◌≤◌, ◌+◌, ◌-◌, ◌++◌, ℕ, List, max, [], ◌∷◌, length}
use Rattle.std.specs.Prelude.{map, option_map, MatchResult, Result, Ok, Err}
use Rattle.gf_token.specs.Label.{label_of}
use Rattle.gf_token.specs.Positions.{at_position}
use Rattle.gf_token.specs.Remaining.{Remaining}
use Rattle.gf_token.specs.declared.token.TextToken.{TextToken}
use Rattle.gf_token.specs.Token.{Lexeme, lexeme}
use Rattle.gf_token.specs.Token.Token.{Text}
use Rattle.gf_token.specs.TokenSpelling.{Spells}
use Rattle.gf_token.specs.declared.fault.Fault.{Fault}
use Rattle.gf_token.specs.Offered as any_format
pub use Rattle.gf_token.specs.Offered.{Fails, Goes, HasPassedPlace}
use Rattle.gf_tree.specs.Description.{InformationSet, SetKey}
use Rattle.gf_tree.specs.FiniteMap.{Described}
use Rattle.gf_tree.specs.Game.{Node}
use Rattle.gf_tree.specs.PrefixOrder.{Listed}
use Rattle.gf_tree.specs.Told.{used_sets_from, Heading, Told, heading_in, kept_as, told_from}
use Rattle.gf_tree.specs.Told.{told_node, used_outcomes_from}
use Rattle.gf_tree.specs.KeptNode.{Kept}
use Rattle.gf_tree.specs.inner.KeptNodes.{AreAmong, IsAmong, child_count, entries_with, entry_with}
use Rattle.gf_tree.specs.inner.Machine.{with_node, Position, Content, nothing, Begun, State, run}
use Rattle.gf_tree.specs.inner.Machine.Position.{Format, NodeDue}
use Rattle.gf_tree.specs.declared.game.numbered_node.Numbering.TheVariants.{ByFirstUse}
use Rattle.gf_tree.specs.inner.ReadGame.{game_in}
use Rattle.gf_tree.specs.declared.reader.Reader.{Reader}

abbrev pub content_of : Reader → Content
content_of r = record {
  title = label_of r.title;
  comment = label_of r.comment;
  players = map label_of r.players.items;
  nodes = [];
  due = r.due;
  sets = r.sets.known;
  outcomes = r.outcomes.known;
}

-- the heading that was read
abbrev pub heading_read : Reader → Heading
heading_read r = heading_in (game_in (content_of r))

-- with these nodes, which it was told
abbrev pub content_with : Reader → List Kept → Content
content_with r nodes = record (content_of r) {
  nodes = entries_with r.sets.known r.outcomes.known nodes;
}

abbrev pub Answer : Type 0
Answer = any_format.Answer Content

abbrev pub heard : Position → Content → Remaining → Answer
heard q c t = record { input = t.input; machine = run (length t.input) q c t.ahead }

abbrev pub heard_from : State → Remaining → Answer
heard_from s t = heard s.position s.content t

abbrev pub answer : Position → Reader → Answer
answer q r = heard q (content_of r) r.tokens

-- a node with this name, whose set has this position, or 0
abbrev pub begun_with : List (Described SetKey InformationSet) → List ℕ → ℕ → Begun
begun_with sets name position = record {
  name = name;
  set = option_map (λ s. s.key) (at_position sets position);
  children = child_count sets position;
}

-- no more tokens are to come than before
abbrev pub IsNoLonger : Reader → Reader → Type 0
IsNoLonger old new = length new.tokens.ahead ≤ length old.tokens.ahead

-- one list is a prefix of the other
pub record Grows {A : Type 0} (old new : List A) : Type 0 where
  pub more : List A
  pub parts : new ≡ old ++ more

-- tokens were taken, and nothing else has changed
abbrev pub ReadsTokens : Reader → Reader → Type 0
ReadsTokens old new = (new ≡ record old { tokens = new.tokens }) × IsNoLonger old new

-- a part of a set's description was read: nothing has changed but the tokens to come, and the
-- description
abbrev pub ReadsAction : Reader → Reader → Type 0
ReadsAction old new = (new ≡ record old {
  tokens = new.tokens;
  sets = record old.sets { pending = new.sets.pending };
}) × IsNoLonger old new

-- a set was read: nothing has changed but the tokens to come, and the sets
abbrev pub ReadsSet : Reader → Reader → Type 0
ReadsSet old new = (new ≡ record old {
  tokens = new.tokens;
  seed = new.seed;
  sets = new.sets;
}) × Grows old.sets.known new.sets.known × IsNoLonger old new

-- a payoff was read: nothing has changed but the tokens to come, and the description
abbrev pub ReadsPayoff : Reader → Reader → Type 0
ReadsPayoff old new = (new ≡ record old {
  tokens = new.tokens;
  outcomes = record old.outcomes { pending = new.outcomes.pending };
}) × IsNoLonger old new

-- a part of the heading was read: nothing has changed but the tokens to come, and the heading
abbrev pub ReadsHeading : Reader → Reader → Type 0
ReadsHeading old new = (new ≡ record old {
  tokens = new.tokens;
  title = new.title;
  comment = new.comment;
  players = new.players;
}) × IsNoLonger old new

-- ---- nodes that were told

-- with these nodes before its own
abbrev pub with_front : List (Listed Node) → Content → Content
with_front nodes c = record c { nodes = nodes ++ c.nodes }

abbrev pub with_nodes : List (Listed Node) → Result Content Fault → Result Content Fault
with_nodes nodes (Ok c) = Ok (with_front nodes c)
with_nodes nodes (Err fault) = Err fault

abbrev pub after_nodes : List (Listed Node) → Answer → Answer
after_nodes nodes a = record { input = a.input; machine = with_nodes nodes a.machine }

-- the children of a node that was told are due in its place, if its set has this position
abbrev pub with_children : Reader → ℕ → Reader
with_children r set = record r { due = r.due - 1 + child_count r.sets.known set }

-- This node was told, and the machine goes on as after it; nothing else has changed.
pub record TellsNode {T : Type 0} (holds : T → T → Heading → List Told → Type 0) (old new : Reader)
    (from to : T) (node : Kept) : Type 0 where
  pub goes : (q : Position) → heard q (with_node (content_of old)
      (begun_with old.sets.known node.name node.set)
      (option_map (λ o. o.key) (at_position old.outcomes.known node.outcome))) old.tokens
      ≡ after_nodes (entry_with new.sets.known new.outcomes.known node ∷ [])
      (answer q (with_children new node.set))
  pub kept : new ≡ record old { told_sets = new.told_sets; told_outcomes = new.told_outcomes }
  pub told : (untold : T) (heading : Heading) (told : List Told) → holds untold from heading told
      → holds untold to heading (told ++ told_node ByFirstUse old.sets.known
      old.outcomes.known old.told_sets old.told_outcomes node ∷ [])
  pub told_sets : new.told_sets ≡ max old.told_sets node.set
  pub told_outcomes : new.told_outcomes ≡ max old.told_outcomes node.outcome

-- One more node was told, whose set has this position, and the machine goes on after it.
pub record Tells {T : Type 0} (holds : T → T → Heading → List Told → Type 0) (set : ℕ)
    (before : Answer) (old new : Reader) (from to : T) : Type 0 where
  pub node : Kept
  pub of_set : node.set ≡ set
  pub goes : before ≡ after_nodes (entry_with new.sets.known new.outcomes.known node ∷ [])
      (answer NodeDue (with_children new set))
  pub placed : IsAmong (length new.sets.known) (length new.outcomes.known) node
  pub told : (untold : T) (heading : Heading) (told : List Told) → holds untold from heading told
      → holds untold to heading (told ++ told_node ByFirstUse new.sets.known
      new.outcomes.known old.told_sets old.told_outcomes node ∷ [])
  pub told_sets : new.told_sets ≡ max old.told_sets node.set
  pub told_outcomes : new.told_outcomes ≡ max old.told_outcomes node.outcome
  pub sets : Grows old.sets.known new.sets.known
  pub outcomes : Grows old.outcomes.known new.outcomes.known
  pub due : new.due ≡ old.due
  pub shorter : IsNoLonger old new

-- it was told these nodes, of which the first is the first one of the file
pub record HasTold {T : Type 0} (holds : T → List Told → Type 0) (r : Reader) (to : T)
    (nodes : List Kept) : Type 0 where
  pub placed : AreAmong (length r.sets.known) (length r.outcomes.known) nodes
  pub told : holds to (told_from ByFirstUse r.sets.known r.outcomes.known 0 0 nodes)
  pub told_sets : r.told_sets ≡ used_sets_from 0 nodes
  pub told_outcomes : r.told_outcomes ≡ used_outcomes_from 0 nodes

-- with them the machine has come from that answer to this position
pub record HasRead {T : Type 0} (holds : T → List Told → Type 0) (before : Answer) (q : Position)
    (r : Reader) (to : T) : Type 0 where
  pub nodes : List Kept
  pub goes : before ≡ after_nodes (entries_with r.sets.known r.outcomes.known nodes) (answer q r)
  pub has_told : HasTold holds r to nodes

-- with them it has come from that answer to the end
pub record HasReadAll {T : Type 0} (holds : T → List Told → Type 0) (before : Answer) (r : Reader)
    (to : T) : Type 0 where
  pub nodes : List Kept
  pub whole : before.machine ≡ Ok (content_with r nodes)
  pub has_told : HasTold holds r to nodes

-- ---- calls

-- A call that tells a node, whose set has this position, is as `Goes` says.
abbrev pub GoesTelling : {A T : Type 0} → (T → T → Heading → List Told → Type 0) → Result A Fault
    → (A → ℕ) → Answer → Reader → Reader → T → T → Type 0
GoesTelling holds result set before old new from to =
    MatchResult result (λ x. Tells holds (set x) before old new from to) (λ f. Fails f before)

-- ---- whole files

-- what the machine answers to all tokens of an input
abbrev pub to_all : List ℕ → List Lexeme → Answer
to_all bytes tokens = heard Format nothing (record { input = bytes; ahead = tokens })

-- A file was read to its end and told, or it was refused.
pub record IsRead {T : Type 0} (holds : T → Heading → List Told → Type 0) (bytes : List ℕ)
    (result : Result Reader Fault) (to : T) : Type 0 where
  pub tokens : List Lexeme
  pub spelled : Spells 0 bytes tokens
  pub answered : MatchResult result
      (λ r. HasReadAll (λ t. holds t (heading_read r)) (to_all bytes tokens) r to)
      (λ f. Fails f (to_all bytes tokens))

-- the nodes of a list are those that it was told
abbrev pub KeepsNodes : List Kept → Heading → List Told → Type 0
KeepsNodes nodes heading told = nodes ≡ map kept_as told

-- the tokens with a text before them
abbrev pub with_text : Remaining → TextToken → Remaining
with_text t label = record t {
  ahead = lexeme label.span.start label.span.end (Text (label_of label.label)) ∷ t.ahead;
}
