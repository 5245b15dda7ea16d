-- Games as data: a tree is given by its flat list.
use Rattle.std.specs.Prelude.{ℕ, ℤ, List, [], None, Option, refl}
use Rattle.std.specs.Coded.{Coded, code_by, coded×, coded_ℕ, coded_ℤ, coded_list, coded_option}
use Rattle.gf_fraction.specs.Ratio.{Ratio}
use Rattle.gf_tree.specs.Tree.{Tree}
use Rattle.gf_tree.specs.PrefixOrder.{Listed, flatten}
use Rattle.gf_tree.specs.Grown.{grow, root}
use Rattle.gf_tree.specs.inner.GrowsAgain.{root_grows_again}
use Rattle.gf_tree.specs.FiniteMap.{Described}
use Rattle.gf_tree.specs.Game.{Node, Game}
use Rattle.gf_tree.specs.Description.{Action, SetKey, InformationSet, Outcome}

abbrev text_code : Coded (List ℕ)
text_code = coded_list coded_ℕ

abbrev ratio_code : Coded Ratio
ratio_code = code_by (ℤ × ℕ) (coded× coded_ℤ coded_ℕ)
    (λ r. (r.num, r.den)) (λ p. record { num = p.0; den = p.1 }) (λ _. refl)

abbrev action_code : Coded Action
action_code = code_by (List ℕ × Option Ratio) (coded× text_code (coded_option ratio_code))
    (λ a. (a.label, a.probability)) (λ p. record { label = p.0; probability = p.1 }) (λ _. refl)

abbrev key_code : Coded SetKey
key_code = code_by (ℕ × ℕ) (coded× coded_ℕ coded_ℕ)
    (λ k. (k.player, k.number)) (λ p. record { player = p.0; number = p.1 }) (λ _. refl)

abbrev set_code : Coded InformationSet
set_code = code_by (List ℕ × List Action) (coded× text_code (coded_list action_code))
    (λ s. (s.name, s.actions)) (λ p. record { name = p.0; actions = p.1 }) (λ _. refl)

abbrev outcome_code : Coded Outcome
outcome_code = code_by (List ℕ × List Ratio) (coded× text_code (coded_list ratio_code))
    (λ o. (o.name, o.payoffs)) (λ p. record { name = p.0; payoffs = p.1 }) (λ _. refl)

abbrev described_code : {K D : Type 0} → Coded K → Coded D → Coded (Described K D)
described_code {K} {D} k d = code_by (K × D) (coded× k d)
    (λ e. (e.key, e.description)) (λ p. record { key = p.0; description = p.1 }) (λ _. refl)

abbrev node_code : Coded Node
node_code = code_by (List ℕ × (Option SetKey × Option ℕ))
    (coded× text_code (coded× (coded_option key_code) (coded_option coded_ℕ)))
    (λ n. (n.name, (n.set, n.outcome)))
    (λ p. record { name = p.0; set = p.1.0; outcome = p.1.1 }) (λ _. refl)

abbrev entry_code : Coded (Listed Node)
entry_code = code_by (Node × ℕ) (coded× node_code coded_ℕ)
    (λ e. (e.node, e.children)) (λ p. record { node = p.0; children = p.1 }) (λ _. refl)

-- a node without anything
abbrev pub no_node : Node
no_node = record { name = []; set = None; outcome = None }

abbrev tree_code : Coded (Tree Node)
tree_code = code_by (List (Listed Node)) (coded_list entry_code)
    flatten (λ es. root no_node (grow es)) (root_grows_again no_node)

-- what a game has besides its tree
abbrev Others : Type 0
Others = List (Described SetKey InformationSet) × List (Described ℕ Outcome)

abbrev others_code : Coded Others
others_code = coded× (coded_list (described_code key_code set_code))
    (coded_list (described_code coded_ℕ outcome_code))

abbrev pub game_code : Coded Game
game_code = code_by (List ℕ × (List ℕ × (List (List ℕ) × (Tree Node × Others))))
    (coded× text_code
    (coded× text_code (coded× (coded_list text_code) (coded× tree_code others_code))))
    (λ g. (g.title, (g.comment, (g.players, (g.tree, (g.sets, g.outcomes))))))
    (λ p. record {
      title = p.0;
      comment = p.1.0;
      players = p.1.1.0;
      tree = p.1.1.1.0;
      sets = p.1.1.1.1.0;
      outcomes = p.1.1.1.1.1;
    })
    (λ _. refl)
