-- Sameness of files is an equivalence, with their names or without.
use Rattle.gf_canon.proofs.Common.{arith, sym, ◌∙◌, Table, same_back, same_itself, same_on}
use Rattle.gf_canon.proofs.Common.{GameFile, IsGameFile, SameFile, extensive, strategic, file_by}
use Rattle.gf_canon.proofs.Common.{SameBy, Names}
use Rattle.gf_nfg.specs.SameTable.{SameTable}
use Rattle.gf_canon.proofs.lemmas.sameness.Unnamed.{unnamed_is_game}

-- ---- files

back : (t u : Table) → SameTable t u → SameTable u t
back t u same = record {
  title = sym same.title;
  comment = sym same.comment;
  play = record {
    players = sym same.play.players;
    strategies = sym same.play.strategies;
    payoffs = λ profile payoffs. let pay = same.play.payoffs profile payoffs in (pay.1, pay.0);
  };
}

on : (t u v : Table) → SameTable t u → SameTable u v → SameTable t v
on t u v first second = record {
  title = first.title ∙ second.title;
  comment = first.comment ∙ second.comment;
  play = record {
    players = first.play.players ∙ second.play.players;
    strategies = first.play.strategies ∙ second.play.strategies;
    payoffs = λ profile payoffs. grind (
      arith,
      first.play.payoffs profile payoffs,
      second.play.payoffs profile payoffs,
    );
  };
}

file_itself : (x : GameFile) → IsGameFile x → SameFile x x
file_itself x file = grind (arith, same_itself)

file_back : (x y : GameFile) → IsGameFile x → SameFile x y → SameFile y x
file_back (strategic t) (strategic u) file same = back t u same
file_back x y file same = grind (arith, same_back)

file_on : (x y z : GameFile) → SameFile x y → SameFile y z → SameFile x z
file_on (extensive g) (extensive h) (extensive k) first second = same_on g h k first second
file_on (strategic t) (strategic u) (strategic v) first second = on t u v first second
file_on _ _ _ first second = grind arith

-- ---- with names, or without

pub reflexive : (names : Names) (x : GameFile) → IsGameFile x → SameBy names x x
reflexive names x file = file_itself (file_by names x) (grind (arith, unnamed_is_game))

pub symmetric : (names : Names) (x y : GameFile) → IsGameFile x → SameBy names x y
    → SameBy names y x
symmetric names x y file =
    file_back (file_by names x) (file_by names y) (grind (arith, unnamed_is_game))

pub transitive : (names : Names) (x y z : GameFile) → SameBy names x y → SameBy names y z
    → SameBy names x z
transitive names x y z = file_on (file_by names x) (file_by names y) (file_by names z)
