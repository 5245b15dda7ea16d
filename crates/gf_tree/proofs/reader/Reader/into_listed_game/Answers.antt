use Rattle.gf_tree.proofs.lemmas.reader.ToldGames.{listed, listed_spelled}

pub new-requires : Rattle.gf_tree.proofs.reader.Reader.into_listed_game.Goals.new-requires
new-requires c = listed c.requires.0 c.args.self c.args.nodes c.requires.1

pub returns : Rattle.gf_tree.proofs.reader.Reader.into_listed_game.Goals.returns
returns c = λ bytes read. rw c.new.ensures (listed_spelled bytes c.args.self c.args.nodes read)
