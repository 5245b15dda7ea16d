use Rattle.gf_nfg.proofs.Common.{arith, common_steps}
use Rattle.gf_nfg.proofs.lemmas.texts.Pieces.{kept_through}
use Rattle.gf_nfg.proofs.text.write.write_front.Goals as goal

pub returns-in_err-write_players-clause-kept : goal.returns-in_err-write_players-clause-kept
returns-in_err-write_players-clause-kept c =
    kept_through _ c.args.out.now.items c.push.new.self.items c.write_players.new.out.items
    (grind (arith, common_steps)) (grind arith)
