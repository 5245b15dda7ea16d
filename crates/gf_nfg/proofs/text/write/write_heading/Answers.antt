use Rattle.gf_nfg.proofs.Common.{frame_by, rules}
use Rattle.gf_nfg.proofs.lemmas.texts.Lists.{heading_written}
use Rattle.gf_nfg.proofs.text.write.write_heading.Goals as goal

pub returns-clause-text : goal.returns-clause-text
returns-clause-text c =
    let lists = rw (c.lists.ensures, c.nothing.ensures) at c.in_ok-write_lists.ensures.text in
    heading_written (frame_by c.args.names c.args.frame.now) _ _ _ _ _
    c.in_ok-write_front.ensures.text lists (search rules) c.in_ok-write_ending.ensures.text
