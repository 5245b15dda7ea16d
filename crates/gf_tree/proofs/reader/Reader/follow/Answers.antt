use Rattle.gf_tree.proofs.Common.{◌∙◌, ap, rules, Content, Reader}
use Rattle.gf_tree.proofs.lemmas.reader.Steps.{carried, fails_back}
use Rattle.gf_tree.proofs.lemmas.reader.ToldGames.{read_whole}
use Rattle.gf_tree.proofs.reader.Reader.follow.Goals as goal

pub returns-in_err-last : goal.returns-in_err-last
returns-in_err-last r c =
    fails_back {r = c.from_residual.result} _ (search rules) c.in_err-last.ensures.machine

pub returns-in_err-tell_heading : goal.returns-in_err-tell_heading
returns-in_err-tell_heading r c =
    fails_back {r = c.from_residual-in_err-tell_heading.result} _ (search rules)
    (carried c.in_err-tell_heading.ensures c.in_ok-last.ensures.machine)

pub returns-in_err-nodes : goal.returns-in_err-nodes
returns-in_err-nodes r c =
    fails_back {r = c.from_residual-in_err-nodes.result} _ (search rules)
    (carried (c.in_err-nodes.ensures.machine c.args.to.now c.in_ok-tell_heading.ensures)
    c.in_ok-last.ensures.machine)

pub returns : goal.returns
returns r c =
    let read = c.in_ok-last.ensures.read.0 in
    record {
      tokens = c.args.self.now.tokens.ahead;
      spelled = c.requires.spelled;
      answered = read_whole (r.R.Receive.holds c.args.to.now) c.args.self.now.tokens.input
          c.args.self.now.tokens.ahead c.begin.new.self c.nodes.new.self c.nodes.new.to (record {
            goes = (cc)
                ∙ c.in_ok-last.ensures.machine;
            sets = ap (λ (k : Reader). k.sets.known) read
                ∙ ap (λ (d : Content). d.sets) c.requires.content;
            outcomes = ap (λ (k : Reader). k.outcomes.known) read
                ∙ ap (λ (d : Content). d.outcomes) c.requires.content;
          }) (c.in_ok-nodes.ensures.machine c.args.to.now c.in_ok-tell_heading.ensures);
    }
