use Rattle.gf_tree.proofs.Common.{List, ℕ, subst, Ok}
use Rattle.gf_tree.specs.inner.ReaderState.{IsRead}
use Rattle.gf_tree.proofs.lemmas.reader.Steps.{carried}
use Rattle.gf_tree.proofs.reader.Reader.read.Goals as goal

pub returns-in-Ok : goal.returns-in-Ok
returns-in-Ok r c =
    subst (λ (b : List ℕ). IsRead (r.R.Receive.holds c.args.to.now) b (Ok c.follow.new.self)
    c.follow.new.to) c.new-reader.ensures.input c.in-Ok.ensures

pub returns : goal.returns
returns r c =
    let n = c.new-reader.ensures in
    record {
      tokens = c.new-reader.result.tokens.ahead;
      spelled = n.spelled;
      answered = carried c.in-Err.ensures
          (cc);
    }
