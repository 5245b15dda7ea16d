use Rattle.gf_form.proofs.Common.{arith, length, rows_of, take, take-length, ◌∙◌, ◌≡◌}
use Rattle.gf_form.proofs.lemmas.rows.FlatRows.{none_ordered}
use Rattle.gf_form.proofs.lemmas.rows.ListedTerms.{all_alike, joined, rises}
use Rattle.gf_form.proofs.lemmas.rows.PayingTerms.{first_fitting, settled_as_well}
use Rattle.gf_form.proofs.rows.listed.listed_over.Goals as goal

pub loop-start-init : goal.loop-start-init
loop-start-init c =
    let terms = c.new-terms.ensures in record {
      fitting = first_fitting (rows_of c.args.payoffs.now) c.new-terms.result terms.none
          terms.shaped;
      next = λ d _. (none_ordered c.new-terms.result terms.none).1 _;
      players = terms.players;
      den = terms.den;
      within = omega arith;
    }

pub push_fitting-requires-clause-alike : goal.push_fitting-requires-clause-alike
push_fitting-requires-clause-alike c =
    let end = c.alike_end-end.ensures in
    all_alike c.args.nodes.now c.requires c.loop-start.start c.alike_end-end.result end.onward
    end.within end.alike

pub loop-start-preserved : goal.loop-start-preserved
loop-start-preserved c =
    let nodes = c.args.nodes.now in
    let start = c.loop-start.start in
    let stop = c.alike_end-end.result in
    let end = c.alike_end-end.ensures in
    let more = c.in_ok-more.ensures in
    let inv = c.loop-start.invariant in
    record {
      fitting = rw (joined nodes c.requires start stop end.onward end.within end.alike)
          ((rw c.in-Some.is at more.fitting) (take start nodes) inv.fitting);
      next = λ d less e some. omega (
        arith,
        more.ends e some,
        rises nodes c.requires start stop end.onward end.within end.alike d less,
      );
      players = more.alike.0 ∙ inv.players;
      den = more.alike.1 ∙ inv.den;
      within = end.within;
    }

pub returns-clause-listed : goal.returns-clause-listed
returns-clause-listed c =
    let inv = c.loop-start.invariant in
    let all : c.loop-start.start ≡ length c.args.nodes.now =
    omega (arith, c.loop-start-test.false, inv.within) in
    settled_as_well (rows_of c.args.payoffs.now) c.args.nodes.now c.loop-start.size c.args.players
    c.loop-start.terms (omega (arith, inv.den)) (omega (arith, inv.den)) inv.players
    (rw (all, take-length) at inv.fitting)
