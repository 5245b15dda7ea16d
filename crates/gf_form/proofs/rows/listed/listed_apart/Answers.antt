use Rattle.gf_form.proofs.Common.{all_terms, arith, length, take, take-length, ◌∙◌, ◌≡◌}
use Rattle.gf_form.proofs.lemmas.rows.ListedTerms.{all_alike, joined, rises}
use Rattle.gf_form.proofs.rows.listed.listed_apart.Goals as goal

pub push_nodes-requires-clause-alike : goal.push_nodes-requires-clause-alike
push_nodes-requires-clause-alike c =
    let end = c.alike_end-end.ensures in
    all_alike c.args.nodes.now c.requires c.loop-start.start c.alike_end-end.result end.onward
    end.within end.alike

pub loop-start-preserved : goal.loop-start-preserved
loop-start-preserved c =
    let nodes = c.args.nodes.now in
    let start = c.loop-start.start in
    let stop = c.alike_end-end.result in
    let end = c.alike_end-end.ensures in
    let more = c.in_ok-push_nodes.ensures in
    let inv = c.loop-start.invariant in
    record {
      told = rw (joined nodes c.requires start stop end.onward end.within end.alike)
          (more.told (take start nodes) inv.told);
      next = λ d less e some. omega (
        arith,
        more.ends e some,
        rises nodes c.requires start stop end.onward end.within end.alike d less,
      );
      players = more.players ∙ inv.players;
      within = end.within;
    }

pub returns-clause-listed : goal.returns-clause-listed
returns-clause-listed c =
    let inv = c.loop-start.invariant in
    let all : c.loop-start.start ≡ length c.args.nodes.now =
    omega (arith, c.loop-start-test.false, inv.within) in
    record {
      terms = all_terms c.loop-start.terms;
      told = λ g are k less. (rw (all, take-length) at inv.told.told) g are k (rw inv.players less);
      settle = λ g number steps choices settles. settles;
    }
