use Rattle.gf_form.proofs.Common.{take-length, map-append, node_terms, HasShares, IsExactAt, length}
use Rattle.gf_form.proofs.Common.{node_term, take_more, all_both, at_place, ArePaid, IsShare, Ratio}
use Rattle.gf_form.proofs.Common.{rows_of, term_of, row_at, Share, arith, Game, List, Path, ints, ℕ}
use Rattle.gf_form.proofs.Common.{take, ◌++◌, ◌+ℤ◌, suc, ◌+◌, ◌∷◌, ◌≡◌, [], ℤ}
use Rattle.gf_form.proofs.lemmas.rows.FlatRows.{in_bits}
use Rattle.gf_form.proofs.lemmas.rows.ListedTerms.{bounds_append, shares_append, no_node, node_at}
use Rattle.gf_form.proofs.rows.listed.shares_of.Goals as goal

one_share_more : (g : Game) (rows : List (List Ratio)) (k den : ℕ) (rs : List Path)
    (r : Path) (bound next : ℕ) (amount total : ℤ) (s : Share) → ArePaid g rows
    → IsShare (term_of r (at_place (row_at rows r.outcome) k)) den s
    → total ≡ amount +ℤ s.amount → next ≡ bound + s.bound
    → HasShares g rs k den bound amount → HasShares g (rs ++ r ∷ []) k den next total
one_share_more g rows k den rs r bound next amount total s are is total_is next_is before =
    let own = rw (are.paid_is r.outcome k) at is in
    let all = all_both (IsExactAt den [] []) (node_terms g (suc k) rs)
    (node_term g (suc k) r ∷ []) before.exact (own.exact, tt) in
    grind (arith, shares_append, bounds_append, map-append)

pub loop-node-preserved : goal.loop-node-preserved
loop-node-preserved c =
    let nodes = c.args.nodes.now in
    let at = c.loop-node.node-index in
    let r = node_at nodes at in
    let inv = c.loop-node.invariant in
    let sum = c.loop-node.sum in
    let share = c.in_ok-share.share in
    let amount = c.in_ok-amount.amount in
    let small = c.in_ok-amount.ensures.within in
    let first = in_bits sum.amount inv.0 in
    let second = in_bits share.amount c.in_ok-share.ensures.within in
    let total : amount ≡ sum.amount +ℤ share.amount =
    omega (arith, ints, c.in_ok-amount.ensures.sum, first, second) in
    rw (in_bits amount small) (
      small,
      λ g are. rw (take_more nodes at no_node c.loop-node-test.true)
          (one_share_more g (rows_of c.args.payoffs.now) c.args.place c.args.den
          (take at nodes) r sum.bound c.in_ok-bound.bound sum.amount amount share are
          (rw c.payoff_at-payoff.ensures at c.in_ok-share.ensures.share) total
          c.in_ok-bound.ensures.1 (inv.1 g are)),
    )

pub returns-clause-shares : goal.returns-clause-shares
returns-clause-shares c g are =
    let all : c.loop-node.node-index ≡ length c.args.nodes.now =
    omega (arith, c.loop-node-test.false, c.loop-node.auto.node-index-end) in
    rw (all, take-length) at (c.loop-node.invariant.1 g are)
