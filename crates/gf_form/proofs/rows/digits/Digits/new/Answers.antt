use Rattle.gf_form.proofs.Common.{action_counts, steps_after, players_of, strides_of, in_order, ℕ}
use Rattle.gf_form.proofs.Common.{map_push, Global, length, arith, take, Vec, map, ◌+◌, ◌<◌, ◌≡◌}
use Rattle.gf_form.proofs.lemmas.strategies.CountedActions.{next_player, all_counted, take_past}
use Rattle.gf_form.proofs.lemmas.strategies.CountedActions.{as_many_players}
use Rattle.gf_form.proofs.lemmas.rows.Digits.{in_order_more, strides_long, player_made, steps_long}
use Rattle.gf_form.proofs.lemmas.rows.GameDigits.{has_digits, width_fits, first_few}
use Rattle.gf_form.proofs.rows.digits.Digits.new.Goals as goal

pub unwrap-own_steps-requires : goal.unwrap-own_steps-requires
unwrap-own_steps-requires c =
    let g = c.requires.0 in
    let are = c.requires.1 in
    let less : c.loop-place.place < length g.players =
    omega (arith, c.loop-place-test.true, all_counted g c.args.counts.now are) in
    let put = rw (c.of_player.ensures.counts g are) at
    (c.in_ok-put_digits.ensures _ (c.loop-place.invariant g are).digits) in
    let few = first_few g are.is_game c.args.counts.now are _ less in
    grind (arith, put, width_fits _ few.0 few.1)

pub loop-place-preserved : goal.loop-place-preserved
loop-place-preserved c g are =
    let i = c.loop-place.place in
    let less : i < length g.players =
    omega (arith, c.loop-place-test.true, all_counted g c.args.counts.now are) in
    let first = take i (map (action_counts g) (players_of g)) in
    let inv = c.loop-place.invariant g are in
    let own = c.of_player.ensures.counts g are in
    let few = first_few g are.is_game c.args.counts.now are i less in
    let put = rw (c.unwrap-own_steps.ensures, own) at
    (c.in_ok-put_digits.ensures (in_order first) inv.digits) in
    let made = (rw own at c.in_ok-own_strides.ensures) (in_order first) inv.choices few.0 few.1 in
    let order = in_order_more first (action_counts g (i + 1)) in
    rw (next_player g (action_counts g) i less) (record {
      digits = rw order put.0;
      steps = player_made (steps_after 1) (steps_long 1) first _ c.unwrap-own_steps.result.0.items
          _ _ (rw c.in_ok-push.ensures.items (map_push (λ (own : Vec ℕ Global). own.items)
          c.loop-place.steps.items c.unwrap-own_steps.result.0)) put.1 inv.steps;
      strides = player_made strides_of strides_long first _ c.in_ok-own_strides.own_strides.items
          _ _ (rw c.in_ok-push-2.ensures.items (map_push (λ (own : Vec ℕ Global). own.items)
          c.loop-place.all_strides.items c.in_ok-own_strides.own_strides)) made.0 inv.strides;
      choices = rw order made.1;
    })

pub returns : goal.returns
returns c g are =
    let counted = map (action_counts g) (players_of g) in
    let all : take c.loop-place.place counted ≡ counted =
    grind (arith, take_past, all_counted, as_many_players) in
    let inv = rw all at (c.loop-place.invariant g are) in
    has_digits g are.is_game _ c.loop-place.values inv.digits inv.steps inv.strides
