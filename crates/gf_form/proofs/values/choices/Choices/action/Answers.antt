use Rattle.gf_form.proofs.Common.{choices_by, arith, map, ◌%◌, ◌+◌, ◌/◌, ◌≡◌, ℕ}
use Rattle.gf_form.proofs.lemmas.rows.Descents.{set_there}
use Rattle.gf_form.proofs.lemmas.values.Walks.{choice_is}
use Rattle.gf_form.proofs.values.choices.Choices.action.Goals as goal

pub returns-in-Given : goal.returns-in-Given
returns-in-Given c g key game are personal his at count = grind (arith, choice_is)

-- by what is read of a set
by_stride : (number given stride actions m result choice : ℕ)
    → result ≡ number / given % actions + 1 → given ≡ stride → m ≡ actions
    → choice ≡ number / stride % m + 1 → result ≡ choice
by_stride number given stride actions m result choice is at many chosen = cc

pub returns-in-OfProfile : goal.returns-in-OfProfile
returns-in-OfProfile c g key game are personal his at count =
    let digits = c.in-OfProfile.digits.now in
    let known = rw c.in-OfProfile.is at are in
    let set = set_there g key c.args.actions count in
    let stride = choice_is g (map (λ own. own.items) digits.strides.items) c.args.player
    c.args.position key game his at in
    let chosen = known.0.strides c.in-OfProfile.number known.1 key set.0 set.1 (omega arith) in
    let given : c.unwrap_or-stride.result
    ≡ choices_by g (map (λ own. own.items) digits.strides.items) key = grind (arith, stride) in
    rw c.in-OfProfile.is (by_stride _ _ _ _ _ _ _ c.action_in.ensures given set.2 chosen)
