use Rattle.std.proofs.Common.{◌≡◌, ◌≤◌, ◌^◌, ℕ, arith, get_or}
use Rattle.gf_fraction.specs.declared.lowest.TheConstants.{POWERS_OF_TEN}
use Rattle.gf_fraction.proofs.SmallFactors.{factors_of_ten}

power_at : (i : ℕ) → i ≤ 19 → get_or POWERS_OF_TEN i 0 ≡ 10 ^ i
power_at i within = grind arith

pub lowest-requires : Rattle.gf_fraction.proofs.lowest.lowest_decimal.Goals.lowest-requires
lowest-requires c =
    factors_of_ten _ _ c.args.places _ (power_at c.args.places c.requires) c.from.ensures
