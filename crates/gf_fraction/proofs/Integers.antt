-- Laws of ℤ that std lacks, and sizes with a sign.
use Rattle.std.proofs.Common.{◌≡◌, ℕ, ℤ, pos, ◌+◌, ◌*◌, ◌<◌, Bool, arith, ap, sym, ◌∙◌}
use Rattle.std.specs.Prelude.{◌*ℤ◌, ◌+ℤ◌, unsigned_abs, int_lt}
use Rattle.std.proofs.Math.IntN.{*ℤ_comm}
use borrow.Author.Differences.{up, down, product_is, same_in, sum_is_lem}
use Rattle.gf_fraction.specs.Ratio.{signed}

pub *ℤ_assoc : (a b c : ℤ) → (a *ℤ b) *ℤ c ≡ a *ℤ (b *ℤ c)
*ℤ_assoc a b c =
    let ab = product_is a b in
    let bc = product_is b c in
    let times = λ (k : ℕ) (m n : ℕ) (e : m ≡ n). ap (λ x. x * k) e in
    let left = product_is (a *ℤ b) c in
    let right = product_is a (b *ℤ c) in
    let ups : up ((a *ℤ b) *ℤ c) ≡ up (a *ℤ (b *ℤ c)) =
    omega (
      arith,
      times (up c) _ _ ab.0,
      times (down c) _ _ ab.1,
      times (up a) _ _ bc.0,
      times (down a) _ _ bc.1,
    ) in
    let downs : down ((a *ℤ b) *ℤ c) ≡ down (a *ℤ (b *ℤ c)) =
    omega (
      arith,
      times (down c) _ _ ab.0,
      times (up c) _ _ ab.1,
      times (down a) _ _ bc.0,
      times (up a) _ _ bc.1,
    ) in
    same_in _ _ (λ i. ups i + sym downs i)

pub add-*ℤ : (a b c : ℤ) → (a +ℤ b) *ℤ c ≡ a *ℤ c +ℤ b *ℤ c
add-*ℤ a b c =
    let times = λ (k : ℕ) (m n : ℕ) (e : m ≡ n). ap (λ x. x * k) e in
    let s = sum_is_lem a b in
    let ac = product_is a c in
    let bc = product_is b c in
    let whole = product_is (a +ℤ b) c in
    let t = sum_is_lem (a *ℤ c) (b *ℤ c) in
    same_in _ _ (omega (arith, times (up c) _ _ s, times (down c) _ _ s))

pub *ℤ_right_comm : (a b c : ℤ) → (a *ℤ b) *ℤ c ≡ (a *ℤ c) *ℤ b
*ℤ_right_comm a b c = *ℤ_assoc a b c ∙ ap (λ x. a *ℤ x) (*ℤ_comm b c) ∙ sym (*ℤ_assoc a c b)

pub *-cancel_right : (m n k : ℕ) → 0 < k → m * k ≡ n * k → m ≡ n
*-cancel_right m n k above e = grind arith

pub *ℤ-cancel_right : (a b : ℤ) (k : ℕ) → 0 < k → a *ℤ pos k ≡ b *ℤ pos k → a ≡ b
*ℤ-cancel_right a b k above e = grind (arith, *-cancel_right)

pub *ℤ-one : (z : ℤ) → z *ℤ pos 1 ≡ z
*ℤ-one z = let p = product_is z (pos 1) in same_in _ _ (omega (arith, p.0, p.1))

pub unsigned_abs-signed : (s : Bool) (n : ℕ) → unsigned_abs (signed s n) ≡ n
unsigned_abs-signed s n = grind arith

-- an integer is its size with its sign
pub signed-unsigned_abs : (z : ℤ) → signed (int_lt z (pos 0)) (unsigned_abs z) ≡ z
signed-unsigned_abs z = grind arith

pub signed-* : (s : Bool) (m n : ℕ) → signed s m *ℤ pos n ≡ signed s (m * n)
signed-* s m n = grind arith
