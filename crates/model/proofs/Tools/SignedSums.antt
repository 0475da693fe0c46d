-- A loop that sums signed numbers of one width in a wider one: its invariant, one turn more, and the bound that keeps each sum within it. Assumes nothing.
use Rattle.model.proofs.Basics.{◌≡◌, sym, ap₂, ◌∙◌, Bool, true, false, cond, ℕ, suc, ◌+◌, ◌-◌, ◌*◌, ◌^◌, ◌≤◌, ◌<◌, lt_of_le_of_lt}
use Rattle.model.proofs.Basics.{add-one, arith, ltb, ℤ, pos, negsuc, ◌+ℤ◌, +ℤ_idr, mag, Width, hbits, to_z, of_z, SFits, to_z-of_z}
use Rattle.model.proofs.Basics.{to_z_pos, zero}
use lib.IntN.{neg_ℤ, ◌-ℤ◌}

-- ---- a number of v bits, in w bits

module _ (v : Width) (x : ℤ) (f : mag x < 2 ^ hbits v) where
  pub back : to_z v (of_z v x) ≡ x
  back = to_z-of_z v x (record { sfits = f })

  module _ (w : Width) (g : mag x < 2 ^ hbits w) where
    pub widened_fits : SFits w (to_z v (of_z v x))
    widened_fits = rw back (record { sfits = g })

    -- is the number
    pub widened : to_z w (of_z w (to_z v (of_z v x))) ≡ x
    widened = to_z-of_z w (to_z v (of_z v x)) widened_fits ∙ back

-- ---- how large a sum is

-- the magnitude of a difference, by the test that it makes
difference : (t : Bool) (a b : ℕ) → mag (cond t (negsuc (b - suc a)) (pos (a - b))) ≤ a + b
difference true a b = omega arith
difference false a b = omega arith

pub mag_add : (y z : ℤ) → mag (y +ℤ z) ≤ mag y + suc (mag z)
mag_add (pos a) (pos b) = omega arith
mag_add (pos a) (negsuc b) = difference (ltb a (suc b)) a (suc b)
mag_add (negsuc a) (pos b) = omega (arith, difference (ltb b (suc a)) b (suc a))
mag_add (negsuc a) (negsuc b) = omega arith

mag_neg : (z : ℤ) → mag (neg_ℤ z) ≤ suc (mag z)
mag_neg (pos zero) = omega arith
mag_neg (pos (suc n)) = omega arith
mag_neg (negsuc n) = omega arith

pub mag_sub : (y z : ℤ) → mag (y -ℤ z) ≤ mag y + suc (suc (mag z))
mag_sub y z = omega (arith, mag_add y (neg_ℤ z), mag_neg z)

-- ---- the sum in the code

-- `sum`, of w bits, is the total of the numbers below n: at most `a` at first, and one number of v bits more with each n
pub record SumBelow (v w : Width) (total : ℕ → ℤ) (a n : ℕ) (sum : ℤ) : Type 0 where
  pub is : sum ≡ total n
  pub bound : mag (total n) ≤ a + n * 2 ^ hbits v

pub no_sum : {v w : Width} {total : ℕ → ℤ} {a : ℕ} (e : ℕ) → total 0 ≡ pos e → e ≤ a → e < 2 ^ hbits w → SumBelow v w total a 0 (to_z w e)
no_sum {w = w} e h l f = record { is = to_z_pos w e f ∙ sym h; bound = rw h (omega arith) }

module _ {v w : Width} {total : ℕ → ℤ} {a n : ℕ} {sum : ℤ} (h : SumBelow v w total a n sum) where
  -- number n is summed: x, of v bits
  module _ (x : ℤ) (f : mag x < 2 ^ hbits v) (e : total (suc n) ≡ total n +ℤ x) (room : a + suc n * 2 ^ hbits v < 2 ^ hbits w) where
    next_bound : mag (total (suc n)) ≤ a + suc n * 2 ^ hbits v
    next_bound = rw e (omega (arith, mag_add (total n) x, h.bound, f))

    next : sum +ℤ to_z w (of_z w (to_z v (of_z v x))) ≡ total (suc n)
    next = ap₂ ◌+ℤ◌ h.is (widened v x f w (omega (arith, f, room))) ∙ sym e

    pub next_fits : SFits w (sum +ℤ to_z w (of_z w (to_z v (of_z v x))))
    next_fits = rw next (record { sfits = lt_of_le_of_lt next_bound room })

    pub next_sum : SumBelow v w total a (n + 1) (to_z w (of_z w (sum +ℤ to_z w (of_z w (to_z v (of_z v x))))))
    next_sum = rw add-one (record { is = to_z-of_z w _ next_fits ∙ next; bound = next_bound })

  -- number n is passed over
  pub same_sum : total (suc n) ≡ total n +ℤ pos 0 → SumBelow v w total a (n + 1) sum
  same_sum e =
      let same : total (suc n) ≡ total n = e ∙ +ℤ_idr (total n) in
      rw add-one (record { is = h.is ∙ sym same; bound = rw same (omega (arith, h.bound)) })
