-- Two's complement of two bytes, as the library takes it. Assumes nothing.
use Rattle.model.proofs.Basics.{◌≡◌, ap, ◌∙◌, ℕ, ℤ, pos, negsuc, ◌*◌, ◌≤◌, ◌<◌, ◌^◌, ltb, arith, lt-ltb, le-ltb, ltb-true, ltb-false, to_z, of_z}
use Rattle.model.specs.{signed}
use Rattle.model.proofs.Tools.Tests.{by_test}
use Rattle.std.proofs.lemmas.Int.{of_z-to_z}
use native.Mathlib.Nat.{lt_of_lt_of_le}
use lib.Dec.{lit≤}
use lib.IntN.{◌-ℤ◌}
use lib.Signed.{mag}
use mir.Syntax.{w16, w32}
use mir.Val.{SFits}
use mir.ValLaws.{to_z-of_z, to_z_pos}

two_bytes : (n : ℕ) → n < 2 ^ 16 → to_z w16 n ≡ signed 2 n
unfolding signed
two_bytes n h = by_test (ltb (2 * n) (256 ^ 2))
    (λ w. rw (w, lt-ltb n 32768 (omega (arith, ltb-true (2 * n) (256 ^ 2) w))))
    (λ w. rw (w, le-ltb n 32768 (omega (arith, ltb-false (2 * n) (256 ^ 2) w))) (ap negsuc (omega arith)))

pub signed_16 : (n : ℕ) (z : ℤ) → n < 2 ^ 16 → z ≡ to_z w16 n → to_z w16 (of_z w16 z) ≡ signed 2 n
signed_16 n z h e = rw (e, of_z-to_z w16 n h) (two_bytes n h)

-- ---- taken by hand

-- below 32,768 a number stands for itself
pub signed_small : (n : ℕ) → n < 32768 → to_z w16 n ≡ signed 2 n
unfolding signed
signed_small n h = simp (lt-ltb n 32768 h, lt-ltb (2 * n) 65536 (omega arith))

module _ (n : ℕ) (h : 32768 ≤ n) (g : n < 65536) where
  -- and from there on for itself less 65,536
  less : to_z w32 n -ℤ pos 65536 ≡ signed 2 n
  unfolding signed
  less =
      ap (λ (z : ℤ). z -ℤ pos 65536) (to_z_pos w32 n (lt_of_lt_of_le g (lit≤ tt)))
      ∙ simp (lt-ltb n 65536 g, le-ltb (2 * n) 65536 (omega arith)) (ap negsuc (omega arith))

  low : mag (signed 2 n) < 32768
  unfolding signed
  low = simp (le-ltb (2 * n) 65536 (omega arith)) (omega arith)

  -- what the code computes fits 32 bits, reads back from them, fits 16, and reads back from these
  pub less_fits : SFits w32 (to_z w32 n -ℤ pos 65536)
  less_fits = rw less (record { sfits = omega (arith, low) })

  back : to_z w32 (of_z w32 (to_z w32 n -ℤ pos 65536)) ≡ signed 2 n
  back = rw less (to_z-of_z w32 (signed 2 n) (record { sfits = omega (arith, low) }))

  pub less_narrow : SFits w16 (to_z w32 (of_z w32 (to_z w32 n -ℤ pos 65536)))
  less_narrow = rw back (record { sfits = low })

  pub signed_large : to_z w16 (of_z w16 (to_z w32 (of_z w32 (to_z w32 n -ℤ pos 65536)))) ≡ signed 2 n
  signed_large = rw back (to_z-of_z w16 (signed 2 n) (record { sfits = low }))
