-- The end load and the negative changes so far, summed in 32 bits. Assumes nothing.
use Rattle.model.proofs.Basics.{◌≡◌, sym, ap, ◌∙◌, true, false, ℕ, suc, ◌^◌, ◌<◌, ℤ, pos, ◌+ℤ◌}
use Rattle.model.specs.{lightest_below, lightest_too_light}
use Rattle.model.specs.Sheet.{Sheet}
use Rattle.model.proofs.Tools.SignedSums.{back, SumBelow}
use lib.Signed.{mag, lt_z}
use mir.Syntax.{w16, w32}
use mir.Val.{to_z, of_z}

-- the sum in the code, of the end load and the negative changes of the tasks below t
abbrev pub LightestBelow : Sheet → ℕ → ℤ → Type 0
LightestBelow S = SumBelow w16 w32 (lightest_below S) 65535

module _ (S : Sheet) {t : ℕ} {sum : ℤ} (h : LightestBelow S t sum) {x : ℤ} (e : x ≡ S.change t) (f : mag x < 2 ^ 15) where
  -- the sign that the code tests
  sign : lt_z (S.change t) (pos 0) ≡ lt_z (to_z w16 (of_z w16 x)) (pos 0)
  sign = ap (λ z. lt_z z (pos 0)) (sym (back w16 x f ∙ e))

  pub taken_away : lt_z (to_z w16 (of_z w16 x)) (pos 0) ≡ true → lightest_below S (suc t) ≡ lightest_below S t +ℤ x
  taken_away n = rw (sign ∙ n, e)

  pub not_taken : lt_z (to_z w16 (of_z w16 x)) (pos 0) ≡ false → lightest_below S (suc t) ≡ lightest_below S t +ℤ pos 0
  not_taken n = rw (sign ∙ n)

pub all_tasks : (S : Sheet) {t : ℕ} {sum : ℤ} → LightestBelow S t sum → t ≡ S.tasks → lt_z sum (pos 0) ≡ lightest_too_light S
unfolding lightest_too_light
all_tasks S h e = ap (λ z. lt_z z (pos 0)) (h.is ∙ ap (lightest_below S) e)
