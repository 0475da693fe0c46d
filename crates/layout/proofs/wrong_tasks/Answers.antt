-- The first two comparisons say that n is outside 1 to 12. Assumes nothing.
use Rattle.model.proofs.Basics.{◌≡◌, ◌⊎◌, refl, ap, ⊎_elim, ℕ, ◌<◌, ◌≤◌, true, false, not, ltb, ◌||◌, lt-ltb, le-ltb}
use Rattle.model.specs.{is_between, max_plan_doors, wrong_tasks}
use Rattle.model.proofs.Tools.Tests.{or_last, outside}
use Rattle.layout.proofs.wrong_tasks.Goals as goal

is_outside : (n : ℕ) → (n < 1) ⊎ ((1 ≤ n) × (max_plan_doors < n)) → not (is_between 1 max_plan_doors n) ≡ true
is_outside n = ⊎_elim
    (λ (w : n < 1). rw (← outside 1 max_plan_doors n, lt-ltb n 1 w) refl)
    (λ (w : (1 ≤ n) × (max_plan_doors < n)). rw (← outside 1 max_plan_doors n, le-ltb n 1 w.0, lt-ltb max_plan_doors n w.1) refl)

is_inside : (n : ℕ) → (1 ≤ n) × (n ≤ max_plan_doors) → not (is_between 1 max_plan_doors n) ≡ false
is_inside n w = rw (← outside 1 max_plan_doors n, le-ltb n 1 w.0, le-ltb max_plan_doors n w.1) refl

-- n is not from 1 to 12
pub returns-then-n-gt-MAX_DOORS : goal.returns-then-n-gt-MAX_DOORS
unfolding wrong_tasks
returns-then-n-gt-MAX_DOORS c =
    let e = ap (λ b. b || ltb c.args.lent c.args.n) (is_outside c.args.n c.if-n-gt-MAX_DOORS.either) in cc

-- it is: the doors lent decide
pub returns-else-n-gt-MAX_DOORS : goal.returns-else-n-gt-MAX_DOORS
unfolding wrong_tasks
returns-else-n-gt-MAX_DOORS c = or_last _ _ _ (is_inside c.args.n c.if-n-gt-MAX_DOORS.false) refl
