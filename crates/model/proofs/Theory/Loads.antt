-- The load over a list of tasks as a difference of natural numbers: when it is below zero, and how large it can be; 16, and the lightest list of all. Assumes nothing.
use Rattle.model.proofs.Basics.{◌≡◌, refl, sym, ap, ap₂, ◌∙◌, ◌↔◌, true, false, true≢false, cond, ℕ, zero, suc, ◌+◌, ◌-◌, ◌*◌, ◌^◌}
use Rattle.model.proofs.Basics.{◌≤◌, ◌<◌, le_trans, arith}
use Rattle.model.proofs.Basics.{ltb, T, ℤ, pos, negsuc, ◌+ℤ◌, nat_abs, sub_ℕ, ltb-true, ltb-false, lt-ltb, le-ltb, lt_z, non_neg}
use Rattle.model.specs.{Sheet.Sheet, sum_below, bit, member, essential, load_below, load, light_list, too_light, LoadsHold, SomeTooLight}
use Rattle.model.specs.{up, down, lightest_below, lightest_too_light, LightestHolds}
use Rattle.model.proofs.{Tools.Folds.sum_le, Tools.Folds.sum_mono, TaskLists.Masks.by_bit}
use Rattle.model.proofs.Tools.Tests.{by_test, not_both, and_left, and_right, none_at, none_below, one_passes}

-- ---- differences

-- an integer z is `up z` less `down z`

pub sub_pos : (a b : ℕ) → b ≤ a → sub_ℕ a b ≡ pos (a - b)
sub_pos a b h = rw le-ltb

sub_neg : (a b : ℕ) → a < b → sub_ℕ a b ≡ negsuc (b - suc a)
sub_neg a b h = rw lt-ltb

-- equal differences
sub_same : (a b c d : ℕ) → a + d ≡ c + b → sub_ℕ a b ≡ sub_ℕ c d
sub_same a b c d e = by_test (ltb a b)
    (λ w. rw (w, lt-ltb c d (omega (arith, ltb-true))) (ap negsuc (omega (arith, ltb-true))))
    (λ w. rw (w, le-ltb c d (omega (arith, ltb-false))) (ap pos (omega (arith, ltb-false))))

pos_sub : (n : ℕ) → pos n ≡ sub_ℕ n 0
pos_sub n = rw (le-ltb n 0 (omega arith)) (ap pos (omega arith))

negsuc_sub : (n : ℕ) → negsuc n ≡ sub_ℕ 0 (suc n)
negsuc_sub n = rw (lt-ltb 0 (suc n) (omega arith)) (ap negsuc (omega arith))

sub_add : (a b : ℕ) (z : ℤ) → sub_ℕ a b +ℤ z ≡ sub_ℕ (a + up z) (b + down z)
sub_add a b (pos u) = by_test (ltb a b)
    (λ w. ap (λ x. x +ℤ pos u) (sub_neg a b (ltb-true a b w)) ∙ sub_same u (suc (b - suc a)) (a + u) (b + 0) (omega (arith, ltb-true)))
    (λ w. ap (λ x. x +ℤ pos u) (sub_pos a b (ltb-false a b w)) ∙ pos_sub (a - b + u) ∙ sub_same (a - b + u) 0 (a + u) (b + 0) (omega (arith, ltb-false)))
sub_add a b (negsuc v) = by_test (ltb a b)
    (λ w. ap (λ x. x +ℤ negsuc v) (sub_neg a b (ltb-true a b w)) ∙ negsuc_sub (suc (b - suc a + v))
    ∙ sub_same 0 (suc (suc (b - suc a + v))) (a + 0) (b + suc v) (omega (arith, ltb-true)))
    (λ w. ap (λ x. x +ℤ negsuc v) (sub_pos a b (ltb-false a b w)) ∙ sub_same (a - b) (suc v) (a + 0) (b + suc v) (omega (arith, ltb-false)))

-- a difference is below zero where less is added than taken away
sub_negative : (a b : ℕ) → lt_z (sub_ℕ a b) (pos 0) ≡ ltb a b
sub_negative a b = by_test (ltb a b) (λ w. rw w) (λ w. rw w (le-ltb (a - b) 0 (omega arith)))

-- and is no larger than either
sub_magnitude : (a b m : ℕ) → a ≤ m → b ≤ m → nat_abs (sub_ℕ a b) ≤ m
sub_magnitude a b m h k = by_test (ltb a b) (λ w. rw w (omega (arith, ltb-true))) (λ w. rw w (omega arith))

-- ---- the load

-- what the tasks of K below n add, and what they take away
unfoldable pub ups : Sheet → ℕ → ℕ → ℕ
ups S K n = sum_below n (λ j. bit K j * up (S.change j))

unfoldable pub downs : Sheet → ℕ → ℕ → ℕ
downs S K n = sum_below n (λ j. bit K j * down (S.change j))

-- the part of task n, where it is in K
part : (f : ℤ → ℕ) → f (pos 0) ≡ 0 → (K n : ℕ) (z : ℤ) → f (cond (member K n) z (pos 0)) ≡ bit K n * f z
part f e K n z = by_bit K n (λ w. rw w (omega arith)) (λ w. rw w (omega arith))

-- the load is a difference: the end load and what is added, less what is taken away
pub load_over : (S : Sheet) (K n : ℕ) → load_below S K n ≡ sub_ℕ (S.end_load + ups S K n) (downs S K n)
unfolding ups downs
load_over S K zero = pos_sub S.end_load ∙ sub_same S.end_load 0 (S.end_load + 0) 0 (omega arith)
load_over S K (suc n) =
    let z : ℤ = cond (member K n) (S.change n) (pos 0) in
    let u : S.end_load + ups S K n + up z ≡ S.end_load + ups S K (suc n) = omega (arith, part up refl K n (S.change n)) in
    let d : downs S K n + down z ≡ downs S K (suc n) = omega (arith, part down refl K n (S.change n)) in
    ap (λ x. x +ℤ z) (load_over S K n) ∙ sub_add (S.end_load + ups S K n) (downs S K n) z ∙ ap₂ sub_ℕ u d

once : (K j x : ℕ) → bit K j * x ≤ x
once K j x = by_bit K j (λ w. rw w (omega arith)) (λ w. rw w (omega arith))

-- a load, and each part of its sum, is at most m, up or down; nothing is asked of its sign
pub load_below_magnitude : (S : Sheet) (K n u d m : ℕ) → ((j : ℕ) → j < n → up (S.change j) ≤ u) → ((j : ℕ) → j < n → down (S.change j) ≤ d)
    → S.end_load + n * u ≤ m → n * d ≤ m → nat_abs (load_below S K n) ≤ m
unfolding ups downs
load_below_magnitude S K n u d m hu hd h k = rw (load_over S K n) (sub_magnitude (S.end_load + ups S K n) (downs S K n) m
    (omega (arith, sum_le n u (λ j. bit K j * up (S.change j)) (λ j l. le_trans (once K j (up (S.change j))) (hu j l))))
    (omega (arith, sum_le n d (λ j. bit K j * down (S.change j)) (λ j l. le_trans (once K j (down (S.change j))) (hd j l)))))

pub load_magnitude : (S : Sheet) (K u d m : ℕ) → ((j : ℕ) → j < S.tasks → up (S.change j) ≤ u) → ((j : ℕ) → j < S.tasks → down (S.change j) ≤ d)
    → S.end_load + S.tasks * u ≤ m → S.tasks * d ≤ m → nat_abs (load S K) ≤ m
unfolding load
load_magnitude S K = load_below_magnitude S K S.tasks

-- ---- 16

-- a number is below zero, or it is not
not_negative : (z : ℤ) → (lt_z z (pos 0) ≡ false) ↔ T (non_neg z)
not_negative (pos n) = ((λ e. tt), (λ t. le-ltb n 0 (omega arith)))
not_negative (negsuc n) = ((λ e. absurd (true≢false e)), (λ t. absurd t))

-- a load is below zero where less is added than taken away
pub load_negative : (S : Sheet) (K : ℕ) → lt_z (load S K) (pos 0) ≡ ltb (S.end_load + ups S K S.tasks) (downs S K S.tasks)
unfolding load
load_negative S K = ap (λ x. lt_z x (pos 0)) (load_over S K S.tasks) ∙ sub_negative (S.end_load + ups S K S.tasks) (downs S K S.tasks)

-- and otherwise it is what is added less what is taken away
pub load_number : (S : Sheet) (K : ℕ) → downs S K S.tasks ≤ S.end_load + ups S K S.tasks
    → nat_abs (load S K) + downs S K S.tasks ≡ S.end_load + ups S K S.tasks
unfolding load
load_number S K h = rw (load_over S K S.tasks, sub_pos (S.end_load + ups S K S.tasks) (downs S K S.tasks) h) (omega arith)

pub load_held : (S : Sheet) (K : ℕ) → T (non_neg (load S K)) → downs S K S.tasks ≤ S.end_load + ups S K S.tasks
load_held S K h = ltb-false _ _ (sym (load_negative S K) ∙ (not_negative (load S K)).1 h)

-- 16 does not apply exactly where no essential list has a load below zero
pub loads_hold : (S : Sheet) → too_light S ≡ false → LoadsHold S
unfolding too_light light_list
loads_hold S h K l e = (not_negative (load S K)).0 (rw e at (none_at (2 ^ S.tasks) (light_list S) h K l))

pub hold_passes : (S : Sheet) → LoadsHold S → too_light S ≡ false
unfolding too_light light_list
hold_passes S h = none_below (2 ^ S.tasks) (light_list S) (λ K l. by_test (essential S K)
    (λ w. rw w ((not_negative (load S K)).1 (h K l w)))
    (λ w. rw w))

-- and applies exactly where one has
pub some_light : (S : Sheet) → too_light S ≡ true → SomeTooLight S
unfolding too_light light_list
some_light S h =
    let r = one_passes (2 ^ S.tasks) (light_list S) h in
    let K : ℕ = r.0 in
    (K, r.1, and_left (essential S K) _ r.2, λ n. not_both (and_right (essential S K) _ r.2) ((not_negative (load S K)).1 n))

pub light_some : (S : Sheet) → SomeTooLight S → too_light S ≡ true
light_some S h = by_test (too_light S) (λ w. w) (λ w. absurd (h.3 (loads_hold S w h.0 h.1 h.2)))

-- ---- the lightest list of all

-- it takes all away and adds nothing
lightest_over : (S : Sheet) (n : ℕ) → lightest_below S n ≡ sub_ℕ S.end_load (sum_below n (λ j. down (S.change j)))
lightest_over S zero = pos_sub S.end_load
lightest_over S (suc n) =
    ap (λ x. x +ℤ cond (lt_z (S.change n) (pos 0)) (S.change n) (pos 0)) (lightest_over S n)
    ∙ taken S.end_load (sum_below n (λ j. down (S.change j))) (S.change n)
  where
    taken : (a b : ℕ) (z : ℤ) → sub_ℕ a b +ℤ cond (lt_z z (pos 0)) z (pos 0) ≡ sub_ℕ a (b + down z)
    taken a b (pos u) = rw (le-ltb u 0 (omega arith)) (sub_add a b (pos 0) ∙ ap (λ x. sub_ℕ x (b + 0)) (omega arith))
    taken a b (negsuc v) = sub_add a b (negsuc v) ∙ ap (λ x. sub_ℕ x (b + suc v)) (omega arith)

pub lightest_holds : (S : Sheet) → lightest_too_light S ≡ false → LightestHolds S
unfolding lightest_too_light
lightest_holds S h = ltb-false _ _ (sym (sub_negative S.end_load _) ∙ sym (ap (λ x. lt_z x (pos 0)) (lightest_over S S.tasks)) ∙ h)

-- no list takes more away: where the lightest holds, every list's load is not below zero
pub none_lighter : (S : Sheet) (K : ℕ) → LightestHolds S → lt_z (load S K) (pos 0) ≡ false
unfolding downs
none_lighter S K h = load_negative S K ∙ le-ltb (S.end_load + ups S K S.tasks) (downs S K S.tasks)
    (omega (arith, h, sum_mono S.tasks (λ j. bit K j * down (S.change j)) (λ j. down (S.change j)) (λ j l. once K j (down (S.change j)))))

-- so a sheet that passes the old 16 passes the new one
pub lightest_passes : (S : Sheet) → lightest_too_light S ≡ false → too_light S ≡ false
unfolding too_light light_list
lightest_passes S h = none_below (2 ^ S.tasks) (light_list S) (λ K l. by_test (essential S K)
    (λ w. rw w (none_lighter S K (lightest_holds S h)))
    (λ w. rw w))
