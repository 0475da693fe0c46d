-- Sums over the numbers below n: in two parts, past where nothing is added, with one term changed, and up to a place where something is. Assumes nothing.
use Rattle.model.proofs.Basics.{◌≡◌, sym, ap, ◌≢◌, Bool, true, cond, ℕ, zero, suc, ◌+◌, ◌≤◌, ◌<◌, add-zero, add-suc, arith, le_ind, subst}
use Rattle.model.specs.{sum_below, count_below}
use Rattle.model.proofs.Tools.Tests.{by_last}
use Rattle.model.proofs.Tools.Folds.{sum_cong}

-- those below a, and the b from a on
pub sum_split : (a b : ℕ) (f : ℕ → ℕ) → sum_below (a + b) f ≡ sum_below a f + sum_below b (λ i. f (a + i))
sum_split a zero f = rw (add-zero a) (omega arith)
sum_split a (suc b) f = rw (add-suc a b) (omega (arith, sum_split a b f))

-- nothing is added from m on
pub sum_stays : (m n : ℕ) (f : ℕ → ℕ) → m ≤ n → ((j : ℕ) → m ≤ j → j < n → f j ≡ 0) → sum_below n f ≡ sum_below m f
sum_stays m zero f h e = let z : m ≡ 0 = omega arith in rw z
sum_stays m (suc n) f h e = by_last m (suc n) (omega arith)
    (λ w. ap (λ (k : ℕ). sum_below k f) (sym w))
    (λ w. omega (arith, sum_stays m n f (omega arith) (λ j a l. e j a (omega arith)), e n (omega arith) (omega arith)))

-- c more at t, and the same elsewhere
pub sum_differ : (n t c : ℕ) (f g : ℕ → ℕ) → t < n → g t ≡ f t + c → ((j : ℕ) → j < n → j ≢ t → g j ≡ f j) → sum_below n g ≡ sum_below n f + c
sum_differ zero t c f g h e o = absurd (omega arith)
sum_differ (suc n) t c f g h e o = by_last t n h
    (λ w. omega (arith, sum_cong n g f (λ j l. o j (omega arith) (omega arith)), subst (λ (x : ℕ). g x ≡ f x + c) w e))
    (λ w. omega (arith, sum_differ n t c f g w e (λ j l. o j (omega arith)), o n (omega arith) (omega arith)))

-- a longer sum is no less
pub sum_longer : (m n : ℕ) (f : ℕ → ℕ) → m ≤ n → sum_below m f ≤ sum_below n f
sum_longer m n f h = le_ind (λ (k : ℕ). sum_below m f ≤ sum_below k f) (omega arith) (λ k a l. omega arith) n h

-- what passes at m is counted beyond m
pub count_less : (m n : ℕ) (test : ℕ → Bool) → m < n → test m ≡ true → count_below m test < count_below n test
unfolding count_below
count_less m n test h e =
    let f : ℕ → ℕ = λ i. cond (test i) 1 0 in
    let one : f m ≡ 1 = rw e in
    omega (arith, sum_longer (suc m) n f h)
