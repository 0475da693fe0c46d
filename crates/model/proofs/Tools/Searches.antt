-- A loop that tries the numbers below m for one that fails a test: its invariant, one turn more, and its two ends. For one that passes, what fails is its
-- opposite. Assumes nothing.
use Rattle.model.proofs.Basics.{◌≡◌, refl, sym, ap, ◌∙◌, Bool, true, false, not, ℕ, ◌+◌, ◌≤◌, ◌<◌, arith}
use Rattle.model.specs.{all_below, any_below}
use Rattle.model.proofs.Tools.Tests.{all_false, all_next, any_not}

-- ---- for one that fails

-- of m numbers to try those below i are tried, and all of them pass
pub record PassedBelow (m : ℕ) (test : ℕ → Bool) (i : ℕ) : Type 0 where
  pub within : i ≤ m
  pub all : all_below i test ≡ true

module _ {m : ℕ} {test : ℕ → Bool} where
  pub none_tried : PassedBelow m test 0
  none_tried = record { within = omega arith; all = refl }

  module _ {i : ℕ} (s : PassedBelow m test i) where
    pub passed_on : i < m → test i ≡ true → PassedBelow m test (i + 1)
    passed_on l e = record { within = omega arith; all = all_next i test s.all e }

    -- the code's count m is the n of the definition
    pub all_passed : {n : ℕ} → m ≤ i → m ≡ n → all_below n test ≡ true
    all_passed {n} l e = let q : n ≡ i = omega (arith, s.within) in rw q s.all

pub one_failed : {m n i : ℕ} (test : ℕ → Bool) → i < m → m ≡ n → test i ≡ false → all_below n test ≡ false
one_failed {m} {n} {i} test l e t = all_false n test i (omega arith) t

-- ---- for one that passes

-- of m numbers to try those below i are tried, and none of them passes
pub record Searched (m : ℕ) (test : ℕ → Bool) (i : ℕ) : Type 0 where
  pub opposite : PassedBelow m (λ j. not (test j)) i

module _ {m i : ℕ} {test : ℕ → Bool} where
  -- r is what the code finds of number i
  pub next : {r : Bool} → Searched m test i → i < m → r ≡ test i → r ≡ false → Searched m test (i + 1)
  next s l h t = record { opposite = passed_on s.opposite l (ap not (sym h ∙ t)) }

  pub none_found : {n : ℕ} → Searched m test i → m ≤ i → m ≡ n → false ≡ any_below n test
  none_found {n} s l e = sym (any_not n test ∙ ap not (all_passed s.opposite l e))

pub found : {m n i : ℕ} {r : Bool} (test : ℕ → Bool) → i < m → m ≡ n → r ≡ test i → r ≡ true → true ≡ any_below n test
found {m} {n} test l e h t = sym (any_not n test ∙ ap not (one_failed (λ j. not (test j)) l e (ap not (sym h ∙ t))))
