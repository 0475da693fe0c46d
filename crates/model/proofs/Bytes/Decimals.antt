-- A number in decimal: digits, the first not 0 unless the number is, that stand for the number. Assumes nothing.
use Rattle.model.proofs.Basics.{◌≡◌, refl, ◌∙◌, true, false, List, [], ◌∷◌, ◌++◌, ℕ, zero, suc, ◌+◌, ◌-◌, ◌*◌, ◌/◌, ◌%◌, ◌≤◌, ◌<◌}
use Rattle.model.proofs.Basics.{arith, ltb, length, get_or, length-append, ltb-true, ltb-false}
use Rattle.model.specs.{decimal_by, decimal, Figures.digits_value, Figures.IsDecimal}
use Rattle.model.proofs.Tools.{Lists.All, Lists.all_append, Lists.all_get_d, Tests.by_test}

value_append : (v : ℕ) (ds es : List ℕ) → digits_value v (ds ++ es) ≡ digits_value (digits_value v ds) es
value_append v [] es = refl
value_append v (d ∷ ds) es = value_append (10 * v + (d - 48)) ds es

-- a number below 10 is one digit; another is the digits of its tenth part, and one more
one_digit : (k n : ℕ) → ltb n 10 ≡ true → decimal_by (suc k) n ≡ (48 + n) ∷ []
one_digit k n w = rw (w, decimal_by)

more_digits : (k n : ℕ) → ltb n 10 ≡ false → decimal_by (suc k) n ≡ decimal_by k (n / 10) ++ ((48 + n % 10) ∷ [])
more_digits k n w = rw (w, decimal_by)

-- the digits stand for the number
by_value : (k n : ℕ) → digits_value 0 (decimal_by k n) ≡ n
by_value zero n = omega arith
by_value (suc k) n = by_test (ltb n 10)
    (λ w. rw (one_digit k n w) (omega arith))
    (λ w. rw (more_digits k n w) (value_append 0 (decimal_by k (n / 10)) ((48 + n % 10) ∷ []) ∙ omega (arith, by_value k (n / 10))))

pub decimal_value : (n : ℕ) → digits_value 0 (decimal n) ≡ n
unfolding decimal
decimal_value n = by_value n n

-- each is a digit, 48 to 57
by_digits : (k n : ℕ) → n ≤ k → All (λ d. (48 ≤ d) × (d ≤ 57)) (decimal_by k n)
by_digits zero n l = ((omega arith, omega arith), tt)
by_digits (suc k) n l = by_test (ltb n 10)
    (λ w. rw (one_digit k n w) ((omega arith, omega (arith, ltb-true n 10 w)), tt))
    (λ w. let r = by_digits k (n / 10) (omega (arith, ltb-false n 10 w)) in
    rw (more_digits k n w) (all_append _ (decimal_by k (n / 10)) ((48 + n % 10) ∷ []) r ((omega arith, omega arith), tt)))

pub decimal_digits : (n : ℕ) → All (λ d. (48 ≤ d) × (d ≤ 57)) (decimal n)
unfolding decimal
decimal_digits n = by_digits n n (omega arith)

-- and the first is 0 only where the number is
front_append : (xs ys : List ℕ) → 0 < length xs → get_or (xs ++ ys) 0 0 ≡ get_or xs 0 0
front_append [] ys l = absurd (omega arith)
front_append (x ∷ xs) ys l = refl

some_digit : (k n : ℕ) → 0 < length (decimal_by k n)
some_digit zero n = omega arith
some_digit (suc k) n = by_test (ltb n 10) (λ w. rw (one_digit k n w) (omega arith)) (λ w. rw (more_digits k n w) (simp length-append (omega arith)))

by_first : (k n : ℕ) → 0 < n → 48 < get_or (decimal_by k n) 0 0
by_first zero n l = omega arith
by_first (suc k) n l = by_test (ltb n 10)
    (λ w. rw (one_digit k n w) (omega arith))
    (λ w. rw (more_digits k n w, front_append (decimal_by k (n / 10)) ((48 + n % 10) ∷ []) (some_digit k (n / 10)))
    (by_first k (n / 10) (omega (arith, ltb-false n 10 w))))

pub decimal_first : (n : ℕ) → 0 < n → 48 < get_or (decimal n) 0 0
unfolding decimal
decimal_first n = by_first n n

-- all of it
pub decimal_is : (n : ℕ) → IsDecimal n (decimal n)
unfolding decimal
decimal_is n = record {
  digits = λ i l. all_get_d _ (decimal n) 0 (decimal_digits n) i l;
  value = decimal_value n;
  first = decimal_first n;
  zero_is = λ e. rw e refl;
}
