-- The first of least cost among the numbers below n that pass a test: the next number leads, or the one found stays. Assumes nothing.
use Rattle.model.proofs.Basics.{◌≡◌, sym, ap, ◌∙◌, subst, Bool, true, false, [], ◌∷◌, append-nil, Option, none, some, ℕ, zero, suc}
use Rattle.model.proofs.Basics.{◌≤◌, ◌<◌, le_refl, arith, ltb, ltb-true, ltb-false}
use Rattle.model.specs.{passing_below, cheaper, first_least}
use Rattle.model.proofs.Tools.{Tests.not_both, Tests.by_last, Tests.by_test, Choices.first_append}

module _ (f : ℕ → ℕ) (able : ℕ → Bool) where
  -- c is the first of the numbers of least cost
  pub record FirstOf (n c : ℕ) : Type 0 where
    pub below : c < n
    pub is_able : able c ≡ true
    pub least_one : (i : ℕ) → i < n → able i ≡ true → f c ≤ f i
    pub first_one : (i : ℕ) → i < c → able i ≡ true → f c < f i

  -- what a scan of the numbers below n has found
  abbrev pub Scanned : ℕ → Option ℕ → Type 0
  Scanned n none = (i : ℕ) → i < n → able i ≡ false
  Scanned n (some c) = FirstOf n c

  -- one number more, which is not before c
  stays : (n c : ℕ) → (able n ≡ true → f c ≤ f n) → FirstOf n c → FirstOf (suc n) c
  stays n c e h = record {
    below = omega (arith, h.below);
    is_able = h.is_able;
    least_one = λ i l a. by_last i n l (λ w. rw w (e (rw w at a))) (λ w. h.least_one i w a);
    first_one = h.first_one;
  }

  -- or is before all others
  leads : (n : ℕ) → able n ≡ true → ((i : ℕ) → i < n → able i ≡ true → f n < f i) → FirstOf (suc n) n
  leads n e h = record {
    below = omega arith;
    is_able = e;
    least_one = λ i l a. by_last i n l (λ w. rw w (le_refl (f n))) (λ w. omega (arith, h i w a));
    first_one = h;
  }

  skip : (n : ℕ) (o : Option ℕ) → able n ≡ false → Scanned n o → Scanned (suc n) o
  skip n none e h = λ i l. by_last i n l (λ w. ap able w ∙ e) (h i)
  skip n (some c) e h = stays n c (λ a. absurd (not_both a e)) h

  take_up : (n : ℕ) (o : Option ℕ) → able n ≡ true → Scanned n o → Scanned (suc n) (cheaper f o (some n))
  take_up n none e h = leads n e (λ i l a. absurd (not_both a (h i l)))
  take_up n (some c) e h = by_test (ltb (f n) (f c))
      (λ w. rw w (leads n e (λ i l a. omega (arith, ltb-true (f n) (f c) w, h.least_one i l a))))
      (λ w. rw w (stays n c (λ a. ltb-false _ _ w) h))

  -- one number more, as an equation
  pub scan_skip : (n : ℕ) → able n ≡ false → first_least f (passing_below (suc n) able) ≡ first_least f (passing_below n able)
  scan_skip n e = rw e (ap (first_least f) (append-nil (passing_below n able)))

  pub scan_take : (n : ℕ) → able n ≡ true → first_least f (passing_below (suc n) able) ≡ cheaper f (first_least f (passing_below n able)) (some n)
  scan_take n e = rw e (first_append f (passing_below n able) (n ∷ []))

  -- the first of least cost, by what holds of it
  pub scan : (n : ℕ) → Scanned n (first_least f (passing_below n able))
  scan zero = λ i l. absurd (omega arith)
  scan (suc n) = by_test (able n)
      (λ w. subst (Scanned (suc n)) (sym (scan_take n w)) (take_up n (first_least f (passing_below n able)) w (scan n)))
      (λ w. subst (Scanned (suc n)) (sym (scan_skip n w)) (skip n (first_least f (passing_below n able)) w (scan n)))
