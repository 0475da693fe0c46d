-- The numbers below n that pass a test: which stand in the list, and where; and the first of them apart from the others. Most laws go by whether the last number passes.
-- Assumes nothing.
use Rattle.model.proofs.Basics.{◌≡◌, refl, sym, ap, ◌∙◌, ◌≢◌, ⊎_elim, Bool, true, false, cond, List, [], ◌∷◌, ◌++◌, append-nil, ℕ, zero, suc, ◌≤◌}
use Rattle.model.proofs.Basics.{◌<◌, arith, length, get_or, length-append, List·getD-append, get_or_at}
use Rattle.model.specs.{passing_below}
use Rattle.model.proofs.Tools.Tests.{tested, not_both, eq_or_lt, by_last}
use Rattle.model.proofs.Tools.Folds.{flat_cong}

-- an element of a list with x behind it is x, or stands where it stood
snoc_at : (P : ℕ → Type 0) (xs : List ℕ) (x i : ℕ) → i < length (xs ++ (x ∷ [])) → (i ≡ length xs → P x) → (i < length xs → P (get_or xs i 0))
    → P (get_or (xs ++ (x ∷ [])) i 0)
snoc_at P xs x i l last early = ⊎_elim
    (λ (w : i ≡ length xs). rw (get_or_at xs x [] 0 i (sym w)) (last w))
    (λ (w : i < length xs). rw (List·getD-append xs (x ∷ []) 0 i w) (early w))
    (eq_or_lt i (length xs) (omega (arith, length-append xs (x ∷ []))))

module _ (test : ℕ → Bool) where
  -- one number more: it passes and comes last, or it does not
  passing_next : (C : List ℕ → Type 0) (n : ℕ) → (test n ≡ true → C (passing_below n test ++ (n ∷ []))) → (test n ≡ false → C (passing_below n test))
      → C (passing_below (suc n) test)
  passing_next C n one none = ⊎_elim
      (λ (w : test n ≡ true). rw w (one w))
      (λ (w : test n ≡ false). rw (w, append-nil) (none w))
      (tested (test n))

  -- no more pass than there are
  pub passing_few : (n : ℕ) → length (passing_below n test) ≤ n
  passing_few zero = omega arith
  passing_few (suc n) = passing_next (λ xs. length xs ≤ suc n) n
      (λ e. rw length-append (omega (arith, passing_few n)))
      (λ e. omega (arith, passing_few n))

  -- every element is below n and passes: so what holds of such numbers holds of it
  passing_each : (P : ℕ → Type 0) (n : ℕ) → ((d : ℕ) → d < n → test d ≡ true → P d) → (i : ℕ) → i < length (passing_below n test)
      → P (get_or (passing_below n test) i 0)
  passing_each P zero h i l = absurd (omega arith)
  passing_each P (suc n) h i l = passing_next (λ xs. i < length xs → P (get_or xs i 0)) n
      (λ e m. snoc_at P (passing_below n test) n i m (λ w. h n (omega arith) e) (passing_each P n (λ d k e. h d (omega arith) e) i))
      (λ e m. passing_each P n (λ d k e. h d (omega arith) e) i m)
      l

  pub passing_at : (n i : ℕ) → i < length (passing_below n test) → (get_or (passing_below n test) i 0 < n) × (test (get_or (passing_below n test) i 0) ≡ true)
  passing_at n = passing_each (λ d. (d < n) × (test d ≡ true)) n (λ d m e. (m, e))

  -- every number below n that passes is an element
  pub passing_place : (n d : ℕ) → d < n → test d ≡ true → (i : ℕ) × (i < length (passing_below n test)) × (get_or (passing_below n test) i 0 ≡ d)
  passing_place zero d l a = absurd (omega arith)
  passing_place (suc n) d l a = passing_next (λ xs. (i : ℕ) × (i < length xs) × (get_or xs i 0 ≡ d)) n
      (λ e. ⊎_elim
      (λ (w : d ≡ n). let xs = passing_below n test in (length xs, rw length-append (omega arith), get_or_at xs n [] 0 (length xs) refl ∙ sym w))
      (λ (w : d < n). let r = passing_place n d w a in
      (r.0, rw length-append (omega (arith, r.1)), List·getD-append (passing_below n test) (n ∷ []) 0 r.0 r.1 ∙ r.2))
      (eq_or_lt d n l))
      (λ e. ⊎_elim (λ (w : d ≡ n). absurd (not_both a (ap test w ∙ e))) (λ (w : d < n). passing_place n d w a) (eq_or_lt d n l))

  -- the elements rise
  pub passing_rises : (n i j : ℕ) → i < j → j < length (passing_below n test) → get_or (passing_below n test) i 0 < get_or (passing_below n test) j 0
  passing_rises zero i j l m = absurd (omega arith)
  passing_rises (suc n) i j l m = passing_next (λ xs. j < length xs → get_or xs i 0 < get_or xs j 0) n
      (λ e w.
      let k : i < length (passing_below n test) = omega (arith, length-append (passing_below n test) (n ∷ [])) in
      rw (List·getD-append (passing_below n test) (n ∷ []) 0 i k)
      (snoc_at (λ y. get_or (passing_below n test) i 0 < y) (passing_below n test) n j w (λ u. (passing_at n i k).0) (passing_rises n i j l)))
      (λ e w. passing_rises n i j l w)
      m

  -- none passes
  pub passing_none : (n : ℕ) → ((d : ℕ) → d < n → test d ≡ false) → passing_below n test ≡ []
  passing_none zero h = refl
  passing_none (suc n) h = rw (h n (omega arith), append-nil) (passing_none n (λ d l. h d (omega arith)))

-- tests that agree below n
pub passing_cong : (n : ℕ) (f g : ℕ → Bool) → ((d : ℕ) → d < n → f d ≡ g d) → passing_below n f ≡ passing_below n g
passing_cong n f g h = flat_cong n _ _ (λ d l. ap (λ (b : Bool). cond b (d ∷ []) []) (h d l))

-- t is the first that passes f, and g lets all pass but t: f's list is t and then g's
pub passing_first : (f g : ℕ → Bool) (t : ℕ) → f t ≡ true → ((d : ℕ) → d < t → f d ≡ false) → g t ≡ false → ((d : ℕ) → d ≢ t → g d ≡ f d)
    → (n : ℕ) → t < n → passing_below n f ≡ t ∷ passing_below n g
passing_first f g t p b q s zero l = absurd (omega arith)
passing_first f g t p b q s (suc n) l = by_last t n l
    (λ w. rw (← w, p, q, passing_none f t b, passing_none g t (λ d k. s d (omega arith) ∙ b d k)))
    (λ w. rw (passing_first f g t p b q s n w, s n (omega arith)))
