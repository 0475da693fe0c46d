-- Sums, lists one behind the other, and the elements that pass a test: laws by going down from n, or along the list. Assumes nothing.
use Rattle.model.proofs.Basics.{◌≡◌, refl, sym, ap, ap₂, ◌∙◌, subst, ◌≢◌, Bool, true, false, List, [], ◌∷◌, ◌++◌, map, ℕ, zero, suc, ◌+◌}
use Rattle.model.proofs.Basics.{◌*◌, ◌≤◌, ◌<◌, arith, length, get_or, length-append, List·getD-append, get_or_at, append-nil, append_assoc}
use Rattle.model.specs.{sum_below, flat_map_below, map_below, keep_if, is_empty}
use Rattle.model.proofs.Tools.Tests.{by_last, by_test}

-- ---- sums

pub sum_cong : (n : ℕ) (f g : ℕ → ℕ) → ((j : ℕ) → j < n → f j ≡ g j) → sum_below n f ≡ sum_below n g
sum_cong zero f g h = refl
sum_cong (suc n) f g h = ap₂ ◌+◌ (sum_cong n f g (λ j l. h j (omega arith))) (h n (omega arith))

-- the first apart from the others
pub sum_first : (n : ℕ) (f : ℕ → ℕ) → sum_below (suc n) f ≡ f 0 + sum_below n (λ j. f (suc j))
sum_first zero f = omega arith
sum_first (suc n) f = omega (arith, sum_first n f)

pub sum_le : (n c : ℕ) (f : ℕ → ℕ) → ((j : ℕ) → j < n → f j ≤ c) → sum_below n f ≤ n * c
sum_le zero c f h = omega arith
sum_le (suc n) c f h = omega (arith, sum_le n c f (λ j l. h j (omega arith)), h n (omega arith))

pub sum_none : (n : ℕ) (f : ℕ → ℕ) → ((j : ℕ) → j < n → f j ≡ 0) → sum_below n f ≡ 0
sum_none n f h = omega (arith, sum_le n 0 f (λ j l. omega (arith, h j l)))

pub sum_zero : (n : ℕ) (f : ℕ → ℕ) → sum_below n f ≡ 0 → (j : ℕ) → j < n → f j ≡ 0
sum_zero zero f e j l = absurd (omega arith)
sum_zero (suc n) f e j l = by_last j n l (λ w. ap f w ∙ omega arith) (λ w. sum_zero n f (omega arith) j w)

-- c more at t, and the same elsewhere
pub sum_plus : (f g : ℕ → ℕ) (c t n : ℕ) → t < n → g t ≡ c + f t → ((j : ℕ) → j ≢ t → g j ≡ f j) → sum_below n g ≡ c + sum_below n f
sum_plus f g c t zero h e o = absurd (omega arith)
sum_plus f g c t (suc n) h e o = by_last t n h
    (λ w. omega (arith, sum_cong n g f (λ j l. o j (omega arith)), subst (λ (x : ℕ). g x ≡ c + f x) w e))
    (λ w. omega (arith, sum_plus f g c t n w e o, o n (omega arith)))

-- one more at t
pub sum_more : (f g : ℕ → ℕ) (t n : ℕ) → t < n → g t ≡ suc (f t) → ((j : ℕ) → j ≢ t → g j ≡ f j) → sum_below n g ≡ suc (sum_below n f)
sum_more f g t n h e o = omega (arith, sum_plus f g 1 t n h (omega arith) o)

pub sum_mono : (n : ℕ) (f g : ℕ → ℕ) → ((j : ℕ) → j < n → f j ≤ g j) → sum_below n f ≤ sum_below n g
sum_mono zero f g h = omega arith
sum_mono (suc n) f g h = omega (arith, sum_mono n f g (λ j l. h j (omega arith)), h n (omega arith))

pub sum_add : (n : ℕ) (f g : ℕ → ℕ) → sum_below n (λ i. f i + g i) ≡ sum_below n f + sum_below n g
sum_add zero f g = refl
sum_add (suc n) f g = omega (arith, sum_add n f g)

pub sum_times : (n c : ℕ) (f : ℕ → ℕ) → sum_below n (λ i. c * f i) ≡ c * sum_below n f
sum_times zero c f = omega arith
sum_times (suc n) c f = omega (arith, sum_times n c f)

-- ---- lists one behind the other

module _ {A : Type 0} where
  pub flat_cong : (n : ℕ) (f g : ℕ → List A) → ((i : ℕ) → i < n → f i ≡ g i) → flat_map_below n f ≡ flat_map_below n g
  flat_cong zero f g h = refl
  flat_cong (suc n) f g h = ap₂ ◌++◌ (flat_cong n f g (λ i l. h i (omega arith))) (h n (omega arith))

  -- the first apart from the others
  pub flat_first : (n : ℕ) (f : ℕ → List A) → flat_map_below (suc n) f ≡ f 0 ++ flat_map_below n (λ i. f (suc i))
  flat_first zero f = sym (append-nil (f 0))
  flat_first (suc n) f = ap (λ l. l ++ f (suc n)) (flat_first n f) ∙ append_assoc (f 0) (flat_map_below n (λ i. f (suc i))) (f (suc n))

  -- ---- the elements that pass a test

  pub keep_append : (p : A → Bool) (xs ys : List A) → keep_if p (xs ++ ys) ≡ keep_if p xs ++ keep_if p ys
  keep_append p [] ys = refl
  keep_append p (x ∷ xs) ys = by_test (p x) (λ w. rw (w, keep_append p xs ys)) (λ w. rw (w, keep_append p xs ys))

  pub keep_flat : (p : A → Bool) (n : ℕ) (f : ℕ → List A) → keep_if p (flat_map_below n f) ≡ flat_map_below n (λ i. keep_if p (f i))
  keep_flat p zero f = refl
  keep_flat p (suc n) f = keep_append p (flat_map_below n f) (f n) ∙ ap (λ l. l ++ keep_if p (f n)) (keep_flat p n f)

  pub keep_cong : (p q : A → Bool) → ((x : A) → p x ≡ q x) → (xs : List A) → keep_if p xs ≡ keep_if q xs
  keep_cong p q h [] = refl
  keep_cong p q h (x ∷ xs) = rw (h x, keep_cong p q h xs)

  pub keep_none : (p : A → Bool) → ((x : A) → p x ≡ false) → (xs : List A) → keep_if p xs ≡ []
  keep_none p h [] = refl
  keep_none p h (x ∷ xs) = rw (h x) (keep_none p h xs)

  pub empty_nil : (xs : List A) → is_empty xs ≡ true → xs ≡ []
  empty_nil [] h = refl
  empty_nil (x ∷ xs) h = absurd (mathlib.Core.Bool.false≢true h)

pub keep_map : {A B : Type 0} (p : B → Bool) (g : A → B) (xs : List A) → keep_if p (map g xs) ≡ map g (keep_if (λ x. p (g x)) xs)
keep_map p g [] = refl
keep_map p g (x ∷ xs) = by_test (p (g x)) (λ w. rw (w, keep_map p g xs)) (λ w. rw (w, keep_map p g xs))

-- ---- the list f 0, f 1, .. below n

module _ {A : Type 0} where
  pub map_first : (n : ℕ) (f : ℕ → A) → map_below (suc n) f ≡ f 0 ∷ map_below n (λ i. f (suc i))
  unfolding map_below
  map_first n f = flat_first n (λ i. f i ∷ [])

  pub length_map_below : (n : ℕ) (f : ℕ → A) → length (map_below n f) ≡ n
  unfolding map_below
  length_map_below zero f = refl
  length_map_below (suc n) f = simp length-append (omega (arith, length_map_below n f))

  pub map_below_cong : (n : ℕ) (f g : ℕ → A) → ((i : ℕ) → i < n → f i ≡ g i) → map_below n f ≡ map_below n g
  unfolding map_below
  map_below_cong n f g h = flat_cong n _ _ (λ i l. ap (λ (x : A). x ∷ []) (h i l))

  pub map_below_at : (n : ℕ) (f : ℕ → A) (i : ℕ) (d : A) → i < n → get_or (map_below n f) i d ≡ f i
  unfolding map_below
  map_below_at zero f i d l = absurd (omega arith)
  map_below_at (suc n) f i d l = by_last i n l
      (λ w. rw w (get_or_at (flat_map_below n (λ j. f j ∷ [])) (f n) [] d n (length_map_below n f)))
      (λ w. List·getD-append (flat_map_below n (λ j. f j ∷ [])) (f n ∷ []) d i (omega (arith, length_map_below n f)) ∙ map_below_at n f i d w)

pub map_map_below : {A B : Type 0} (g : A → B) (n : ℕ) (f : ℕ → A) → map g (map_below n f) ≡ map_below n (λ i. g (f i))
unfolding map_below
map_map_below g zero f = refl
map_map_below g (suc n) f = ap (map g) (map_first n f) ∙ ap (λ l. g (f 0) ∷ l) (map_map_below g n (λ i. f (suc i))) ∙ sym (map_first n (λ i. g (f i)))
