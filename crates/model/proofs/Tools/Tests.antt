-- Tests that compute, and the facts that they stand for. Some number below n passes where not all fail, so every law of `any_below` follows from one of
-- `all_below`. Assumes nothing.
use Rattle.model.proofs.Basics.{◌≡◌, refl, sym, ap, ap₂, ◌∙◌, ◌≢◌, ◌⊎◌, inl, inr, ◌↔◌, Bool, true, false, not, ◌&&◌, ◌||◌}
use Rattle.model.proofs.Basics.{true≢false, false≢true, Bool·not-not, List, [], ◌∷◌, ℕ, zero, suc, ◌+◌, ◌≤◌, ◌<◌, add-one, arith}
use Rattle.model.proofs.Basics.{eqb, ltb, leb, eqb-true, eqb-false, eq-eqb, ltb-true, ltb-false, lt-ltb, le-ltb, leb-true, leb-false}
use Rattle.model.proofs.Basics.{le-leb, not-true, not-false}
use Rattle.model.specs.{all_below, any_below, is_between, same_list}

-- by a test: one way where it passes, another where it fails
pub by_test : {P : Type 0} (t : Bool) → (t ≡ true → P) → (t ≡ false → P) → P
by_test true f g = f refl
by_test false f g = g refl

-- a test, with its outcome
pub tested : (b : Bool) → (b ≡ true) ⊎ (b ≡ false)
tested b = by_test b inl inr

-- two tests that pass together are equal
pub same_test : (a b : Bool) → (a ≡ true → b ≡ true) → (b ≡ true → a ≡ true) → a ≡ b
same_test true b f g = sym (f refl)
same_test false true f g = g refl
same_test false false f g = refl

pub not_both : {b : Bool} → b ≡ true → b ≡ false → ⊥
not_both p q = true≢false (sym p ∙ q)

-- ---- and, or, not

pub and_left : (a b : Bool) → (a && b) ≡ true → a ≡ true
and_left true b h = refl
and_left false b h = absurd (false≢true h)

pub and_right : (a b : Bool) → (a && b) ≡ true → b ≡ true
and_right true b h = h
and_right false b h = absurd (false≢true h)

pub and_both : {a b : Bool} → a ≡ true → b ≡ true → (a && b) ≡ true
and_both p q = ap₂ ◌&&◌ p q

pub or_left : (a b : Bool) → (a || b) ≡ false → a ≡ false
or_left true b h = h
or_left false b h = refl

pub or_right : (a b : Bool) → (a || b) ≡ false → b ≡ false
or_right true b h = absurd (true≢false h)
or_right false b h = h

pub three_fail : (a b c : Bool) → (a || b || c) ≡ false → (a ≡ false) × (b ≡ false) × (c ≡ false)
three_fail a b c h = let p = or_left (a || b) c h in (or_left a b p, or_right a b p, or_right (a || b) c h)

pub or_neither : {a b : Bool} → a ≡ false → b ≡ false → (a || b) ≡ false
or_neither p q = ap₂ ◌||◌ p q

pub or-true : (a b : Bool) → b ≡ true → (a || b) ≡ true
or-true true b h = refl
or-true false b h = h

-- behind a test that fails another decides
pub or_last : (a t r : Bool) → a ≡ false → r ≡ t → r ≡ (a || t)
or_last a t r h e = rw h e

-- one test implies another
pub implied : (a b : Bool) → ((not a || b) ≡ true) ↔ (a ≡ true → b ≡ true)
implied true b = ((λ h e. h), λ h. h refl)
implied false b = ((λ h e. absurd (false≢true e)), λ h. refl)

pub and_left_comm : (a b c : Bool) → (a && (b && c)) ≡ (b && (a && c))
and_left_comm true b c = refl
and_left_comm false true c = refl
and_left_comm false false c = refl

pub and_swap : (a b c d : Bool) → (a && b && (c && d)) ≡ (a && c && (b && d))
and_swap true true c d = refl
and_swap true false true d = refl
and_swap true false false d = refl
and_swap false b c d = refl

-- ---- numbers

-- a number below n + 1: one way where it is n, another where it is below
pub by_last : {P : Type 0} (t n : ℕ) → t < suc n → (t ≡ n → P) → (t < n → P) → P
by_last t n h last below = by_test (eqb t n) (λ w. last (eqb-true t n w)) (λ w. let d : t ≢ n = eqb-false t n w in below (omega arith))

pub eq_or_lt : (t n : ℕ) → t < suc n → (t ≡ n) ⊎ (t < n)
eq_or_lt t n h = by_last t n h inl inr

pub not_less : (m n : ℕ) → (m < n → ⊥) → n ≤ m
not_less m n h = by_test (ltb m n) (λ w. absurd (h (ltb-true m n w))) (ltb-false m n)

pub between_true : (lo hi x : ℕ) → is_between lo hi x ≡ true → (lo ≤ x) × (x ≤ hi)
unfolding is_between
between_true lo hi x h = (leb-true lo x (and_left (leb lo x) (leb x hi) h), leb-true x hi (and_right (leb lo x) (leb x hi) h))

pub between_is : (lo hi x : ℕ) → lo ≤ x → x ≤ hi → is_between lo hi x ≡ true
unfolding is_between
between_is lo hi x l h = and_both (le-leb lo x l) (le-leb x hi h)

-- outside a range, as two comparisons; and outside a range of one number
beyond : (a b : ℕ) → ltb b a ≡ not (leb a b)
beyond a b = by_test (leb a b) (λ w. rw (w, le-ltb b a (leb-true a b w))) (λ w. rw (w, lt-ltb b a (leb-false a b w)))

not_and : (a b : Bool) → (not a || not b) ≡ not (a && b)
not_and true b = refl
not_and false b = refl

pub outside : (lo hi x : ℕ) → (ltb x lo || ltb hi x) ≡ not (is_between lo hi x)
unfolding is_between
outside lo hi x = ap₂ ◌||◌ (beyond lo x) (beyond x hi) ∙ not_and (leb lo x) (leb x hi)

pub exactly : (n x : ℕ) → not (eqb x n) ≡ not (is_between n n x)
exactly n x = ap not (same_test _ _
    (λ e. let q = eqb-true x n e in between_is n n x (omega arith) (omega arith))
    (λ e. let q = between_true n n x e in eq-eqb x n (omega arith)))

-- ---- every number below n, some number below n

pub all_at : (n : ℕ) (test : ℕ → Bool) → all_below n test ≡ true → (i : ℕ) → i < n → test i ≡ true
all_at zero test h i l = absurd (omega arith)
all_at (suc n) test h i l = by_last i n l
    (λ w. ap test w ∙ and_right (all_below n test) (test n) h)
    (λ w. all_at n test (and_left (all_below n test) (test n) h) i w)

pub all_below_lem : (n : ℕ) (test : ℕ → Bool) → ((i : ℕ) → i < n → test i ≡ true) → all_below n test ≡ true
all_below_lem zero test h = refl
all_below_lem (suc n) test h = rw (all_below_lem n test (λ i l. h i (omega arith))) (h n (omega arith))

pub all_cong : (n : ℕ) (f g : ℕ → Bool) → ((i : ℕ) → i < n → f i ≡ g i) → all_below n f ≡ all_below n g
all_cong zero f g h = refl
all_cong (suc n) f g h = ap₂ ◌&&◌ (all_cong n f g (λ i l. h i (omega arith))) (h n (omega arith))

pub all_false : (n : ℕ) (test : ℕ → Bool) (i : ℕ) → i < n → test i ≡ false → all_below n test ≡ false
all_false n test i l h = by_test (all_below n test) (λ w. absurd (not_both (all_at n test w i l) h)) (λ w. w)

pub all_and : (n : ℕ) (f g : ℕ → Bool) → all_below n (λ i. f i && g i) ≡ (all_below n f && all_below n g)
all_and zero f g = refl
all_and (suc n) f g = ap (λ b. b && (f n && g n)) (all_and n f g) ∙ and_swap (all_below n f) (all_below n g) (f n) (g n)

-- one fails
pub one_fails : (n : ℕ) (test : ℕ → Bool) → all_below n test ≡ false → (i : ℕ) × (i < n) × (test i ≡ false)
one_fails zero test h = absurd (true≢false h)
one_fails (suc n) test h = by_test (all_below n test)
    (λ w. (n, omega arith, rw w at h))
    (λ w. let r = one_fails n test w in (r.0, omega (arith, r.1), r.2))

-- some number passes where not all fail, and so for each law
pub any_not : (n : ℕ) (test : ℕ → Bool) → any_below n test ≡ not (all_below n (λ i. not (test i)))
any_not zero test = refl
any_not (suc n) test = ap₂ ◌||◌ (any_not n test) (sym (Bool·not-not (test n))) ∙ not_and (all_below n (λ i. not (test i))) (not (test n))

-- none passes
pub none_at : (n : ℕ) (test : ℕ → Bool) → any_below n test ≡ false → (i : ℕ) → i < n → test i ≡ false
none_at n test h i l = not-true _ (all_at n (λ i. not (test i)) (not-false _ (sym (any_not n test) ∙ h)) i l)

pub none_below : (n : ℕ) (test : ℕ → Bool) → ((i : ℕ) → i < n → test i ≡ false) → any_below n test ≡ false
none_below n test h = any_not n test ∙ ap not (all_below_lem n _ (λ i l. ap not (h i l)))

pub any_cong : (n : ℕ) (f g : ℕ → Bool) → ((i : ℕ) → i < n → f i ≡ g i) → any_below n f ≡ any_below n g
any_cong n f g h = any_not n f ∙ ap not (all_cong n _ _ (λ i l. ap not (h i l))) ∙ sym (any_not n g)

-- one passes
pub any_true : (n : ℕ) (test : ℕ → Bool) (i : ℕ) → i < n → test i ≡ true → any_below n test ≡ true
any_true n test i l h = any_not n test ∙ ap not (all_false n (λ i. not (test i)) i l (ap not h))

pub one_passes : (n : ℕ) (test : ℕ → Bool) → any_below n test ≡ true → (i : ℕ) × (i < n) × (test i ≡ true)
one_passes n test h =
    let r = one_fails n (λ i. not (test i)) (not-true _ (sym (any_not n test) ∙ h)) in
    (r.0, r.1, not-false _ r.2)

-- a test that fails exactly where a fact holds passes exactly where it does not
pub passes_unless : {R : Type 0} (t : Bool) → (t ≡ false) ↔ R → (t ≡ true) ↔ (R → ⊥)
passes_unless t h = ((λ e r. not_both e (h.1 r)), (λ k. by_test t (λ w. w) (λ w. absurd (k (h.0 w)))))

-- one turn more of a loop that looks for a number which passes, or for one which fails
pub any_next : (i : ℕ) (test : ℕ → Bool) → any_below i test ≡ false → test i ≡ false → any_below (i + 1) test ≡ false
any_next i test h e = rw (add-one, h) e

pub all_next : (i : ℕ) (test : ℕ → Bool) → all_below i test ≡ true → test i ≡ true → all_below (i + 1) test ≡ true
all_next i test h e = rw (add-one, h) e

-- ---- lists

pub same_list_lem : (xs ys : List ℕ) → same_list xs ys ≡ true → xs ≡ ys
same_list_lem [] [] h = refl
same_list_lem [] (y ∷ ys) h = absurd (false≢true h)
same_list_lem (x ∷ xs) [] h = absurd (false≢true h)
same_list_lem (x ∷ xs) (y ∷ ys) h =
    ap₂ (λ (z : ℕ) (zs : List ℕ). z ∷ zs) (eqb-true x y (and_left (eqb x y) (same_list xs ys) h)) (same_list_lem xs ys (and_right (eqb x y) (same_list xs ys) h))

pub list_same : (xs : List ℕ) → same_list xs xs ≡ true
list_same [] = refl
list_same (x ∷ xs) = and_both (eq-eqb x x refl) (list_same xs)
