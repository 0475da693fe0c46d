-- How often each task stands in an order: an order of K has each task of K once, and nothing else. Assumes nothing.
use Rattle.model.proofs.Basics.{◌≡◌, refl, sym, ap, ◌∙◌, ◌↔◌, true, List, [], ◌∷◌, List-as-Memᴰ, List·Memᴰ·not-nil, ℕ, zero, suc, ◌^◌}
use Rattle.model.proofs.Basics.{◌≤◌, ◌<◌, zero-add, mul-one, one-add, arith, eqb, ltb, length, eqb-true, eq-eqb, ne_eqb, ltb-true}
use Rattle.model.proofs.Basics.{ltb-false}
use Rattle.model.specs.{sum_below, all_in, count_of, bit, full, size, is_order}
use Rattle.model.proofs.Tools.Tests.{and_left, and_right, and_both, all_at, all_below_lem, by_test, by_last}
use Rattle.model.proofs.Tools.Folds.{sum_cong, sum_none, sum_more, sum_le}
use Rattle.model.proofs.Tools.Lists.{member_all, in_all, by_member}
use Rattle.model.proofs.TaskLists.Masks.{bit_lt, bit_above, full_bit, size_is}

pub order_in : (n K : ℕ) (ts : List ℕ) → is_order n K ts ≡ true → all_in (λ t. ltb t n) ts ≡ true
unfolding is_order
order_in n K ts h = and_left (all_in (λ t. ltb t n) ts) _ h

pub order_count : (n K : ℕ) (ts : List ℕ) → is_order n K ts ≡ true → (t : ℕ) → t < n → count_of t ts ≡ bit K t
unfolding is_order
order_count n K ts h t l = eqb-true _ _ (all_at n (λ t. eqb (count_of t ts) (bit K t)) (and_right (all_in (λ t. ltb t n) ts) _ h) t l)

pub count_cons : (t : ℕ) (ts : List ℕ) → count_of t (t ∷ ts) ≡ suc (count_of t ts)
count_cons t ts = rw (eq-eqb t t refl) (one-add (count_of t ts))

-- every element is counted once
pub count_total : (n : ℕ) (ts : List ℕ) → all_in (λ t. ltb t n) ts ≡ true → sum_below n (λ j. count_of j ts) ≡ length ts
count_total n [] h = sum_none n _ (λ j l. refl)
count_total n (t ∷ ts) h =
    sum_more (λ j. count_of j ts) (λ j. count_of j (t ∷ ts)) t n (ltb-true t n (and_left (ltb t n) _ h))
    (count_cons t ts)
    (λ j w. rw (ne_eqb t j (λ e. w (sym e))) (zero-add (count_of j ts)))
    ∙ ap suc (count_total n ts (and_right (ltb t n) _ h))

-- an order of K has as many tasks as K
pub order_length : (n K : ℕ) (ts : List ℕ) → is_order n K ts ≡ true → length ts ≡ size n K
order_length n K ts h = sym (count_total n ts (order_in n K ts h)) ∙ sum_cong n (λ j. count_of j ts) (bit K) (order_count n K ts h) ∙ sym (size_is n K)

pub count_member : (ts : List ℕ) (t : ℕ) → List-as-Memᴰ t ts → 1 ≤ count_of t ts
count_member [] t m = absurd (List·Memᴰ·not-nil m)
count_member (x ∷ xs) t m = by_member m (λ w. rw w (omega (arith, count_cons x xs))) (λ w. omega (arith, count_member xs t w))

pub count_above : (n : ℕ) (ts : List ℕ) → all_in (λ t. ltb t n) ts ≡ true → (t : ℕ) → n ≤ t → count_of t ts ≡ 0
count_above n [] h t l = refl
count_above n (x ∷ xs) h t l =
    let m : x < n = ltb-true x n (and_left (ltb x n) _ h) in
    rw (ne_eqb x t (λ e. omega arith)) (omega (arith, count_above n xs (and_right (ltb x n) _ h) t l))

-- and none of them twice
pub order_once : (n K : ℕ) (ts : List ℕ) → is_order n K ts ≡ true → (t : ℕ) → count_of t ts ≤ 1
order_once n K ts h t = by_test (ltb t n)
    (λ w. omega (arith, order_count n K ts h t (ltb-true t n w), bit_lt K t))
    (λ w. omega (arith, count_above n ts (order_in n K ts h) t (ltb-false t n w)))

-- an order of K, of some of n tasks: each task of K stands in it once, and nothing else stands in it
pub order_means : (n K : ℕ) (ts : List ℕ) → K < 2 ^ n → (is_order n K ts ≡ true) ↔ ((t : ℕ) → count_of t ts ≡ bit K t)
unfolding is_order
order_means n K ts l = (
  λ (h : is_order n K ts ≡ true) (t : ℕ). by_test (ltb t n)
      (λ w. order_count n K ts h t (ltb-true t n w))
      (λ w. count_above n ts (order_in n K ts h) t (ltb-false t n w) ∙ sym (bit_above n t K l (ltb-false t n w))),
  λ (h : (t : ℕ) → count_of t ts ≡ bit K t). and_both
      (in_all (λ t. ltb t n) ts (member_all _ ts (λ t m. by_test (ltb t n)
      (λ w. w)
      (λ w. absurd (omega (arith, count_member ts t m, h t, bit_above n t K l (ltb-false t n w)))))))
      (all_below_lem n _ (λ t m. eq-eqb _ _ (h t))),
)

-- ---- as many tasks as there are, none twice: each once

all_one : (n : ℕ) (f : ℕ → ℕ) → ((j : ℕ) → j < n → f j ≤ 1) → sum_below n f ≡ n → (j : ℕ) → j < n → f j ≡ 1
all_one zero f h e j l = absurd (omega arith)
all_one (suc n) f h e j l =
    let m : sum_below n f ≤ n = rw mul-one at (sum_le n 1 f (λ j l. h j (omega arith))) in
    let last : f n ≤ 1 = h n (omega arith) in
    by_last j n l (λ w. ap f w ∙ omega arith) (λ w. all_one n f (λ j l. h j (omega arith)) (omega arith) j w)

-- as many tasks as there are, each below n and none twice, are an order of the full list
pub order_of_all : (n : ℕ) (ts : List ℕ) → all_in (λ t. ltb t n) ts ≡ true → length ts ≡ n → ((t : ℕ) → t < n → count_of t ts ≤ 1) → is_order n (full n) ts ≡ true
unfolding is_order
order_of_all n ts b e h = and_both b (all_below_lem n _ (λ t l.
    eq-eqb _ _ (all_one n (λ t. count_of t ts) h (count_total n ts b ∙ e) t l ∙ sym (full_bit n t l))))
