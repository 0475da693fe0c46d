-- The list of the tasks e 0, e 1, .. below n, which differ: it is a sum of powers of two, and a sum over its members is the sum over the places. By taking the first task
-- off, which the others do not have. Assumes nothing.
use Rattle.model.proofs.Basics.{◌≡◌, refl, sym, ap, ◌∙◌, ◌≢◌, ℕ, zero, suc, ◌+◌, ◌*◌, ◌^◌, ◌<◌, arith}
use Rattle.model.specs.{sum_below, map_below, bit, with, mask_of}
use Rattle.model.proofs.Tools.Folds.{sum_none, sum_first, sum_plus, map_first}
use Rattle.model.proofs.TaskLists.Masks.{bit_none, with_is, with_same, with_other}

-- the tasks differ
abbrev pub Differ : ℕ → (ℕ → ℕ) → Type 0
Differ n e = (i j : ℕ) → i < j → j < n → e i ≡ e j → ⊥

-- the list of the tasks below n
abbrev pub mask_below : ℕ → (ℕ → ℕ) → ℕ
mask_below n e = mask_of (map_below n e)

-- it is that of the others with the first
pub mask_first : (n : ℕ) (e : ℕ → ℕ) → mask_below (suc n) e ≡ with (mask_below n (λ i. e (suc i))) (e 0)
mask_first n e = ap mask_of (map_first n e)

-- a task that is none of them is not in it
mask_miss : (n t : ℕ) (e : ℕ → ℕ) → ((i : ℕ) → i < n → t ≢ e i) → bit (mask_below n e) t ≡ 0
unfolding map_below
mask_miss zero t e h = bit_none t
mask_miss (suc n) t e h = ap (λ (K : ℕ). bit K t) (mask_first n e) ∙ with_other (mask_below n (λ i. e (suc i))) (e 0) t (h 0 (omega arith))
    ∙ mask_miss n t (λ i. e (suc i)) (λ i l. h (suc i) (omega arith))

module _ (n : ℕ) (e : ℕ → ℕ) (differ : Differ (suc n) e) where
  pub rest_differ : Differ n (λ i. e (suc i))
  rest_differ i j l m = differ (suc i) (suc j) (omega arith) (omega arith)

  -- so the first is not among the others
  first_new : bit (mask_below n (λ i. e (suc i))) (e 0) ≡ 0
  first_new = mask_miss n (e 0) (λ i. e (suc i)) (λ i l. differ 0 (suc i) (omega arith) (omega arith))

-- the list as a number
pub mask_sum : (n : ℕ) (e : ℕ → ℕ) → Differ n e → mask_below n e ≡ sum_below n (λ i. 2 ^ e i)
unfolding map_below
mask_sum zero e d = refl
mask_sum (suc n) e d = mask_first n e ∙ with_is (mask_below n (λ i. e (suc i))) (e 0) (first_new n e d)
    ∙ omega (arith, mask_sum n (λ i. e (suc i)) (rest_differ n e d), sum_first n (λ i. 2 ^ e i))

-- the sum of f over its members
pub members_sum : (m n : ℕ) (e f : ℕ → ℕ) → ((i : ℕ) → i < n → e i < m) → Differ n e
    → sum_below m (λ j. bit (mask_below n e) j * f j) ≡ sum_below n (λ i. f (e i))
unfolding map_below
members_sum m zero e f h d = sum_none m _ (λ j l. ap (λ (x : ℕ). x * f j) (bit_none j) ∙ omega arith)
members_sum m (suc n) e f h d =
    let K : ℕ = mask_below n (λ i. e (suc i)) in
    ap (λ (x : ℕ). sum_below m (λ j. bit x j * f j)) (mask_first n e)
    ∙ sum_plus (λ j. bit K j * f j) (λ j. bit (with K (e 0)) j * f j) (f (e 0)) (e 0) m (h 0 (omega arith))
    (rw (with_same K (e 0), first_new n e d) (omega arith))
    (λ j o. ap (λ (x : ℕ). x * f j) (with_other K (e 0) j o))
    ∙ ap (λ (x : ℕ). f (e 0) + x) (members_sum m n (λ i. e (suc i)) f (λ i l. h (suc i) (omega arith)) (rest_differ n e d))
    ∙ sym (sum_first n (λ i. f (e i)))
