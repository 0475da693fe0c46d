-- Fault 17: no order of the tasks keeps every pair exactly where striking off, again and again, tasks that can come first leaves something. A strike
-- neither makes nor ends an order, and a pass strikes something off unless no task can come first. A numbering by which every sender is below its receiver leaves nothing:
-- of what is left the lowest could come first. Assumes nothing.
use Rattle.model.proofs.Basics.{◌≡◌, refl, sym, ap, ◌∙◌, subst, ◌⊎◌, inl, inr, ⊎_elim, true, false, not, List, [], ◌∷◌, ℕ, zero}
use Rattle.model.proofs.Basics.{suc, ◌+◌, ◌^◌, ◌≤◌, ◌<◌, arith, eqb, eqb-true, eqb-false, ne_eqb, not-true, not-false, ◌&&◌}
use Rattle.model.specs.{Sheet.Sheet, bit, member, pair_within, is_free, without, full, size, is_order_within, no_order, mask_bits}
use Rattle.model.specs.{can_come_first, strike_below, strike_off, something_left}
use Rattle.model.specs.{InRange}
use Rattle.model.proofs.Tools.Tests.{same_test, not_both, and_both, and_left, and_right, one_fails, by_test, by_last}
use Rattle.model.proofs.TaskLists.Masks.{full_lt, without_same, without_other, without_le, size_none, size_without, size_zero}
use Rattle.model.proofs.TaskLists.Masks.{size_full, full_of_lem, member_bit, no_bits, by_bit}
use Rattle.model.proofs.Theory.FirstTask.{within_cons, first_bit, within_uncons, nil_size, size_nil}
use Rattle.model.proofs.Theory.Existence.{part, part_within, admissible_is}
use Rattle.model.proofs.Theory.Enumerations.{has_order, no_order_iff}

-- some order of K keeps the pairs within K
abbrev pub HasOrder : Sheet → ℕ → Type 0
HasOrder S K = (ts : List ℕ) × (is_order_within S K ts ≡ true)

module _ (S : Sheet) (R : InRange S) where
  -- nothing is left: the empty order
  pub empty_order : HasOrder S 0
  empty_order = ([], size_nil S R 0 (size_none S.tasks))

  -- a task that can come first is struck off: there is an order before exactly where there is one afterwards
  pub strike_back : (K t : ℕ) → t < S.tasks → can_come_first S K t ≡ true → HasOrder S (without K t) → HasOrder S K
  strike_back K t l e o = (t ∷ o.0, within_cons S K t o.0 l ∙ and_both e o.1)

  pub strike_on : (K t : ℕ) → HasOrder S K → HasOrder S (without K t)
  strike_on K t o = (part (without K t) o.0, part_within S R K (without K t) smaller o.0 o.1)
    where
      smaller : (j : ℕ) → j < S.tasks → bit (without K t) j ≡ 1 → bit K j ≡ 1
      smaller j l h = by_test (eqb j t)
          (λ w. absurd (omega (arith, without_same K t, subst (λ (x : ℕ). bit (without K t) x ≡ 1) (eqb-true j t w) h)))
          (λ w. sym (without_other K t j (eqb-false j t w)) ∙ h)

  -- something is left and no task can come first: there is no order
  pub stuck_order : (K : ℕ) → K < 2 ^ S.tasks → ((t : ℕ) → t < S.tasks → can_come_first S K t ≡ false) → HasOrder S K → K ≡ 0
  stuck_order K l h ([], e) = size_zero S.tasks K l (nil_size S K e)
  stuck_order K l h (t ∷ ts, e) = let c = within_uncons S K t ts e in absurd (not_both c.1 (h t c.0))

  -- ---- striking off, pass by pass

  -- what holds of K, and stays where a task that can come first is struck off, holds of all that is left
  module _ (P : ℕ → Type 0) (stays : (J t : ℕ) → t < S.tasks → can_come_first S J t ≡ true → P J → P (without J t)) where
    in_a_pass : (n K : ℕ) → n ≤ S.tasks → P K → P (strike_below S n K)
    in_a_pass zero K l h = h
    in_a_pass (suc n) K l h =
        let r = in_a_pass n K (omega arith) h in
        by_test (can_come_first S (strike_below S n K) n) (λ w. rw w (stays (strike_below S n K) n (omega arith) w r)) (λ w. rw w r)

    in_passes : (k K : ℕ) → P K → P (strike_off S k K)
    in_passes zero K h = h
    in_passes (suc k) K h = in_a_pass S.tasks (strike_off S k K) (omega arith) (in_passes k K h)

  off_below : (k K : ℕ) → K < 2 ^ S.tasks → strike_off S k K < 2 ^ S.tasks
  off_below = in_passes (λ J. J < 2 ^ S.tasks) (λ J t l e h. omega (arith, without_le J t))

  -- there is an order before the passes exactly where there is one afterwards
  off_on : (k K : ℕ) → HasOrder S K → HasOrder S (strike_off S k K)
  off_on = in_passes (HasOrder S) (λ J t l e. strike_on J t)

  off_back : (k K : ℕ) → HasOrder S (strike_off S k K) → HasOrder S K
  off_back k K = in_passes (λ J. HasOrder S J → HasOrder S K) (λ J t l e h o. h (strike_back J t l e o)) k K (λ o. o)

  -- a pass strikes something off, or no task can come first
  Idle : ℕ → ℕ → Type 0
  Idle n K = (strike_below S n K ≡ K) × ((t : ℕ) → t < n → can_come_first S K t ≡ false)

  pass : (n K : ℕ) → n ≤ S.tasks → Idle n K ⊎ (size S.tasks (strike_below S n K) < size S.tasks K)
  unfolding Idle
  pass zero K l = inl (refl, λ t m. absurd (omega arith))
  pass (suc n) K l =
      let L : ℕ = strike_below S n K in
      let before = pass n K (omega arith) in
      by_test (can_come_first S L n)
      (λ w. let fewer = size_without S.tasks L n (omega arith) (first_bit S L n w) in
      rw w (inr (⊎_elim (λ i. omega (arith, fewer, ap (size S.tasks) i.0)) (λ s. omega (arith, fewer, s)) before)))
      (λ w. rw w (⊎_elim
      (λ i. inl (i.0, λ t m. by_last t n m (λ v. ap (can_come_first S K) v ∙ ap (λ (x : ℕ). can_come_first S x n) (sym i.0) ∙ w) (i.1 t)))
      inr before))

  -- after k passes either k tasks are struck off, or no task can come first in what is left
  after : (k K : ℕ) → Idle S.tasks (strike_off S k K) ⊎ (size S.tasks (strike_off S k K) + k ≤ size S.tasks K)
  unfolding Idle
  after zero K = inr (omega arith)
  after (suc k) K = ⊎_elim
      (λ i. inl (subst (Idle S.tasks) (sym i.0) i))
      (λ h. ⊎_elim (λ i. inl (subst (Idle S.tasks) (sym i.0) i)) (λ s. inr (omega arith)) (pass S.tasks (strike_off S k K) (omega arith)))
      (after k K)

  -- as many passes as there are tasks leave nothing exactly where there is an order
  off_empty : HasOrder S (full S.tasks) → strike_off S S.tasks (full S.tasks) ≡ 0
  unfolding Idle
  off_empty o =
      let below = off_below S.tasks (full S.tasks) (full_lt S.tasks) in
      ⊎_elim
      (λ i. stuck_order (strike_off S S.tasks (full S.tasks)) below i.1 (off_on S.tasks (full S.tasks) o))
      (λ h. size_zero S.tasks _ below (omega (arith, size_full S.tasks)))
      (after S.tasks (full S.tasks))

  -- 17 is decided by striking off
  pub struck_off : no_order S ≡ not (eqb (strike_off S S.tasks (full S.tasks)) 0)
  struck_off = same_test _ _
      (λ e. ap not (ne_eqb _ 0 (λ z. let o = off_back S.tasks (full S.tasks) (subst (HasOrder S) (sym z) empty_order) in
      (no_order_iff S).0 e o.0 (admissible_is S R o.0 ∙ o.1))))
      (λ e. by_test (no_order S) (λ w. w) (λ w. let o = has_order S w in
      absurd (eqb-false _ 0 (not-true _ e) (off_empty (o.0, sym (admissible_is S R o.0) ∙ o.1)))))

  -- and so by what the code finds left, for as many tasks as it has a power of two for
  pub something_left_lem : S.tasks < mask_bits → no_order S ≡ something_left S
  unfolding something_left
  something_left_lem few = struck_off ∙ ap (λ (K : ℕ). not (eqb (strike_off S S.tasks K) 0)) (sym (full_of_lem S.tasks few))

  -- ---- a numbering of the tasks that gives every sender a lower number than its receiver

  module _ (f : ℕ → ℕ) (agrees : (i : ℕ) → i < S.pairs → f (S.sender i) < f (S.receiver i)) where
    -- where no task of K can come first, one of a lower number is in K too
    descend : (K : ℕ) → ((t : ℕ) → t < S.tasks → can_come_first S K t ≡ false) → (m t : ℕ) → f t < m → t < S.tasks → bit K t ≡ 1 → ⊥
    unfolding can_come_first is_free pair_within
    descend K stuck zero t l b e = absurd (omega arith)
    descend K stuck (suc m) t l b e =
        let r = one_fails S.pairs (λ i. not (pair_within S K i && eqb t (S.receiver i))) (rw e at (stuck t b)) in
        let i : ℕ = r.0 in
        let p = not-false _ r.2 in
        let w : pair_within S K i ≡ true = and_left (pair_within S K i) _ p in
        let v : t ≡ S.receiver i = eqb-true _ _ (and_right (pair_within S K i) _ p) in
        descend K stuck m (S.sender i) (omega (arith, agrees i r.1, ap f v)) (R.sender i r.1)
        (member_bit K (S.sender i) (and_left (member K (S.sender i)) _ w))

    -- so striking off leaves nothing: there is an order
    pub numbered : no_order S ≡ true → ⊥
    unfolding Idle
    numbered e =
        let K : ℕ = strike_off S S.tasks (full S.tasks) in
        let below : K < 2 ^ S.tasks = off_below S.tasks (full S.tasks) (full_lt S.tasks) in
        let left : K ≡ 0 → ⊥ = eqb-false _ 0 (not-true _ (sym struck_off ∙ e)) in
        ⊎_elim
        (λ i. left (no_bits S.tasks K below (λ t l. by_bit K t (λ z. z) (λ z. absurd (descend K i.1 (suc (f t)) t (omega arith) l z)))))
        (λ h. left (size_zero S.tasks K below (omega (arith, size_full S.tasks))))
        (after S.tasks (full S.tasks))
