-- Striking off with what each task waits for at hand leaves what striking off leaves: of the tasks of K, those are free that wait for
-- none of K. Assumes nothing.
use Rattle.model.proofs.Basics.{◌≡◌, refl, sym, ap, ◌∙◌, ⊎_elim, Bool, true, false, cond, not, ◌&&◌, ◌||◌, List, ℕ, zero, suc, ◌+◌, ◌≤◌}
use Rattle.model.proofs.Basics.{◌<◌, add-one, arith, eqb, length, get_or, eqb-true, eqb-false, eq-eqb, ne_eqb}
use Rattle.model.specs.{all_below, any_below, map_below, member, with, without, pair_within, mask_bits, meets, senders_below}
use Rattle.model.specs.Sheet.{Sheet}
use Rattle.model.specs.{senders_of, is_free, can_come_first, strike_below, strike_off}
use Rattle.model.proofs.Tools.Tests.{tested, same_test, and_left, and_right, and_both, or-true, none_below, any_true, one_passes}
use Rattle.model.proofs.Tools.Folds.{length_map_below, map_below_at}
use Rattle.model.proofs.TaskLists.Masks.{bit_none, not_member_bit, without_none, member_with, with_in_lem}
use native.Mathlib.Decide.{le_ind}
use Rattle.feasible.specs.Method.{strike_by, pass_by}

-- ---- lists that meet

pub meets_none : (w K : ℕ) → meets w 0 K ≡ false
unfolding meets
meets_none w K = none_below w (λ j. member 0 j && member K j) (λ j l. rw bit_none)

or_cases : {G : Type 0} (a b : Bool) → (a || b) ≡ true → (a ≡ true → G) → (b ≡ true → G) → G
or_cases true b h f g = f refl
or_cases false b h f g = g h

module _ (w M x K : ℕ) (l : x < w) where
  pub meets_with : meets w (with M x) K ≡ (meets w M K || member K x)
  unfolding meets
  meets_with = same_test _ _
      (λ h.
      let i = one_passes w joined h in
      let k = and_right (member (with M x) i.0) _ i.2 in
      or_cases (member M i.0) (eqb x i.0) (sym (member_with M x i.0) ∙ and_left (member (with M x) i.0) _ i.2)
      (λ a. rw (any_true w both i.0 i.1 (and_both a k)))
      (λ a. or-true (any_below w both) _ (rw (eqb-true x i.0 a) k)))
      (λ h. or_cases (any_below w both) (member K x) h
      (λ a.
      let i = one_passes w both a in
      let m : member (with M x) i.0 ≡ true = rw (member_with, and_left (member M i.0) _ i.2) in
      any_true w joined i.0 i.1 (and_both m (and_right (member M i.0) _ i.2)))
      (λ a.
      let m : member (with M x) x ≡ true = rw (member_with, eq-eqb x x refl) (or-true (member M x) true refl) in
      any_true w joined x l (and_both m a)))
    where
      joined : ℕ → Bool
      joined j = member (with M x) j && member K j

      both : ℕ → Bool
      both j = member M j && member K j

-- ---- a free task

alike : (b : Bool) (K : ℕ) → cond b K K ≡ K
alike true K = refl
alike false K = refl

neither : (a b : Bool) → (not a && not (b && true && true)) ≡ not (a || b)
neither true b = refl
neither false true = refl
neither false false = refl

passed : (a b : Bool) → (a && not (b && false)) ≡ a
passed true true = refl
passed true false = refl
passed false b = refl

module _ (S : Sheet) (R : (i : ℕ) → i < S.pairs → S.sender i < mask_bits) (K t : ℕ) where
  free_below : member K t ≡ true → (n : ℕ) → n ≤ S.pairs
      → all_below n (λ i. not (pair_within S K i && eqb t (S.receiver i))) ≡ not (meets mask_bits (senders_below S n t) K)
  unfolding pair_within
  free_below m zero l = rw meets_none
  free_below m (suc n) l = ⊎_elim
      (λ (e : eqb (S.receiver n) t ≡ true). rw (
        e,
        free_below m n (omega arith),
        with_in_lem mask_bits (senders_below S n t) (S.sender n) (R n (omega arith)),
        meets_with mask_bits (senders_below S n t) (S.sender n) K (R n (omega arith)),
        eqb-true (S.receiver n) t e,
        m,
        eq-eqb t t refl,
      ) (neither (meets mask_bits (senders_below S n t) K) (member K (S.sender n))))
      (λ (e : eqb (S.receiver n) t ≡ false). rw (e, ne_eqb t (S.receiver n) (λ z. eqb-false _ _ e (sym z)), free_below m n (omega arith))
      (passed (not (meets mask_bits (senders_below S n t) K)) (member K (S.sender n) && member K (S.receiver n))))
      (tested (eqb (S.receiver n) t))

  free_is : member K t ≡ true → is_free S K t ≡ not (meets mask_bits (senders_of S t) K)
  unfolding is_free senders_of
  free_is m = free_below m S.pairs (omega arith)

  strike_is : strike_by (senders_of S t) K t ≡ cond (can_come_first S K t) (without K t) K
  unfolding strike_by can_come_first
  strike_is = ⊎_elim
      (λ (m : member K t ≡ true). rw (m, free_is m) (turned (meets mask_bits (senders_of S t) K)))
      (λ (m : member K t ≡ false). rw (m, without_none K t (not_member_bit K t m)) (alike (meets mask_bits (senders_of S t) K) K))
      (tested (member K t))
    where
      turned : (b : Bool) → cond b K (without K t) ≡ cond (not b) (without K t) K
      turned true = refl
      turned false = refl

-- ---- a pass

-- one task more
pub next_task : (ws : List ℕ) (K t : ℕ) {left r : ℕ} → left ≡ pass_by ws t K → r ≡ strike_by (get_or ws t 0) left t → r ≡ pass_by ws (t + 1) K
next_task ws K t h e = rw (add-one, ← h) e

-- an empty list stays empty
strikes_none : (W t : ℕ) → strike_by W 0 t ≡ 0
unfolding strike_by
strikes_none W t = rw (without_none 0 t (bit_none t)) (alike (meets mask_bits W 0) 0)

pub empty_passed : (ws : List ℕ) (K m n : ℕ) → m ≤ n → pass_by ws m K ≡ 0 → pass_by ws n K ≡ 0
empty_passed ws K m n l h = le_ind (λ (k : ℕ). pass_by ws k K ≡ 0) h (λ k a e. rw e (strikes_none (get_or ws k 0) k)) n l

-- with what the first m tasks wait for at hand
module _ (S : Sheet) (R : (i : ℕ) → i < S.pairs → S.sender i < mask_bits) (K m : ℕ) where
  -- over the first n of them
  pub pass_is : (n : ℕ) → n ≤ m → pass_by (map_below m (senders_of S)) n K ≡ strike_below S n K
  pass_is zero l = refl
  pass_is (suc n) l =
      rw (pass_is n (omega arith), map_below_at m (senders_of S) n 0 (omega arith)) (strike_is S R (strike_below S n K) n)

  -- over all that is at hand
  pub slice_passed : {ws : List ℕ} → ws ≡ map_below m (senders_of S) → pass_by ws (length ws) K ≡ strike_below S m K
  slice_passed e = rw (e, length_map_below m (senders_of S)) (pass_is m (omega arith))

-- ---- the passes

-- one pass more
pub next_pass : (S : Sheet) (K n : ℕ) {left r : ℕ} → left ≡ strike_off S n K → r ≡ strike_below S S.tasks left → r ≡ strike_off S (n + 1) K
next_pass S K n h e = rw add-one (e ∙ ap (strike_below S S.tasks) h)

-- an empty list stays empty in a pass
empty_stays : (S : Sheet) (n : ℕ) → strike_below S n 0 ≡ 0
unfolding can_come_first
empty_stays S zero = refl
empty_stays S (suc n) = rw (empty_stays S n, bit_none)

-- and in all that follow
pub empty_after : (S : Sheet) (K m n : ℕ) → m ≤ n → strike_off S m K ≡ 0 → strike_off S n K ≡ 0
empty_after S K m n l h = le_ind (λ (k : ℕ). strike_off S k K ≡ 0) h (λ k a e. rw e (empty_stays S S.tasks)) n l
