-- The orders of a list by their first task: a task that can come first, and then an order of the rest. Assumes nothing.
use Rattle.model.proofs.Basics.{◌≡◌, refl, sym, ap, ◌∙◌, ◌≢◌, Bool, true, false, cond, not, ◌&&◌, ◌||◌, and-false, and-true}
use Rattle.model.proofs.Basics.{or-false, List, [], ◌∷◌, ℕ, suc, ◌+◌, ◌^◌, ◌<◌, zero-add, one-add, arith, eqb, ltb, leb·suc-suc}
use Rattle.model.proofs.Basics.{eqb·suc-suc, eqb-true, eqb-false, eq-eqb, ne_eqb, ltb-true, lt-ltb, le-ltb, not-true}
use Rattle.model.specs.{Sheet.Sheet, all_below, all_in, count_of, index_of, bit, member, with, without, size, mask_of, is_order, keeps_pair}
use Rattle.model.specs.{pair_within, keeps_pairs_within, is_order_within, essential, pairs_allow, is_free, can_come_first, InRange}
use Rattle.model.proofs.Tools.Tests.{not_both, and_left, and_right, and_both, and_left_comm, all_at, all_below_lem, all_cong, all_false}
use Rattle.model.proofs.Tools.Tests.{all_and, by_test, implied}
use Rattle.model.proofs.Tools.Folds.{sum_none, sum_zero}
use Rattle.model.proofs.TaskLists.Masks.{bit_lt, bit_none, member_bit, without_same, without_other, without_le, with_without}
use Rattle.model.proofs.TaskLists.Masks.{size_is, size_zero}
use mathlib.Core.Bool.{or-true}

module _ (n K t : ℕ) where
  -- the count of one task, before and after t is struck off
  one_count : (c j : ℕ) → bit K t ≡ 1 → eqb (cond (eqb t j) 1 0 + c) (bit K j) ≡ eqb c (bit (without K t) j)
  one_count c j h = by_test (eqb t j)
      (λ w. rw (w, ← eqb-true t j w) (rw (h, without_same, one-add) (eqb·suc-suc c 0)))
      (λ w. rw (w, without_other K t j (λ e. eqb-false t j w (sym e)), zero-add))

  pub order_cons : (ts : List ℕ) → t < n → is_order n K (t ∷ ts) ≡ (member K t && is_order n (without K t) ts)
  unfolding is_order
  order_cons ts l = by_test (member K t)
      (λ w. rw (w, lt-ltb t n l) (ap (λ b. all_in (λ t. ltb t n) ts && b) (all_cong n _ _ (λ j m. one_count (count_of j ts) j (member_bit K t w)))))
      (λ w. rw w (ap (λ b. all_in (λ t. ltb t n) (t ∷ ts) && b)
      (all_false n _ t l (rw (eq-eqb t t refl) (let m : bit K t ≢ 1 = eqb-false _ _ w in ne_eqb (1 + count_of t ts) (bit K t) (λ e. omega (arith, bit_lt K t)))))
      ∙ and-false (all_in (λ t. ltb t n) (t ∷ ts))))

module _ (S : Sheet) (K t : ℕ) where
  -- one pair, before and after t is struck off
  one_pair : (ts : List ℕ) (i : ℕ) → bit K t ≡ 1
      → (not (pair_within S K i) || keeps_pair S (t ∷ ts) i)
      ≡ (not (pair_within S K i && eqb t (S.receiver i)) && (not (pair_within S (without K t) i) || keeps_pair S ts i))
  unfolding pair_within keeps_pair
  one_pair ts i h = go (eqb t (S.sender i)) refl (eqb t (S.receiver i)) refl
    where
      s : ℕ
      s = S.sender i

      r : ℕ
      r = S.receiver i

      is_in : (j : ℕ) → eqb t j ≡ true → member K j ≡ true
      is_in j e = rw (← eqb-true t j e) (eq-eqb _ _ h)

      is_gone : (j : ℕ) → eqb t j ≡ true → member (without K t) j ≡ false
      is_gone j e = rw (← eqb-true t j e, without_same K t)

      as_before : (j : ℕ) → eqb t j ≡ false → member (without K t) j ≡ member K j
      as_before j e = rw (without_other K t j (λ d. eqb-false t j e (sym d)))

      go : (a : Bool) → eqb t s ≡ a → (b : Bool) → eqb t r ≡ b
          → (not (member K s && member K r) || ltb (index_of s (t ∷ ts)) (index_of r (t ∷ ts)))
          ≡ (not (member K s && member K r && eqb t r) && (not (member (without K t) s && member (without K t) r) || ltb (index_of s ts) (index_of r ts)))
      go true ea true eb = rw (is_in s ea, is_in r eb, ea, eb)
      go true ea false eb = rw (is_in s ea, is_gone s ea, ea, eb) (simp (lt-ltb 0 (suc (index_of r ts)) (omega arith), or-true, and-false))
      go false ea true eb = rw (is_in r eb, is_gone r eb, ea, eb) (simp (le-ltb (suc (index_of s ts)) 0 (omega arith), or-false, and-true, and-false))
      go false ea false eb = rw (as_before s ea, as_before r eb, ea, eb) (simp (leb·suc-suc, and-false))

  pairs_cons : (ts : List ℕ) → bit K t ≡ 1 → keeps_pairs_within S K (t ∷ ts) ≡ (is_free S K t && keeps_pairs_within S (without K t) ts)
  unfolding keeps_pairs_within is_free
  pairs_cons ts h = all_cong S.pairs _ _ (λ i l. one_pair ts i h) ∙ all_and S.pairs _ _

  -- an order of K that begins with t: t can come first, and an order of the rest follows
  pub within_cons : (ts : List ℕ) → t < S.tasks → is_order_within S K (t ∷ ts) ≡ (can_come_first S K t && is_order_within S (without K t) ts)
  unfolding is_order_within can_come_first
  within_cons ts l = by_test (member K t)
      (λ w. rw (order_cons S.tasks K t ts l, pairs_cons ts (member_bit K t w), w)
      (and_left_comm (is_order S.tasks (without K t) ts) (is_free S K t) (keeps_pairs_within S (without K t) ts)))
      (λ w. rw (order_cons S.tasks K t ts l, w))

pub first_bit : (S : Sheet) (K t : ℕ) → can_come_first S K t ≡ true → bit K t ≡ 1
unfolding can_come_first
first_bit S K t e = member_bit K t (and_left (member K t) (is_free S K t) e)

pub first_below : (S : Sheet) (K t : ℕ) (ts : List ℕ) → is_order_within S K (t ∷ ts) ≡ true → t < S.tasks
unfolding is_order_within is_order
first_below S K t ts e = ltb-true _ _ (and_left _ (all_in (λ t. ltb t S.tasks) ts) (and_left _ _ (and_left _ (keeps_pairs_within S K (t ∷ ts)) e)))

-- what an order of K begins with, and what follows
pub within_uncons : (S : Sheet) (K t : ℕ) (ts : List ℕ) → is_order_within S K (t ∷ ts) ≡ true
    → (t < S.tasks) × (can_come_first S K t ≡ true) × (is_order_within S (without K t) ts ≡ true)
within_uncons S K t ts e =
    let l : t < S.tasks = first_below S K t ts e in
    let c = sym (within_cons S K t ts l) ∙ e in
    (l, and_left (can_come_first S K t) (is_order_within S (without K t) ts) c, and_right (can_come_first S K t) (is_order_within S (without K t) ts) c)

-- ---- the order of no task

pub nil_size : (S : Sheet) (K : ℕ) → is_order_within S K [] ≡ true → size S.tasks K ≡ 0
unfolding is_order_within is_order
nil_size S K e =
    let o = and_left (all_below S.tasks (λ t. eqb 0 (bit K t))) (keeps_pairs_within S K []) e in
    size_is S.tasks K ∙ sum_none S.tasks (bit K) (λ j l. sym (eqb-true 0 (bit K j) (all_at S.tasks _ o j l)))

pub size_nil : (S : Sheet) → InRange S → (K : ℕ) → size S.tasks K ≡ 0 → is_order_within S K [] ≡ true
unfolding is_order_within is_order keeps_pairs_within pair_within
size_nil S R K e = and_both (all_below_lem S.tasks _ (λ j l. rw (none j l)))
    (all_below_lem S.pairs _ (λ i l. rw (none (S.sender i) (R.sender i l))))
  where
    none : (j : ℕ) → j < S.tasks → bit K j ≡ 0
    none j l = sum_zero S.tasks (bit K) (sym (size_is S.tasks K) ∙ e) j l

-- the tasks of an order of K are K
pub mask_is : (S : Sheet) (ts : List ℕ) (K : ℕ) → K < 2 ^ S.tasks → is_order_within S K ts ≡ true → mask_of ts ≡ K
mask_is S [] K l e = sym (size_zero S.tasks K l (nil_size S K e))
mask_is S (t ∷ ts) K l e =
    let c = within_uncons S K t ts e in
    ap (λ (x : ℕ). with x t) (mask_is S ts (without K t) (omega (arith, without_le K t)) c.2) ∙ with_without K t (first_bit S K t c.1)

-- ---- the lists that the pairs allow

-- a task that can come first in a list that the pairs allow leaves a list that they allow
pub allow_without : (S : Sheet) (K t : ℕ) → pairs_allow S K ≡ true → can_come_first S K t ≡ true → pairs_allow S (without K t) ≡ true
unfolding pairs_allow essential can_come_first is_free pair_within
allow_without S K t a e = by_test (eqb (without K t) 0) (λ w. rw w) (λ w. rw w (all_below_lem S.pairs _ (λ i l.
    (implied (member (without K t) (S.sender i)) (member (without K t) (S.receiver i))).1 (one i l))))
  where
    closed : ℕ → Bool
    closed i = not (member K (S.sender i)) || member K (S.receiver i)

    -- K is not empty, so it is essential
    all_closed : all_below S.pairs closed ≡ true
    all_closed = by_test (eqb K 0)
        (λ z. absurd (omega (arith, bit_none t, ap (λ (x : ℕ). bit x t) (eqb-true K 0 z), member_bit K t (and_left (member K t) _ e))))
        (λ z. rw z at a)

    -- the sender is not t, so it is in K, and so is the receiver, which is not t either
    one : (i : ℕ) → i < S.pairs → member (without K t) (S.sender i) ≡ true → member (without K t) (S.receiver i) ≡ true
    one i l eb =
        let free = all_at S.pairs (λ i. not (pair_within S K i && eqb t (S.receiver i))) (and_right (member K t) _ e) i l in
        let ns : S.sender i ≢ t = λ q. not_both eb (ap (λ (x : ℕ). eqb x 1) (ap (bit (without K t)) q ∙ without_same K t)) in
        let hs : member K (S.sender i) ≡ true = sym (ap (λ (x : ℕ). eqb x 1) (without_other K t (S.sender i) ns)) ∙ eb in
        let hr : member K (S.receiver i) ≡ true = (implied _ _).0 (all_at S.pairs closed all_closed i l) hs in
        let vr : eqb t (S.receiver i) ≡ false = not-true _ (rw (hs, hr) at free) in
        ap (λ (x : ℕ). eqb x 1) (without_other K t (S.receiver i) (λ q. eqb-false t (S.receiver i) vr (sym q))) ∙ hr
