-- The tasks of the doors so far, as a mask: a task is in it where one of those doors is its own. Assumes nothing.
use Rattle.model.proofs.Basics.{◌≡◌, refl, sym, ap, ◌∙◌, ⊎_elim, Bool, true, false, not, ◌&&◌, ◌||◌, or-false, ℕ, zero, suc, ◌+◌, ◌≤◌, ◌<◌, add-one}
use Rattle.model.proofs.Basics.{arith, eqb, ltb, ne_eqb, ltb-false, not-true, not-false}
use Rattle.model.specs.{all_below, member, lacks_door, mask_bits, with_in}
use Rattle.model.specs.Sheet.{Sheet}
use Rattle.model.proofs.Tools.Tests.{tested, all_false, one_fails}
use Rattle.model.proofs.TaskLists.Masks.{bit_none, member_with}
use Rattle.feasible.specs.Method.{served_below}

-- ---- a task joined to a mask

member_in : (w M x t : ℕ) → t < w → member (with_in w M x) t ≡ (member M t || eqb x t)
unfolding with_in
member_in w M x t l = ⊎_elim
    (λ (h : ltb x w ≡ true). rw h (member_with M x t))
    (λ (h : ltb x w ≡ false). rw (h, ne_eqb x t (λ z. let b = ltb-false x w h in omega arith), or-false))
    (tested (ltb x w))

-- ---- the doors below d

-- door d is not one of task t
abbrev other : Sheet → ℕ → ℕ → Bool
other S t d = not (eqb (S.task d) t)

one_more : (a b : Bool) → (not a || b) ≡ not (a && not b)
one_more true true = refl
one_more true false = refl
one_more false b = refl

pub served_is : (S : Sheet) (d t : ℕ) → t < mask_bits → member (served_below S d) t ≡ not (all_below d (other S t))
served_is S zero t l = rw bit_none
served_is S (suc d) t l =
    member_in mask_bits (served_below S d) (S.task d) t l
    ∙ ap (λ (b : Bool). b || eqb (S.task d) t) (served_is S d t l)
    ∙ one_more (all_below d (other S t)) (eqb (S.task d) t)

-- ---- the loop over the tasks, which looks at each door once

-- the tasks of the doors below d, of those of the sheet, are seen
pub record Seen (S : Sheet) (seen d : ℕ) : Type 0 where
  pub within : d ≤ S.doors
  pub is : seen ≡ served_below S d

module _ {S : Sheet} {seen d : ℕ} (h : Seen S seen d) where
  pub next_seen : {x r : ℕ} → d < S.doors → x ≡ S.task d → r ≡ with_in mask_bits seen x → Seen S r (d + 1)
  next_seen l e q = record { within = omega arith; is = rw (add-one, q, e, h.is) }

  module _ {t : ℕ} (l : t < mask_bits) where
    -- a task that was seen has a door
    pub seen_served : member seen t ≡ true → lacks_door S t ≡ false
    unfolding lacks_door
    seen_served m =
        let f = one_fails d (other S t) (not-true _ (sym (served_is S d t l) ∙ ap (λ (K : ℕ). member K t) (sym h.is) ∙ m)) in
        all_false S.doors (other S t) f.0 (omega (arith, f.1, h.within)) f.2

    -- and where every door was looked at, one that was not seen has none
    pub not_seen : S.doors ≤ d → member seen t ≡ false → lacks_door S t ≡ true
    unfolding lacks_door
    not_seen a m =
        let e : S.doors ≡ d = omega (arith, h.within) in
        rw e (not-false _ (sym (served_is S d t l) ∙ ap (λ (K : ℕ). member K t) (sym h.is) ∙ m))
