-- Masks that a loop joins to: for each t, over the entries i whose owner is t, the mask of their items. The receivers of the pairs of a sender are such
-- masks, and so are the doors of a task. Assumes nothing.
use Rattle.model.proofs.Basics.{◌≡◌, refl, sym, ap, ◌∙◌, Bool, cond, ◌&&◌, ◌||◌, or-false, List, ℕ, zero, suc, ◌+◌, ◌^◌, ◌<◌, add-one, arith, pow_pos}
use Rattle.model.proofs.Basics.{eqb, get_or, set, eq-eqb, ne_eqb}
use Rattle.model.specs.{any_below, map_below, member, with_in, max_doors, mask_bits}
use Rattle.model.specs.Sheet.{Sheet}
use Rattle.model.proofs.Tools.Tests.{by_test}
use Rattle.model.proofs.Tools.Folds.{map_below_at}
use Rattle.model.proofs.Tools.Arrays.{map_set}
use Rattle.model.proofs.TaskLists.Masks.{bit_none, member_with, with_in_lem}
use Rattle.model.proofs.TaskLists.OpenLists.{with_lt}
use Rattle.kernel_prepare.specs.Preparing.{receivers_below, doors_below}

-- `masks n t` is the mask of w bits of the items of those entries below n whose owner is t
pub record Joins (w : ℕ) (owner item : ℕ → ℕ) (masks : ℕ → ℕ → ℕ) : Type 0 where
  pub first : (t : ℕ) → masks 0 t ≡ 0
  pub next : (n t : ℕ) → masks (suc n) t ≡ cond (eqb (owner n) t) (with_in w (masks n t) (item n)) (masks n t)

pub receivers_join : (S : Sheet) → Joins mask_bits S.sender S.receiver (receivers_below S)
receivers_join S = record { first = λ t. refl; next = λ n t. refl }

pub doors_join : (S : Sheet) → Joins max_doors S.task (λ d. d) (doors_below S)
doors_join S = record { first = λ t. refl; next = λ n t. refl }

module _ {w : ℕ} {owner item : ℕ → ℕ} {masks : ℕ → ℕ → ℕ} (J : Joins w owner item masks) where
  -- entry i, whose item x joins the mask of its owner t: r is what the code stores
  pub one_joined : (room i : ℕ) {ws : List ℕ} {t x r : ℕ} → ws ≡ map_below room (masks i) → t < room → r ≡ with_in w (get_or ws t 0) x → t ≡ owner i → x ≡ item i
      → set ws t r ≡ map_below room (masks (i + 1))
  one_joined room i {ws} {t} {x} {r} e l q o p =
      let same : r ≡ masks (suc i) t = q ∙ rw (p, e, map_below_at room (masks i) t 0 l) (sym (J.next i t ∙ rw (eq-eqb (owner i) t (sym o)))) in
      rw (e, same, add-one) (map_set room t (masks i) (masks (suc i)) l (λ j d. sym (J.next i j ∙ rw (ne_eqb (owner i) j (λ z. d (sym z ∙ sym o))))))

  -- where every item has a bit the masks are of w bits, as they stand in the array
  joined_lt : (n t : ℕ) → ((i : ℕ) → i < n → item i < w) → masks n t < 2 ^ w
  joined_lt zero t h = rw (J.first t) (pow_pos w)
  joined_lt (suc n) t h =
      let before = joined_lt n t (λ i l. h i (omega arith)) in
      let last = h n (omega arith) in
      rw (J.next n t) (by_test (eqb (owner n) t) (λ u. rw (u, with_in_lem w (masks n t) (item n) last) (with_lt w _ _ before last)) (λ u. rw u before))

  pub joined_fits : (room n : ℕ) {ws : List ℕ} {t : ℕ} → ws ≡ map_below room (masks n) → t < room → ((i : ℕ) → i < n → item i < w) → get_or ws t 0 < 2 ^ w
  joined_fits room n {t = t} e l h = rw (e, map_below_at room (masks n) t 0 l) (joined_lt n t h)

  -- and each has its items
  pub joined_member : (n t j : ℕ) → ((i : ℕ) → i < n → item i < w) → member (masks n t) j ≡ any_below n (λ i. eqb (owner i) t && eqb (item i) j)
  joined_member zero t j h = rw (J.first t, bit_none)
  joined_member (suc n) t j h =
      let before = joined_member n t j (λ i l. h i (omega arith)) in
      rw (J.next n t) (by_test (eqb (owner n) t)
      (λ u. rw (u, with_in_lem w (masks n t) (item n) (h n (omega arith)), member_with) (ap (λ (b : Bool). b || eqb (item n) j) before))
      (λ u. rw (u, or-false) before))
