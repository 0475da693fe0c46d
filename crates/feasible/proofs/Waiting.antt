-- What every task waits for, one pair at a time. Assumes nothing.
use Rattle.model.proofs.Basics.{◌≡◌, refl, sym, ◌∙◌, ⊎_elim, true, false, List, ℕ, ◌+◌, ◌≤◌, ◌<◌, add-one, arith, eqb, length, get_or, set}
use Rattle.model.proofs.Basics.{take, length-take-le, get_or-take, length-set, ext_get_or, get_or-set_same, get_or-set_other, eqb-true, eqb-false}
use Rattle.model.proofs.Basics.{eq-eqb}
use Rattle.model.specs.{map_below, max_tasks, mask_bits, with_in, senders_below, senders_of}
use Rattle.model.specs.Sheet.{Sheet}
use Rattle.model.proofs.Tools.Tests.{tested}
use Rattle.model.proofs.Tools.Folds.{length_map_below, map_below_at}

-- the array in the code: for each task, its senders in the pairs below i
pub record Waiting (S : Sheet) (ws : List ℕ) (i : ℕ) : Type 0 where
  pub size : length ws ≡ max_tasks
  pub each : (t : ℕ) → t < max_tasks → get_or ws t 0 ≡ senders_below S i t

module _ {S : Sheet} {ws : List ℕ} {i : ℕ} (h : Waiting S ws i) where
  -- pair i, whose receiver waits for its sender
  pub wait_for : {to from r : ℕ} → to ≡ S.receiver i → to < max_tasks → from ≡ S.sender i
      → r ≡ with_in mask_bits (get_or ws to 0) from → Waiting S (set ws to r) (i + 1)
  wait_for {to} {from} {r} g there f e = rw add-one (record {
    size = length-set ws to r ∙ h.size;
    each = λ t l. ⊎_elim
        (λ (w : eqb to t ≡ true). let s : to ≡ t = eqb-true _ _ w in
        rw (← s, ← g, eq-eqb to to refl, get_or-set_same ws to r 0 (rw h.size there), e, f, h.each to there))
        (λ (w : eqb to t ≡ false). rw (← g, w, get_or-set_other ws to t r 0 (λ z. eqb-false _ _ w (sym z))) (h.each t l))
        (tested (eqb to t));
  })

  pub all_wait : i ≡ S.pairs → ws ≡ map_below max_tasks (senders_of S)
  unfolding senders_of
  all_wait e = ext_get_or 0 ws _ (h.size ∙ sym (length_map_below max_tasks _)) (λ t l.
      let m : t < max_tasks = rw h.size at l in
      h.each t m ∙ rw e (sym (map_below_at max_tasks (senders_of S) t 0 m)))

-- ---- the array's slice of the sheet's tasks

-- what the first n tasks wait for
first_wait : (S : Sheet) (n : ℕ) → n ≤ max_tasks → take n (map_below max_tasks (senders_of S)) ≡ map_below n (senders_of S)
first_wait S n l =
    let e = length_map_below max_tasks (senders_of S) in
    let k = length-take-le n (map_below max_tasks (senders_of S)) (omega (arith, e, l)) in
    ext_get_or 0 _ _ (k ∙ sym (length_map_below n (senders_of S))) (λ t h.
    let m : t < n = rw k at h in
    get_or-take n _ t 0 m ∙ map_below_at max_tasks (senders_of S) t 0 (omega (arith, m, l)) ∙ sym (map_below_at n (senders_of S) t 0 m))

module _ (S : Sheet) {ws : List ℕ} {n : ℕ} (e : ws ≡ map_below max_tasks (senders_of S)) (q : n ≡ S.tasks) (l : S.tasks ≤ max_tasks) where
  pub slice_within : n ≤ length ws
  slice_within = rw (e, length_map_below) (omega (arith, q, l))

  pub slice_size : n ≡ length (take n ws)
  slice_size = sym (length-take-le n ws slice_within)

  pub slice_is : take n ws ≡ map_below S.tasks (senders_of S)
  slice_is = rw (e, q) (first_wait S S.tasks l)
