-- Tasks done so far as a list: joining a task that is not in it counts it once more. Where each task is first done, as an array filled
-- from the last task to the first: one task more changes its own place alone. Assumes nothing.
use Rattle.model.proofs.Basics.{◌≡◌, refl, sym, ap, ◌∙◌, ◌≢◌, Bool, true, false, cond, List, map, ℕ, suc, ◌+◌, ◌≤◌, ◌<◌}
use Rattle.model.proofs.Basics.{add-zero, arith, eqb, ltb, length, get_or, take, drop, set, replicate, drop_of_length-le, drop-cons}
use Rattle.model.proofs.Basics.{length-map, take_at, drop-length, eqb-true, eqb-false, eq-eqb, ne_eqb, ltb-true, lt-ltb, le-ltb}
use Rattle.model.specs.{map_below, all_in, count_of, index_of, bit, member, with, mask_bits, with_in, max_tasks, overwrite, done_twice}
use Rattle.model.specs.Sheet.{Sheet}
use Rattle.model.proofs.Tools.Tests.{any_true, none_below}
use Rattle.model.proofs.Tools.Elements.{in_at}
use Rattle.model.proofs.Tools.Walks.{from}
use Rattle.model.proofs.Tools.Arrays.{Filled, map_places, map_set}
use Rattle.model.proofs.TaskLists.Masks.{bit_lt, bit_none, member_bit, not_member_bit, with_same, with_other, with_in_lem}

-- ---- the tasks done before place i, as a list

pub record DoneTo (ts : List ℕ) (done i : ℕ) : Type 0 where
  pub within : i ≤ length ts
  pub counts : (t : ℕ) → t < mask_bits → bit done t + count_of t (drop i ts) ≡ count_of t ts

pub none_done : (ts : List ℕ) → DoneTo ts 0 0
none_done ts = record { within = omega arith; counts = λ t l. omega (arith, bit_none t) }

-- a task x that is not in the list joins it
bit_with : (K x t : ℕ) → bit K x ≡ 0 → bit (with K x) t ≡ cond (eqb x t) 1 0 + bit K t
bit_with K x t o = go (eqb x t) refl
  where
    go : (b : Bool) → eqb x t ≡ b → bit (with K x) t ≡ cond b 1 0 + bit K t
    go true e = rw (← eqb-true x t e) (omega (arith, with_same K x, o))
    go false e = omega (arith, with_other K x t (λ (z : t ≡ x). eqb-false x t e (sym z)))

module _ (S : Sheet) {ts : List ℕ} (few : S.tasks ≤ mask_bits) (below : all_in (λ t. ltb t S.tasks) ts ≡ true) {done i : ℕ}
    (h : DoneTo ts done i) where
  -- the task at place i
  module _ (l : i < length ts) where
    x_below : get_or ts i 0 < S.tasks
    x_below = ltb-true _ _ (in_at (λ t. ltb t S.tasks) ts 0 below i l)

    counted : (t : ℕ) → count_of t (drop i ts) ≡ cond (eqb (get_or ts i 0) t) 1 0 + count_of t (drop (i + 1) ts)
    counted t = rw (from ts i l)

    pub done_again : member done (get_or ts i 0) ≡ true → true ≡ done_twice S ts
    unfolding done_twice
    done_again m =
        let x : ℕ = get_or ts i 0 in
        let c : count_of x (drop i ts) ≡ 1 + count_of x (drop (i + 1) ts) = rw (eq-eqb x x refl) at (counted x) in
        sym (any_true S.tasks _ x x_below (lt-ltb 1 (count_of x ts)
        (omega (arith, h.counts x (omega (arith, x_below)), member_bit done x m))))

    pub done_next : {new : ℕ} → member done (get_or ts i 0) ≡ false → new ≡ with_in mask_bits done (get_or ts i 0) → DoneTo ts new (i + 1)
    done_next m e =
        let x : ℕ = get_or ts i 0 in
        record {
          within = omega arith;
          counts = λ t k. rw (e, with_in_lem mask_bits done x (omega (arith, x_below)))
              (omega (arith, h.counts t k, bit_with done x t (not_member_bit done x m), counted t));
        }

  pub all_once : length ts ≤ i → false ≡ done_twice S ts
  unfolding done_twice
  all_once l = sym (none_below S.tasks _ (λ t k. le-ltb 1 (count_of t ts)
      (omega (arith, rw (drop_of_length-le ts l) at (h.counts t (omega arith)), bit_lt done t))))

-- ---- where each task is first done, from place i on

pub record PlacedFrom (ts at : List ℕ) (i : ℕ) : Type 0 where
  pub within : i ≤ length ts
  pub places : at ≡ map_below max_tasks (λ t. i + index_of t (drop i ts))

pub none_placed : (ts : List ℕ) → PlacedFrom ts (replicate max_tasks (length ts)) (length ts)
unfolding map_below
none_placed ts = record { within = omega arith; places = rw (drop-length, add-zero) refl }

module _ {ts at : List ℕ} {i : ℕ} (h : PlacedFrom ts at i) (below : all_in (λ t. ltb t max_tasks) ts ≡ true) (j : ℕ) (e : i ≡ suc j) where
  inside : j < length ts
  inside = omega (arith, h.within)

  pub x_in : get_or ts j 0 < max_tasks
  x_in = ltb-true _ _ (in_at (λ t. ltb t max_tasks) ts 0 below j inside)

  here : j + index_of (get_or ts j 0) (drop j ts) ≡ j
  here = rw (drop-cons ts j 0 inside, eq-eqb (get_or ts j 0) (get_or ts j 0) refl) (omega arith)

  other : (t : ℕ) → t ≢ get_or ts j 0 → suc j + index_of t (drop (suc j) ts) ≡ j + index_of t (drop j ts)
  other t n = rw (drop-cons ts j 0 inside, ne_eqb (get_or ts j 0) t (λ z. n (sym z))) (omega arith)

  pub one_placed : {new : List ℕ} → new ≡ set at (get_or ts j 0) j → PlacedFrom ts new j
  one_placed q = record {
    within = omega (arith, inside);
    places = q ∙ rw (h.places, e) (ap (set (map_below max_tasks (λ t. suc j + index_of t (drop (suc j) ts))) (get_or ts j 0)) (sym here)
        ∙ map_set max_tasks (get_or ts j 0) (λ t. suc j + index_of t (drop (suc j) ts)) (λ t. j + index_of t (drop j ts)) x_in other);
  }

-- ---- an array whose front was filled with g of each element of xs

pub all_mapped : (g : ℕ → ℕ) (xs : List ℕ) {a b : List ℕ} {i : ℕ} → Filled (λ j. g (get_or xs j 0)) a b i → i ≡ length xs → b ≡ overwrite (map g xs) a
unfolding overwrite
all_mapped g xs h e = h.so_far ∙ rw (e, map_places g xs, length-map)

pub front_mapped : (g : ℕ → ℕ) (xs a : List ℕ) → take (length xs) (overwrite (map g xs) a) ≡ map g xs
unfolding overwrite
front_mapped g xs a = take_at (map g xs) _ (length xs) (length-map xs g)
