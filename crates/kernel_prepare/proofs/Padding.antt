-- Arrays that a loop fills from the front: an element of each entry, and behind them the number for nothing. Assumes nothing.
use Rattle.model.proofs.Basics.{◌≡◌, refl, sym, ap, ◌∙◌, List, ℕ, suc, ◌+◌, ◌≤◌, ◌<◌, add-one, arith, length, get_or, drop, set, replicate, length-replicate, length-append}
use Rattle.model.proofs.Basics.{append_snoc, drop-cons, set_at, List·getD-append}
use lib.ListN.{length-drop}
use Rattle.model.specs.{map_below}
use Rattle.model.proofs.Tools.Folds.{length_map_below, map_below_at}
use Rattle.kernel_prepare.specs.Preparing.{padded}

-- the array b, with a place for `room`, has f of the first i of n entries
pub record Padding {A : Type 0} (none : A) (room n : ℕ) (f : ℕ → A) (b : List A) (i : ℕ) : Type 0 where
  pub fits : n ≤ room
  pub within : i ≤ n
  pub is : b ≡ padded none room i f

module _ {A : Type 0} {none : A} {room n : ℕ} {f : ℕ → A} where
  pub none_padded : n ≤ room → Padding none room n f (replicate room none) 0
  unfolding map_below
  none_padded l = record { fits = l; within = omega arith; is = refl }

  -- v is what the code stores
  pub one_padded : {b : List A} {v : A} {i : ℕ} → Padding none room n f b i → i < n → v ≡ f i → Padding none room n f (set b i v) (i + 1)
  unfolding map_below
  one_padded {i = i} s l q =
      let m : i < room = omega (arith, s.fits) in
      record {
        fits = s.fits;
        within = omega arith;
        is = rw (s.is, q, add-one, drop-cons (replicate room none) i none (rw length-replicate m))
            (set_at (map_below i f) _ (drop (suc i) (replicate room none)) (f i) i (length_map_below i f)
            ∙ sym (append_snoc (map_below i f) (f i) (drop (suc i) (replicate room none))));
      }

  pub all_padded : {b : List A} {i : ℕ} → Padding none room n f b i → n ≤ i → b ≡ padded none room n f
  all_padded {i = i} s l = let e : i ≡ n = omega (arith, s.within) in s.is ∙ ap (λ (i : ℕ). padded none room i f) e

-- what stands there
pub padded_at : {A : Type 0} (none : A) (room n : ℕ) (f : ℕ → A) (i : ℕ) → i < n → get_or (padded none room n f) i none ≡ f i
padded_at none room n f i l =
    List·getD-append (map_below n f) (drop n (replicate room none)) none i (rw length_map_below l) ∙ map_below_at n f i none l

-- and the place of them all
pub length_padded : {A : Type 0} (none : A) (room n : ℕ) (f : ℕ → A) → n ≤ room → length (padded none room n f) ≡ room
length_padded none room n f l = rw (length-append, length_map_below n f, length-drop n (replicate room none), length-replicate) (omega arith)
