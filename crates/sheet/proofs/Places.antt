-- The limits and the places of the bodies, as the code's tables and sums have them. Assumes nothing.
use Rattle.model.proofs.Basics.{◌≡◌, refl, not, ◌||◌, List, [], ◌∷◌, ℕ, ◌+◌, ◌*◌, ◌^◌, ◌≤◌, ◌<◌, mul-le-mul_right, add-one, arith, eqb, ltb}
use Rattle.model.proofs.Basics.{get_or}
use Rattle.model.specs.{points_body, distances_body, kind1, entry_bytes, entries, body_at, layout_of, wrong_entries}
use Rattle.model.proofs.Tools.Tests.{outside, exactly}
use Rattle.model.proofs.Tools.Tables.{values}

-- ---- fault 12

module _ (b : List ℕ) where
  -- the limits of the bodies before the distances, from the code's tables
  pub limits : (i x : ℕ) → i < distances_body → x ≡ entries b i
      → (ltb x (get_or (1 ∷ 1 ∷ 1 ∷ 0 ∷ 0 ∷ 1 ∷ []) i 0) || ltb (get_or (12 ∷ 64 ∷ 16 ∷ 32 ∷ 32 ∷ 64 ∷ []) i 0) x) ≡ wrong_entries (layout_of b) b i
  unfolding wrong_entries layout_of kind1
  limits i x l e = rw (
    values (λ j. get_or (kind1.fewest (entries b points_body)) j 0) (1 ∷ 1 ∷ 1 ∷ 0 ∷ 0 ∷ 1 ∷ []) i l refl,
    values (λ j. get_or (kind1.most (entries b points_body)) j 0) (12 ∷ 64 ∷ 16 ∷ 32 ∷ 32 ∷ 64 ∷ []) i l refl,
    e,
  ) (outside _ _ (entries b i))

  -- the distances: as many as pairs of points
  pub all_distances : (p x : ℕ) → p ≡ entries b points_body → x ≡ entries b distances_body
      → not (eqb x (p * p)) ≡ wrong_entries (layout_of b) b distances_body
  unfolding wrong_entries layout_of kind1
  all_distances p x e f = rw (e, f) (exactly _ _)

  -- ---- fault 13

  -- the next body begins behind this one
  pub next_body : (i at n w : ℕ) → at ≡ body_at (layout_of b) b i → n ≡ entries b i → w ≡ entry_bytes (layout_of b) i
      → at + n * w ≡ body_at (layout_of b) b (i + 1)
  next_body i at n w a e f = rw (add-one, a, e, f)

-- a body of 16 bits of entries is short
pub product_lt : (e size : ℕ) → e < 2 ^ 16 → size < 2 ^ 32 → e * size < 2 ^ 48
product_lt e size h s = let m : e * size ≤ 65535 * size = mul-le-mul_right size (omega arith) in omega arith
