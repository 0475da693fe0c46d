-- Bytes written into a buffer, one part behind the other, and each element afterwards; and the bytes of a number in two parts. Assumes nothing.
use Rattle.model.proofs.Basics.{◌≡◌, refl, sym, ap, ap₂, ◌∙◌, List, [], ◌∷◌, ◌++◌, ℕ, zero, suc, ◌+◌, ◌-◌, ◌*◌, ◌/◌, ◌%◌, ◌^◌, ◌≤◌, ◌<◌}
use Rattle.model.proofs.Basics.{zero-add, add-zero, pow-succ', div-one, div-div-eq-div-mul, suc-add, add-suc, mul_assoc, pow-suc}
use Rattle.model.proofs.Basics.{mod-add-div', arith, leb, length, set, length-append, sets, length-sets, sets-eq, leb-true, le-leb}
use Rattle.model.proofs.Basics.{lt-leb, get_or, take, drop, length-take-le, get_or-take, List·getD-append}
use lib.Seq.{get_or-drop, get_or-append-add}
use Rattle.model.specs.{bytes_of, overwrite, overwrite_at}
use Rattle.model.proofs.{Bytes.Numbers.length_bytes_of, Tools.Tests.by_test}

-- ---- where bytes fit, and where not

-- what does not fit is not written
pub over_not : (i : ℕ) (xs b : List ℕ) → length b < i + length xs → overwrite_at i xs b ≡ b
unfolding overwrite_at
over_not i xs b h = rw (lt-leb _ _ h)

-- what fits is stored byte by byte
pub over_sets : (i : ℕ) (xs b : List ℕ) → i + length xs ≤ length b → sets b i xs ≡ overwrite_at i xs b
unfolding overwrite_at
over_sets i xs b h = rw (le-leb (i + length xs) (length b) h) (sets-eq xs b i h)

-- the length stays
pub length_over : (i : ℕ) (xs b : List ℕ) → length (overwrite_at i xs b) ≡ length b
unfolding overwrite_at
length_over i xs b = by_test (leb (i + length xs) (length b))
    (λ w. ap length (sym (over_sets i xs b (leb-true _ _ w))) ∙ length-sets b i xs)
    (λ w. rw w)

-- at the front
pub over_front : (xs b : List ℕ) → length xs ≤ length b → overwrite_at 0 xs b ≡ overwrite xs b
unfolding overwrite_at overwrite
over_front xs b h = rw (zero-add, le-leb (length xs) (length b) h)

-- no bytes
pub over_none : (i : ℕ) (b : List ℕ) → i ≤ length b → overwrite_at i [] b ≡ b
over_none i b h = sym (over_sets i [] b (omega arith))

-- ---- one part behind the other

sets_append : (b : List ℕ) (i : ℕ) (xs ys : List ℕ) → sets (sets b i xs) (i + length xs) ys ≡ sets b i (xs ++ ys)
sets_append b i [] ys = rw add-zero
sets_append b i (x ∷ xs) ys = rw (add-suc, ← suc-add i (length xs)) (sets_append (set b i x) (suc i) xs ys)

pub over_on : (i : ℕ) (xs ys b : List ℕ) → i + length xs + length ys ≤ length b
    → overwrite_at (i + length xs) ys (overwrite_at i xs b) ≡ overwrite_at i (xs ++ ys) b
over_on i xs ys b h =
    rw (
      ← over_sets (i + length xs) ys (overwrite_at i xs b) (rw length_over h),
      ← over_sets i xs b (omega arith),
      ← over_sets i (xs ++ ys) b (rw length-append (omega arith)),
    ) (sets_append b i xs ys)

-- from the front on; p is where the second part begins
pub over_behind : (p : ℕ) (xs ys b : List ℕ) → length xs ≡ p → p + length ys ≤ length b → overwrite_at p ys (overwrite_at 0 xs b) ≡ overwrite_at 0 (xs ++ ys) b
over_behind p xs ys b e h =
    let place : p ≡ 0 + length xs = omega arith in
    rw place (over_on 0 xs ys b (omega arith))

-- ---- the bytes of a number, in two parts

pub bytes_split : (j k n : ℕ) → bytes_of (j + k) n ≡ bytes_of j n ++ bytes_of k (n / 256 ^ j)
unfolding bytes_of
bytes_split zero k n = rw (zero-add, div-one)
bytes_split (suc j) k n = rw (suc-add, pow-succ', ← div-div-eq-div-mul) (ap (λ (xs : List ℕ). n % 256 ∷ xs) (bytes_split j k (n / 256)))

-- what its bytes cannot hold does not matter
bytes_more : (k n m : ℕ) → bytes_of k (n + m * 256 ^ k) ≡ bytes_of k n
unfolding bytes_of
bytes_more zero n m = refl
bytes_more (suc k) n m = rw (pow-suc, ← mul_assoc) (ap₂ (λ (x : ℕ) (xs : List ℕ). x ∷ xs) (omega arith)
    (ap (bytes_of k) (omega arith) ∙ bytes_more k (n / 256) m))

pub bytes_mod : (k n : ℕ) → bytes_of k (n % 256 ^ k) ≡ bytes_of k n
bytes_mod k n = sym (bytes_more k (n % 256 ^ k) (n / 256 ^ k)) ∙ ap (bytes_of k) (mod-add-div' n (256 ^ k))

-- a number is written part behind part
pub over_number : (j k n i : ℕ) (b : List ℕ) → i + j + k ≤ length b
    → overwrite_at (i + j) (bytes_of k (n / 256 ^ j)) (overwrite_at i (bytes_of j n) b) ≡ overwrite_at i (bytes_of (j + k) n) b
over_number j k n i b h =
    rw (bytes_split j k n, ← over_on i (bytes_of j n) (bytes_of k (n / 256 ^ j)) b (simp length_bytes_of h), length_bytes_of)

-- ---- an element of what was overwritten

module _ (at : ℕ) (xs buf : List ℕ) (fits : at + length xs ≤ length buf) where
  front : length (take at buf) ≡ at
  front = length-take-le at buf (omega arith)

  -- below the part that was written
  pub over_below : (i : ℕ) → i < at → get_or (overwrite_at at xs buf) i 0 ≡ get_or buf i 0
  unfolding overwrite_at
  over_below i l = rw (le-leb (at + length xs) (length buf) fits)
      (List·getD-append (take at buf ++ xs) _ 0 i (rw length-append (omega (arith, front)))
      ∙ List·getD-append (take at buf) xs 0 i (omega (arith, front))
      ∙ get_or-take at buf i 0 l)

  -- in it
  pub over_in : (j : ℕ) → j < length xs → get_or (overwrite_at at xs buf) (at + j) 0 ≡ get_or xs j 0
  unfolding overwrite_at
  over_in j l = rw (le-leb (at + length xs) (length buf) fits)
      (List·getD-append (take at buf ++ xs) _ 0 (at + j) (rw length-append (omega (arith, front)))
      ∙ ap (λ (n : ℕ). get_or (take at buf ++ xs) (n + j) 0) (sym front)
      ∙ get_or-append-add (take at buf) xs j 0)

  -- and beyond it
  pub over_beyond : (i : ℕ) → at + length xs ≤ i → get_or (overwrite_at at xs buf) i 0 ≡ get_or buf i 0
  unfolding overwrite_at
  over_beyond i l =
      let m : ℕ = i - (at + length xs) in
      let e : i ≡ length (take at buf ++ xs) + m = rw length-append (omega (arith, front)) in
      rw (le-leb (at + length xs) (length buf) fits)
      (ap (λ (n : ℕ). get_or (take at buf ++ xs ++ drop (at + length xs) buf) n 0) e
      ∙ get_or-append-add (take at buf ++ xs) (drop (at + length xs) buf) m 0
      ∙ get_or-drop (at + length xs) buf m 0
      ∙ ap (λ (n : ℕ). get_or buf n 0) (omega arith))
