-- Numbers and their bytes: what was written is read again, and what was read is written again. Assumes nothing.
use Rattle.model.proofs.Basics.{◌≡◌, refl, sym, ap, ap₂, ◌∙◌, true, List, [], ◌∷◌, ◌++◌, append_assoc, append-nil, ℕ, zero, suc, ◌+◌}
use Rattle.model.proofs.Basics.{◌*◌, ◌/◌, ◌%◌, ◌^◌, ◌≤◌, ◌<◌, add-zero, suc-add, add-suc, mul_assoc, pow-suc, mul-le-mul_left, arith, ltb, length, get_or, take, drop, length-append}
use Rattle.model.proofs.Basics.{List·getD-append, drop-cons, take-append_seam, take-add, drop-append_seam, are_bytes, ltb-true}
use Rattle.model.specs.{sum_below, flat_map_below, number_at, bytes_of, overwrite}
use Rattle.model.proofs.Tools.{Tests.and_left, Tests.and_right, Tests.by_last, Folds.sum_cong, Folds.sum_first, Folds.sum_times}

-- ---- bytes

-- the bytes of a number: k of them
pub length_bytes_of : (k n : ℕ) → length (bytes_of k n) ≡ k
unfolding bytes_of
length_bytes_of zero n = refl
length_bytes_of (suc k) n = ap suc (length_bytes_of k (n / 256))

-- a byte is below 256, also where there is none
pub byte_lt : (b : List ℕ) (i : ℕ) → are_bytes b ≡ true → get_or b i 0 < 256
byte_lt [] i h = omega arith
byte_lt (x ∷ b) zero h = ltb-true x 256 (and_left (ltb x 256) (are_bytes b) h)
byte_lt (x ∷ b) (suc i) h = byte_lt b i (and_right (ltb x 256) (are_bytes b) h)

-- k bytes hold a number below 256 to the k
pub number_lt : (k : ℕ) (b : List ℕ) (i : ℕ) → are_bytes b ≡ true → number_at k b i < 256 ^ k
unfolding number_at
number_lt zero b i h = omega arith
number_lt (suc k) b i h = omega (arith, number_lt k b (suc i) h, byte_lt b i h)

-- which is the sum of byte j times 256 to the j
pub number_sum : (k : ℕ) (b : List ℕ) (i : ℕ) → number_at k b i ≡ sum_below k (λ j. get_or b (i + j) 0 * 256 ^ j)
unfolding number_at
number_sum zero b i = refl
number_sum (suc k) b i =
    ap₂ (λ (x y : ℕ). x + 256 * y) (ap (λ (j : ℕ). get_or b j 0) (sym (add-zero i)))
    (number_sum k b (suc i) ∙ sum_cong k _ _ (λ j l. ap (λ (m : ℕ). get_or b m 0 * 256 ^ j) (suc-add i j ∙ sym (add-suc i j))))
    ∙ omega (
      arith,
      sum_times k 256 (λ j. get_or b (i + suc j) 0 * 256 ^ j),
      sum_first k (λ j. get_or b (i + j) 0 * 256 ^ j),
      sum_cong k (λ j. 256 * (get_or b (i + suc j) 0 * 256 ^ j)) (λ j. get_or b (i + suc j) 0 * 256 ^ suc j) (λ j l. shift (get_or b (i + suc j) 0) j),
    )
  where
    shift : (x j : ℕ) → 256 * (x * 256 ^ j) ≡ x * 256 ^ suc j
    shift x j = rw (pow-suc 256 j) (omega (arith, mul_assoc x (256 ^ j) 256))

-- ---- where a number is read

-- equal bytes, equal numbers
pub number_cong : (k : ℕ) (a b : List ℕ) (i : ℕ) → ((j : ℕ) → j < i + k → get_or a j 0 ≡ get_or b j 0) → number_at k a i ≡ number_at k b i
unfolding number_at
number_cong zero a b i h = refl
number_cong (suc k) a b i h = ap₂ (λ (x y : ℕ). x + 256 * y) (h i (omega arith)) (number_cong k a b (suc i) (λ j l. h j (omega arith)))

-- what stands behind a number does not matter
pub number_front : (k : ℕ) (a b : List ℕ) (i : ℕ) → i + k ≤ length a → number_at k (a ++ b) i ≡ number_at k a i
number_front k a b i h = number_cong k (a ++ b) a i (λ j l. List·getD-append a b 0 j (omega arith))

-- and what stands before it only shifts it
number_tail : (k x : ℕ) (b : List ℕ) (i : ℕ) → number_at k (x ∷ b) (suc i) ≡ number_at k b i
unfolding number_at
number_tail zero x b i = refl
number_tail (suc k) x b i = ap (λ (y : ℕ). get_or b i 0 + 256 * y) (number_tail k x b (suc i))

-- ---- written, then read

number_bytes : (k n : ℕ) → n < 256 ^ k → number_at k (bytes_of k n) 0 ≡ n
unfolding number_at bytes_of
number_bytes zero n h = omega arith
number_bytes (suc k) n h = omega (arith, number_tail k (n % 256) (bytes_of k (n / 256)) 0, number_bytes k (n / 256) (omega arith))

-- a number that fits its bytes is read again, whatever stands before it
pub read_last : (k n : ℕ) (front : List ℕ) → n < 256 ^ k → number_at k (front ++ bytes_of k n) (length front) ≡ n
read_last k n [] h = number_bytes k n h
read_last k n (x ∷ front) h = number_tail k x (front ++ bytes_of k n) (length front) ∙ read_last k n front h

-- ---- read, then written

-- the bytes of what is read are the bytes that stand there
pub written_read : (k : ℕ) (b : List ℕ) (i : ℕ) → are_bytes b ≡ true → i + k ≤ length b → bytes_of k (number_at k b i) ≡ take k (drop i b)
unfolding number_at bytes_of
written_read zero b i h l = refl
written_read (suc k) b i h l =
    let g : i < length b = omega arith in
    rw (drop-cons b i 0)
    (ap₂ (λ (x : ℕ) (xs : List ℕ). x ∷ xs)
    (omega (arith, byte_lt b i h))
    (ap (bytes_of k) (omega (arith, byte_lt b i h)) ∙ written_read k b (suc i) h (omega arith)))

-- so a front of the bytes goes on with them
pub written_on : (k : ℕ) (b : List ℕ) (i : ℕ) → are_bytes b ≡ true → i + k ≤ length b → take i b ++ bytes_of k (number_at k b i) ≡ take (i + k) b
written_on k b i h l = rw written_read (sym (take-add i k b))

-- ---- a row of numbers, one behind the other

-- f 0, f 1, .. below n, in k bytes each
abbrev pub row : ℕ → ℕ → (ℕ → ℕ) → List ℕ
row k n f = flat_map_below n (λ i. bytes_of k (f i))

pub length_row : (k n : ℕ) (f : ℕ → ℕ) → length (row k n f) ≡ k * n
length_row k zero f = omega arith
length_row k (suc n) f = simp (length-append, length_bytes_of) (omega (arith, length_row k n f))

-- each number of a row is read again
pub read_row : (k n : ℕ) (f : ℕ → ℕ) (front : List ℕ) (i : ℕ) → i < n → f i < 256 ^ k → number_at k (front ++ row k n f) (length front + k * i) ≡ f i
read_row k zero f front i l h = absurd (omega arith)
read_row k (suc n) f front i l h =
    let long : length (front ++ row k n f) ≡ length front + k * n = length-append front (row k n f) ∙ ap (λ (x : ℕ). length front + x) (length_row k n f) in
    rw (← append_assoc) (by_last i n l
    (λ w. rw (w, ← long) (read_last k (f n) (front ++ row k n f) (rw w at h)))
    (λ w. number_front k (front ++ row k n f) (bytes_of k (f n)) (length front + k * i) (omega (arith, mul-le-mul_left k w)) ∙ read_row k n f front i w h))

-- and the bytes of a row that is read are those that stand there
pub row_on : (k n : ℕ) (b : List ℕ) (i : ℕ) → are_bytes b ≡ true → i + k * n ≤ length b
    → take i b ++ row k n (λ j. number_at k b (i + k * j)) ≡ take (i + k * n) b
row_on k zero b i h l = let place : i + k * 0 ≡ i = omega arith in rw place (append-nil (take i b))
row_on k (suc n) b i h l =
    let place : i + k * suc n ≡ i + k * n + k = omega arith in
    sym (append_assoc (take i b) (row k n (λ j. number_at k b (i + k * j))) (bytes_of k (number_at k b (i + k * n))))
    ∙ ap (λ (x : List ℕ). x ++ bytes_of k (number_at k b (i + k * n))) (row_on k n b i h (omega arith))
    ∙ rw place (written_on k b (i + k * n) h (omega arith))

-- ---- the front of a buffer

-- the bytes stand at the front, and the rest is as it was
pub overwritten : (bytes buffer : List ℕ) → (take (length bytes) (overwrite bytes buffer) ≡ bytes)
    × (drop (length bytes) (overwrite bytes buffer) ≡ drop (length bytes) buffer)
unfolding overwrite
overwritten bytes buffer = (take-append_seam bytes (drop (length bytes) buffer), drop-append_seam bytes (drop (length bytes) buffer))
