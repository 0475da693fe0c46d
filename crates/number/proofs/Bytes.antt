-- The bytes that the code gathers, as the number that they stand for. Assumes nothing.
use Rattle.model.proofs.Basics.{◌≡◌, refl, sym, ap₂, ◌∙◌, List, ℕ, zero, suc, ◌+◌, ◌*◌, ◌^◌, ◌≤◌, min, zero-add, add-zero, add-one, arith, leb, length, get_or}
use Rattle.model.proofs.Basics.{◌<◌, leb-true, leb-false, le_refl, take, length-take-le, get_or-take, ext_get_or}
use Rattle.model.proofs.Tools.Folds.{length_map_below, map_below_at}
use native.Mathlib.Nat.{suc-add, add-suc, mul_assoc, pow-suc}
use Rattle.model.specs.{map_below, number_at}
use Rattle.model.proofs.Bytes.Numbers.{number_sum}
use Rattle.model.proofs.Tools.Tests.{by_test}
use lib.ListN.{get_or-eq_default}
use lib.Seq.{get_or-drop}
use Rattle.std.proofs.lemmas.Slice.{between_to_end}
use Rattle.std.specs.List.{between}
use Rattle.std.specs.Int.{w16, w32, w64, from_le_bytes}

-- behind the end there are zeros, and so no place behind it differs from the end
byte_from : (b : List ℕ) (i k m : ℕ) → m ≡ min i (length b) → get_or b (m + k) 0 ≡ get_or b (i + k) 0
byte_from b i k m e = by_test (leb i (length b))
    (λ w. let q : m ≡ i = omega (arith, leb-true i (length b) w) in rw q)
    (λ w. let l = leb-false i (length b) w in get_or-eq_default b 0 (omega arith) ∙ sym (get_or-eq_default b 0 (omega arith)))

-- the rest of the bytes has them from its front on
pub rest_at : (b : List ℕ) (i k m : ℕ) → m ≡ min i (length b) → get_or (between m (length b) b) k 0 ≡ get_or b (i + k) 0
rest_at b i k m e = rw (between_to_end b m (length b) (le_refl (length b))) (get_or-drop m b k 0 ∙ byte_from b i k m e)

-- the k bytes from byte i on
abbrev pub bytes_from : ℕ → List ℕ → ℕ → List ℕ
bytes_from k b i = map_below k (λ j. get_or b (i + j) 0)

-- the first n of the rest
pub first_of_rest : (b : List ℕ) (i m : ℕ) → m ≡ min i (length b) → (n : ℕ) → n ≤ length (between m (length b) b) → take n (between m (length b) b) ≡ bytes_from n b i
first_of_rest b i m e n h =
    let rest = between m (length b) b in
    let long : length (take n rest) ≡ n = length-take-le n rest h in
    ext_get_or 0 _ _ (long ∙ sym (length_map_below n _)) (λ k l.
    let j : k < n = omega (arith, long) in
    get_or-take n rest k 0 j ∙ rest_at b i k m e ∙ sym (map_below_at n _ k 0 j))

-- std's number of them is that of the definition
pub le_number_2 : (b : List ℕ) (i : ℕ) {bytes : List ℕ} {r : ℕ} → bytes ≡ bytes_from 2 b i → r ≡ from_le_bytes w16 bytes → r ≡ number_at 2 b i
unfolding map_below
le_number_2 b i e n = omega (arith, number_sum 2 b i, rw e at n)

pub le_number_4 : (b : List ℕ) (i : ℕ) {bytes : List ℕ} {r : ℕ} → bytes ≡ bytes_from 4 b i → r ≡ from_le_bytes w32 bytes → r ≡ number_at 4 b i
unfolding map_below
le_number_4 b i e n = omega (arith, number_sum 4 b i, rw e at n)

pub le_number_8 : (b : List ℕ) (i : ℕ) {bytes : List ℕ} {r : ℕ} → bytes ≡ bytes_from 8 b i → r ≡ from_le_bytes w64 bytes → r ≡ number_at 8 b i
unfolding map_below
le_number_8 b i e n = omega (arith, number_sum 8 b i, rw e at n)

-- ---- of any number of bytes

-- behind the end there are zeros
pub number_beyond : (k : ℕ) (b : List ℕ) (i : ℕ) → length b ≤ i → 0 ≡ number_at k b i
unfolding number_at
number_beyond zero b i h = refl
number_beyond (suc k) b i h = omega (arith, get_or-eq_default b 0 h, number_beyond k b (suc i) (omega arith))

-- two bytes
pub number_two : (b : List ℕ) (i : ℕ) → number_at 2 b i ≡ get_or b i 0 + get_or b (i + 1) 0 * 256
unfolding number_at
number_two b i = rw add-one (omega arith)

-- j bytes and k behind them
number_join : (j k : ℕ) (b : List ℕ) (i : ℕ) → number_at (j + k) b i ≡ number_at j b i + number_at k b (i + j) * 256 ^ j
unfolding number_at
number_join zero k b i = rw (zero-add k, add-zero i) (omega arith)
number_join (suc j) k b i = rw (suc-add, add-suc, ← suc-add i j, pow-suc, ← mul_assoc) (omega (arith, number_join j k b (suc i)))

-- two halves of k bytes
pub both_halves : (k : ℕ) (b : List ℕ) (i : ℕ) {x y : ℕ} → x ≡ number_at k b i → y ≡ number_at k b (i + k)
    → x + y * 256 ^ k ≡ number_at (k + k) b i
both_halves k b i low high = ap₂ (λ (x y : ℕ). x + y * 256 ^ k) low high ∙ sym (number_join k k b i)
