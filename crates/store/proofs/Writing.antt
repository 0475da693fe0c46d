-- Bytes written to a part of the buffer, and the bytes of a number as the library makes them. Assumes nothing.
use Rattle.model.proofs.Basics.{◌≡◌, sym, ap, ◌∙◌, List, [], ◌∷◌, ℕ, suc, ◌/◌, ◌%◌, add-one, set, ◌+◌, ◌*◌, ◌-◌, ◌≤◌, ◌<◌, arith, length, get_or, append_assoc, le-leb, div-div-eq-div-mul}
use Rattle.model.specs.{bytes_of, overwrite_at}
use Rattle.model.proofs.Bytes.Numbers.{length_bytes_of}
use Rattle.model.proofs.Bytes.Overwriting.{over_not, over_sets, bytes_split, bytes_mod}
use Rattle.model.proofs.Bytes.Rows.{row_too_long}
use Rattle.std.proofs.lemmas.List.{drop-drop}
use borrow.Rule.Slice.PartMut.{put_mid}
use Rattle.std.specs.Int.{w16, w64, to_le_bytes}
use Rattle.store.specs.Rows.{row_bytes}

-- a part that has room is overwritten
pub part_written : (i : ℕ) (ys xs b : List ℕ) → i + length xs ≤ length b → ys ≡ xs → put_mid i (i + length xs - i) b ys ≡ overwrite_at i xs b
unfolding overwrite_at
part_written i ys xs b h e =
    let n : i + length xs - i ≡ length xs = omega arith in
    rw (e, n, le-leb (i + length xs) (length b) h, append_assoc, drop-drop)

-- no room: the buffer is left as it is
pub unwritten : (k n i : ℕ) (b : List ℕ) → length b < i + k → b ≡ overwrite_at i (bytes_of k n) b
unwritten k n i b h = sym (over_not i (bytes_of k n) b (rw length_bytes_of h))

pub row_unwritten : (xs : List ℕ) (i : ℕ) (b : List ℕ) → length b < i + 2 * length xs → b ≡ overwrite_at i (row_bytes xs) b
row_unwritten xs i b h = row_too_long 2 (length xs) i (λ j. get_or xs j 0) b h

-- a number's bytes
eight : (n : ℕ) → to_le_bytes w64 n ≡ bytes_of 8 n
unfolding bytes_of
eight n = simp div-div-eq-div-mul

pub two_written : (n i : ℕ) (a b : List ℕ) {xs : List ℕ} → xs ≡ to_le_bytes w16 n → b ≡ overwrite_at i xs a → b ≡ overwrite_at i (bytes_of 2 n) a
unfolding bytes_of
two_written n i a b e w = rw e at w

pub eight_written : (n i : ℕ) (a b : List ℕ) {xs : List ℕ} → xs ≡ to_le_bytes w64 n → b ≡ overwrite_at i xs a → b ≡ overwrite_at i (bytes_of 8 n) a
eight_written n i a b e w = rw (e ∙ eight n) at w

-- ---- byte by byte, and two bytes at a time

-- two bytes
pub write_two : (n i : ℕ) (b : List ℕ) → n < 65536 → i + 2 ≤ length b
    → set (set b i (n % 256)) (i + 1) (n / 256) ≡ overwrite_at i (bytes_of 2 n) b
unfolding bytes_of
write_two n i b h l = rw add-one (ap (set (set b i (n % 256)) (suc i)) (omega arith) ∙ over_sets i (bytes_of 2 n) b l)

-- eight bytes, in four parts
pub four_parts : (n : ℕ) → row_bytes (n % 65536 ∷ n / 65536 % 65536 ∷ n / 4294967296 % 65536 ∷ n / 281474976710656 ∷ []) ≡ bytes_of 8 n
four_parts n =
    rw (bytes_split 6 2 n, bytes_split 4 2 n, bytes_split 2 2 n, bytes_mod 2 n, bytes_mod 2 (n / 65536), bytes_mod 2 (n / 4294967296))
