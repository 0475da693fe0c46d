-- Numbers as bytes, the least significant first, over the width in bytes (01, Layout of a task sheet and Layout of a plan). Assumes nothing.
use Rattle.std.specs.Prelude.{cond, List, [], ◌∷◌, ◌++◌, ℕ, zero, suc, ◌+◌, ◌-◌, ◌*◌, ◌/◌, ◌%◌, ◌^◌, ltb, leb, length, get_or, take, drop, ℤ, pos, negsuc}

-- the number in the k bytes from byte i on; a byte beyond the end counts as 0 (01, Layout of a task sheet)
unfoldable pub number_at : ℕ → List ℕ → ℕ → ℕ
number_at zero b i = 0
number_at (suc k) b i = get_or b i 0 + 256 * number_at k b (suc i)

-- the integer that a number of k bytes stands for in two's complement (01, Layout of a task sheet)
unfoldable pub signed : ℕ → ℕ → ℤ
signed k n = cond (ltb (2 * n) (256 ^ k)) (pos n) (negsuc (256 ^ k - 1 - n))

-- the k bytes of a number (01, Layout of a plan)
unfoldable pub bytes_of : ℕ → ℕ → List ℕ
bytes_of zero n = []
bytes_of (suc k) n = n % 256 ∷ bytes_of k (n / 256)

-- the buffer with the bytes at its front; the rest of it stays (01, Layout of a plan)
unfoldable pub overwrite : List ℕ → List ℕ → List ℕ
overwrite bytes buffer = bytes ++ drop (length bytes) buffer

-- the buffer with the bytes from byte i on, if they fit; else as it is (01, Layout of a plan)
unfoldable pub overwrite_at : ℕ → List ℕ → List ℕ → List ℕ
overwrite_at i bytes buffer = cond (leb (i + length bytes) (length buffer)) (take i buffer ++ bytes ++ drop (i + length bytes) buffer) buffer

-- how many bytes that writes: all of them, or none (01, Layout of a plan)
unfoldable pub written_at : ℕ → List ℕ → List ℕ → ℕ
written_at i bytes buffer = cond (leb (i + length bytes) (length buffer)) (length bytes) 0
