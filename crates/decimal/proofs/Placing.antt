-- Texts written into a buffer: all or nothing. Assumes nothing.
use Rattle.model.proofs.Basics.{◌≡◌, refl, sym, ap, ◌∙◌, List, ◌++◌, ℕ, ◌+◌, ◌-◌, ◌≤◌, ◌<◌, arith, length, take, drop, take_all, le-leb, lt-leb}
use Rattle.model.specs.{overwrite_at, written_at}
use Rattle.model.proofs.Bytes.Overwriting.{over_not}
use Rattle.std.proofs.lemmas.Slice.{put_mid-paste}
use borrow.Rule.Slice.PartMut.{put_mid}

pub unwritten : (i : ℕ) (xs b : List ℕ) → length b < i + length xs → (0 ≡ written_at i xs b) × (b ≡ overwrite_at i xs b)
unfolding written_at
unwritten i xs b h = (rw (lt-leb _ _ h), sym (over_not i xs b h))

pub as_many : (i : ℕ) (xs b : List ℕ) → i + length xs ≤ length b → length xs ≡ written_at i xs b
unfolding written_at
as_many i xs b h = rw (le-leb (i + length xs) (length b) h)

-- the part from byte i on has become the text
pub written : (i : ℕ) (xs b ys : List ℕ) → i + length xs ≤ length b → ys ≡ xs → put_mid i (i + length xs - i) b ys ≡ overwrite_at i xs b
unfolding overwrite_at
written i xs b ys h e = rw (le-leb (i + length xs) (length b) h) (
    put_mid-paste i (i + length xs - i) b ys xs (length xs) e (omega arith) refl
    ∙ ap (λ (zs : List ℕ). take i b ++ zs ++ drop (i + length xs) b) (take_all (length xs) xs (omega arith)))
