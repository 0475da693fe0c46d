-- Parts of arrays and of the cells: what stands at the front of an array after it was written there, and a row written in the midst. Assumes nothing.
use Rattle.model.proofs.Basics.{◌≡◌, sym, List, append_assoc, ℕ, ◌+◌, ◌-◌, ◌≤◌, arith, length, take, drop}
use Rattle.model.proofs.Basics.{length-append, length-take, take-append_seam, le-leb}
use Rattle.model.specs.{map_below, overwrite, overwrite_at}
use Rattle.model.proofs.Tools.Folds.{length_map_below}
use lib.ListN.{length-drop}
use lib.Seq.{drop-drop}
use borrow.Rule.Slice.PartMut.{put_mid}

-- ---- the front of an array

module _ (xs buf : List ℕ) {new : List ℕ} {m : ℕ} (h : new ≡ overwrite xs buf) (n : m ≡ length xs) where
  pub front_is : take m new ≡ xs
  unfolding overwrite
  front_is = rw (h, n) (take-append_seam xs (drop (length xs) buf))

  pub front_there : m ≤ length new
  unfolding overwrite
  front_there = rw (h, n, length-append) (omega arith)

-- ---- a row in the midst of the cells

-- the row of P cells at a place, as the code takes it: from there, n cells
module _ (at P : ℕ) (cells : List ℕ) (room : at + P ≤ length cells) {from n : ℕ} (q : from ≡ at) (e : n ≡ P) where
  -- is among the cells
  pub row_ends : from + n ≤ length cells
  row_ends = rw (q, e) room

  pub row_length : length (take (from + n - from) (drop from cells)) ≡ P
  row_length = omega (arith, e, row_ends, length-take (from + n - from) (drop from cells), length-drop from cells)

  -- and what is written there is written over it
  pub row_written : {row : List ℕ} (f : ℕ → ℕ) → row ≡ map_below P f → put_mid from (from + n - from) cells row ≡ overwrite_at at (map_below P f) cells
  unfolding overwrite_at
  row_written f h =
      let d : at + P - at ≡ P = omega arith in
      rw (q, e, h, length_map_below, le-leb (at + P) (length cells) room, d, drop-drop)
      (sym (append_assoc (take at cells) (map_below P f) (drop (at + P) cells)))
