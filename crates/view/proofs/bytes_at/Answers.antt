-- A part that lies within the bytes has each of them. Assumes nothing.
use Rattle.model.proofs.Basics.{◌≡◌, sym, ◌∙◌, List, ℕ, ◌+◌, ◌-◌, ◌≤◌, ◌<◌, arith, length, get_or, take, drop, length-take-le, get_or-take}
use Rattle.model.proofs.Basics.{ext_get_or}
use Rattle.model.proofs.Tools.Folds.{length_map_below, map_below_at}
use lib.ListN.{length-drop}
use lib.Seq.{get_or-drop}
use Rattle.number.proofs.Bytes.{bytes_from}
use Rattle.view.proofs.bytes_at.Goals as goal

part_at : (k : ℕ) (b : List ℕ) (i j : ℕ) → j < k → get_or (take k (drop i b)) j 0 ≡ get_or (bytes_from k b i) j 0
part_at k b i j l = get_or-take k (drop i b) j 0 l ∙ get_or-drop i b j 0 ∙ sym (map_below_at k _ j 0 l)

part : (k : ℕ) (b : List ℕ) (i : ℕ) → i + k ≤ length b → take (i + k - i) (drop i b) ≡ bytes_from k b i
part k b i h =
    let n : i + k - i ≡ k = omega arith in
    let long : length (take k (drop i b)) ≡ k = length-take-le k (drop i b) (rw length-drop (omega arith)) in
    rw n (ext_get_or 0 _ _ (long ∙ sym (length_map_below k _)) (λ j l. part_at k b i j (rw long at l)))

pub returns : goal.returns
returns g c =
    c.copy_from_slice.ensures.after ∙ part g.row.N _ _ c.requires
