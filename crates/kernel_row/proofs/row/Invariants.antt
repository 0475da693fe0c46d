-- The leasts are those over the doors before the ones that are left. Assumes nothing.
use Rattle.model.proofs.Basics.{◌≡◌, length}
use Rattle.model.specs.{max_points}
use Rattle.std.specs.Slice.Iter.{chunks_rest, chunks_size}
use Rattle.kernel_row.proofs.Passes.{Passed}
use Rattle.kernel_row.proofs.row.Given as goal

abbrev pub invariant-loop-pair : goal.invariant-loop-pair
invariant-loop-pair l = (chunks_size l.pair-iterator ≡ 2) × (length l.leasts ≡ max_points) × Passed l.columns (length l.out) l.load l.ways (chunks_rest l.pair-iterator) l.leasts
