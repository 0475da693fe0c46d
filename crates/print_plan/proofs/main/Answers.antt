-- What is printed lies within its own array. Assumes nothing.
use Rattle.std.proofs.Common.{sym, ◌≤◌, length, length-take-le}
use Rattle.text.proofs.Whole.{written_within}
use Rattle.print_plan.proofs.main.Goals.{After-print-end}
use Rattle.print_plan.proofs.main.Goals as goal

out_within : (c : After-print-end) → c.print-end.result ≤ length c.print-end.new.out
out_within c = written_within _ _ _ c.print-end.ensures.written c.print-end.ensures.bytes

pub slice_bounds-out-end : goal.slice_bounds-out-end
slice_bounds-out-end c = out_within (goal.at.slice_bounds-out-end c).After-print-end

pub slice_bounds-write_all-end-2 : goal.slice_bounds-write_all-end-2
slice_bounds-write_all-end-2 c =
    sym (length-take-le _ _ (out_within (goal.at.slice_bounds-write_all-end-2 c).After-print-end))
