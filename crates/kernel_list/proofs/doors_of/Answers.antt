-- Task after task from the lowest the union of what those of the list have. Assumes nothing.
use Rattle.model.proofs.Basics.{refl, sym, ◌∙◌, ◌+◌}
use Rattle.model.specs.{max_tasks}
use Rattle.kernel_list.specs.Lists.{union_below}
use Rattle.kernel_list.proofs.Walks.{in_list, task_in, passed, one_less, none_left}
use Rattle.kernel_list.proofs.Unions.{walk_in, not_in, all_joined}
use Rattle.kernel_list.proofs.doors_of.Goals as goal

pub bounds-sets-t : goal.bounds-sets-t
bounds-sets-t c = task_in c.loop-t.invariant.1 c.requires c.in-Some.ensures.steps.0

pub loop-t-preserved : goal.loop-t-preserved
loop-t-preserved c =
    let h = c.loop-t.invariant in
    let p = c.requires in
    let s = c.args in
    let n = c.in-Some.ensures.steps in (
      c.in-Some.t + 1,
      rw n.1 (one_less h.1 p n.0),
      walk_in s.sets.now s.k _ (h.2 ∙ sym (passed h.1 p n.0 (union_below s.sets.now s.k) (not_in s.sets.now s.k))) (in_list h.1 p n.0),
    )

pub returns : goal.returns
returns c =
    let s = c.args in
    let h = c.loop-t.invariant in
    all_joined s.sets.now s.k max_tasks (h.2 ∙ sym (none_left h.1 c.requires c.in-None.ensures.steps (union_below s.sets.now s.k) (not_in s.sets.now s.k))) refl
