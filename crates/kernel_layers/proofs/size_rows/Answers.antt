-- The lists of m tasks are visited one after the other: those below k are done, and the layer below shows what each needs. Assumes nothing.
use Rattle.model.proofs.Basics.{sym, ap, ◌∙◌, ◌≤◌, ◌<◌, arith}
use Rattle.model.specs.{lists_of, mask_bits}
use Rattle.model.proofs.TaskLists.Masks.{lists_of_lem, full_of_lem}
use Rattle.kernel_bellman.proofs.Lists.{told, listed}
use Rattle.kernel_layers.proofs.Layering.{begin, stands_in_sheet, row_turn, pass_turn, same_room}
use Rattle.kernel_layers.proofs.size_rows.Goals.{then-has_all, else-has_all}
use Rattle.kernel_layers.proofs.size_rows.Goals as goal

pub loop-k-init : goal.loop-k-init
loop-k-init c S A R T w =
    let p = c.requires in
    let n : S.tasks < mask_bits = omega (arith, A.workable.counts.tasks) in
    let m : c.args.m ≤ S.tasks = omega (arith, p.6, p.1.counts.tasks, A.counts.tasks) in
    rw (c.full-k.ensures, full_of_lem c.args.m (omega (arith, m, n))) (begin (c.lists-lists.ensures ∙ ap lists_of A.counts.tasks ∙ lists_of_lem S.tasks n) p.5 m)

pub list_row-requires : goal.list_row-requires
list_row-requires c =
    let p = c.requires in
    let h = c.loop-k.invariant p.0 p.1 p.2 p.3 p.7 in
    let more : c.loop-k.k < c.lists-lists.result = omega arith in
    let k = stands_in_sheet h more in
    let ess = sym (told p.1 _ p.2 c.loop-k.k _ k c.waiting-waiting.ensures h.some c.has_all.ensures) ∙ c.if-has_all.true in
    let ok = listed p.1 _ p.2 c.loop-k.k _ k c.waiting-waiting.ensures ess in
    (p.0, ok, p.3, record { room_below = p.4.room_below; room_here = omega (arith, p.4.room_here, h.kept.as_many) }, rw (h.of_size more) p.7)

-- the row of an essential list was written, or nothing was
pub loop-k-preserved : goal.loop-k-preserved
loop-k-preserved c S A R T shown =
    let p = c.requires in
    let h = c.loop-k.invariant S A R T shown in
    let more : c.loop-k.k < c.lists-lists.result = omega arith in
    let says = sym (told A _ R c.loop-k.k _ (stands_in_sheet h more) c.waiting-waiting.ensures h.some c.has_all.ensures) in
    let room = same_room p.1.counts A.counts p.4.room_here in
    elim c.if-has_all.branch [
      | then-has_all w ↦ let ess = says ∙ w.if-has_all.true in row_turn h more A.workable.counts.tasks room c.next-k.ensures ess
          (w.here-is ∙ w.list_row.ensures S (listed A _ R c.loop-k.k _ (stands_in_sheet h more) c.waiting-waiting.ensures ess) T (rw (h.of_size more) shown))
      | else-has_all w ↦ pass_turn h more A.workable.counts.tasks room c.next-k.ensures (says ∙ w.if-has_all.false) w.here-is
    ]
