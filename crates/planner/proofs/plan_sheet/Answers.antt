-- The sheet reads, so each call has what it asks; 20 and 21 leave everything, and past them the plan is carried out. Assumes nothing.
use Rattle.model.proofs.Basics.{ap, ◌∙◌, List, ℕ, ◌*◌, ◌≤◌, mul-le-mul, arith, take}
use Rattle.model.specs.{decode}
use Rattle.model.proofs.Calls.{Interface.reads_sheet}
use Rattle.view.proofs.Counted.{tasks_are, points_are, starts_are}
use Rattle.kernel_sheet.specs.Prepared.{Workable}
use Rattle.kernel_prepare.proofs.Held.{workable, prepared, starts_room}
use Rattle.kernel_start.specs.Choosing.{Startable}
use Rattle.kernel_start.proofs.Starting.{chosen_below}
use Rattle.planner.proofs.Sheets.{Roomy, in_parts, few, few_cells_lem, short_buffer, full_is, FilledWith, row_from, row_within, startable, start_of, completable}
use Rattle.kernel_complete.specs.Completed.{completed}
use Rattle.planner.proofs.Carried.{carried_out_lem}
use Rattle.planner.proofs.plan_sheet.Goals.{After-full-full, After-struct_known-1, Else-short}
use Rattle.planner.proofs.plan_sheet.Goals as goal

-- ---- what is known there

-- past the tests of 20 and 21 there is room
roomy : (c : Else-short) → let a = c.args in Roomy a.read.now.sheet.bytes.now a.cells.now a.buf.now
roomy c = record {
  bytes = c.args.read.now.fit;
  reads = reads_sheet _ c.args.read.now.reads;
  room = rw (← c.cells_needed.ensures) c.if-few.false;
  wide = rw (← tasks_are c.args.read.now.sheet.viewed, ← c.byte_length.ensures) c.if-short.false;
}

-- so the kernel can work on the sheet
works : {b cells buf : List ℕ} → Roomy b cells buf → Workable (decode b)
works r = workable _ r.bytes r.reads

-- the cells are filled from the numbers and the columns of it
filled : (c : After-full-full) → let a = c.args in
    Roomy a.read.now.sheet.bytes.now a.cells.now a.buf.now
    → FilledWith (decode a.read.now.sheet.bytes.now) c.numbers-numbers.result c.columns.new.out a.cells.now c.full-full.result a.read.now.sheet.view.points c.fill.new.cells
filled c r =
    let h = prepared _ r.bytes r.reads _ c.numbers-numbers.ensures c.columns.ensures in
    record {
      prepared = h;
      room = r.room;
      list = full_is _ r.reads c.args.read.now.sheet.viewed.is c.full-full.ensures;
      points = points_are c.args.read.now.sheet.viewed;
      is = c.fill.ensures _ h;
    }

-- the start is chosen from the row of the full list
lent : (c : After-full-full) → let a = c.args in
    Roomy a.read.now.sheet.bytes.now a.cells.now a.buf.now
    → Startable (decode a.read.now.sheet.bytes.now) (take a.read.now.sheet.view.starts c.numbers-numbers.result.starts)
    (row_from c.full-full.result a.read.now.sheet.view.points c.fill.new.cells)
lent c r =
    startable (filled c r) (starts_are c.args.read.now.sheet.viewed) (starts_room _ c.numbers-numbers.ensures (works r).counts)

-- 32 bits times 16 bits are far below 64
small : (c : After-struct_known-1) → c.full-full.result * c.args.read.now.sheet.view.points ≤ 4294967295 * 65535
small c =
    let k : c.full-full.result ≤ 4294967295 = omega arith in
    let n : c.args.read.now.sheet.view.points ≤ 65535 = omega arith in
    mul-le-mul k n

-- ---- the goals

pub cells_needed-requires : goal.cells_needed-requires
cells_needed-requires c = few _ (reads_sheet _ c.args.read.now.reads)

-- 20: too few cells
pub returns-then-few : goal.returns-then-few
returns-then-few c =
    let a = c.args in
    let parts = in_parts (few_cells_lem a.read.now.sheet.bytes.now (reads_sheet _ c.args.read.now.reads) a.cells.now a.buf.now (rw (← c.cells_needed.ensures) c.if-few.true)) in
    record { answer = parts.0; cells = parts.1.0; bytes = parts.1.1 }

-- 21: too short a buffer
pub returns-then-short : goal.returns-then-short
returns-then-short c =
    let a = c.args in
    let parts = in_parts (short_buffer a.read.now.sheet.bytes.now (reads_sheet _ c.args.read.now.reads) a.cells.now a.buf.now (rw (← c.cells_needed.ensures) c.if-few.false)
    (rw (← tasks_are c.args.read.now.sheet.viewed, ← c.byte_length.ensures) c.if-short.true)) in
    record { answer = parts.0; cells = parts.1.0; bytes = parts.1.1 }

pub numbers-numbers-requires : goal.numbers-numbers-requires
numbers-numbers-requires c =
    let w = works (roomy (goal.at.numbers-numbers-requires c).Else-short) in (w.counts, w.plannable.ranges)

pub columns-requires : goal.columns-requires
columns-requires c =
    let w = (works (roomy (goal.at.columns-requires c).Else-short)).counts.points in
    omega (arith, mul-le-mul w w)

pub fill-requires : goal.fill-requires
fill-requires c =
    let r = roomy (goal.at.fill-requires c).Else-short in
    (_, prepared _ r.bytes r.reads _ c.numbers-numbers.ensures c.columns.ensures, r.room)

pub overflow_mul-from : goal.overflow_mul-from
overflow_mul-from c = omega (arith, small (goal.at.overflow_mul-from c).After-struct_known-1)

pub offset_bounds-cells-from : goal.offset_bounds-cells-from
offset_bounds-cells-from c = omega (arith, small (goal.at.offset_bounds-cells-from c).After-struct_known-1)

pub slice_bounds-first_start-count : goal.slice_bounds-first_start-count
slice_bounds-first_start-count c =
    let p = goal.at.slice_bounds-first_start-count c in row_within (filled p.After-full-full (roomy p.Else-short))

pub slice_bounds-first_start-start : goal.slice_bounds-first_start-start
slice_bounds-first_start-start c =
    let p = goal.at.slice_bounds-first_start-start c in row_within (filled p.After-full-full (roomy p.Else-short))

pub first_start-start-requires : goal.first_start-start-requires
first_start-start-requires c =
    let p = goal.at.first_start-start-requires c in (_, lent p.After-full-full (roomy p.Else-short))

-- it is one of the sheet's
pub bounds-starts-start : goal.bounds-starts-start
bounds-starts-start c =
    let p = goal.at.bounds-starts-start c in
    let l = lent p.After-full-full (roomy p.Else-short) in
    rw l.count (chosen_below _ _ (c.first_start-start.ensures _ l))

-- the array has room for the starts
pub shared_ref_as_front-starts : goal.shared_ref_as_front-starts
shared_ref_as_front-starts c =
    rw (starts_are c.args.read.now.sheet.viewed) (works (roomy (goal.at.shared_ref_as_front-starts c).Else-short)).counts.starts

pub complete-x-requires : goal.complete-x-requires
complete-x-requires c =
    let p = goal.at.complete-x-requires c in
    let r = roomy p.Else-short in
    (_, completable (filled p.After-full-full r) (starts_are c.args.read.now.sheet.viewed) (chosen_below _ _ (c.first_start-start.ensures _ (lent p.After-full-full r))))

-- the plan is carried out
pub returns : goal.returns
returns c =
    let p = goal.at.returns c in
    let v = c.args.read.now.sheet.viewed in
    let r = roomy p.Else-short in
    let f = filled p.After-full-full r in
    let s = c.first_start-start.ensures _ (lent p.After-full-full r) in
    let below = chosen_below _ _ s in
    let hand = c.complete-x.ensures _ (completable f (starts_are v) below) ∙ ap (completed _ c.full-full.result) (start_of f (starts_are v) below) in
    let done = carried_out_lem r f s hand (tasks_are v) c.write.ensures.bytes in
    record { answer = done.0; cells = done.1.0; bytes = done.1.1 }
