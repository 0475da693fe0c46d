-- Entry after entry from the front: the entry of p in the column of q stands at q times the points and p. Assumes nothing.
use Rattle.model.proofs.Basics.{◌≡◌, refl, sym, ◌∙◌, ◌+◌, ◌*◌, ◌<◌, digits_lt, add-one, arith, length}
use Rattle.model.proofs.Tools.Arrays.{none_filled, one_filled}
use Rattle.view.specs.Sheets.{sheet_of}
use Rattle.view.proofs.Counted.{points_are}
use Rattle.kernel_columns.proofs.Entries.{entry_is, all_entries}
use Rattle.kernel_columns.proofs.columns.Goals.{In-loop-p}
use Rattle.kernel_columns.proofs.columns.Goals as goal
use native.Mathlib.Nat.{zero-mul, add_assoc, suc-mul}

-- both are points of the sheet
both : (c : In-loop-p) → (c.loop-p.p < (sheet_of c.args.sheet.now).points) × (c.loop-q.q < (sheet_of c.args.sheet.now).points)
both c = let e = points_are c.args.sheet.now.viewed in (omega arith, omega arith)

-- and there is room for their entry
placed : (c : In-loop-p) → c.loop-q.q * (sheet_of c.args.sheet.now).points + c.loop-p.p < length c.loop-p.out
placed c = let r = both c in omega (arith, digits_lt r.1 r.0)

pub loop-q-init : goal.loop-q-init
loop-q-init c = rw zero-mul (none_filled _ _)

pub bounds-out-begin : goal.bounds-out-begin
bounds-out-begin c =
    rw (points_are c.args.sheet.now.viewed) (placed (goal.at.bounds-out-begin c).In-loop-p)

pub loop-p-preserved : goal.loop-p-preserved
loop-p-preserved c =
    let i = (goal.at.loop-p-preserved c).In-loop-p in
    let S = sheet_of c.args.sheet.now in
    rw (points_are c.args.sheet.now.viewed, ← add_assoc) (one_filled c.loop-p.invariant _ _ (placed i) (c.distance.ensures ∙ sym (entry_is S _ _ (both i).0)) refl)

pub loop-q-preserved : goal.loop-q-preserved
loop-q-preserved c =
    let e = points_are c.args.sheet.now.viewed in
    let p : c.loop-p.p ≡ (sheet_of c.args.sheet.now).points = omega arith in
    rw (add-one, suc-mul) (rw p at c.loop-p.invariant)

pub returns : goal.returns
returns c =
    let e = points_are c.args.sheet.now.viewed in
    let q : c.loop-q.q ≡ (sheet_of c.args.sheet.now).points = omega arith in
    all_entries (sheet_of c.args.sheet.now) c.loop-q.invariant (rw q refl)
