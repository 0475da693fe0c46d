-- The sheet fits, so the layers can be filled, the row of the full list shows what the round costs, and the quote is made from it. Assumes nothing.
use Rattle.model.proofs.Basics.{◌≡◌, List, ℕ, are_bytes, true, mul-le-mul, arith, take}
use Rattle.model.specs.{decode, overwrite}
use Rattle.model.proofs.{Calls.Reading.counts_read, Calls.Planning.plannable}
use Rattle.view.proofs.Counted.{tasks_are, points_are, starts_are}
use Rattle.kernel_sheet.specs.{declared.Numbers.Numbers, Prepared.Prepared}
use Rattle.kernel_columns.specs.ByColumns.{columns_of}
use Rattle.kernel_prepare.specs.Preparing.{numbers_of}
use Rattle.kernel_prepare.proofs.Held.{prepared, starts_room}
use Rattle.kernel_start.specs.Choosing.{Startable}
use Rattle.kernel_start.proofs.Starting.{taken}
use Rattle.price.proofs.Fits.{Fits, fits_0}
use Rattle.price.proofs.Quoting.{within, startable, quoted}
use Rattle.price.proofs.price_sheet.Goals.{After-whole-row}
use Rattle.price.proofs.price_sheet.Goals as goal

-- the numbers and the columns are of the sheet
handed : {b columns : List ℕ} {even odd : ℕ} {x : Numbers} → Fits b even odd → (buf : List ℕ) → are_bytes b ≡ true → x ≡ numbers_of (decode b)
    → columns ≡ overwrite (columns_of (decode b)) buf → Prepared (decode b) x columns
handed {b = b} f buf bytes n o = prepared b bytes f.reads buf n o

-- the start can be chosen from the row
lent : (c : After-whole-row) →
    let r = c.args.read.now in
    Startable (decode r.sheet.bytes.now) (take r.sheet.view.starts c.numbers-numbers.result.starts) c.whole-row.result.now
lent c =
    let r = c.args.read.now in
    let f = fits_0 _ _ _ c.requires in
    let v = r.sheet.viewed in
    let h = handed f _ r.fit c.numbers-numbers.ensures c.columns.ensures in
    let e = c.fill.ensures _ h in
    let t = taken (decode r.sheet.bytes.now) _ _ h.numbers.starts (starts_are v) (starts_room _ c.numbers-numbers.ensures (counts_read _ f.reads)) in
    startable _ _ _ f e.0 e.1 (tasks_are v) (points_are v) c.whole-row.ensures t.0 t.1

pub columns-requires : goal.columns-requires
columns-requires c =
    let f = fits_0 _ _ _ c.requires in
    let w = (counts_read _ f.reads).points in
    omega (arith, mul-le-mul w w)

pub fill-requires : goal.fill-requires
fill-requires c =
    let f = fits_0 _ _ _ c.requires in
    (_, handed f _ c.args.read.now.fit c.numbers-numbers.ensures c.columns.ensures, record { room_below = f.even_room; room_here = f.odd_room })

pub whole-row-requires : goal.whole-row-requires
whole-row-requires c =
    let f = fits_0 _ _ _ c.requires in
    let e = c.fill.ensures _ (handed f _ c.args.read.now.fit c.numbers-numbers.ensures c.columns.ensures) in
    rw (points_are c.args.read.now.sheet.viewed) (within _ _ _ f e.0 e.1)

pub returns : goal.returns
returns c =
    let f = fits_0 _ _ _ c.requires in
    let v = c.args.read.now.sheet.viewed in
    let e = c.fill.ensures _ (handed f _ c.args.read.now.fit c.numbers-numbers.ensures c.columns.ensures) in
    let q = c.quote_by.ensures _ (lent (goal.at.returns c).After-whole-row) in
    let both = quoted _ _ _ f e.0 e.1 (tasks_are v) (points_are v) c.whole-row.ensures q.0 q.1 in
    record { answer = both.0; layers = both.1 }

pub numbers-numbers-requires : goal.numbers-numbers-requires
numbers-numbers-requires c =
    let f = fits_0 _ _ _ c.requires in
    (counts_read _ f.reads, (plannable _ f.reads).ranges)

-- the array has room for the starts
pub shared_ref_as_front-quote_by : goal.shared_ref_as_front-quote_by
shared_ref_as_front-quote_by c =
    rw (starts_are c.args.read.now.sheet.viewed) (counts_read _ (fits_0 _ _ _ c.requires).reads).starts

pub quote_by-requires : goal.quote_by-requires
quote_by-requires c =
    (_, lent (goal.at.quote_by-requires c).After-whole-row)
