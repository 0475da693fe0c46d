-- A fault of the sheet is the answer; of a sheet that reads 22 is left, by the cells that each layer has. Assumes nothing.
use Rattle.std.proofs.lemmas.Result.{err_from_is_err_and}
use Rattle.model.proofs.Basics.{◌≡◌, sym, ap, ◌∙◌, ◌||◌, List, ℕ, ◌*◌, ◌≤◌, ltb, mul-le-mul_right, arith}
use Rattle.model.specs.{status, decode}
use Rattle.model.proofs.Calls.{Reading.Reads, Interface.reads_sheet}
use Rattle.view.specs.{declared.View.View, Views.Viewed}
use Rattle.rank.specs.Ranks.{most_lists_of}
use Rattle.view.proofs.Counted.{tasks_are, points_are}
use Rattle.sheet.proofs.Laid.{viewed, reads_laid}
use Rattle.price.specs.Pricing.{short_layer, row_place}
use Rattle.price.proofs.Fits.{needed_is, sheet_refused, then_short}
use Rattle.price.proofs.fit.Goals.{In_ok-read}
use Rattle.price.proofs.fit.Goals as goal

reads : (c : In_ok-read) → Reads c.args.s.now
reads c = reads_sheet c.args.s.now (ap status (sym c.in_ok-read.ensures.answer))

seen : (c : In_ok-read) → Viewed c.args.s.now c.in_ok-read.read.sheet.view
seen c = viewed (reads_laid (reads c)) c.in_ok-read.ensures.view

-- the cells that the code counts are those needed, so what it finds of the layers is what the definition says
short_is : {b : List ℕ} {v : View} {n : ℕ} (even odd : ℕ) → Reads b → Viewed b v → n ≡ most_lists_of v.tasks
    → (ltb even (n * v.points) || ltb odd (n * v.points)) ≡ short_layer (decode b) even odd
unfolding short_layer
short_is even odd h w e = ap (λ (n : ℕ). ltb even n || ltb odd n) (needed_is h w e)

pub returns-in_err-read : goal.returns-in_err-read
unfolding row_place
returns-in_err-read c =
    let p = err_from_is_err_and c.from_residual.result c.from_residual.ensures.1 in
    rw (p.1, p.2) (record { place = sym (sheet_refused _ _ _ _ c.in_err-read.ensures.answer); bytes = tt; view = tt })

pub overflow_mul-needed : goal.overflow_mul-needed
overflow_mul-needed c =
    let n = c.in_ok-read.read.sheet.view.points in
    let m : c.most_lists.result * n ≤ 4294967295 * n = mul-le-mul_right n (omega arith) in
    omega arith

-- a layer is short
pub returns-then-even-needed : goal.returns-then-even-needed
unfolding row_place
returns-then-even-needed c =
    let s = (goal.at.returns-then-even-needed c).In_ok-read in
    let e = short_is c.args.even c.args.odd (reads s) (seen s) c.most_lists.ensures in
    record { place = sym (then_short _ _ _ _ (reads s) ∙ rw (sym e ∙ c.if-even-needed.true)); bytes = tt; view = tt }

-- both have room
pub returns : goal.returns
unfolding row_place
returns c =
    let s = (goal.at.returns c).In_ok-read in
    let e = short_is c.args.even c.args.odd (reads s) (seen s) c.most_lists.ensures in
    record {
      place = sym (then_short _ _ _ _ (reads s) ∙ rw (sym e ∙ c.if-even-needed.false, tasks_are (seen s), points_are (seen s)));
      bytes = c.in_ok-read.ensures.bytes;
      view = c.in_ok-read.ensures.view;
    }
