-- The start that was chosen is one of the sheet's, so its point has a cell in the row. Assumes nothing.
use Rattle.model.proofs.Basics.{ap, ℕ, ◌*◌, ◌^◌, ◌<◌, arith, length, get_or}
use Rattle.kernel_start.specs.Choosing.{start_cost}
use Rattle.kernel_start.proofs.Starting.{chosen_below, start_in_lem}
use Rattle.price.proofs.quote_by.Goals.{After-first_start-start}
use Rattle.price.proofs.quote_by.Goals as goal

-- its cell is there, and has a small number
there : (c : After-first_start-start) →
    let a = c.args in
    let p = get_or a.starts.now c.first_start-start.result 0 in
    (c.first_start-start.result < length a.starts.now) × (p < length a.row.now) × (p * 8 < 2 ^ 64)
there c =
    let h = c.requires.1 in
    let below : c.first_start-start.result < length c.args.starts.now = rw h.count (chosen_below _ _ (c.first_start-start.ensures _ h)) in
    let t = start_in_lem h c.first_start-start.result (rw h.count (chosen_below _ _ (c.first_start-start.ensures _ h))) in
    (below, t.1, omega (arith, t.1, c.well_formed))

pub returns : goal.returns
unfolding start_cost
returns c S h =
    let e = c.first_start-start.ensures S h in
    (e, ap (λ (i : ℕ). get_or c.args.row.now i 0) (h.points _ (chosen_below S _ e)))

pub bounds-starts-start : goal.bounds-starts-start
bounds-starts-start c =
    (there (goal.at.bounds-starts-start c).After-first_start-start).0

pub overflow_cast-p-2 : goal.overflow_cast-p-2
overflow_cast-p-2 c =
    omega (arith, there (goal.at.overflow_cast-p-2 c).After-first_start-start)

pub offset_bounds-row-p : goal.offset_bounds-row-p
offset_bounds-row-p c =
    omega (arith, there (goal.at.offset_bounds-row-p c).After-first_start-start)

pub bounds-row-p : goal.bounds-row-p
bounds-row-p c =
    (there (goal.at.bounds-row-p c).After-first_start-start).1
