-- A plan that is not as laid out is refused; of one that is, the route that its bytes hold is judged, with its doors in the front of the
-- array. Assumes nothing.
use Rattle.model.proofs.Basics.{◌≡◌, sym, ◌∙◌, length-take-le}
use Rattle.model.proofs.Calls.Reading.{Reads}
use Rattle.model.proofs.Calls.Interface.{reads_sheet}
use Rattle.view.specs.Sheets.{sheet_of}
use Rattle.view.proofs.Counted.{tasks_are}
use Rattle.validate.proofs.Judging.{ill_formed_lem, in_array, as_many_doors, route_judged}
use Rattle.validate.proofs.validate_plan.Goals.{Start}
use Rattle.validate.proofs.validate_plan.Goals as goal

reads : (c : Start) → Reads c.args.read.now.sheet.bytes.now
reads c = reads_sheet _ c.args.read.now.reads

count : (c : Start) → c.args.read.now.sheet.view.tasks ≡ (sheet_of c.args.read.now.sheet).tasks
count c = tasks_are c.args.read.now.sheet.viewed

-- the bytes are ill-formed
pub returns-then-ill_formed : goal.returns-then-ill_formed
returns-then-ill_formed c =
    let s = (goal.at.returns-then-ill_formed c).Start in
    ill_formed_lem (reads s) _ (count s) (sym c.ill_formed.ensures ∙ c.if-ill_formed.true)

pub slice_bounds-doors-end : goal.slice_bounds-doors-end
slice_bounds-doors-end c =
    let s = (goal.at.slice_bounds-doors-end c).Start in
    in_array (reads s) c.args.q.now (count s) c.read_doors.ensures

pub slice_bounds-validate_route-end : goal.slice_bounds-validate_route-end
slice_bounds-validate_route-end c =
    let s = (goal.at.slice_bounds-validate_route-end c).Start in
    sym (length-take-le _ _ (in_array (reads s) c.args.q.now (count s) c.read_doors.ensures))

pub validate_route-requires : goal.validate_route-requires
validate_route-requires c =
    let s = (goal.at.validate_route-requires c).Start in
    as_many_doors (reads s) c.args.q.now (count s) c.read_doors.ensures

-- they are not, and the route was judged
pub returns : goal.returns
returns c =
    let s = (goal.at.returns c).Start in
    route_judged (reads s) _ (count s) c.read_doors.ensures (sym c.ill_formed.ensures ∙ c.if-ill_formed.false)
    c.start_in-start.ensures c.cost_in-stated.ensures c.validate_route.ensures
