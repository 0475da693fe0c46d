-- What is gathered are the doors whose task can come first, and the first of them through which the cost is that of the cell is the next door. Assumes nothing.
use Rattle.model.proofs.Basics.{◌≡◌, refl, sym, ◌∙◌, ℕ, ◌<◌, arith, length, get_or}
use Rattle.model.specs.Sheet.{Sheet}
use Rattle.std.specs.Prelude.{Option, Some}
use Rattle.kernel_gather.specs.Gathering.{doors_in}
use Rattle.kernel_gather.proofs.Walking.{doors_few}
use Rattle.kernel_table.specs.Cells.{TableRests}
use Rattle.kernel_complete.specs.Completed.{Completable}
use Rattle.kernel_complete.proofs.NextDoor.{NextIs, searchable, found}
use Rattle.kernel_complete.proofs.Choosing.{is_next, cell_is, lists, rests}
use Rattle.kernel_complete.proofs.next_door.Goals.{After-first_at_cost}
use Rattle.kernel_complete.proofs.next_door.Goals as goal

-- the list is open, and the search finds the next door
there : (c : After-first_at_cost) (S : Sheet) → let from = c.args.from.now in let ds = doors_in c.gather-hand.result.doors in
    Completable S from.numbers.now from.columns.now c.args.k c.args.p c.args.cells.now → TableRests S from.slot.now from.back.now
    → (i : ℕ) × (c.first_at_cost.result ≡ Some i) × (i < length ds) × NextIs S c.args.k c.args.p (get_or ds i 0)
there c S h t =
    let O = c.gather-hand.ensures.open S (lists h c.requires.1 c.waiting-waiting.ensures) (rests h t) in
    let f = found O _ h.prepared.numbers.doors.column h.prepared.columned c.gather-hand.ensures.ways c.args.p h.point (cell_is h) in
    (f.0, c.first_at_cost.ensures ∙ f.1, f.2, f.3)

-- and what is unwrapped is its place
same_place : {o : Option ℕ} {i j : ℕ} → o ≡ Some i → o ≡ Some j → i ≡ j
same_place {o} {i} {j} e f = let g : Some i ≡ Some j = sym e ∙ f in cc

pub gather-hand-requires : goal.gather-hand-requires
gather-hand-requires c =
    let C = c.requires.0.1 in (_, lists C c.requires.1 c.waiting-waiting.ensures, rests C c.requires.0.2)

pub shared_ref_as_front-ways : goal.shared_ref_as_front-ways
shared_ref_as_front-ways c =
    omega (arith, c.gather-hand.ensures.count, doors_few c.gather-hand.result.doors)

pub first_at_cost-requires : goal.first_at_cost-requires
first_at_cost-requires c =
    let C = c.requires.0.1 in
    searchable (c.gather-hand.ensures.open _ (lists C c.requires.1 c.waiting-waiting.ensures) (rests C c.requires.0.2)) _ C.prepared.numbers.doors.column C.prepared.columned c.gather-hand.ensures.ways c.args.p C.point

pub unwrap-i-requires : goal.unwrap-i-requires
unwrap-i-requires c =
    let f = there (goal.at.unwrap-i-requires c).After-first_at_cost _ c.requires.0.1 c.requires.0.2 in
    rw f.1 refl

pub door_at-requires : goal.door_at-requires
door_at-requires c =
    let f = there (goal.at.door_at-requires c).After-first_at_cost _ c.requires.0.1 c.requires.0.2 in
    rw (same_place c.unwrap-i.ensures f.1) f.2

pub returns : goal.returns
returns c S h t =
    let f = there (goal.at.returns c).After-first_at_cost S h t in
    c.door_at.ensures ∙ rw (same_place c.unwrap-i.ensures f.1) (sym (is_next f.3))
