-- Each test that did not apply is one of the definition's chain, and the first that applies is its answer. No more
-- tasks than a mask has bits, which 15 and 16 ask for, or than an array has places, which 17 does, is what 12 has tested; 17 is decided by
-- striking off because 14 has tested the pairs. Assumes nothing.
use Rattle.model.proofs.Basics.{◌≡◌, sym, ap₂, ◌∙◌, Bool, false, List, ℕ, arith}
use Rattle.model.specs.{no_order, layout_of, decode, out_of_range, some_lacks_door, sheet_tests, read_sheet}
use Rattle.model.specs.{InRange, something_left}
use Rattle.model.proofs.Theory.NoOrder.{something_left_lem}
use Rattle.model.proofs.Bytes.Ranges.{in_range}
use Rattle.view.proofs.Counted.{tasks_are, points_are}
use Rattle.sheet.specs.Layouts.{LaidOut}
use Rattle.sheet.proofs.Laid.{counts}
use Rattle.sheet.proofs.Remaining.{answer, remaining, laid_out}
use Rattle.sheet.proofs.test_bodies.Goals as goal

-- ---- what the tests that remain answer, where those before did not apply

module _ {b : List ℕ} (h : LaidOut b) (ranges : out_of_range (layout_of b) (decode b) ≡ false) where
  inside : InRange (decode b)
  inside = in_range (layout_of b) (decode b) ranges

  -- 17 is what striking off leaves
  order : {r : Bool} → r ≡ something_left (decode b) → no_order (decode b) ≡ r
  order e = something_left_lem (decode b) inside (omega (arith, (counts h).tasks)) ∙ sym e

  remaining5 : read_sheet b ≡ remaining 5 b
  unfolding sheet_tests
  remaining5 = laid_out b h ∙ rw ranges

  module _ (doors : some_lacks_door (decode b) ≡ false) where
    remaining6 : read_sheet b ≡ remaining 6 b
    unfolding sheet_tests
    remaining6 = remaining5 ∙ rw doors

    remaining7 : no_order (decode b) ≡ false → read_sheet b ≡ remaining 7 b
    unfolding sheet_tests
    remaining7 o = remaining6 ∙ rw o

-- ---- the answers

-- 14 applies
pub returns-then-out_of_range : goal.returns-then-out_of_range
unfolding sheet_tests
returns-then-out_of_range c = sym (laid_out _ c.requires ∙ rw (sym c.out_of_range.ensures ∙ c.if-out_of_range.true))

pub some_lacks_door-lacking-requires : goal.some_lacks_door-lacking-requires
some_lacks_door-lacking-requires c = let h = c.requires in omega (arith, (counts h).tasks)

pub something_left-left-requires : goal.something_left-left-requires
something_left-left-requires c =
    let h = c.requires in
    ((counts h).tasks, inside h (sym c.out_of_range.ensures ∙ c.if-out_of_range.false))

pub too_light-light-requires : goal.too_light-light-requires
too_light-light-requires c =
    let h = c.requires in
    ((counts h).tasks, inside h (sym c.out_of_range.ensures ∙ c.if-out_of_range.false))

-- 15 applies
pub returns-then-lacking : goal.returns-then-lacking
unfolding sheet_tests
returns-then-lacking c =
    let r = sym c.out_of_range.ensures ∙ c.if-out_of_range.false in sym (remaining5 c.requires r ∙ rw (sym c.some_lacks_door-lacking.ensures ∙ c.if-lacking.true))

-- 17 applies
pub returns-then-left : goal.returns-then-left
unfolding sheet_tests
returns-then-left c =
    let h = c.requires in
    let r = sym c.out_of_range.ensures ∙ c.if-out_of_range.false in
    let d = sym c.some_lacks_door-lacking.ensures ∙ c.if-lacking.false in sym (remaining6 h r d ∙ rw (order h r c.something_left-left.ensures ∙ c.if-left.true))

-- 16 applies
pub returns-then-light : goal.returns-then-light
unfolding sheet_tests
returns-then-light c =
    let h = c.requires in
    let r = sym c.out_of_range.ensures ∙ c.if-out_of_range.false in
    let d = sym c.some_lacks_door-lacking.ensures ∙ c.if-lacking.false in
    let o = order h r c.something_left-left.ensures ∙ c.if-left.false in sym (remaining7 h r d o ∙ rw (sym c.too_light-light.ensures ∙ c.if-light.true))

-- none applies, and the view is handed on
pub returns : goal.returns
unfolding sheet_tests
returns c =
    let h = c.requires in
    let r = sym c.out_of_range.ensures ∙ c.if-out_of_range.false in
    let d = sym c.some_lacks_door-lacking.ensures ∙ c.if-lacking.false in
    let o = order h r c.something_left-left.ensures ∙ c.if-left.false in
    let v = c.args.sheet.now.viewed in ap₂ answer (tasks_are v) (points_are v) ∙ sym (remaining7 h r d o ∙ rw (sym c.too_light-light.ensures ∙ c.if-light.false))
