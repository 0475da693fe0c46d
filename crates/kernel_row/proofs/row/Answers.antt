-- The leasts are those over the doors before the ones that are left. Assumes nothing.
use Rattle.model.proofs.Basics.{◌≡◌, refl, ◌∙◌, ◌++◌, ◌<◌, min, arith, length, take, take_all, length-take-le, length-append}
use Rattle.model.specs.{max_points}
use lib.ListN.{length-drop}
use Rattle.std.specs.Slice.Iter.{chunks_rest}
use Rattle.kernel_row.proofs.Passes.{none_passed, column_of_pair, front_leasts, pass, all_passed}
use Rattle.kernel_row.proofs.row.Goals.{At-loop-pair, In-Some}
use Rattle.kernel_row.proofs.row.Goals as goal

-- the leasts are among the floats
lent : (c : At-loop-pair) → let n = length c.args.out.now in length (take n c.loop-pair.leasts) ≡ n
lent c = length-take-le (length c.args.out.now) c.loop-pair.leasts (omega (arith, c.loop-pair.invariant.1, c.requires.few))

-- two doors are cut off those that are left, or the last one
cut : (c : In-Some) → let left = chunks_rest c.loop-pair.pair-iterator in
    let pair = c.in-Some.pair.now in
    (left ≡ pair ++ chunks_rest c.next.new.self) × (length pair ≡ min 2 (length left)) × (0 < length left)
cut c = let s = c.in-Some.ensures.steps in (s.1.0, omega (arith, s.1.1, c.loop-pair.invariant.0), s.1.2)

-- the ways that are walked are those lent, by name or as a slice of all of them
pub loop-pair-init : goal.loop-pair-init
loop-pair-init c =
    let e = c.into_iter-pair-iterator.ensures.into_iter_gives in
    (rw e c.chunks-pair-items.ensures.size, refl, none_passed c.requires.gathered _ max_points _ (rw e (c.chunks-pair-items.ensures.rest ∙ grind (arith, take_all))) c.requires.few c.float_of-leasts.ensures)

pub lower-requires : goal.lower-requires
lower-requires c =
    let z = lent (goal.at.lower-requires c).At-loop-pair in
    let k = cut (goal.at.lower-requires c).In-Some in
    let column = column_of_pair c.requires.gathered c.loop-pair.invariant.2.few c.loop-pair.invariant.2.last _ _ k.0 k.1 k.2 in
    (rw z (column 0 (omega (arith, k))), rw z (column _ (omega (arith, k))), (_, front_leasts _ _ _ _ z c.loop-pair.invariant.2.held))

pub loop-pair-preserved : goal.loop-pair-preserved
loop-pair-preserved c =
    let i = c.loop-pair.invariant in
    let after = c.lower.new.leasts in
    let z = lent (goal.at.loop-pair-preserved c).At-loop-pair in
    let k = cut (goal.at.loop-pair-preserved c).In-Some in
    let e : length after ≡ length c.args.out.now = c.lower.auto.leasts ∙ z in (
      c.in-Some.ensures.steps.0 ∙ i.0,
      rw length-append (omega (arith, e, c.requires.few, i.1, length-drop (length c.args.out.now) c.loop-pair.leasts)),
      pass c.requires.gathered i.2.few i.2.last _ _ k.0 k.1 k.2 after _ e (λ p m. c.lower.ensures _ (front_leasts _ _ _ _ z i.2.held) p (rw z m)),
    )

pub settle-requires : goal.settle-requires
settle-requires c =
    (lent (goal.at.settle-requires c).At-loop-pair, (_, front_leasts _ _ _ _ refl (all_passed c.requires.gathered c.loop-pair.invariant.2 c.in-None.ensures.steps.1.0)))

pub returns : goal.returns
returns c =
    c.settle.ensures _ (front_leasts _ _ _ _ refl (all_passed c.requires.gathered c.loop-pair.invariant.2 c.in-None.ensures.steps.1.0))
