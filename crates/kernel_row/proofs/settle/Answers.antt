-- Whatever numbers stand in the floats, the cells before p hold those of the places before p. Assumes nothing.
use Rattle.model.proofs.Basics.{refl, ◌∙◌, ◌<◌, arith, length, length-set}
use Rattle.model.proofs.Tools.Arrays.{none_filled, one_filled, all_filled}
use Rattle.kernel_row.proofs.settle.Goals.{In-loop-p}
use Rattle.kernel_row.proofs.settle.Goals as goal

-- a point is left
another : (c : In-loop-p) → c.loop-p.p < length c.args.out.now
another c = c.loop-p-test.true

pub loop-p-init : goal.loop-p-init
loop-p-init c =
    (refl, λ f h. none_filled _ _)

pub number_of-requires : goal.number_of-requires
number_of-requires c =
    (_, c.requires.1.1 _ (another (goal.at.number_of-requires c).In-loop-p))

pub loop-p-preserved : goal.loop-p-preserved
loop-p-preserved c =
    let m = c.loop-p in (
      length-set m.out m.p _ ∙ m.invariant.0,
      (λ f h. one_filled (m.invariant.1 f h) _ _ (omega (arith, m.invariant.0)) (c.number_of.ensures (f m.p) (h _ (another (goal.at.loop-p-preserved c).In-loop-p))) refl),
    )

pub returns : goal.returns
returns c f h =
    all_filled (c.loop-p.invariant.1 f h) (omega (arith, c.loop-p.invariant.0))
