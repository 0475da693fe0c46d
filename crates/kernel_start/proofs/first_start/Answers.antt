-- Of the starts so far the best is the first that costs least. Assumes nothing.
use Rattle.model.proofs.Basics.{refl, arith}
use Rattle.kernel_start.proofs.Starting.{best_below, best_next, best_same, one_start, best_of_all}
use Rattle.kernel_start.proofs.first_start.Goals.{After-loop-i, then-c-least, else-c-least}
use Rattle.kernel_start.proofs.first_start.Goals as goal

pub loop-i-preserved : goal.loop-i-preserved
loop-i-preserved c =
    -- its cost is below the least so far, or is not
    elim c.if-c-least.branch [
      | then-c-least w ↦ rw (w.best-is, w.least-is) (best_next c.loop-i.invariant refl w.if-c-least.true)
      | else-c-least w ↦ rw (w.best-is, w.least-is) (best_same c.loop-i.invariant refl w.if-c-least.false)
    ]

pub overflow_cast-result : goal.overflow_cast-result
overflow_cast-result c =
    let h = c.requires.1 in omega (arith, best_below c.loop-i.invariant, c.loop-i.auto.i-end (one_start h), h.count, h.few)

pub returns : goal.returns
returns c S h =
    best_of_all h c.loop-i.invariant (omega (arith, c.loop-i.auto.i-end (one_start h), c.loop-i-test.false))
