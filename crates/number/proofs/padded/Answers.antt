-- Each turn adds the next byte. Assumes nothing.
use Rattle.model.proofs.Basics.{refl, ◌∙◌, arith, rules, length-replicate, ℕ}
use Rattle.model.proofs.Tools.Arrays.{none_filled, one_filled, all_filled}
use Rattle.number.proofs.padded.Goals as goal

pub loop-k-init : goal.loop-k-init
loop-k-init g c =
    none_filled _ _

pub loop-k-preserved : goal.loop-k-preserved
loop-k-preserved g c =
    one_filled c.loop-k.invariant _ _ (omega (arith, c.loop-k.invariant.size, length-replicate {A = ℕ})) (search rules) refl

pub returns : goal.returns
returns g c =
    all_filled c.loop-k.invariant (omega (arith, c.loop-k.invariant.size, length-replicate {A = ℕ})) ∙ rw length-replicate refl
