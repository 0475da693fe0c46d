-- Rule after rule what it costs is added at its door. Assumes nothing.
use Rattle.model.proofs.Basics.{refl, arith}
use Rattle.kernel_list.proofs.Charges.{none_charged, one_charged, all_charged, product_small}
use Rattle.kernel_list.proofs.add_charges.Goals as goal

pub loop-i-init : goal.loop-i-init
loop-i-init c = none_charged _ _ _ _

pub loop-i-preserved : goal.loop-i-preserved
loop-i-preserved c =
    let p = c.requires in
    let l = c.loop-i-test.true in
    one_charged c.loop-i.invariant refl (omega (arith, p.on_door c.loop-i.i l, p.size)) refl (product_small _ _ (p.charge c.loop-i.i l) (p.often c.loop-i.i l))

pub returns : goal.returns
returns c =
    all_charged c.loop-i.invariant c.args.n (omega (arith, c.loop-i.auto.i-end, c.loop-i-test.false)) c.requires.size
