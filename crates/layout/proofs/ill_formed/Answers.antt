-- The head is compared only where the length is right, so that there are bytes enough for it. Assumes nothing.
use Rattle.model.proofs.Basics.{◌≡◌, ap, ◌∙◌, ◌≢◌, not, arith, length, eq-eqb, ne_eqb}
use Rattle.model.specs.{plan_doors_at, plan_cost_at, plan_length, wrong_head, ill_formed}
use Rattle.model.proofs.Tools.Tests.{or_last}
use Rattle.layout.proofs.ill_formed.Goals as goal

pub wrong_head-requires : goal.wrong_head-requires
unfolding plan_length plan_cost_at plan_doors_at
wrong_head-requires c =
    omega arith

-- the length is right
pub returns-else-q-byte_length : goal.returns-else-q-byte_length
unfolding ill_formed wrong_head
returns-else-q-byte_length c =
    let same : length c.args.q.now ≡ c.byte_length.result = omega arith in
    or_last _ _ _ (ap not (eq-eqb _ _ (same ∙ c.byte_length.ensures))) c.wrong_head.ensures

-- it is not
pub returns-then-q-byte_length : goal.returns-then-q-byte_length
unfolding ill_formed wrong_head
returns-then-q-byte_length c =
    let differ : length c.args.q.now ≢ c.byte_length.result = omega arith in
    rw (← c.byte_length.ensures, ne_eqb _ _ differ)
