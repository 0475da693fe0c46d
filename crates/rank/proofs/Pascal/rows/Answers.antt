-- Task by task from the highest, the row of the list without it; the sum then has the task one place lower. Assumes nothing.
use Rattle.model.proofs.Basics.{◌≡◌, sym, ap, ◌∙◌, ℕ, ◌-◌, ◌*◌, ◌%◌, ◌^◌, ◌≤◌, ◌<◌, arith}
use Rattle.model.specs.{map_below, without, mask_bits}
use lib.Count.{count_leading_zeros}
use Rattle.rank.specs.Ranks.{rank, max_ranked, rank_of}
use Rattle.rank.proofs.Binomials.{binomial_small}
use Rattle.rank.proofs.Ends.{Highest, highest, without_less, size_mask}
use Rattle.rank.proofs.Rests.{none_lowered, one_lowered, rest_now, lower_fits, rows_none, rows_one, rows_all}
use Rattle.rank.proofs.Pascal.rows.Goals.{After-binomial, In-loop-left}
use Rattle.rank.proofs.Pascal.rows.Goals as goal

-- the task of the turn
task : (c : In-loop-left) → Highest c.loop-left.left (31 - count_leading_zeros mask_bits c.loop-left.left)
task c = highest mask_bits _ (omega arith) (omega arith)

-- its number, and its place
placed : (c : In-loop-left) →
    (31 - count_leading_zeros mask_bits c.loop-left.left < max_ranked) × (c.loop-left.i ≤ max_ranked) × (0 < c.loop-left.i)
placed c = lower_fits c.loop-left.invariant.1 (task c)

-- the rank of the list without it
rest : (c : After-binomial) →
    let l = c.loop-left in
    let x = l.sum - c.binomial.result in
    (c.binomial.result ≤ l.sum)
    × (x ≡ rank max_ranked (without (c.args.k % 2 ^ max_ranked) (31 - count_leading_zeros mask_bits l.left)))
    × (x < 2 ^ max_ranked)
rest c =
    let t : Highest c.loop-left.left (31 - count_leading_zeros mask_bits c.loop-left.left) = highest mask_bits _ (omega arith) (omega arith) in
    rest_now c.loop-left.invariant.1 t c.binomial.ensures

-- before the first turn every row is the list's own
pub loop-left-init : goal.loop-left-init
unfolding rank_of map_below
loop-left-init c =
    let a = c.args in
    let r = c.rank-all.ensures in (
      rows_none a.points a.k _ r.rank,
      none_lowered _ _ (omega arith) r.rank (r.size ∙ sym (size_mask max_ranked a.k)),
    )

pub binomial-requires : goal.binomial-requires
binomial-requires c =
    let p = placed (goal.at.binomial-requires c).In-loop-left in (omega arith, p.1)

pub bounds-ends-t : goal.bounds-ends-t
bounds-ends-t c =
    (placed (goal.at.bounds-ends-t c).In-loop-left).0

pub overflow_sub-i : goal.overflow_sub-i
overflow_sub-i c =
    omega (arith, (placed (goal.at.overflow_sub-i c).In-loop-left).2)

pub binomial-requires-in-loop-left : goal.binomial-requires-in-loop-left
binomial-requires-in-loop-left c =
    let p = placed (goal.at.binomial-requires-in-loop-left c).In-loop-left in (omega arith, omega arith)

pub overflow_add-sum : goal.overflow_add-sum
overflow_add-sum c =
    let i = c.loop-left.i in
    omega (arith, (rest (goal.at.overflow_add-sum c).After-binomial).2, c.binomial-in-loop-left.ensures, binomial_small (i - 1) (placed (goal.at.overflow_add-sum c).In-loop-left).0)

pub loop-left-smaller : goal.loop-left-smaller
loop-left-smaller c =
    rw c.without-left.ensures (without_less _ _ (task (goal.at.loop-left-smaller c).In-loop-left).task)

-- one task more
pub loop-left-preserved : goal.loop-left-preserved
loop-left-preserved c =
    let l = c.loop-left in
    let a = c.args in
    let r = rest (goal.at.loop-left-preserved c).After-binomial in
    rw (c.without-left.ensures, l.invariant.0, c.binomial-in-loop-left.ensures) (
      rows_one a.points a.k l.left _ _ (placed (goal.at.loop-left-preserved c).In-loop-left).0 r.1,
      one_lowered l.invariant.1 (task (goal.at.loop-left-preserved c).In-loop-left) r.1,
    )

pub returns : goal.returns
returns c =
    let l = c.loop-left in let a = c.args in record { own = ap (λ (x : ℕ). x * a.points) c.rank-all.ensures.rank; ends = l.invariant.0 ∙ rows_all a.points a.k l.left c.loop-left-test.false }

pub overflow_sub-rest : goal.overflow_sub-rest
overflow_sub-rest c =
    (rest (goal.at.overflow_sub-rest c).After-binomial).0
