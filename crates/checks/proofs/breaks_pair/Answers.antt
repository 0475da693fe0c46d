-- The places in the array are those of the definition, so the loop's test is whether pair i is kept: where it is not, the loop ends.
-- Assumes nothing.
use Rattle.model.proofs.Basics.{◌≡◌, sym, ap, ◌∙◌, not, List, ℕ, ◌≤◌, ◌<◌, arith, ltb, get_or, lt-ltb, le-ltb}
use Rattle.model.specs.{map_below, index_of, keeps_pair, keeps_every_pair, breaks_pair, max_tasks, InRange}
use Rattle.model.proofs.Tools.Folds.{map_below_at}
use Rattle.model.proofs.Tools.Searches.{passed_on, all_passed, one_failed}
use Rattle.view.specs.declared.TaskSheet.{TaskSheet}
use Rattle.view.specs.Sheets.{sheet_of}
use Rattle.view.proofs.Counted.{pairs_are}
use Rattle.checks.proofs.breaks_pair.Goals as goal

-- pair i of the sheet: the code has its two tasks, and in the array `at` where each task stands
module _ (v : TaskSheet) (R : InRange (sheet_of v)) (few : (sheet_of v).tasks ≤ max_tasks) {i : ℕ} (l : i < v.view.pairs) where
  pair_in : i < (sheet_of v).pairs
  pair_in = omega (arith, pairs_are v.viewed)

  sent_in : {from : ℕ} → from ≡ (sheet_of v).sender i → from < max_tasks
  sent_in e = omega (arith, e, R.sender i pair_in, few)

  received_in : {to : ℕ} → to ≡ (sheet_of v).receiver i → to < max_tasks
  received_in e = omega (arith, e, R.receiver i pair_in, few)

  -- whether it is kept is the loop's test
  test : (ts : List ℕ) {at : List ℕ} {from to : ℕ} → at ≡ map_below max_tasks (λ t. index_of t ts) → from ≡ (sheet_of v).sender i
      → to ≡ (sheet_of v).receiver i → keeps_pair (sheet_of v) ts i ≡ ltb (get_or at from 0) (get_or at to 0)
  unfolding keeps_pair
  test ts {from = from} {to} e f t =
      rw (e, map_below_at max_tasks (λ t. index_of t ts) from 0 (sent_in f), map_below_at max_tasks (λ t. index_of t ts) to 0 (received_in t), f, t)

pub sender-requires : goal.sender-requires
sender-requires c =
    pair_in c.args.sheet.now c.requires.0 c.requires.1 (omega arith)

pub receiver-requires : goal.receiver-requires
receiver-requires c =
    pair_in c.args.sheet.now c.requires.0 c.requires.1 (omega arith)

pub bounds-at-sender : goal.bounds-at-sender
bounds-at-sender c =
    sent_in c.args.sheet.now c.requires.0 c.requires.1 (omega arith) c.sender.ensures

pub bounds-at-receiver : goal.bounds-at-receiver
bounds-at-receiver c =
    received_in c.args.sheet.now c.requires.0 c.requires.1 (omega arith) c.receiver.ensures

-- a pair is not kept
pub returns-then-received-sent : goal.returns-then-received-sent
unfolding keeps_every_pair breaks_pair
returns-then-received-sent c =
    let l : c.loop-i.i < c.args.sheet.now.view.pairs = omega arith in
    let t = test c.args.sheet.now c.requires.0 c.requires.1 l c.args.tasks.now c.places-at.ensures c.sender.ensures c.receiver.ensures in
    sym (ap not (one_failed _ l (pairs_are c.args.sheet.now.viewed) (t ∙ le-ltb _ _ c.if-received-sent.true)))

-- one pair more is kept
pub loop-i-preserved : goal.loop-i-preserved
loop-i-preserved c =
    let t = test c.args.sheet.now c.requires.0 c.requires.1 (omega arith) c.args.tasks.now c.places-at.ensures c.sender.ensures c.receiver.ensures in
    passed_on c.loop-i.invariant c.loop-i-test.true (t ∙ lt-ltb _ _ c.if-received-sent.false)

-- every pair is
pub returns : goal.returns
unfolding keeps_every_pair breaks_pair
returns c =
    sym (ap not (all_passed c.loop-i.invariant (omega arith) (pairs_are c.args.sheet.now.viewed)))
