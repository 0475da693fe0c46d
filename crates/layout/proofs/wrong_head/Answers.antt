-- The head is a row of numbers that fit their bytes, so it stands in the bytes exactly where each number is read there. Assumes nothing.
use Rattle.model.proofs.Basics.{sym, ◌∙◌, arith, rules, lt-ltb, eq-eqb}
use Rattle.model.specs.{wrong_head}
use Rattle.model.proofs.Tools.Elements.{are_bytes_lem}
use Rattle.model.proofs.Tools.Searches.{none_tried, passed_on}
use Rattle.layout.proofs.Heads.{Comparable, one_differs, none_differs}
use Rattle.layout.proofs.wrong_head.Goals.{After-head}
use Rattle.layout.proofs.wrong_head.Goals as goal

-- what is known once the numbers are at hand
comparable : (c : After-head) → let a = c.args in Comparable a.n a.q.now c.head.result
comparable c =
    record {
      head_is = c.head.ensures;
      fits = c.ranges.n.fits;
      bytes = are_bytes_lem c.args.q.now c.type_inv.q;
      long = c.requires;
    }

pub loop-k-init : goal.loop-k-init
loop-k-init c =
    none_tried

-- a number differs
pub returns-then-read_u16-number : goal.returns-then-read_u16-number
unfolding wrong_head
returns-then-read_u16-number c =
    search (rules, lt-ltb) ∙ one_differs (comparable (goal.at.returns-then-read_u16-number c).After-head) (omega arith) c.read_u16.ensures c.if-read_u16-number.true

-- one number more is the head's
pub loop-k-preserved : goal.loop-k-preserved
loop-k-preserved c =
    passed_on c.loop-k.invariant (omega arith) (eq-eqb _ _ (sym c.read_u16.ensures ∙ c.if-read_u16-number.false))

-- none does
pub returns : goal.returns
unfolding wrong_head
returns c =
    none_differs (comparable (goal.at.returns c).After-head) c.loop-k.invariant (omega arith)
