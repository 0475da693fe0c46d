-- The place so far is that of body i, and no contents line so far is wrong. Assumes nothing.
use Rattle.model.proofs.Basics.{◌≡◌, refl, sym, ap, ◌∙◌, Bool, not, ◌||◌, ℕ, ◌*◌, ◌^◌, ◌<◌, arith, eqb, length, rules}
use Rattle.model.specs.{any_below, bodies, line_at, layout_of, wrong_line, wrong_length, wrong_places}
use Rattle.model.proofs.Tools.Tests.{or_last, any_true}
use Rattle.model.proofs.Tools.Searches.{next, none_found}
use Rattle.sheet.proofs.Places.{next_body, product_lt}
use Rattle.sheet.proofs.layout.wrong_places.Goals.{After-entry_bytes}
use Rattle.sheet.proofs.layout.wrong_places.Goals as goal

product : (c : After-entry_bytes) → c.entries.result * c.entry_bytes.result < 2 ^ 48
product c = product_lt _ _ (omega arith) (omega arith)

pub loop-i-init : goal.loop-i-init
unfolding line_at
loop-i-init c =
    (search rules, refl, search rules)

-- a contents line is wrong
pub returns-then-wrong_line : goal.returns-then-wrong_line
unfolding wrong_places
returns-then-wrong_line c =
    let b = c.args.s.now in
    let wrong = sym c.wrong_line.ensures ∙ c.if-wrong_line.true in
    let some = any_true bodies (wrong_line (layout_of b) b) c.loop-i.i (omega arith) wrong in
    sym (ap (λ (t : Bool). t || wrong_length (layout_of b) b) some)

pub overflow_mul-at : goal.overflow_mul-at
overflow_mul-at c =
    omega (arith, product (goal.at.overflow_mul-at c).After-entry_bytes)

pub overflow_add-at : goal.overflow_add-at
overflow_add-at c =
    omega (arith, product (goal.at.overflow_add-at c).After-entry_bytes)

-- one contents line more is right
pub loop-i-preserved : goal.loop-i-preserved
loop-i-preserved c =
    let b = c.args.s.now in
    let l = c.loop-i in (
      next l.invariant.0 c.loop-i-test.true c.wrong_line.ensures c.if-wrong_line.false,
      next_body b l.i l.at _ _ l.invariant.1 c.entries.ensures c.entry_bytes.ensures,
      omega (arith, product (goal.at.loop-i-preserved c).After-entry_bytes),
    )

-- all are: the length decides
pub returns : goal.returns
unfolding wrong_places wrong_length
returns c =
    let b = c.args.s.now in
    let l = c.loop-i in
    let e : l.i ≡ bodies = omega arith in
    or_last (any_below bodies (wrong_line (layout_of b) b)) (wrong_length (layout_of b) b) _ (sym (none_found l.invariant.0 (omega arith) refl))
    (ap (λ (x : ℕ). not (eqb (length b) x)) (rw e at l.invariant.1))
