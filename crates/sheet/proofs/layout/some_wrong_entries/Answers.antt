-- Some body before the distances is outside its limits, or the distances decide. Assumes nothing.
use Rattle.model.proofs.Basics.{◌≡◌, refl, sym, ◌∙◌, ◌*◌, ◌≤◌, mul-le-mul_right, arith, rules}
use Rattle.std.proofs.Common.{tests}
use Rattle.model.specs.{any_below, distances_body, layout_of, wrong_entries, some_wrong_entries}
use Rattle.model.proofs.Tools.Tests.{or_last}
use Rattle.model.proofs.Tools.Chains.{callable_below, any_is}
use Rattle.sheet.proofs.Places.{all_distances}
use Rattle.sheet.proofs.layout.some_wrong_entries.Goals.{After-any}
use Rattle.sheet.proofs.layout.some_wrong_entries.Goals as goal

pub any-requires-clause-callable : goal.any-requires-clause-callable
any-requires-clause-callable c =
    callable_below refl (λ x q k. search (rules, tests)) (λ x l. search rules)

pub overflow_mul-result : goal.overflow_mul-result
overflow_mul-result c =
    let p = c.entries-points.result in let m : p * p ≤ 65535 * p = mul-le-mul_right p (omega arith) in omega arith

-- what the search found
searched : (c : After-any) → c.any.result ≡ any_below distances_body (wrong_entries (layout_of c.args.s.now) c.args.s.now)
searched c = any_is refl (wrong_entries (layout_of c.args.s.now) c.args.s.now) c.any.ensures.ran (λ x b q k. search (rules, tests))

-- a body before the distances is outside its limits
pub returns-then-any : goal.returns-then-any
unfolding some_wrong_entries
returns-then-any c =
    rw (sym (searched (goal.at.returns-then-any c).After-any) ∙ c.if-any.true) c.if-any.true

-- none is: the distances decide
pub returns-else-any : goal.returns-else-any
unfolding some_wrong_entries
returns-else-any c =
    let b = c.args.s.now in
    or_last (any_below distances_body (wrong_entries (layout_of b) b)) (wrong_entries (layout_of b) b distances_body) _
    (sym (searched (goal.at.returns-else-any c).After-any) ∙ c.if-any.false)
    (all_distances b _ _ c.entries-points.ensures c.entries.ensures)
