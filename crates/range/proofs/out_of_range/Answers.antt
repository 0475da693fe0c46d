-- Some entry of one of the four bodies is bad; each is searched only where none was bad before. Assumes nothing.
use Rattle.model.proofs.Basics.{◌≡◌, sym, ◌∙◌, ◌||◌, rules}
use Rattle.std.proofs.Common.{tests}
use Rattle.model.specs.{some_bad_door, some_bad_start, some_bad_pair, out_of_range}
use Rattle.model.proofs.Tools.Tests.{or_last}
use Rattle.view.specs.Sheets.{sheet_of}
use Rattle.view.proofs.Counted.{doors_are, starts_are, pairs_are}
use Rattle.model.proofs.Tools.Chains.{callable_below, any_is}
use Rattle.range.proofs.out_of_range.Goals.{Joined-any-2, then-any, else-any, then-any-2, else-any-2}
use Rattle.range.proofs.out_of_range.Goals as goal

-- ---- a search asks only of entries that the sheet has

pub any-requires-clause-callable : goal.any-requires-clause-callable
any-requires-clause-callable c =
    callable_below (doors_are c.args.sheet.now.viewed) (λ x q k. search (rules, tests)) (λ x l. search rules)

pub any-requires-else-any-clause-callable : goal.any-requires-else-any-clause-callable
any-requires-else-any-clause-callable c =
    callable_below (starts_are c.args.sheet.now.viewed) (λ x q k. search (rules, tests)) (λ x l. search rules)

pub any-requires-else-any-2-clause-callable : goal.any-requires-else-any-2-clause-callable
any-requires-else-any-2-clause-callable c =
    callable_below (pairs_are c.args.sheet.now.viewed) (λ x q k. search (rules, tests)) (λ x l. search rules)

-- ---- what the first search found, the first two, and the first three

one : (c : Joined-any-2) → c.any.result ≡ some_bad_door (sheet_of c.args.sheet.now)
unfolding some_bad_door
one c = any_is (doors_are c.args.sheet.now.viewed) _ c.any.ensures.ran (λ x b q k. search (rules, tests))

two : (c : Joined-any-2) → let S = sheet_of c.args.sheet.now in c.if-any.value ≡ (some_bad_door S || some_bad_start S)
unfolding some_bad_start
two c = elim c.if-any.branch [
  | then-any w ↦ w.value-is ∙ rw (← one c, w.if-any.true)
  | else-any w ↦
      w.value-is
      ∙ or_last _ _ _ (sym (one c) ∙ w.if-any.false)
      (any_is (starts_are c.args.sheet.now.viewed) _ w.any-else-any.ensures.ran (λ x b q k. search (rules, tests)))
]

three : (c : Joined-any-2) → let S = sheet_of c.args.sheet.now in c.if-any-2.value ≡ (some_bad_door S || some_bad_start S || some_bad_pair S)
unfolding some_bad_pair
three c = elim c.if-any-2.branch [
  | then-any-2 w ↦ w.value-is ∙ rw (← two c, w.if-any-2.true)
  | else-any-2 w ↦
      w.value-is
      ∙ or_last _ _ _ (sym (two c) ∙ w.if-any-2.false)
      (any_is (pairs_are c.args.sheet.now.viewed) _ w.any-else-any-2.ensures.ran (λ x b q k. search (rules, tests)))
]

-- ---- a door, a start or a pair is bad, or the access rules decide

pub returns-then-any-3 : goal.returns-then-any-3
unfolding out_of_range
returns-then-any-3 c =
    rw (sym (three (goal.at.returns-then-any-3 c).Joined-any-2) ∙ c.if-any-3.true) c.if-any-3.true

pub returns-else-any-3 : goal.returns-else-any-3
unfolding out_of_range
returns-else-any-3 c =
    or_last _ _ _ (sym (three (goal.at.returns-else-any-3 c).Joined-any-2) ∙ c.if-any-3.false) c.some_bad_rule.ensures
