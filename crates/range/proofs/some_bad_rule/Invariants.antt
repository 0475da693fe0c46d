-- A search through the rules: none so far has its door or least count out of range, and what they watch is joined. Assumes nothing.
use Rattle.model.specs.{layout_of, decode}
use Rattle.range.proofs.Rules.{Passed}
use Rattle.range.proofs.some_bad_rule.Given as goal

abbrev pub invariant-loop-i : goal.invariant-loop-i
invariant-loop-i l = Passed (layout_of l.sheet.bytes.now) (decode l.sheet.bytes.now) l.sheet.view.rules l.watched l.i
