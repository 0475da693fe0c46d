-- The lists one by one: the sum is the load of the list before, and none so far is essential with a load below zero. Assumes nothing.
use Rattle.view.specs.Sheets.{sheet_of}
use Rattle.essential.proofs.Looking.{Looking}
use Rattle.essential.proofs.some_light_list.Given as goal

abbrev pub invariant-loop-k : goal.invariant-loop-k
invariant-loop-k l = Looking (sheet_of l.sheet) l.lists l.load l.k
