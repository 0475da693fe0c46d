-- Each turn stores the last digit of what is left in front of those found, until nothing is left; the digits are then written as a text. Assumes nothing.
use Rattle.model.proofs.Basics.{◌≡◌, length}
use Rattle.decimal.proofs.Spelling.{Spelt}
use Rattle.decimal.proofs.put_number.Given as goal

abbrev pub invariant-loop-rest : goal.invariant-loop-rest
invariant-loop-rest l = Spelt l.n l.rest l.k l.digits × (length l.digits ≡ 20)

abbrev pub decreases-loop-rest : goal.decreases-loop-rest
decreases-loop-rest l = l.k
