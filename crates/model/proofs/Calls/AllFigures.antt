-- All of document 01's figures: `figures`, from the theorems on each call, on sums and on lines. Assumes nothing.
use Rattle.model.proofs.Basics.{◌≡◌, ap, ◌∙◌, ℕ, suc, ◌-◌, ◌*◌, ◌≤◌, ◌<◌, arith, ℤ, pos, negsuc, ◌+ℤ◌, lt-ltb, le-ltb}
use Rattle.model.specs.{signed, up, down, Figures.FiguresHold}
use Rattle.model.proofs.{Bytes.Numbers.number_sum, Bytes.Decimals.decimal_is, Theory.Loads.sub_pos, Theory.RouteSums.costs_sum, Calls.Judged.validating_answers, Calls.Sums.sums_hold}
use Rattle.model.proofs.Calls.{Figures.stands_at, Figures.no_numbering, Figures.lengths_between, Figures.reading_answers_lem, Figures.planning_answers, Printing.cut_input, Lines.printing_holds}
use Rattle.model.proofs.Calls.PlanFigures.{writing_answers, plan_reading_answers, writing_twelve, reading_twelve, plan_read}

-- two's complement of 16 bits
not_negative : (n : ℕ) → n < 32768 → signed 2 n ≡ pos n
unfolding signed
not_negative n l = rw (lt-ltb (2 * n) 65536 (omega arith))

negative : (n : ℕ) → n < 65536 → 32768 ≤ n → signed 2 n +ℤ pos 65536 ≡ pos n
unfolding signed
negative n l h = rw (le-ltb (2 * n) 65536 (omega arith)) (sub_pos 65536 (suc (65535 - n)) (omega arith) ∙ ap pos (whole n l))
  where
    whole : (n : ℕ) → n < 65536 → 65536 - suc (65535 - n) ≡ n
    whole n l = omega arith

-- what an integer adds, less what it takes away, is that integer
parts : (z : ℤ) → z +ℤ pos (down z) ≡ pos (up z)
parts (pos n) = ap pos (omega arith)
parts (negsuc n) = sub_pos (suc n) (suc n) (omega arith) ∙ ap pos (omega arith)

pub figures : FiguresHold
figures = record {
  numbers = number_sum;
  signs = λ n l. (not_negative n, negative n l);
  parts = parts;
  stands_at = stands_at;
  reading = reading_answers_lem;
  planning = planning_answers;
  validating = validating_answers;
  writing_a_plan = writing_answers;
  reading_a_plan = plan_reading_answers;
  no_numbering = no_numbering;
  plan_read = plan_read;
  writing_twelve = writing_twelve;
  reading_twelve = reading_twelve;
  lengths = lengths_between;
  shortest = λ b h n d s q r p m. omega (arith, h.ends);
  longest = λ b h n d s q r p m. omega (arith, h.ends);
  costs_sum = costs_sum;
  sums = sums_hold;
  decimals = decimal_is;
  printing = printing_holds;
  cut_input = cut_input;
}
