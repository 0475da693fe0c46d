-- The arrays of a sheet that is prepared, and what the code finds of a list by them: who waits, and whether it is essential. Assumes nothing.
use Rattle.model.proofs.Basics.{◌≡◌, ◌∙◌, Bool, true, not, ◌||◌, List, ℕ, ◌^◌, ◌≤◌, ◌<◌, arith}
use Rattle.model.specs.{all_below, member, essential, mask_bits}
use Rattle.model.specs.Sheet.{Sheet}
use Rattle.kernel_sheet.specs.declared.Numbers.{Numbers}
use Rattle.kernel_sheet.specs.Prepared.{ReceiversOf, Prepared}
use Rattle.kernel_list.specs.Lists.{union_of, Waiting}
use Rattle.kernel_list.proofs.Opening.{waiting_is, essential_is}
use Rattle.kernel_bellman.specs.Rests.{Arrayed, Listed}

pub arrayed : {S : Sheet} {x : Numbers} {columns : List ℕ} → Prepared S x columns → Arrayed S x columns
arrayed h = record {
  workable = h.workable;
  counts = h.numbers.counts;
  change = h.numbers.tasks.change;
  set = h.numbers.tasks.doors;
  begin = h.numbers.doors.column;
  work = h.numbers.doors.work;
  rules = h.numbers.rules;
  columned = h.columned;
}

-- list K, and r, the union of its tasks' receivers
module _ {S : Sheet} {x : Numbers} {columns : List ℕ} (A : Arrayed S x columns) (receiving : List ℕ) (R : ReceiversOf S receiving)
    (K r : ℕ) (l : K < 2 ^ S.tasks) (e : r ≡ union_of receiving K) where
  waits : Waiting S K r
  waits = waiting_is S receiving K r A.workable.counts.tasks l A.workable.plannable.ranges R e

  -- where it is not empty the code tells whether it is essential
  pub told : {b : Bool} → 0 < K → b ≡ all_below mask_bits (λ j. not (member r j) || member K j) → b ≡ essential S K
  told some h =
      let few : S.tasks ≤ mask_bits = omega (arith, A.workable.counts.tasks) in
      h ∙ essential_is S K r waits mask_bits few A.workable.plannable.ranges some

  pub listed : essential S K ≡ true → Listed S x K r columns
  listed ess = record { arrays = A; list = l; ess = ess; waiting = waits }
