-- A list that can be completed: its cell, that it can be opened, where its rests stand, and its next door. Assumes nothing.
use Rattle.model.proofs.Basics.{◌≡◌, sym, subst, ◌≢◌, true, List, [], ◌∷◌, ℕ, ◌+◌, ◌*◌, ◌<◌, arith, length, get_or, ne_eqb}
use Rattle.model.specs.{essential, pairs_allow, cost_to_go}
use Rattle.model.specs.Sheet.{Sheet}
use Rattle.kernel_sheet.specs.declared.Numbers.{Numbers}
use Rattle.kernel_list.specs.Lists.{union_of}
use Rattle.kernel_bellman.specs.Rests.{Listed, Rests}
use Rattle.kernel_bellman.proofs.Lists.{arrayed, listed}
use Rattle.kernel_table.specs.Cells.{TableRests}
use Rattle.kernel_table.proofs.Standing.{rests_below}
use Rattle.kernel_complete.specs.Completed.{best_doors, next_door, Completable}
use Rattle.kernel_complete.proofs.NextDoor.{NextIs, chosen_next}

pub is_next : {S : Sheet} {K p d : ℕ} → NextIs S K p d → next_door S K p ≡ d
unfolding next_door best_doors
is_next n = rw n.begins

is_essential : (S : Sheet) (K : ℕ) → pairs_allow S K ≡ true → K ≢ 0 → essential S K ≡ true
unfolding pairs_allow
is_essential S K a n = rw (ne_eqb K 0 n) at a

module _ {S : Sheet} {x : Numbers} {columns : List ℕ} {K p : ℕ} {cells : List ℕ} (C : Completable S x columns K p cells) where
  points : x.counts.points ≡ S.points
  points = C.prepared.numbers.counts.points

  -- its cell
  pub cell_in : K * x.counts.points + p < length cells
  cell_in = rw points (omega (arith, C.point, C.room))

  -- what stands there
  pub cell_is : get_or cells (K * x.counts.points + p) 0 ≡ cost_to_go S K p
  cell_is = rw points (C.known K p (omega arith) C.allowed C.point)

  -- where something is open
  module _ (some : K ≢ 0) where
    pub next_is : NextIs S K p (next_door S K p)
    next_is =
        let next = chosen_next S C.prepared.workable.plannable K p C.list (is_essential S K C.allowed some) in
        subst (NextIs S K p) (sym (is_next next)) next

    -- it can be opened, with r, the union of its tasks' receivers
    pub lists : {r : ℕ} → r ≡ union_of x.tasks.receivers K → Listed S x K r columns
    lists {r} e = listed (arrayed C.prepared) x.tasks.receivers C.prepared.numbers.tasks.receivers K r C.list e (is_essential S K C.allowed some)

  -- its rests stand in the cells
  pub rests : {slots backs : List ℕ} → TableRests S slots backs → Rests S K slots backs (K * x.counts.points ∷ []) cells
  rests T = rw points (rests_below K C.prepared.workable.plannable.ranges T C.allowed (omega (arith, C.room)) (λ J q l a m. C.known J q (omega arith) a m))
