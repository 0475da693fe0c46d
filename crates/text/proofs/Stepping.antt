-- The lines of the steps, one after the other: those that are laid, and those of the doors that are left, which complete the list that
-- is left. Assumes nothing.
use Rattle.model.proofs.Basics.{◌≡◌, refl, sym, ap, ap₂, ◌∙◌, Bool, true, ◌&&◌, List, [], ◌∷◌, ◌++◌, append_assoc, append-nil, ℕ, ◌+◌, ◌*◌}
use Rattle.model.proofs.Basics.{◌^◌, ◌≤◌, ◌<◌, arith, ltb, length, get_or, drop, length-append, drop_of_length-le, pow_mono, ltb-true}
use Rattle.model.specs.Sheet.{Sheet}
use Rattle.model.specs.{InRange, without, full, full_of, can_come_first, in_sheet, is_completion, decode, max_plan_doors, step_line, step_lines}
use Rattle.model.proofs.Tools.Tests.{and_left, and_right}
use Rattle.model.proofs.Tools.Walks.{from}
use Rattle.model.proofs.TaskLists.Masks.{full_lt, without_le, full_of_lem}
use Rattle.model.proofs.Theory.Completions.{completes_is, open_is}
use Rattle.model.proofs.Bytes.Overwriting.{over_none}
use Rattle.model.proofs.Theory.Solutions as Solutions
use Rattle.view.specs.declared.View.{View}
use Rattle.view.specs.Views.{view_of}
use Rattle.lines.specs.Lines.{max_step, Laid}
use Rattle.text.specs.Steps.{Steps}
use Rattle.lines.proofs.Laying.{laid_room, laid_on, laid_as, long_step}

-- the view's number of tasks is the sheet's
pub count : (b : List ℕ) {v : View} → v ≡ view_of b → v.tasks ≡ (decode b).tasks
unfolding view_of
count b e = ap (λ (x : View). x.tasks) e

-- each door is one of the sheet's
pub door_in_lem : {b ds : List ℕ} → Steps b ds → (i : ℕ) → i < length ds → get_or ds i 0 < (decode b).doors
unfolding is_completion
door_in_lem {b} {ds} S i l = Solutions.door_in_lem (decode b) ds (and_left (in_sheet (decode b) ds) _ S.completion) i l

-- a completion of K that begins with door d: the door is one of the sheet's, and the rest completes what its task leaves
module _ (S : Sheet) (R : InRange S) (d K : ℕ) (ds : List ℕ) (h : is_completion S K (d ∷ ds) ≡ true) where
  abbrev first : Bool
  first = ltb d S.doors && can_come_first S K (S.task d)

  pub first_door : d < S.doors
  first_door = ltb-true d S.doors (and_left (ltb d S.doors) _ (and_left first _ (completes_is S R (d ∷ ds) K 0 ∙ h)))

  pub goes_on : is_completion S (without K (S.task d)) ds ≡ true
  goes_on = sym (completes_is S R ds (without K (S.task d)) (S.depart d)) ∙ and_right first _ (completes_is S R (d ∷ ds) K 0 ∙ h)

-- after i steps: the lines laid, and what is left
pub record Stepped (b ds a out : List ℕ) (at end left i : ℕ) : Type 0 where
  pub within : i ≤ length ds
  pub lines : List ℕ
  pub laid : Laid at lines a out end
  pub short : length lines ≤ max_step * i
  pub whole : lines ++ step_lines (decode b) (drop i ds) ≡ step_lines (decode b) ds
  pub list : left < 2 ^ (decode b).tasks
  pub completion : is_completion (decode b) left (drop i ds) ≡ true

module _ {b ds : List ℕ} (S : Steps b ds) {at : ℕ} {a : List ℕ} (room : at + max_step * max_plan_doors ≤ length a) where
  pub no_step : {n left : ℕ} → n ≡ (decode b).tasks → left ≡ full_of n → Stepped b ds a a at at left 0
  no_step {n} {left} e f =
      let whole-list : left ≡ full (decode b).tasks = f ∙ ap full_of e ∙ full_of_lem (decode b).tasks (omega (arith, S.few)) in
      record {
        within = omega arith;
        lines = [];
        laid = record { ends = omega arith; within = omega arith; bytes = sym (over_none at a (omega arith)) };
        short = omega arith;
        whole = refl;
        list = rw whole-list (full_lt (decode b).tasks);
        completion = rw whole-list S.completion;
      }

  module _ {out : List ℕ} {end left i : ℕ} (w : Stepped b ds a out at end left i) (l : i < length ds) where
    pub step_room : end + max_step ≤ length out
    step_room = omega (arith, w.laid.ends, w.short, laid_room w.laid, S.few_doors)

    -- the door d of the step, its task, and what it leaves
    module _ {d t : ℕ} (hd : d ≡ get_or ds i 0) (ht : t ≡ (decode b).task d) where
      rest : drop i ds ≡ d ∷ drop (i + 1) ds
      rest = rw hd (from ds i l)

      completes : is_completion (decode b) left (d ∷ drop (i + 1) ds) ≡ true
      completes = rw rest at w.completion

      line_is : step_lines (decode b) (drop i ds) ≡ step_line d t left ++ step_lines (decode b) (drop (i + 1) ds)
      line_is =
          let o = open_is (decode b) S.ranges (d ∷ drop (i + 1) ds) left w.list completes in
          ap (step_lines (decode b)) rest ∙ ap₂ (λ (x K : ℕ). step_line d x K ++ step_lines (decode b) (drop (i + 1) ds)) (sym ht) o

      few_lists : left < 2 ^ 64
      few_lists = let tasks : (decode b).tasks ≤ 64 = omega (arith, S.few) in omega (arith, w.list, pow_mono tasks)

      pub one_step : {out' : List ℕ} {end' left' : ℕ} → d < 2 ^ 64 → t < 2 ^ 64
          → Laid end (step_line d t left) out out' end' → left' ≡ without left t → Stepped b ds a out' at end' left' (i + 1)
      one_step {out'} {end'} {left'} fd ft line e = record {
        within = omega arith;
        lines = w.lines ++ step_line d t left;
        laid = laid_on w.laid line;
        short = simp length-append (omega (arith, w.short, long_step d t left fd ft few_lists));
        whole = append_assoc w.lines (step_line d t left) _ ∙ ap (λ (xs : List ℕ). w.lines ++ xs) (sym line_is) ∙ w.whole;
        list = rw e (omega (arith, without_le left t, w.list));
        completion = rw (e, ht) (goes_on (decode b) S.ranges d left (drop (i + 1) ds) completes);
      }

pub all_steps : {b ds a out : List ℕ} {at end left i : ℕ} → Stepped b ds a out at end left i → length ds ≤ i
    → Laid at (step_lines (decode b) ds) a out end
all_steps {b} {ds} w l = laid_as (sym w.whole ∙ rw (drop_of_length-le ds l, append-nil)) w.laid
