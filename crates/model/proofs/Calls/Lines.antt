-- What is printed, line by line: the cost, the start, and a step for each door of the plan that planning leaves, whose open list is a sum of powers of two; and what
-- printing leaves in buffer and cells. Assumes nothing.
use Rattle.model.proofs.Basics.{◌≡◌, refl, sym, ap, ap₂, ◌∙◌, List, [], ◌∷◌, ◌++◌, append_assoc, map, ℕ, suc, ◌+◌, ◌≤◌, ◌<◌, arith, zero-add}
use Rattle.model.proofs.Basics.{length, get_or, drop, le-leb, lt-leb}
use Rattle.model.specs.{Sheet.Sheet, Answer.Answer, flat_map_below, map_below, mask_of, full, Plan, plan_cost, accepted, refused, decode, decode_by, entries, line_at}
use Rattle.model.specs.{max_plan_doors, plan_length, plan, plan_for, carried_out, ascii, decimal, line_end, refusal_line, step_line, step_lines, plan_lines, printed_with, print, overwrite, overwrite_at, written_at}
use Rattle.model.specs.Figures.{tasks_stated, start_stated, door_stated, OwnTasks, line_text, PrintingHolds}
use Rattle.model.proofs.Tools.Folds.{flat_cong, flat_first, length_map_below, map_below_at}
use Rattle.model.proofs.Theory.{RouteSums.order_own, RouteSums.open_sum, Solutions.solution, Solutions.solution_length, Solutions.solution_fits}
use Rattle.model.proofs.{Theory.Cheapest.cheapest_solution, Bytes.Overwriting.over_front, Bytes.Overwriting.over_not, Bytes.PlanBytes.length_is, Calls.PlanFigures.stated_start, Calls.PlanFigures.stated_doors}
use Rattle.model.proofs.Calls.{Reading.counts_read, Printing.prints_plan, Printing.prints_refusal}

-- the steps by their places
steps_are : (S : Sheet) (ds : List ℕ)
    → step_lines S ds ≡ flat_map_below (length ds) (λ i. step_line (get_or ds i 0) (S.task (get_or ds i 0)) (mask_of (map S.task (drop i ds))))
steps_are S [] = refl
steps_are S (d ∷ ds) = ap (λ (l : List ℕ). step_line d (S.task d) (mask_of (map S.task (d ∷ ds))) ++ l) (steps_are S ds)
    ∙ sym (flat_first (length ds) (λ i. step_line (get_or (d ∷ ds) i 0) (S.task (get_or (d ∷ ds) i 0)) (mask_of (map S.task (drop i (d ∷ ds))))))

-- of a route whose tasks differ, with the open list as a sum
steps_text : (S : Sheet) (c s n : ℕ) (d : ℕ → ℕ) → OwnTasks S n d → step_lines S (map_below n d) ≡ flat_map_below n (λ i. line_text S c s n d (suc (suc i)))
unfolding step_line
steps_text S c s n d own = steps_are S (map_below n d)
    ∙ ap (λ (m : ℕ). flat_map_below m (λ i. step_line (get_or (map_below n d) i 0) (S.task (get_or (map_below n d) i 0)) (mask_of (map S.task (drop i (map_below n d))))))
    (length_map_below n d)
    ∙ flat_cong n _ _ (λ i l. ap₂ (λ (x K : ℕ). step_line x (S.task x) K) (map_below_at n d i 0 l) (open_sum S n d own i))

-- a line of three parts behind another, and what follows
line_behind : (l a b e rest : List ℕ) → l ++ a ++ b ++ e ++ rest ≡ l ++ (a ++ b ++ e ++ rest)
line_behind l a b e rest = simp append_assoc

-- the lines of a plan
plan_text : (S : Sheet) (x : Plan) (n : ℕ) (d : ℕ → ℕ) → map_below n d ≡ x.doors → OwnTasks S n d
    → plan_lines S x ≡ flat_map_below (n + 2) (line_text S (plan_cost S x) x.start n d)
unfolding plan_lines
plan_text S x n d e own =
    let c : ℕ = plan_cost S x in
    let line : ℕ → List ℕ = line_text S c x.start n d in
    line_behind (line 0) (ascii "start ") (decimal x.start) line_end (step_lines S x.doors)
    ∙ ap (λ (l : List ℕ). line 0 ++ l) (ap (λ (l : List ℕ). line 1 ++ l) (ap (step_lines S) (sym e) ∙ steps_text S c x.start n d own)
    ∙ sym (flat_first n (λ i. line (suc i))))
    ∙ sym (flat_first (suc n) line)
    ∙ ap (λ (m : ℕ). flat_map_below m line) (add_two n)
  where
    add_two : (n : ℕ) → suc (suc n) ≡ n + 2
    add_two n = omega arith

-- ---- the buffer and the cells

-- bytes that fit are put to the front, and others are not put there
put_front : (bytes buffer : List ℕ) → length bytes ≤ length buffer
    → (written_at 0 bytes buffer ≡ length bytes) × (overwrite_at 0 bytes buffer ≡ bytes ++ drop (length bytes) buffer)
unfolding written_at overwrite
put_front bytes buffer l = (rw (zero-add, le-leb (length bytes) (length buffer) l), over_front bytes buffer l)

not_put : (bytes buffer : List ℕ) → length buffer < length bytes → (written_at 0 bytes buffer ≡ 0) × (overwrite_at 0 bytes buffer ≡ buffer)
unfolding written_at
not_put bytes buffer l = (rw (zero-add, lt-leb (length bytes) (length buffer) l), over_not 0 bytes buffer (omega arith))

-- planning leaves the same cells with every buffer of one length
same_cells : (b cells room other : List ℕ) → length room ≡ length other → (plan b cells room).cells ≡ (plan b cells other).cells
unfolding plan
same_cells b cells room other e = ap (λ (n : ℕ). (carried_out (decode b) (plan_for b (length cells) n) cells room).cells) e ∙ go (plan_for b (length cells) (length other))
  where
    go : (a : Answer Plan) → (carried_out (decode b) a cells room).cells ≡ (carried_out (decode b) a cells other).cells
    go (refused n) = refl
    go (accepted x) = refl

-- ---- all of it

module _ (b cells : List ℕ) where
  abbrev text : List ℕ
  text = printed_with (length cells) b

  abbrev S : Sheet
  S = decode b

  length_room : plan_length max_plan_doors ≡ 56
  length_room = length_is 12

  answered : (room : List ℕ) (c : ℕ) → length room ≡ 56 → (plan b cells room).answer ≡ accepted c
      → text ≡ flat_map_below (tasks_stated b + 2) (line_text S c (start_stated (plan b cells room).bytes) (tasks_stated b) (door_stated (plan b cells room).bytes))
  unfolding decode decode_by entries line_at
  answered room c e h =
      let g = prints_plan b cells room (e ∙ sym length_room) c h in
      let x : Plan = g.0 in
      let q : List ℕ = (plan b cells room).bytes in
      let T = solution S x.start x.doors (cheapest_solution S x g.5) in
      let fits = solution_fits S (counts_read b g.4) x.start x.doors T in
      let s : start_stated q ≡ x.start = rw g.3 (stated_start S.tasks x.start x.doors c room fits.0) in
      let ds : map_below S.tasks (door_stated q) ≡ x.doors
      = rw g.3 (stated_doors S.tasks x.start x.doors c room (solution_length S x.start x.doors T) fits.1) in
      let own = order_own S S.tasks (door_stated q) (full S.tasks) (rw ds T.order) in
      g.2 ∙ plan_text S x S.tasks (door_stated q) ds own
      ∙ ap₂ (λ (v w : ℕ). flat_map_below (tasks_stated b + 2) (line_text S v w (tasks_stated b) (door_stated q))) g.1 (sym s)

  refuses : (room : List ℕ) (r : ℕ) → length room ≡ 56 → (plan b cells room).answer ≡ refused r → text ≡ ascii "refused " ++ decimal r ++ (10 ∷ [])
  unfolding refusal_line
  refuses room r e h = prints_refusal b cells room (e ∙ sym length_room) r h

  pub printing_holds : PrintingHolds b cells
  unfolding print
  printing_holds = record {
    answered = answered;
    refuses = refuses;
    fits = λ buffer l. put_front text buffer l;
    does_not_fit = λ buffer l. not_put text buffer l;
    cells_left = λ buffer room e. same_cells b cells _ room (length_map_below _ _ ∙ length_room ∙ sym e);
  }
