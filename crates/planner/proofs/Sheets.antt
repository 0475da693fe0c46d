-- A sheet that reads has what the planner's calls ask, and its refusals for want of room. Assumes nothing.
use Rattle.model.proofs.Basics.{◌≡◌, refl, sym, ap, ap₂, ◌∙◌, true, List, ℕ, ◌+◌, ◌*◌, ◌^◌, ◌≤◌, ◌<◌, ◌-◌, arith, length, get_or, take, get_or-take, drop, are_bytes}
use Rattle.model.proofs.Basics.{pow_pos, lt-ltb, le-ltb}
use lib.{ListN.length-drop, Seq.take-length, Seq.get_or-drop, Arith.digits_lt}
use Rattle.model.specs.{full, mask_bits, lists_of, full_of, refused, decode, read_sheet, plan_length, short_room, cells_needed, few_cells, room_tests}
use Rattle.model.specs.{plan_for, cells_after, Planned, plan, pairs_allow, max_starts}
use Rattle.model.specs.Sheet.{Sheet}
use Rattle.model.proofs.TaskLists.Masks.{full_lt, lists_of_lem, full_of_lem}
use Rattle.model.proofs.Theory.OpenAlong.{full_allowed}
use Rattle.model.proofs.Bytes.Entries.{tasks_listed}
use Rattle.model.proofs.Calls.{Reading.Reads, Reading.reads_then, Reading.counts_read, Reading.refused_alike, Planning.length_cells, Planning.plan_refused}
use Rattle.view.specs.declared.View.{View}
use Rattle.view.specs.Views.{view_of, Viewed}
use Rattle.view.proofs.Counted.{tasks_are, points_are}
use Rattle.sheet.proofs.Laid as Laid
use Rattle.kernel_sheet.specs.{declared.Numbers.Numbers, Prepared.Prepared, Prepared.StartsOf}
use Rattle.kernel_table.specs.Cells.{Shown}
use Rattle.kernel_table.proofs.Filling.{shown_after}
use Rattle.kernel_start.specs.Choosing.{Startable}
use Rattle.kernel_start.proofs.Starting.{round_from, taken}
use Rattle.kernel_complete.specs.Completed.{Completable}

-- past the tests: the sheet reads, and there is room for the cells and for the plan
pub record Roomy (b cells buffer : List ℕ) : Type 0 where
  pub bytes : are_bytes b ≡ true
  pub reads : Reads b
  pub room : cells_needed (decode b) ≤ length cells
  pub wide : plan_length (decode b).tasks ≤ length buffer

-- the cells that the code counts, n being its number of lists
pub needed_is : {b : List ℕ} {v : View} {n : ℕ} → Viewed b v → (decode b).tasks < mask_bits → n ≡ lists_of v.tasks → n * v.points ≡ cells_needed (decode b)
unfolding cells_needed
needed_is h few e = ap₂ ◌*◌ (e ∙ ap lists_of (tasks_are h) ∙ lists_of_lem _ few) (points_are h)

-- what planning leaves, part by part
pub in_parts : {p q : Planned} → p ≡ q → (q.answer ≡ p.answer) × ((q.cells ≡ p.cells) × (q.bytes ≡ p.bytes))
in_parts e = (sym (ap (λ (x : Planned). x.answer) e), (sym (ap (λ (x : Planned). x.cells) e), sym (ap (λ (x : Planned). x.bytes) e)))

-- what the reader refuses planning refuses, and leaves cells and buffer
pub sheet_refused : (b cells buffer : List ℕ) {r : ℕ} → refused r ≡ read_sheet b
    → plan b cells buffer ≡ record { answer = refused r; cells = cells; bytes = buffer }
unfolding read_sheet plan_for room_tests few_cells short_room
sheet_refused b cells buffer {r} e = plan_refused b cells buffer r (refused_alike b _ _ _ r refl (sym e))

module _ (b : List ℕ) (h : Reads b) where
  pub few : (decode b).tasks < mask_bits
  few = tasks_listed _ (counts_read b h).tasks

  -- ---- room

  -- 20, and 21
  pub few_cells_lem : (cells buffer : List ℕ) → length cells < cells_needed (decode b)
      → plan b cells buffer ≡ record { answer = refused 20; cells = cells; bytes = buffer }
  unfolding plan_for room_tests few_cells short_room
  few_cells_lem cells buffer l = plan_refused b cells buffer 20 (reads_then b _ h ∙ rw (lt-ltb _ _ l))

  pub short_buffer : (cells buffer : List ℕ) → cells_needed (decode b) ≤ length cells → length buffer < plan_length (decode b).tasks
      → plan b cells buffer ≡ record { answer = refused 21; cells = cells; bytes = buffer }
  unfolding plan_for room_tests few_cells short_room
  short_buffer cells buffer c l = plan_refused b cells buffer 21
      (reads_then b _ h ∙ rw (le-ltb (length cells) (cells_needed (decode b)) c, lt-ltb _ _ l))

  -- ---- what the calls ask

  module _ {v : View} (e : v ≡ view_of b) where
    pub viewed : Viewed b v
    viewed = Laid.viewed (Laid.reads_laid h) e

    -- the code's full list is the full list
    pub full_is : {k : ℕ} → k ≡ full_of v.tasks → k ≡ full (decode b).tasks
    full_is q = q ∙ ap full_of (tasks_are viewed) ∙ full_of_lem (decode b).tasks few

-- ---- the cells once they are filled

-- new: the cells, filled from the numbers of a sheet; k and n: its full list and its number of points, as the code has them
pub record FilledWith (S : Sheet) (x : Numbers) (columns cells : List ℕ) (k n : ℕ) (new : List ℕ) : Type 0 where
  pub prepared : Prepared S x columns
  pub room : cells_needed S ≤ length cells
  pub list : k ≡ full S.tasks
  pub points : n ≡ S.points
  pub is : new ≡ cells_after S cells

-- the row of list k with n points, as the code lends it: the cells from there to the end
abbrev pub row_from : ℕ → ℕ → List ℕ → List ℕ
row_from k n new = take (length new - k * n) (drop (k * n) new)

module _ {S : Sheet} {x : Numbers} {columns cells : List ℕ} {k n : ℕ} {new : List ℕ} (h : FilledWith S x columns cells k n new) where
  whole : 2 ^ S.tasks * S.points ≤ length new
  unfolding cells_needed
  whole = rw (h.is, length_cells S cells) h.room

  shown : Shown S (2 ^ S.tasks) new
  unfolding cells_needed
  shown = rw h.is (shown_after S cells h.room h.prepared.workable.counts.one_point)

  allowed : pairs_allow S (full S.tasks) ≡ true
  allowed = full_allowed S h.prepared.workable.plannable.ranges

  -- the point of a start, and its cell in the row of the full list
  point : (s : ℕ) → s < S.starts → S.start_point s < S.points
  point = h.prepared.workable.plannable.ranges.start

  start_in_lem : (s : ℕ) → s < S.starts → k * n + S.start_point s < length new
  start_in_lem s l = rw (h.list, h.points) (omega (arith, whole, digits_lt (full_lt S.tasks) (point s l)))

  pub row_within : k * n ≤ length new
  row_within = omega (arith, start_in_lem 0 h.prepared.workable.counts.one_start)

  to_end : row_from k n new ≡ drop (k * n) new
  to_end = ap (λ (m : ℕ). take m (drop (k * n) new)) (sym (length-drop (k * n) new)) ∙ take-length (drop (k * n) new)

  -- what the choice of the start asks of the array, however long it is
  pub start_asked : StartsOf S x.starts × (1 ≤ S.starts) × (S.starts ≤ max_starts) × ((s : ℕ) → s < S.starts → S.start_point s < length (row_from k n new))
  start_asked = (
    h.prepared.numbers.starts,
    h.prepared.workable.counts.one_start,
    h.prepared.workable.counts.starts,
    λ s l. rw (to_end, length-drop) (omega (arith, start_in_lem s l)),
  )

  -- the start can be chosen, of the first m of the array
  pub startable : {m : ℕ} → m ≡ S.starts → S.starts ≤ length x.starts → Startable S (take m x.starts) (row_from k n new)
  startable e many = rw to_end (record {
    points = (taken S x.starts _ h.prepared.numbers.starts e many).0;
    count = (taken S x.starts _ h.prepared.numbers.starts e many).1;
    one_start = h.prepared.workable.counts.one_start;
    few = h.prepared.workable.counts.starts;
    held = λ s l. rw length-drop (omega (arith, start_in_lem s l));
  })

  -- it shows what the whole round costs from each start
  pub row_shows : (s : ℕ) → s < S.starts → get_or (row_from k n new) (S.start_point s) 0 ≡ round_from S s
  row_shows s l = rw to_end (get_or-drop (k * n) new (S.start_point s) 0 ∙ rw (h.list, h.points)
      (shown (full S.tasks) (S.start_point s) (full_lt S.tasks) allowed (point s l)))

  next_full : full S.tasks + 1 ≡ 2 ^ S.tasks
  unfolding full
  next_full = omega (arith, pow_pos S.tasks)

  -- a start of the first m is that of the array
  pub start_of : {m s : ℕ} → m ≡ S.starts → s < S.starts → get_or (take m x.starts) s 0 ≡ get_or x.starts s 0
  start_of {m} {s} e l = get_or-take m x.starts s 0 (rw e l)

  -- and from the point of a start the full list can be completed
  pub completable : {m s : ℕ} → m ≡ S.starts → s < S.starts → Completable S x columns k (get_or (take m x.starts) s 0) new
  completable {m} {s} e l = rw (start_of e l, h.list, h.prepared.numbers.starts s l) (record {
    prepared = h.prepared;
    list = full_lt S.tasks;
    allowed = allowed;
    point = point s l;
    room = rw next_full whole;
    known = rw next_full shown;
  })
