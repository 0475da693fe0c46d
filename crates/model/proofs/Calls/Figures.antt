-- Document 01's own figures hold of the definitions: every field stands where the document puts it, and reading and planning are refused with each
-- of their numbers, and accept, exactly where the document says so. Assumes nothing.
use Rattle.model.proofs.Basics.{◌≡◌, refl, sym, ap, ◌⊎◌, inl, inr, ◌↔◌, true, false, not, List, ◌++◌, ℕ, suc, ◌+◌, ◌*◌, ◌^◌}
use Rattle.model.proofs.Basics.{◌≤◌, ◌<◌, arith, eqb, pos, lt_z, lit<, length, eqb-true, eqb-false, eq-eqb, ne_eqb, ltb-true, lt-ltb, not-true}
use Rattle.model.proofs.Basics.{not-false}
use Rattle.model.specs.{Answer.Answer, is_between, any_below, bit, no_order, essential, load, light_list, kind1, field_width, bytes_before, entry_bytes, line_at}
use Rattle.model.specs.{line_body, line_offset, entries, body_at, field_at, decode_by, layout_of, decode, too_short, wrong_kind, wrong_entries}
use Rattle.model.specs.{some_wrong_entries, wrong_line, wrong_length, wrong_places, out_of_range, lacks_door, some_lacks_door, too_light}
use Rattle.model.specs.{sheet_tests, unless_fault, read_sheet, InRange, number_at, signed, refused, accepted, Plan, plan_cost, cheapest}
use Rattle.model.specs.{status, cells_needed, few_cells, room_tests, or_no_order, plan_for, carried_out, plan, short_room}
use Rattle.model.specs.Figures.{tasks_stated, points_stated, StandsAt, Between, RightEntries, RightPlaces, RightRanges, KeepsPairs, SheetApplies}
use Rattle.model.specs.Figures.{is10, is11, is12, is13, is14, is15, is16, is17, Closed, BelowZero, PlanningApplies, sheet_order, planning_order, AnswersBy}
use Rattle.model.proofs.Tools.Refusing.{refused≢accepted, refused_number, Applies, refuse_append, pass_append, applies_append}
use Rattle.model.proofs.Tools.Refusing.{answers_by}
use Rattle.model.proofs.Tools.Tests.{or_left, or_right, between_is, all_at, all_below_lem, none_at, any_true, one_passes, passes_unless}
use Rattle.model.proofs.Tools.Tests.{and_left, and_right, and_both, by_test}
use Rattle.model.proofs.{Theory.Loads.ups, Theory.Loads.downs, Theory.Loads.load_negative, Theory.Meanings.essential_means, Theory.Meanings.admissible_means, Theory.Enumerations.no_order_iff, Theory.NoOrder.numbered, Bytes.Ranges.in_range, Bytes.Ranges.least_counts_lem}
use Rattle.model.proofs.{Bytes.Ranges.range_passes, Bytes.Entries.entries_within, Bytes.PlanBytes.length_is, Calls.Reading.all_reads}
use Rattle.model.proofs.{Calls.Planning.has_plan, Calls.Passing.end_between, Calls.Passing.right_line}

-- every field stands where the document puts it
pub stands_at : (b : List ℕ) → StandsAt b (decode b)
unfolding decode decode_by layout_of kind1 entries line_at field_at field_width bytes_before entry_bytes
stands_at b = record {
  end_load = refl;
  tasks = refl;
  doors = refl;
  starts = refl;
  pairs = refl;
  rules = refl;
  points = refl;
  change = λ t. ap (λ (i : ℕ). signed 2 (number_at 2 b i)) (omega arith);
  task = λ d. ap (number_at 2 b) (omega arith);
  arrive = λ d. ap (number_at 2 b) (omega arith);
  depart = λ d. ap (number_at 2 b) (omega arith);
  work = λ d. ap (number_at 4 b) (omega arith);
  start_point = λ s. ap (number_at 2 b) (omega arith);
  sender = λ i. ap (number_at 2 b) (omega arith);
  receiver = λ i. ap (number_at 2 b) (omega arith);
  rule_door = λ i. ap (number_at 2 b) (omega arith);
  watched = λ i. ap (number_at 2 b) (omega arith);
  least_count = λ i. ap (number_at 2 b) (omega arith);
  charge = λ i. ap (number_at 4 b) (omega arith);
  end_cost = λ p. ap (number_at 4 b) (omega arith);
  distance = λ p q. ap (number_at 2 b) (omega arith);
}

-- ---- the sheet's own numbers

module _ (b : List ℕ) where
  -- 12 is passed by the numbers of entries of the table
  right_entries : (some_wrong_entries (layout_of b) b ≡ false) ↔ RightEntries b
  unfolding some_wrong_entries wrong_entries layout_of kind1 entries line_at
  right_entries = (
    (λ h. let w = entries_within kind1 b h in record {
      tasks = w 0 (lit< tt);
      doors = w 1 (lit< tt);
      starts = w 2 (lit< tt);
      pairs = w 3 (lit< tt);
      rules = w 4 (lit< tt);
      points = w 5 (lit< tt);
      distances = let d = w 6 (lit< tt) in omega (arith, d.0, d.1);
    }),
    (λ h. rw (
      between 0 1 12 h.tasks,
      between 1 1 64 h.doors,
      between 2 1 16 h.starts,
      between 3 0 32 h.pairs,
      between 4 0 32 h.rules,
      between 5 1 64 h.points,
      exact h.distances,
    )),
  )
    where
      between : (i lo hi : ℕ) → Between lo hi (entries b i) → is_between lo hi (entries b i) ≡ true
      between i lo hi h = between_is lo hi (entries b i) h.0 h.1

      exact : entries b 6 ≡ entries b 5 * entries b 5 → is_between (entries b 5 * entries b 5) (entries b 5 * entries b 5) (entries b 6) ≡ true
      exact h = between_is _ _ (entries b 6) (omega arith) (omega arith)

  -- 13 by the contents lines and the length
  right_places : (wrong_places (layout_of b) b ≡ false) ↔ RightPlaces b
  unfolding wrong_places wrong_line wrong_length layout_of kind1 entries line_at line_body line_offset entry_bytes bytes_before field_width
  right_places = (there, back)
    where
      there : wrong_places (layout_of b) b ≡ false → RightPlaces b
      there h =
          let line : (i : ℕ) → i < 7 → (line_body b i ≡ suc i) × (line_offset b i ≡ body_at kind1 b i) = λ i l.
          (right_line kind1 b i).0 (none_at 7 (wrong_line kind1 b) (or_left (any_below 7 (wrong_line kind1 b)) _ h) i l) in
          let end : length b ≡ body_at kind1 b 7 = eqb-true _ _ (not-false _ (or_right (any_below 7 (wrong_line kind1 b)) _ h)) in
          record {
            tasks = line 0 (lit< tt);
            doors = let w = line 1 (lit< tt) in (w.0, omega (arith, w.1));
            starts = let w = line 2 (lit< tt) in (w.0, omega (arith, w.1));
            pairs = let w = line 3 (lit< tt) in (w.0, omega (arith, w.1));
            rules = let w = line 4 (lit< tt) in (w.0, omega (arith, w.1));
            points = let w = line 5 (lit< tt) in (w.0, omega (arith, w.1));
            distances = let w = line 6 (lit< tt) in (w.0, omega (arith, w.1));
            ends = omega (arith, end);
          }

      back : RightPlaces b → wrong_places (layout_of b) b ≡ false
      back h = rw (
        (right_line kind1 b 0).1 (h.tasks.0, h.tasks.1),
        (right_line kind1 b 1).1 (h.doors.0, omega (arith, h.doors.1)),
        (right_line kind1 b 2).1 (h.starts.0, omega (arith, h.starts.1)),
        (right_line kind1 b 3).1 (h.pairs.0, omega (arith, h.pairs.1)),
        (right_line kind1 b 4).1 (h.rules.0, omega (arith, h.rules.1)),
        (right_line kind1 b 5).1 (h.points.0, omega (arith, h.points.1)),
        (right_line kind1 b 6).1 (h.distances.0, omega (arith, h.distances.1)),
        eq-eqb (length b) (body_at kind1 b 7) (omega (arith, h.ends)),
      )

  -- 14 by what is named and the least counts
  right_ranges : (out_of_range (layout_of b) (decode b) ≡ false) ↔ RightRanges (decode b)
  unfolding layout_of kind1
  right_ranges = (
    (λ h. let R : InRange (decode b) = in_range kind1 (decode b) h in record {
      task = R.task;
      arrive = R.arrive;
      depart = R.depart;
      start_point = R.start;
      sender = R.sender;
      receiver = R.receiver;
      rule_door = R.rule_door;
      watched = R.watched;
      least_count = least_counts_lem kind1 (decode b) h;
    }),
    (λ h. range_passes kind1 (decode b) (record {
      task = h.task;
      arrive = h.arrive;
      depart = h.depart;
      start = h.start_point;
      sender = h.sender;
      receiver = h.receiver;
      rule_door = h.rule_door;
      watched = h.watched;
    }) h.least_count),
  )

  short : (too_short b ≡ true) ↔ (length b < 46)
  unfolding too_short line_at
  short = (ltb-true _ _, lt-ltb _ _)

  other_kind : (wrong_kind (layout_of b) b ≡ true) ↔ (number_at 2 b 0 ≡ 1 → ⊥)
  unfolding wrong_kind layout_of kind1
  other_kind = ((λ h. eqb-false _ _ (not-true _ h)), (λ h. ap not (ne_eqb _ _ h)))

  no_door : (some_lacks_door (decode b) ≡ true) ↔ ((t : ℕ) × (t < (decode b).tasks) × ((d : ℕ) → d < (decode b).doors → (decode b).task d ≡ t → ⊥))
  unfolding some_lacks_door lacks_door
  no_door = (
    (λ h. let r = one_passes (decode b).tasks (lacks_door (decode b)) h in
        (r.0, r.1, λ d l. eqb-false _ _ (not-true _ (all_at (decode b).doors (λ d. not (eqb ((decode b).task d) r.0)) r.2 d l)))),
    (λ h. any_true (decode b).tasks (lacks_door (decode b)) h.0 h.1 (all_below_lem (decode b).doors _ (λ d l. ap not (ne_eqb _ _ (h.2 d l))))),
  )

  -- 16 by a list and its load
  below_zero : (K : ℕ) → lt_z (load (decode b) K) (pos 0) ≡ true ↔ BelowZero (decode b) K
  unfolding ups downs bit
  below_zero K = rw (load_negative (decode b) K) (ltb-true _ _, lt-ltb _ _)

  too_light_lem : (too_light (decode b) ≡ true)
      ↔ ((K : ℕ) × (1 ≤ K) × (K < 2 ^ (decode b).tasks) × Closed (decode b) K × BelowZero (decode b) K)
  unfolding too_light light_list bit
  too_light_lem = (
    (λ h. let r = one_passes (2 ^ (decode b).tasks) (light_list (decode b)) h in
        let K : ℕ = r.0 in
        let e = (essential_means (decode b) K).0 (and_left (essential (decode b) K) _ r.2) in (
          K,
          omega (arith, e.0),
          r.1,
          (λ i l m. eqb-true _ 1 (e.1 i l (eq-eqb _ 1 m))),
          (below_zero K).0 (and_right (essential (decode b) K) _ r.2),
        )),
    (λ h. let K : ℕ = h.0 in
        any_true (2 ^ (decode b).tasks) (light_list (decode b)) K h.2 (and_both
        ((essential_means (decode b) K).1 ((λ z. omega (arith, h.1)), λ i l m. eq-eqb _ 1 (h.3 i l (eqb-true _ 1 m))))
        ((below_zero K).1 h.4))),
  )

  -- 17 by the orders that keep every pair
  no_order_lem : (no_order (decode b) ≡ true) ↔ ((ts : List ℕ) → KeepsPairs (decode b) ts → ⊥)
  no_order_lem = (
    (λ h ts k. (no_order_iff (decode b)).0 h ts ((admissible_means (decode b) ts).1 k)),
    (λ h. (no_order_iff (decode b)).1 (λ ts a. h ts ((admissible_means (decode b) ts).0 a))),
  )

  -- each of the sheet's tests applies exactly where its number does
  pub sheet_applies : (r : ℕ) → Applies (sheet_tests b) r ↔ SheetApplies b r
  unfolding sheet_tests
  sheet_applies r = (there, back)
    where
      there : Applies (sheet_tests b) r → SheetApplies b r
      there (inl h) = is10 h.0 (short.0 h.1)
      there (inr (inl h)) = is11 h.0 (other_kind.0 h.1)
      there (inr (inr (inl h))) = is12 h.0 ((passes_unless _ right_entries).0 h.1)
      there (inr (inr (inr (inl h)))) = is13 h.0 ((passes_unless _ right_places).0 h.1)
      there (inr (inr (inr (inr (inl h))))) = is14 h.0 ((passes_unless _ right_ranges).0 h.1)
      there (inr (inr (inr (inr (inr (inl h)))))) = let n = no_door.0 h.1 in is15 h.0 n.0 n.1 n.2
      there (inr (inr (inr (inr (inr (inr (inl h))))))) = is17 h.0 (no_order_lem.0 h.1)
      there (inr (inr (inr (inr (inr (inr (inr (inl h)))))))) = let k = too_light_lem.0 h.1 in is16 h.0 k.0 k.1 k.2 k.3 k.4
      there (inr (inr (inr (inr (inr (inr (inr (inr h)))))))) = absurd h

      back : SheetApplies b r → Applies (sheet_tests b) r
      back (is10 e h) = inl (e, short.1 h)
      back (is11 e h) = inr (inl (e, other_kind.1 h))
      back (is12 e h) = inr (inr (inl (e, (passes_unless _ right_entries).1 h)))
      back (is13 e h) = inr (inr (inr (inl (e, (passes_unless _ right_places).1 h))))
      back (is14 e h) = inr (inr (inr (inr (inl (e, (passes_unless _ right_ranges).1 h)))))
      back (is15 e t l h) = inr (inr (inr (inr (inr (inl (e, no_door.1 (t, l, h)))))))
      back (is17 e h) = inr (inr (inr (inr (inr (inr (inl (e, no_order_lem.1 h)))))))
      back (is16 e K k l h m) = inr (inr (inr (inr (inr (inr (inr (inl (e, too_light_lem.1 (K, k, l, h, m)))))))))

-- the lengths of sheets
pub lengths_between : (b : List ℕ) → RightEntries b → RightPlaces b → Between 66 9638 (length b)
unfolding layout_of kind1 entries line_at entry_bytes bytes_before field_width
lengths_between b h k =
    let e = end_between b (entries_within (layout_of b) b ((right_entries b).1 h)) in
    (omega (arith, k.ends, e.0), omega (arith, k.ends, e.1))

-- reading is refused with each of its numbers, and accepts, exactly where document 01 says so
pub reading_answers_lem : (b : List ℕ) → AnswersBy sheet_order (SheetApplies b) (read_sheet b)
unfolding read_sheet unless_fault sheet_tests
reading_answers_lem b = answers_by sheet_order (sheet_tests b) _ (SheetApplies b) refl (λ p. (_, refl)) (λ r n. sheet_applies b r)

-- where reading gets 17, no order of the tasks keeps every pair
said_17 : (b : List ℕ) (r : ℕ) → r ≡ 17 → SheetApplies b r → (ts : List ℕ) → KeepsPairs (decode b) ts → ⊥
said_17 b r e (is10 q h) = absurd (omega arith)
said_17 b r e (is11 q h) = absurd (omega arith)
said_17 b r e (is12 q h) = absurd (omega arith)
said_17 b r e (is13 q h) = absurd (omega arith)
said_17 b r e (is14 q h) = absurd (omega arith)
said_17 b r e (is15 q t l h) = absurd (omega arith)
said_17 b r e (is17 q h) = h
said_17 b r e (is16 q K k l h m) = absurd (omega arith)

-- and no numbering of the tasks gives every sender a lower number than its receiver, as 14 does not apply
pub no_numbering : (b : List ℕ) → status (read_sheet b) ≡ 17
    → (f : ℕ → ℕ) → ((i : ℕ) → i < (decode b).pairs → f ((decode b).sender i) < f ((decode b).receiver i)) → ⊥
no_numbering b e f agrees =
    let w = ((reading_answers_lem b).returns 17 (omega arith)).0 e in
    by_test (out_of_range (layout_of b) (decode b))
    (λ o. w.1 14 (lit< tt) (is14 refl ((passes_unless _ (right_ranges b)).0 o)))
    (λ o. numbered (decode b) (in_range (layout_of b) (decode b) o) f agrees ((no_order_lem b).1 (said_17 b 17 refl w.0)))

-- ---- planning

-- 21, and so for writing a plan
pub short_room_lem : (n room : ℕ) → (short_room n room ≡ true) ↔ (room < 32 + 2 * n)
unfolding short_room
short_room_lem n room = rw length_is (ltb-true _ _, lt-ltb _ _)

module _ (b : List ℕ) (cells room : ℕ) where
  few_cells_lem : (few_cells (decode b) cells ≡ true) ↔ (cells < 2 ^ tasks_stated b * points_stated b)
  unfolding few_cells cells_needed decode decode_by entries line_at
  few_cells_lem = (ltb-true _ _, lt-ltb _ _)

  short_plan : (short_room (decode b).tasks room ≡ true) ↔ (room < 32 + 2 * tasks_stated b)
  unfolding decode decode_by entries line_at
  short_plan = short_room_lem (tasks_stated b) room

  planning_applies : (r : ℕ) → Applies (sheet_tests b ++ room_tests (decode b) cells room) r ↔ PlanningApplies b cells room r
  unfolding room_tests
  planning_applies r = (
    (λ h. there ((applies_append (sheet_tests b) (room_tests (decode b) cells room) r).0 h)),
    (λ h. (applies_append (sheet_tests b) (room_tests (decode b) cells room) r).1 (back h)),
  )
    where
      there : Applies (sheet_tests b) r ⊎ Applies (room_tests (decode b) cells room) r → PlanningApplies b cells room r
      there (inl h) = PlanningApplies.sheet ((sheet_applies b r).0 h)
      there (inr (inl h)) = PlanningApplies.is20 h.0 (few_cells_lem.0 h.1)
      there (inr (inr (inl h))) = PlanningApplies.is21 h.0 (short_plan.0 h.1)
      there (inr (inr (inr h))) = absurd h

      back : PlanningApplies b cells room r → Applies (sheet_tests b) r ⊎ Applies (room_tests (decode b) cells room) r
      back (PlanningApplies.sheet h) = inl ((sheet_applies b r).1 h)
      back (PlanningApplies.is20 e h) = inr (inl (e, few_cells_lem.1 h))
      back (PlanningApplies.is21 e h) = inr (inr (inl (e, short_plan.1 h)))

  plan_answers_lem : AnswersBy planning_order (PlanningApplies b cells room) (plan_for b cells room)
  unfolding plan_for unless_fault sheet_tests room_tests
  plan_answers_lem = rw (refuse_append (sheet_tests b) (room_tests (decode b) cells room) (or_no_order (cheapest (decode b))))
      (answers_by planning_order (sheet_tests b ++ room_tests (decode b) cells room) _ (PlanningApplies b cells room) refl
      (λ p. let x = has_plan b (all_reads b (pass_append (sheet_tests b) (room_tests (decode b) cells room) p).0) in (x.0, ap or_no_order x.1))
      (λ r n. planning_applies r))

-- planning answers as its plan does
pub planning_answers : (b cells buffer : List ℕ) → AnswersBy planning_order (PlanningApplies b (length cells) (length buffer)) (plan b cells buffer).answer
unfolding plan
planning_answers b cells buffer = go (plan_for b (length cells) (length buffer)) (plan_answers_lem b (length cells) (length buffer))
  where
    go : (a : Answer Plan) → AnswersBy planning_order (PlanningApplies b (length cells) (length buffer)) a
        → AnswersBy planning_order (PlanningApplies b (length cells) (length buffer)) (carried_out (decode b) a cells buffer).answer
    go (refused n) h = record {
      refuses = λ r. ((λ e. (h.refuses r).0 (ap refused (refused_number e))), (λ k. ap refused (refused_number ((h.refuses r).1 k))));
      accepts = ((λ x. absurd (refused≢accepted x.1)), (λ k. absurd (refused≢accepted (h.accepts.1 k).1)));
      returns = h.returns;
      returns_0 = h.returns_0;
      listed = λ r e. h.listed r (ap refused (refused_number e));
    }
    go (accepted x) h = record {
      refuses = λ r. ((λ e. absurd (refused≢accepted (sym e))), (λ k. absurd (refused≢accepted (sym ((h.refuses r).1 k)))));
      accepts = ((λ y. h.accepts.0 (x, refl)), (λ k. (plan_cost (decode b) x, refl)));
      returns = h.returns;
      returns_0 = h.returns_0;
      listed = λ r e. absurd (refused≢accepted (sym e));
    }
