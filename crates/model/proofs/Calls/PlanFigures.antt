-- Writing and reading a plan are refused with each of their numbers, and accept, exactly where document 01 says so. Assumes nothing.
use Rattle.model.proofs.Basics.{◌≡◌, refl, sym, ap, ap₂, ◌∙◌, ◌≢◌, ◌⊎◌, inl, inr, ⊎_elim, ◌↔◌, Bool, true, false, not, true≢false}
use Rattle.model.proofs.Basics.{List, [], ◌∷◌, ℕ, ◌+◌, ◌*◌, ◌/◌, ◌%◌, ◌≤◌, ◌<◌, arith, eqb, ltb, lit<, length, eqb-true, eq-eqb, ltb-true}
use Rattle.model.proofs.Basics.{ltb-false, not-false, ◌^◌, get_or, ext_get_or}
use Rattle.model.specs.{PlanRead, short_room, accepted, refuse_first, ◌when◌, same_list, line_at, bytes_of, refused, plan_start_at}
use Rattle.model.specs.{plan_doors_at, plan_cost_at, plan_length, line_bytes, plan_head, wrong_tasks, write_tests, write_answer, write_plan}
use Rattle.model.specs.{wrong_head, ill_formed, read_tests, read_plan, map_below, number_at, overwrite, plan_bytes, start_in, door_in, cost_in}
use Rattle.model.specs.Figures.{Between, LaidOut, start_stated, door_stated, ReadAs, WritingApplies, ReadingPlanApplies, writing_order, reading_plan_order, Before, AnswersBy}
use Rattle.model.proofs.Tools.Refusing.{Applies, answers_by, refused_number, refused≢accepted, accepted_pass, accepted_value}
use Rattle.model.proofs.Tools.Tests.{not_both, or_left, or_right, or_neither, passes_unless, same_list_lem, list_same, by_test}
use Rattle.model.proofs.Bytes.PlanBytes.{length_is, tasks_fit, fitting, length_plan, start_again, door_again, length_array, array_at, array_beyond}
use Rattle.model.proofs.{Bytes.Numbers.number_front, Tools.Folds.length_map_below, Tools.Folds.map_below_at, Calls.Figures.short_room_lem}

-- 12: N is outside 1 to 12, or fewer doors than N are lent
wrong_tasks_lem : (n lent : ℕ) → (wrong_tasks n lent ≡ true) ↔ ((Between 1 12 n → ⊥) ⊎ (lent < n))
wrong_tasks_lem n lent = (there, back)
  where
    there : wrong_tasks n lent ≡ true → (Between 1 12 n → ⊥) ⊎ (lent < n)
    there h = by_test (ltb lent n)
        (λ w. inr (ltb-true lent n w))
        (λ w. inl (λ k. not_both h (tasks_fit n lent k.0 k.1 (ltb-false lent n w))))

    back : (Between 1 12 n → ⊥) ⊎ (lent < n) → wrong_tasks n lent ≡ true
    back h = by_test (wrong_tasks n lent) (λ w. w) (λ w. let f = fitting n lent w in
        absurd (⊎_elim (λ (k : Between 1 12 n → ⊥). k (f.0, f.1)) (λ (k : lent < n). omega (arith, f.2)) h))

writing_applies : (n lent room r : ℕ) → Applies (write_tests n lent room) r ↔ WritingApplies n lent room r
unfolding write_tests
writing_applies n lent room r = (there, back)
  where
    there : Applies (write_tests n lent room) r → WritingApplies n lent room r
    there (inl h) = ⊎_elim (WritingApplies.tasks12 h.0) (WritingApplies.lent12 h.0) ((wrong_tasks_lem n lent).0 h.1)
    there (inr (inl h)) = WritingApplies.is21 h.0 ((short_room_lem n room).0 h.1)
    there (inr (inr h)) = absurd h

    back : WritingApplies n lent room r → Applies (write_tests n lent room) r
    back (WritingApplies.tasks12 e h) = inl (e, (wrong_tasks_lem n lent).1 (inl h))
    back (WritingApplies.lent12 e h) = inl (e, (wrong_tasks_lem n lent).1 (inr h))
    back (WritingApplies.is21 e h) = inr (inl (e, (short_room_lem n room).1 h))

pub writing_answers : (n start : ℕ) (doors : List ℕ) (c : ℕ) (buffer : List ℕ)
    → AnswersBy writing_order (WritingApplies n (length doors) (length buffer)) (write_plan n start doors c buffer).answer
unfolding write_plan write_answer write_tests
writing_answers n start doors c buffer = answers_by writing_order (write_tests n (length doors) (length buffer)) _ _ refl (λ p. (_, refl))
    (λ r k. writing_applies n (length doors) (length buffer) r)

-- the head of a plan, byte by byte
head_is : (n : ℕ) → n ≤ 12 → plan_head n ≡ 2 ∷ 0 ∷ 0 ∷ 0 ∷ 1 ∷ 0 ∷ 22 ∷ 0 ∷ 1 ∷ 0 ∷ 2 ∷ 0 ∷ 24 ∷ 0 ∷ n ∷ 0 ∷ 3 ∷ 0 ∷ (24 + 2 * n) ∷ 0 ∷ 1 ∷ 0 ∷ []
unfolding plan_head line_bytes bytes_of plan_start_at plan_doors_at plan_cost_at line_at
head_is n l =
    let low : n % 256 ≡ n = omega arith in
    let high : n / 256 % 256 ≡ 0 = omega arith in
    let low2 : (24 + 2 * n) % 256 ≡ 24 + 2 * n = omega arith in
    let high2 : (24 + 2 * n) / 256 % 256 ≡ 0 = omega arith in
    rw (low, high, low2, high2) refl

-- 30 for up to twelve doors: the length and every byte before 22
pub well_formed : (n : ℕ) (q : List ℕ) → n ≤ 12 → (ill_formed n q ≡ false) ↔ LaidOut n q
unfolding ill_formed wrong_head plan_start_at line_at
well_formed n q few = (
  (λ h. (
    eqb-true _ _ (not-false _ (or_left (not (eqb (length q) (plan_length n))) _ h)) ∙ length_is n,
    same_list_lem _ _ (not-false _ (or_right (not (eqb (length q) (plan_length n))) _ h)) ∙ head_is n few,
  )),
  (λ h. or_neither
      (ap not (eq-eqb (length q) (plan_length n) (h.0 ∙ sym (length_is n))))
      (ap not (ap₂ same_list (h.1 ∙ sym (head_is n few)) refl ∙ list_same (plan_head n)))),
)

reading_applies : (n lent : ℕ) (q : List ℕ) (r : ℕ) → ((k : ℕ) → Before reading_plan_order k r → Applies (read_tests n lent q) k → ⊥)
    → Applies (read_tests n lent q) r ↔ ReadingPlanApplies n lent q r
unfolding read_tests
reading_applies n lent q r lower = (there, back)
  where
    -- 12 does not apply where 30 is asked for
    few : r ≡ 30 → n ≤ 12
    few e = by_test (wrong_tasks n lent) (λ w. absurd (lower 12 (rw e (lit< tt)) (inl (refl, w)))) (λ w. (fitting n lent w).1)

    there : Applies (read_tests n lent q) r → ReadingPlanApplies n lent q r
    there (inl h) = ⊎_elim (ReadingPlanApplies.tasks12 h.0) (ReadingPlanApplies.lent12 h.0) ((wrong_tasks_lem n lent).0 h.1)
    there (inr (inl h)) = ReadingPlanApplies.is30 h.0 ((passes_unless _ (well_formed n q (few h.0))).0 h.1)
    there (inr (inr h)) = absurd h

    back : ReadingPlanApplies n lent q r → Applies (read_tests n lent q) r
    back (ReadingPlanApplies.tasks12 e h) = inl (e, (wrong_tasks_lem n lent).1 (inl h))
    back (ReadingPlanApplies.lent12 e h) = inl (e, (wrong_tasks_lem n lent).1 (inr h))
    back (ReadingPlanApplies.is30 e h) = inr (inl (e, (passes_unless _ (well_formed n q (few e))).1 h))

pub plan_reading_answers : (n lent : ℕ) (q : List ℕ) → AnswersBy reading_plan_order (ReadingPlanApplies n lent q) (read_plan n lent q)
unfolding read_plan read_tests
plan_reading_answers n lent q = answers_by reading_plan_order (read_tests n lent q) _ _ refl (λ p. (_, refl)) (reading_applies n lent q)

-- ---- with twelve doors lent, as document 01 has it, 12 is for N outside 1 to 12 alone

-- the first of two tests
first_refused : {A : Type 0} (m n : ℕ) (t u : Bool) (x : A) → m ≢ n
    → (refuse_first ((m when t) ∷ (n when u) ∷ []) (accepted x) ≡ refused m) ↔ (t ≡ true)
first_refused m n true u x d = ((λ e. refl), (λ e. refl))
first_refused m n false true x d = ((λ e. absurd (d (sym (refused_number e)))), (λ e. absurd (true≢false (sym e))))
first_refused m n false false x d = ((λ e. absurd (refused≢accepted (sym e))), (λ e. absurd (true≢false (sym e))))

twelve : (n lent : ℕ) → lent ≡ 12 → (wrong_tasks n lent ≡ true) ↔ (Between 1 12 n → ⊥)
twelve n lent e = ((λ h k. not_both h (tasks_fit n lent k.0 k.1 (omega (arith, k.1)))), (λ h. (wrong_tasks_lem n lent).1 (inl h)))

pub writing_twelve : (n start : ℕ) (doors : List ℕ) (c : ℕ) (buffer : List ℕ) → length doors ≡ 12
    → ((write_plan n start doors c buffer).answer ≡ refused 12) ↔ (Between 1 12 n → ⊥)
unfolding write_plan write_answer write_tests
writing_twelve n start doors c buffer e =
    let f = first_refused 12 21 (wrong_tasks n (length doors)) (short_room n (length buffer)) (plan_length n) (λ d. omega arith) in
    ((λ h. (twelve n (length doors) e).0 (f.0 h)), (λ h. f.1 ((twelve n (length doors) e).1 h)))

pub reading_twelve : (n : ℕ) (q : List ℕ) → (read_plan n 12 q ≡ refused 12) ↔ (Between 1 12 n → ⊥)
unfolding read_plan read_tests
reading_twelve n q =
    let f = first_refused {A = PlanRead} 12 30 (wrong_tasks n 12) (ill_formed n q) _ (λ d. omega arith) in
    ((λ h. (twelve n 12 refl).0 (f.0 h)), (λ h. f.1 ((twelve n 12 refl).1 h)))

-- ---- what is stated at the front of a buffer that a plan was written into

module _ (n s : ℕ) (ds : List ℕ) (c : ℕ) (buffer : List ℕ) where
  abbrev written : List ℕ
  written = overwrite (plan_bytes n s ds c) buffer

  front : (k i : ℕ) → i + k ≤ 32 + 2 * n → number_at k written i ≡ number_at k (plan_bytes n s ds c) i
  unfolding overwrite
  front k i h = number_front k (plan_bytes n s ds c) _ i (omega (arith, length_plan n s ds c, length_is n))

  pub stated_start : s < 2 ^ 16 → start_stated written ≡ s
  unfolding start_in plan_start_at line_at
  stated_start h = front 2 22 (omega arith) ∙ start_again n s ds c h

  pub stated_doors : length ds ≡ n → ((i : ℕ) → i < n → get_or ds i 0 < 2 ^ 16) → map_below n (door_stated written) ≡ ds
  unfolding door_in plan_doors_at plan_start_at line_at
  stated_doors e h = ext_get_or 0 _ ds (length_map_below n _ ∙ sym e) (λ i l.
      let m : i < n = rw length_map_below at l in
      map_below_at n (door_stated written) i 0 m ∙ front 2 (24 + 2 * i) (omega arith) ∙ door_again n s ds c i m (h i m))

-- ---- what reading answers

pub plan_read : (n lent : ℕ) (q : List ℕ) (x : PlanRead) → read_plan n lent q ≡ accepted x → ReadAs n lent q x
unfolding read_plan read_tests start_in door_in cost_in plan_start_at plan_doors_at plan_cost_at line_at
plan_read n lent q x e =
    let p = accepted_pass (read_tests n lent q) _ x e in
    let v = accepted_value p.1 in
    let fit = fitting n lent p.0.0 in
    rw (← v) (record {
      start = refl;
      as_many = length_array lent n (door_stated q);
      doors = λ i l. array_at lent n (door_stated q) i fit.2 l;
      zeros = λ i l m. array_beyond lent n (door_stated q) i 1 l m;
      cost = refl;
    })
