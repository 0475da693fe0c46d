-- The three demands as the C interface shows them: by what a call returns and by what it leaves in the places that it was lent. A call that returns 0
-- accepted, and one that returns another number was refused with it. Assumes nothing.
use Rattle.model.proofs.Basics.{◌≡◌, refl, sym, ap, ◌∙◌, ◌↔◌, List, ℕ, ◌<◌, arith, length}
use Rattle.model.specs.{Figures.AnswersBy, Figures.PlanningApplies, Answer.Answer, refused, accepted, status, placed, decode, read_sheet}
use Rattle.model.specs.{max_plan_doors, write_plan, read_plan, validate, plan, placed_number}
use Rattle.model.specs.Demands.{Lent, Cheapest, Demand3, Demand1Returned, Demand2Returned, CheapestReturned, Demand3Returned}
use Rattle.model.proofs.Tools.Refusing.{returned, returned_refusal}
use Rattle.model.proofs.Calls.{Figures.reading_answers_lem, Figures.planning_answers, Demands.demand_1, Demands.demand_2}
use Rattle.model.proofs.Calls.{Demands.demand_3, Room.gets_20, Room.gets_21, Room.gets_0, Reading.Reads, Reading.accepted_reads}
use Rattle.model.proofs.{Bytes.PlanBytes.read_with, Calls.PlanFigures.plan_reading_answers, Calls.PlanFigures.plan_read, Calls.Judged.validating_answers}

-- ---- what is returned

-- a call whose numbers are above 0 accepted where it returned 0
returned_accepted : {A : Type 0} {order : List ℕ} {applies : ℕ → Type 0} {a : Answer A} → AnswersBy order applies a → status a ≡ 0 → (x : A) × (a ≡ accepted x)
returned_accepted h e = h.accepts.1 (h.returns_0.0 e)

-- ---- demand 1

-- after a refusal every place holds what it held before
pub left_alone : {A B : Type 0} (f : A → B) (a : Answer A) (before : B) → (status a ≡ 0 → ⊥) → placed f a before ≡ before
left_alone f a before n = ap (λ x. placed f x before) (returned a n)

-- what reading answered where it returned 0
read_again : (b : List ℕ) → status (read_sheet b) ≡ 0 → read_sheet b ≡ accepted (record { tasks = (decode b).tasks; points = (decode b).points })
unfolding read_sheet
read_again b e =
    let r = returned_accepted (reading_answers_lem b) e in
    r.1 ∙ sym (accepted_reads b _ r.0 r.1).1

pub reads_sheet : (b : List ℕ) → status (read_sheet b) ≡ 0 → Reads b
unfolding read_sheet
reads_sheet b e = let r = returned_accepted (reading_answers_lem b) e in (accepted_reads b _ r.0 r.1).0

-- planning returns 0 only where reading does
planned_reads : (b cells buffer : List ℕ) → status (plan b cells buffer).answer ≡ 0 → status (read_sheet b) ≡ 0
planned_reads b cells buffer e =
    (reading_answers_lem b).returns_0.1 (λ n s. (planning_answers b cells buffer).returns_0.0 e n (PlanningApplies.sheet s))

pub demand_1_returned : Demand1Returned
demand_1_returned = record {
  reads_iff = λ b. (
    (λ e. (demand_1.reads_iff b).0 (read_again b e)),
    (λ h. ap status ((demand_1.reads_iff b).1 h)),
  );
  counts_left = λ b t p e. rw (read_again b e) (refl, refl);
  plans_iff = λ b cells buffer. (
    (λ e. let r = planned_reads b cells buffer e in let room = (gets_0 b cells buffer (reads_sheet b r)).0 e in (r, room.0, room.1)),
    (λ h. (gets_0 b cells buffer (reads_sheet b h.0)).1 (h.1, h.2)),
  );
  few_cells_iff = λ b cells buffer e. gets_20 b cells buffer (reads_sheet b e);
  few_bytes_iff = λ b cells buffer e. gets_21 b cells buffer (reads_sheet b e);
  reading = λ b n. demand_1.reading b _ (returned (read_sheet b) n);
  judging = λ b q n. demand_1.judging b q _ (returned (validate b q) n);
  reading_a_plan = λ n lent q k. demand_1.reading_a_plan n lent q _ (returned (read_plan n lent q) k);
  planning = λ b cells buffer n. demand_1.planning b cells buffer _ (returned (plan b cells buffer).answer n);
  writing_a_plan = λ n start doors c buffer k. demand_1.writing_a_plan n start doors c buffer _ (returned (write_plan n start doors c buffer).answer k);
  reads_first = λ b cells buffer q n. let r = demand_1.reads_first b _ (returned (read_sheet b) n) cells buffer q in (ap status r.0, ap status r.1);
  reading_leaves = λ b t p n. (left_alone _ (read_sheet b) t n, left_alone _ (read_sheet b) p n);
  planning_leaves = λ b cells buffer before n. left_alone _ (plan b cells buffer).answer before n;
  writing_leaves = λ n start doors c buffer before k. left_alone _ (write_plan n start doors c buffer).answer before k;
  reading_a_plan_leaves = λ n q start doors c k. (
    left_alone _ (read_plan n (length doors) q) start k,
    left_alone _ (read_plan n (length doors) q) doors k,
    left_alone _ (read_plan n (length doors) q) c k,
  );
  judging_leaves = λ b q before n. left_alone _ (validate b q) before n;
}

-- ---- demand 2

pub demand_2_returned : Demand2Returned
demand_2_returned = record {
  accepted_iff = λ b q c before hb hq reads.
      let r = returned_accepted (reading_answers_lem b) reads in
      let iff = demand_2.accepted_iff b q c r.0 hb hq r.1 in (
        (λ h. let a = returned_accepted (validating_answers b q) h.0 in
            iff.0 (a.1 ∙ ap accepted (sym (ap (λ (x : Answer ℕ). placed_number x before) a.1) ∙ h.1))),
        (λ h. rw (iff.1 h) (refl, refl)),
      );
  writes = λ n start doors c buffer before one few there room.
      let a = demand_2.rest_stays n start doors c buffer one few there room in rw a.0 (refl, refl, a.1);
  written_then_read = λ n start doors c buffer start' doors' c' one few there here hs hd hc room.
      let w = demand_2.written_then_read n start doors c buffer (length doors') one few there here hs hd hc room in
      rw w.1 (refl, w.2, w.3, w.4);
  zeros_left = λ n q doors e.
      let x = returned_accepted (plan_reading_answers n (length doors) q) e in
      let r = plan_read n (length doors) q x.0 x.1 in
      rw x.1 (r.as_many, r.zeros);
  read_then_written = λ n q start doors c buffer hq e same.
      let x = returned_accepted (plan_reading_answers n (length doors) q) e in
      rw x.1 (demand_2.read_then_written n (length doors) q x.0 hq x.1 buffer same);
}

pub demand_3_returned : (b cells buffer : List ℕ) (before : ℕ) → Lent b cells buffer → Demand3Returned b cells buffer before
demand_3_returned b cells buffer before L =
    let D : Demand3 b cells buffer = demand_3 b cells buffer L in
    record {
      reading_refuses_17_iff = by_status (read_sheet b) 17 (omega arith) D.reading_refuses_17_iff;
      refuses_17_iff = by_status (plan b cells buffer).answer 17 (omega arith) D.refuses_17_iff;
      reading_refuses_16_iff = by_status (read_sheet b) 16 (omega arith) D.reading_refuses_16_iff;
      refuses_16_iff = by_status (plan b cells buffer).answer 16 (omega arith) D.refuses_16_iff;
      planned = λ o l. returns_plan (D.planned o l);
      otherwise = λ n m. returns_plan (D.otherwise (λ e. n (ap status e)) (λ e. m (ap status e)));
    }
  where
    by_status : {A P : Type 0} (a : Answer A) (r : ℕ) → 0 < r → (a ≡ refused r) ↔ P → (status a ≡ r) ↔ P
    by_status a r l h = ((λ e. h.0 (returned_refusal a r l e)), (λ p. ap status (h.1 p)))

    returns_plan : Cheapest b cells buffer → CheapestReturned b cells buffer before
    returns_plan C = record {
      returns = ap status C.answered;
      leaves = C;
      cost_is_left = ap (λ (x : Answer ℕ). placed_number x before) C.answered;
      read_back = λ start doors c here.
          let r = read_with (decode b).tasks max_plan_doors _ C.written C.reads_as (length doors) here in
          rw r.1 (refl, r.2, r.3, r.4);
    }
