-- What has become of planning since 02's Req 03: a sheet that passes the old 16 passes the new one, and is then answered as it was; what 10 to 15 refuse is refused as
-- it was; and the rest got 16. Assumes nothing.
use Rattle.model.proofs.Basics.{◌≡◌, refl, sym, ap, ◌∙◌, ◌⊎◌, inl, inr, ⊎_elim, true, false, List, [], ◌∷◌, ℕ, ◌+◌, ◌*◌, ◌^◌}
use Rattle.model.proofs.Basics.{◌≤◌, length, take, drop}
use Rattle.model.specs.{Answer.Answer, no_order, Plan, cheapest, refused, accepted, Test, ◌when◌, refuse_first, decode, too_light}
use Rattle.model.specs.{sheet_tests, unless_fault, room_tests, or_no_order, plan_for, carried_out, plan, lightest_too_light, tests_before}
use Rattle.model.specs.{plan_before, SinceThen}
use Rattle.model.proofs.Tools.Refusing.{refused≢accepted, refused_number, AllPass, all_pass, refuse_append}
use Rattle.model.proofs.Tools.Tests.{by_test}
use Rattle.model.proofs.{Theory.Loads.lightest_passes, Calls.Reading.Cleared, Calls.Reading.passed_then}
use Rattle.model.proofs.Calls.{Planning.plan_refused, Figures.planning_answers, Room.gets_0}

-- some tests refuse, whatever comes behind them, or all pass
refuse_or_pass : {A : Type 0} (ts : List Test) → ((r : ℕ) × ((a : Answer A) → refuse_first ts a ≡ refused r)) ⊎ AllPass ts
refuse_or_pass [] = inr tt
refuse_or_pass ((n when true) ∷ ts) = inl (n, λ a. refl)
refuse_or_pass ((n when false) ∷ ts) = ⊎_elim inl (λ p. inr (refl, p)) (refuse_or_pass ts)

module _ (b : List ℕ) where
  -- where the old 16 does not apply, every call answers what it did
  alike : {A : Type 0} (a : Answer A) → lightest_too_light (decode b) ≡ false → unless_fault b a ≡ refuse_first (tests_before b) a
  unfolding unless_fault sheet_tests tests_before
  alike a h = rw (h, lightest_passes (decode b) h)

  -- 10 to 15 stand in front of both
  front : List Test
  front = take 6 (tests_before b)

  -- so every call answers what it did, or passed 10 to 15 and got 16
  alike_or_16 : {A : Type 0} (a : Answer A) → (unless_fault b a ≡ refuse_first (tests_before b) a) ⊎ (AllPass front × (refuse_first (tests_before b) a ≡ refused 16))
  unfolding front unless_fault sheet_tests tests_before
  alike_or_16 a = ⊎_elim
      (λ w. inl (sym (refuse_append front (drop 6 (sheet_tests b)) a) ∙ w.1 _ ∙ sym (w.1 _) ∙ refuse_append front (drop 6 (tests_before b)) a))
      (λ p. by_test (lightest_too_light (decode b))
      (λ w. inr (p, sym (refuse_append front (drop 6 (tests_before b)) a) ∙ all_pass front _ p ∙ rw w))
      (λ w. inl (alike a w)))
      (refuse_or_pass front)

  cleared : AllPass front → Cleared b
  unfolding front tests_before
  cleared (t₁, (t₂, (t₃, (t₄, (t₅, (t₆, t)))))) = record { long = t₁; kind = t₂; counts = t₃; places = t₄; ranges = t₅; doors = t₆ }

  module _ (cells buffer : List ℕ) where
    -- the plan, given room
    given : Answer Plan
    given = refuse_first (room_tests (decode b) (length cells) (length buffer)) (or_no_order (cheapest (decode b)))

    same_plan : unless_fault b given ≡ refuse_first (tests_before b) given → plan b cells buffer ≡ plan_before b cells buffer
    unfolding given plan plan_for plan_before
    same_plan e = ap (λ a. carried_out (decode b) a cells buffer) e

    -- what was refused with 16 was answered so
    was_16 : refuse_first (tests_before b) given ≡ refused 16 → (plan_before b cells buffer).answer ≡ refused 16
    unfolding given plan_before
    was_16 e = ap (λ a. (carried_out (decode b) a cells buffer).answer) e

    planned_or_16 : (plan b cells buffer ≡ plan_before b cells buffer) ⊎ ((plan_before b cells buffer).answer ≡ refused 16)
    planned_or_16 = ⊎_elim (λ e. inl (same_plan e)) (λ p. inr (was_16 p.1)) (alike_or_16 given)

    -- of a sheet that passes 10 to 15: 17, 16, or a plan, given room
    due : Cleared b → 2 ^ (decode b).tasks * (decode b).points ≤ length cells → 32 + 2 * (decode b).tasks ≤ length buffer
        → ((plan b cells buffer).answer ≡ refused 17) ⊎ (((plan b cells buffer).answer ≡ refused 16) ⊎ ((c : ℕ) × ((plan b cells buffer).answer ≡ accepted c)))
    unfolding plan_for
    due h work room = by_test (no_order (decode b))
        (λ w. inl (ap (λ x. x.answer) (plan_refused b cells buffer 17 (passed_then b _ h ∙ rw w))))
        (λ w. inr (by_test (too_light (decode b))
        (λ v. inl (ap (λ x. x.answer) (plan_refused b cells buffer 16 (passed_then b _ h ∙ rw (w, v)))))
        (λ v. let a = planning_answers b cells buffer in
        inr (a.accepts.1 (a.returns_0.0 ((gets_0 b cells buffer (record { passed_tests = h; ordered = w; light = v })).1 (work, room)))))))

  pub since_then : SinceThen b
  since_then = record {
    passes = lightest_passes (decode b);
    answers_alike = alike;
    planned_alike = λ cells buffer c e. ⊎_elim (λ s. s) (λ n. absurd (refused≢accepted (sym n ∙ e))) (planned_or_16 cells buffer);
    refused_alike = λ cells buffer r n e. ⊎_elim (λ s. s) (λ m. absurd (n (refused_number (sym e ∙ m)))) (planned_or_16 cells buffer);
    got_16 = λ cells buffer work room e. ⊎_elim
        (λ s. inr (inl (ap (λ x. x.answer) (same_plan cells buffer s) ∙ e)))
        (λ p. due cells buffer (cleared p.0) work room)
        (alike_or_16 (given cells buffer));
  }
