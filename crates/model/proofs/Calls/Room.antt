-- What planning returns for a sheet that reads, by the room that it is lent: 20, 21 or 0, each exactly where it is due, as no number of the sheet's own
-- applies. Assumes nothing.
use Rattle.model.proofs.Basics.{◌≡◌, refl, ap, ◌⊎◌, inl, inr, ⊎_elim, ◌↔◌, List, ℕ, ◌+◌, ◌*◌, ◌^◌, ◌≤◌, ◌<◌, arith, lit<, lit≤, length}
use Rattle.model.specs.{Figures.PlanningApplies, Figures.planning_order, Figures.Before, Figures.AnswersBy, index_of, status, decode, plan, sheet_tests, decode_by, entries, line_at}
use Rattle.model.proofs.Calls.{Reading.Reads, Reading.reads_all, Figures.planning_answers, Figures.sheet_applies}
use Rattle.model.proofs.Tools.{Tests.not_less, Refusing.none_applies}

module _ (b cells buffer : List ℕ) (h : Reads b) where
  -- fewer cells than needed, and fewer bytes than a plan has
  abbrev FewCells : Type 0
  FewCells = length cells < 2 ^ (decode b).tasks * (decode b).points

  abbrev FewBytes : Type 0
  FewBytes = length buffer < 32 + 2 * (decode b).tasks

  -- of the numbers that can apply to planning these two are left
  left : (r : ℕ) → PlanningApplies b (length cells) (length buffer) r ↔ (((r ≡ 20) × FewCells) ⊎ ((r ≡ 21) × FewBytes))
  unfolding decode decode_by entries line_at
  left r = (there, back)
    where
      there : PlanningApplies b (length cells) (length buffer) r → ((r ≡ 20) × FewCells) ⊎ ((r ≡ 21) × FewBytes)
      there (PlanningApplies.sheet s) = absurd (none_applies (sheet_tests b) (reads_all b h) r ((sheet_applies b r).1 s))
      there (PlanningApplies.is20 e l) = inl (e, l)
      there (PlanningApplies.is21 e l) = inr (e, l)

      back : ((r ≡ 20) × FewCells) ⊎ ((r ≡ 21) × FewBytes) → PlanningApplies b (length cells) (length buffer) r
      back (inl k) = PlanningApplies.is20 k.0 k.1
      back (inr k) = PlanningApplies.is21 k.0 k.1

  answers : AnswersBy planning_order (PlanningApplies b (length cells) (length buffer)) (plan b cells buffer).answer
  answers = planning_answers b cells buffer

  -- what is tested before r is no number that is tested with it or behind it
  not_earlier : (r n m : ℕ) → Before planning_order n r → n ≡ m → index_of r planning_order ≤ index_of m planning_order → ⊥
  not_earlier r n m l e h = omega (arith, ap (λ (x : ℕ). index_of x planning_order) e)

  -- 20 for fewer cells than needed
  pub gets_20 : (status (plan b cells buffer).answer ≡ 20) ↔ (length cells < 2 ^ (decode b).tasks * (decode b).points)
  gets_20 = (
    (λ e. ⊎_elim (λ k. k.1) (λ k. absurd (omega (arith, k.0))) ((left 20).0 ((answers.returns 20 (omega arith)).0 e).0)),
    (λ l. (answers.returns 20 (omega arith)).1
        ((left 20).1 (inl (refl, l)), λ n m k. ⊎_elim (λ k. not_earlier 20 n 20 m k.0 (omega arith)) (λ k. not_earlier 20 n 21 m k.0 (lit≤ tt)) ((left n).0 k))),
  )

  -- 21 for cells enough, but fewer bytes than a plan has
  pub gets_21 : (status (plan b cells buffer).answer ≡ 21)
      ↔ ((2 ^ (decode b).tasks * (decode b).points ≤ length cells) × (length buffer < 32 + 2 * (decode b).tasks))
  gets_21 = (
    (λ e. let p = (answers.returns 21 (omega arith)).0 e in
        (not_less _ _ (λ l. p.1 20 (lit< tt) ((left 20).1 (inl (refl, l)))), ⊎_elim (λ k. absurd (omega (arith, k.0))) (λ k. k.1) ((left 21).0 p.0))),
    (λ l. (answers.returns 21 (omega arith)).1
        ((left 21).1 (inr (refl, l.1)), λ n m k. ⊎_elim (λ k. omega (arith, k.1, l.0)) (λ k. not_earlier 21 n 21 m k.0 (omega arith)) ((left n).0 k))),
  )

  -- 0 for enough of both
  pub gets_0 : (status (plan b cells buffer).answer ≡ 0)
      ↔ ((2 ^ (decode b).tasks * (decode b).points ≤ length cells) × (32 + 2 * (decode b).tasks ≤ length buffer))
  gets_0 = (
    (λ e. let none = answers.returns_0.0 e in
        (not_less _ _ (λ l. none 20 ((left 20).1 (inl (refl, l)))), not_less _ _ (λ l. none 21 ((left 21).1 (inr (refl, l)))))),
    (λ l. answers.returns_0.1 (λ n k. ⊎_elim (λ k. omega (arith, k.1, l.0)) (λ k. omega (arith, k.1, l.1)) ((left n).0 k))),
  )
