-- An essential list by the senders of each task: none that it lacks has a sender in it. Assumes nothing.
use Rattle.model.proofs.Basics.{◌≡◌, refl, sym, ap, ◌∙◌, ◌≢◌, Bool, true, false, not, ◌&&◌, ◌||◌, ℕ, zero, suc, ◌≤◌, ◌<◌, arith, eqb, eqb-true, eq-eqb, ne_eqb}
use Rattle.model.proofs.Basics.{or-false, not-true}
use Rattle.model.specs.{all_below, any_below, map_below, member, max_tasks, mask_bits, meets, senders_below, senders_of, essential, InRange}
use Rattle.model.specs.Sheet.{Sheet}
use Rattle.model.proofs.Tools.Tests.{by_test, same_test, and_left, and_right, and_both, all_at, all_below_lem, none_at, none_below}
use Rattle.model.proofs.Tools.Tests.{implied, all_cong, not_both}
use Rattle.model.proofs.Tools.Folds.{map_below_at}
use Rattle.model.proofs.TaskLists.Masks.{with_in_lem}
use Rattle.feasible.proofs.Striking.{meets_none, meets_with}
use Rattle.essential.specs.Method.{closed_by}

-- K has pair i's receiver, or not its sender
abbrev keeps_receiver : Sheet → ℕ → ℕ → Bool
keeps_receiver S K i = not (member K (S.sender i)) || member K (S.receiver i)

-- something is open
some_open : (S : Sheet) (K : ℕ) → K ≢ 0 → essential S K ≡ all_below S.pairs (keeps_receiver S K)
unfolding essential
some_open S K some = rw (ne_eqb K 0 some)

-- pair i leads to task t, and K has its sender
abbrev leads : Sheet → ℕ → ℕ → ℕ → Bool
leads S K t i = eqb (S.receiver i) t && member K (S.sender i)

-- the senders of a task meet K where K has one of them
senders_meet : (S : Sheet) → ((i : ℕ) → i < S.pairs → S.sender i < mask_bits) → (K t n : ℕ) → n ≤ S.pairs
    → meets mask_bits (senders_below S n t) K ≡ any_below n (leads S K t)
senders_meet S R K t zero l = meets_none mask_bits K
senders_meet S R K t (suc n) l = by_test (eqb (S.receiver n) t)
    (λ w. rw (w, with_in_lem mask_bits (senders_below S n t) (S.sender n) (R n (omega arith)))
    (meets_with mask_bits (senders_below S n t) (S.sender n) K (R n (omega arith)) ∙ ap (λ b. b || member K (S.sender n)) (senders_meet S R K t n (omega arith))))
    (λ w. rw w (senders_meet S R K t n (omega arith) ∙ sym (or-false (any_below n (leads S K t)))))

module _ (S : Sheet) (R : InRange S) (few : S.tasks ≤ max_tasks) (K : ℕ) where
  -- task t is in K, or has no sender in it
  abbrev holds : ℕ → Bool
  holds t = member K t || not (any_below S.pairs (leads S K t))

  in_range : (i : ℕ) → i < S.pairs → S.sender i < mask_bits
  in_range i l = omega (arith, R.sender i l, few)

  -- with what the first m tasks, all of the sheet among them, wait for at hand
  by_leads : (m : ℕ) → S.tasks ≤ m → closed_by (map_below m (senders_of S)) S.tasks K ≡ all_below S.tasks holds
  unfolding senders_of
  by_leads m h = all_cong S.tasks _ holds (λ t l. ap (λ b. member K t || not b)
      (ap (λ (x : ℕ). meets mask_bits x K) (map_below_at m (senders_of S) t 0 (omega arith)) ∙ senders_meet S in_range K t S.pairs (omega arith)))

  -- pair by pair and task by task it is the same
  same : all_below S.tasks holds ≡ all_below S.pairs (keeps_receiver S K)
  same = same_test _ _
      (λ h. all_below_lem S.pairs (keeps_receiver S K) (λ i l. (implied (member K (S.sender i)) (member K (S.receiver i))).1 (λ m.
      by_test (member K (S.receiver i)) (λ w. w) (λ w.
      let n : any_below S.pairs (leads S K (S.receiver i)) ≡ false = not-true _ (rw w at (all_at S.tasks holds h (S.receiver i) (R.receiver i l))) in
      absurd (not_both (and_both (eq-eqb (S.receiver i) (S.receiver i) refl) m) (none_at S.pairs (leads S K (S.receiver i)) n i l))))))
      (λ h. all_below_lem S.tasks holds (λ t l. by_test (member K t) (λ w. rw w) (λ w. rw w (ap not (none_below S.pairs (leads S K t) (λ i m.
      by_test (leads S K t i) (λ v.
      let e : S.receiver i ≡ t = eqb-true _ _ (and_left (eqb (S.receiver i) t) _ v) in
      let r = (implied (member K (S.sender i)) (member K (S.receiver i))).0 (all_at S.pairs (keeps_receiver S K) h i m) (and_right (eqb (S.receiver i) t) _ v) in
      absurd (not_both (rw e at r) w)) (λ v. v)))))))

  -- so a list that is not empty is essential where it is closed
  pub closed_is : (m : ℕ) → S.tasks ≤ m → (K ≡ 0 → ⊥) → closed_by (map_below m (senders_of S)) S.tasks K ≡ essential S K
  closed_is m h some = by_leads m h ∙ same ∙ sym (some_open S K some)

-- task t, as the code finds it
pub holds_is : {a b : Bool} (K t W : ℕ) → a ≡ member K t → b ≡ meets mask_bits W K → (member K t || not (meets mask_bits W K)) ≡ not (not a && b)
holds_is K t W p q = rw (p, q) (morgan (member K t) (meets mask_bits W K))
  where
    morgan : (x y : Bool) → (x || not y) ≡ not (not x && y)
    morgan true y = refl
    morgan false y = refl
