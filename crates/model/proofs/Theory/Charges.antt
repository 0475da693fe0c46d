-- The cost of a route in parts: its legs, and its charges rule by rule, each charged at most once. Assumes nothing.
use Rattle.model.proofs.Basics.{◌≡◌, refl, sym, ap, ◌∙◌, true, false, cond, and-false, List, [], ◌∷◌, map, ℕ, ◌+◌, ◌≤◌, ◌<◌}
use Rattle.model.proofs.Basics.{zero-add, arith, eqb, eqb-true, eqb-false, eq-eqb, ne_eqb, lt-leb}
use Rattle.model.specs.{Sheet.Sheet, sum_below, count_below, count_of, watched_in, mask_of, rule_charge, charges, step_cost, cost, legs}
use Rattle.model.specs.{charges_on, open_on}
use Rattle.model.proofs.Tools.Folds.{sum_cong, sum_none, sum_mono, sum_add}
use Rattle.model.proofs.{Tools.Tests.by_test, TaskLists.Masks.bit_none}

-- the legs and the charges are all that a route costs
pub cost_parts : (S : Sheet) (p : ℕ) (ds : List ℕ) → cost S p ds ≡ legs S p ds + charges_on S ds
unfolding step_cost
cost_parts S p [] = omega arith
cost_parts S p (d ∷ ds) = omega (arith, cost_parts S (S.depart d) ds)

-- what rule i costs on a route: its charge where its door is first done, and nothing where it is not
abbrev rule_on : Sheet → List ℕ → ℕ → ℕ
rule_on S [] i = 0
rule_on S (d ∷ ds) i = cond (eqb d (S.rule_door i)) (rule_charge S (mask_of (map S.task (d ∷ ds))) i) (rule_on S ds i)

rule_unused : (S : Sheet) (i : ℕ) (ds : List ℕ) → count_of (S.rule_door i) ds ≡ 0 → rule_on S ds i ≡ 0
rule_unused S i [] h = refl
rule_unused S i (d ∷ ds) h = by_test (eqb d (S.rule_door i))
    (λ w. absurd (omega (arith, rw w at h)))
    (λ w. rw w (rule_unused S i ds (omega (arith, rw w at h))))

-- the sum over the steps is the sum over the rules, on a route that uses no door twice
charged : (S : Sheet) (ds : List ℕ) → ((d : ℕ) → count_of d ds ≤ 1) → charges_on S ds ≡ sum_below S.rules (rule_on S ds)
unfolding charges
charged S [] h = sym (sum_none S.rules (rule_on S []) (λ i l. refl))
charged S (d ∷ ds) h =
    ap (λ (v : ℕ). charges S K d + v) (charged S ds (λ x. omega (arith, h x)))
    ∙ sym (sum_add S.rules (λ i. cond (eqb (S.rule_door i) d) (rule_charge S K i) 0) (rule_on S ds))
    ∙ sum_cong S.rules _ (rule_on S (d ∷ ds)) (λ i l. by_test (eqb d (S.rule_door i))
    (λ w. rw (w, eq-eqb (S.rule_door i) d (sym (eqb-true d (S.rule_door i) w)))
    (omega (arith, rule_unused S i ds (omega (arith, rw w at (h (S.rule_door i)))))))
    (λ w. rw (w, ne_eqb (S.rule_door i) d (λ e. eqb-false d (S.rule_door i) w (sym e))) (zero-add (rule_on S ds i))))
  where
    K : ℕ
    K = mask_of (map S.task (d ∷ ds))

-- a rule whose least count is at least 1 costs nothing with nothing open
rule_none : (S : Sheet) (i : ℕ) → 1 ≤ S.least_count i → rule_charge S 0 i ≡ 0
unfolding rule_charge watched_in count_below
rule_none S i h = let e : watched_in S.tasks (S.watched i) 0 ≡ 0 = sum_none S.tasks _ (λ j l. rw (bit_none j) (simp and-false)) in
    rw (lt-leb (S.least_count i) (watched_in S.tasks (S.watched i) 0) (omega arith))

-- so a rule costs what it costs with the list open where its door is done
rule_on_lem : (S : Sheet) (i : ℕ) → 1 ≤ S.least_count i → (ds : List ℕ) → rule_on S ds i ≡ rule_charge S (open_on S ds (S.rule_door i)) i
rule_on_lem S i h [] = sym (rule_none S i h)
rule_on_lem S i h (d ∷ ds) = by_test (eqb d (S.rule_door i)) (λ w. rw w) (λ w. rw w (rule_on_lem S i h ds))

-- the charges of a route that uses no door twice, rule by rule
pub charges_by_rule : (S : Sheet) → ((i : ℕ) → i < S.rules → 1 ≤ S.least_count i) → (ds : List ℕ) → ((d : ℕ) → count_of d ds ≤ 1)
    → charges_on S ds ≡ sum_below S.rules (λ i. rule_charge S (open_on S ds (S.rule_door i)) i)
charges_by_rule S c ds h = charged S ds h ∙ sum_cong S.rules _ _ (λ i l. rule_on_lem S i (c i l) ds)

-- where rule i never costs more than c i, such a route is charged no more than that for it
pub charged_once : (S : Sheet) (c : ℕ → ℕ) → ((K i : ℕ) → rule_charge S K i ≤ c i)
    → (ds : List ℕ) → ((d : ℕ) → count_of d ds ≤ 1) → charges_on S ds ≤ sum_below S.rules c
charged_once S c most ds h = rw (charged S ds h) (sum_mono S.rules (rule_on S ds) c (λ i l. on_le i ds))
  where
    on_le : (i : ℕ) (ds : List ℕ) → rule_on S ds i ≤ c i
    on_le i [] = omega arith
    on_le i (d ∷ ds) = elim (eqb d (S.rule_door i)) as (λ t. cond t (rule_charge S (mask_of (map S.task (d ∷ ds))) i) (rule_on S ds i) ≤ c i)
        [ true ↦ most (mask_of (map S.task (d ∷ ds))) i | false ↦ on_le i ds ]
