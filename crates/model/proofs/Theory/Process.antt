-- A process that is run to its end: its completions by their first choice, Bellman's equation, and the first completion of least cost. Assumes nothing.
use Rattle.model.proofs.Basics.{◌≡◌, refl, sym, ap, ◌∙◌, subst, Bool, true, cond, ◌&&◌, List, [], ◌∷◌, map, Option, none, some}
use Rattle.model.proofs.Basics.{Option·map, Option·none-ne-some, Option·getD, ℕ, suc, ◌+◌, ◌≤◌, ◌<◌, arith, eqb, ltb, eq-eqb, lt-ltb}
use Rattle.model.specs.{flat_map_below, passing_below, lists_below, keep_if, first_least, least}
use Rattle.model.proofs.Tools.Choices.{first_map, first_shift, first_cong, first_flat, first_some, all_first, cost_of, least_is}
use Rattle.model.proofs.Tools.Folds.{flat_cong, keep_flat, keep_cong, keep_none, keep_map}
use Rattle.model.proofs.Tools.Lists.{AllSome, all_flat, all_kept, member_all}
use Rattle.model.proofs.Tools.{Tests.and_both, Tests.by_test, Scans.Scanned, Scans.scan}

pub record Process : Type 1 where
  pub State : Type 0
  -- choices are numbered below this
  pub choices : ℕ
  -- how many choices are still to be made
  pub left : State → ℕ
  -- choice c can be made, what it costs, and the state that it leads to
  pub able : State → ℕ → Bool
  pub step_cost : State → ℕ → ℕ
  pub next : State → ℕ → State
  -- what a state costs in which nothing is left to choose
  pub end_cost : State → ℕ
  -- one choice made is one less to make
  pub fewer : (x : State) (c : ℕ) → c < choices → able x c ≡ true → left x ≡ suc (left (next x c))

module _ (P : Process) where
  -- a completion: choices that can be made one after the other, until none is left
  abbrev pub completes : P.State → List ℕ → Bool
  completes x [] = eqb (P.left x) 0
  completes x (c ∷ cs) = ltb c P.choices && P.able x c && completes (P.next x c) cs

  abbrev pub runs : P.State → List (List ℕ)
  runs x = keep_if (completes x) (lists_below P.choices (P.left x))

  abbrev pub run_cost : P.State → List ℕ → ℕ
  run_cost x [] = P.end_cost x
  run_cost x (c ∷ cs) = P.step_cost x c + run_cost (P.next x c) cs

  -- the cost to go, and the first completion that attains it
  unfoldable pub to_go : P.State → ℕ
  to_go x = least (map (run_cost x) (runs x))

  unfoldable pub best_run : P.State → Option (List ℕ)
  best_run x = first_least (run_cost x) (runs x)

  -- choice c, and the cost to go from where it leads
  unfoldable pub through : P.State → ℕ → ℕ
  through x c = P.step_cost x c + to_go (P.next x c)

  -- nothing is left: the empty completion
  pub runs_end : (x : P.State) → P.left x ≡ 0 → runs x ≡ [] ∷ []
  runs_end x e = ap (λ (k : ℕ). keep_if (completes x) (lists_below P.choices k)) e ∙ ap (λ b. cond b ([] ∷ []) []) (eq-eqb (P.left x) 0 e)

  -- those that begin with c
  abbrev pub runs_from : P.State → ℕ → List (List ℕ)
  runs_from x c = cond (P.able x c) (map (λ (cs : List ℕ). c ∷ cs) (runs (P.next x c))) []

  one_choice : (x : P.State) (k c : ℕ) → P.left x ≡ suc k → c < P.choices
      → keep_if (completes x) (map (λ (cs : List ℕ). c ∷ cs) (lists_below P.choices k)) ≡ runs_from x c
  one_choice x k c e l = keep_map (completes x) front (lists_below P.choices k) ∙ by_test (P.able x c)
      (λ w. let same : k ≡ P.left (P.next x c) = omega (arith, P.fewer x c l w) in
      rw w (ap (map front) (keep_cong _ (completes (P.next x c)) (λ cs. rw (lt-ltb c P.choices l)) (lists_below P.choices k)
      ∙ ap (λ (m : ℕ). keep_if (completes (P.next x c)) (lists_below P.choices m)) same)))
      (λ w. rw w (ap (map front) (keep_none _ (λ cs. rw (lt-ltb c P.choices l)) (lists_below P.choices k))))
    where
      front : List ℕ → List ℕ
      front cs = c ∷ cs

  -- the completions of a state by their first choice, as one equation of lists
  pub runs_by_first : (x : P.State) (k : ℕ) → P.left x ≡ suc k → runs x ≡ flat_map_below P.choices (runs_from x)
  runs_by_first x k e = ap (λ (m : ℕ). keep_if (completes x) (lists_below P.choices m)) e
      ∙ keep_flat (completes x) P.choices (λ c. map (λ (cs : List ℕ). c ∷ cs) (lists_below P.choices k))
      ∙ flat_cong P.choices _ (runs_from x) (λ c l. one_choice x k c e l)

  -- the cost to go is the cost of the first completion of least cost
  pub best_cost : (x : P.State) (cs : List ℕ) → best_run x ≡ some cs → to_go x ≡ run_cost x cs
  unfolding best_run to_go
  best_cost x cs e = least_is (run_cost x) (runs x) ∙ ap (cost_of (run_cost x)) e

  pub best_some : (x : P.State) → (runs x ≡ [] → ⊥) → (cs : List ℕ) × (best_run x ≡ some cs)
  unfolding best_run
  best_some x h = first_some (run_cost x) (runs x) h

  -- which there is, and nothing in place of none
  abbrev pub best : P.State → List ℕ
  best x = Option·getD (best_run x) []

  pub best_is : (x : P.State) → (runs x ≡ [] → ⊥) → best_run x ≡ some (best x)
  best_is x h = let r = best_some x h in r.1 ∙ ap (λ o. some (Option·getD o [])) (sym r.1)

  pub best_completes : (x : P.State) (cs : List ℕ) → best_run x ≡ some cs → completes x cs ≡ true
  unfolding best_run
  best_completes x cs e = subst (AllSome (λ cs. completes x cs ≡ true)) e
      (all_first _ (run_cost x) (runs x) (all_kept _ (completes x) (λ cs h. h) (lists_below P.choices (P.left x))))

  -- ---- one choice that leads to a completion

  module _ (x : P.State) (c : ℕ) (below : c < P.choices) (is_able : P.able x c ≡ true) (leads : runs (P.next x c) ≡ [] → ⊥) where
    -- what it costs with the cost to go from where it leads is the cost of a completion
    pub through_attained : (cs : List ℕ) × (completes x cs ≡ true) × (run_cost x cs ≡ through x c)
    unfolding through
    through_attained =
        let r = best_some (P.next x c) leads in (
          c ∷ r.0,
          and_both (and_both (lt-ltb c P.choices below) is_able) (best_completes (P.next x c) r.0 r.1),
          ap (λ (v : ℕ). P.step_cost x c + v) (sym (best_cost (P.next x c) r.0 r.1)),
        )

    -- so no bound of the completions' costs is below it
    pub through_bound : (B : ℕ) → ((cs : List ℕ) → completes x cs ≡ true → run_cost x cs ≤ B) → through x c ≤ B
    through_bound B h = subst (λ (v : ℕ). v ≤ B) through_attained.2 (h through_attained.0 through_attained.1)

  -- ---- one step, from a state in which every choice that can be made leads to a completion

  module _ (x : P.State) (k : ℕ) (more : P.left x ≡ suc k)
      (live : (c : ℕ) → c < P.choices → P.able x c ≡ true → runs (P.next x c) ≡ [] → ⊥) where
    -- the first completion of least cost, from where c leads
    abbrev rest : ℕ → List ℕ
    rest c = best (P.next x c)

    rest_is : (c : ℕ) → c < P.choices → P.able x c ≡ true → best_run (P.next x c) ≡ some (rest c)
    rest_is c l a = best_is (P.next x c) (live c l a)

    rest_cost : (c : ℕ) → c < P.choices → P.able x c ≡ true → run_cost x (c ∷ rest c) ≡ through x c
    unfolding through
    rest_cost c l a = ap (λ (v : ℕ). P.step_cost x c + v) (sym (best_cost (P.next x c) (rest c) (rest_is c l a)))

    by_choice : (c : ℕ) → c < P.choices → P.able x c ≡ true → first_least (run_cost x) (runs_from x c) ≡ some (c ∷ rest c)
    unfolding best_run
    by_choice c l a = rw a (first_map (run_cost x) (λ (cs : List ℕ). c ∷ cs) (runs (P.next x c)) ∙ ap (Option·map (λ (cs : List ℕ). c ∷ cs))
        (first_shift (λ cs. run_cost x (c ∷ cs)) (run_cost (P.next x c)) (P.step_cost x c) (runs (P.next x c))
        (member_all (λ cs. run_cost x (c ∷ cs) ≡ P.step_cost x c + run_cost (P.next x c) cs) (runs (P.next x c)) (λ cs m. refl)) ∙ rest_is c l a))

    -- the first completion of least cost begins with the first choice of least cost
    best_by_first : best_run x ≡ Option·map (λ c. c ∷ rest c) (first_least (through x) (passing_below P.choices (P.able x)))
    unfolding best_run
    best_by_first = ap (first_least (run_cost x)) (runs_by_first x k more)
        ∙ first_flat (run_cost x) (runs_from x) (P.able x) (λ c. c ∷ rest c) P.choices by_choice (λ c l a. rw a)
        ∙ ap (Option·map (λ c. c ∷ rest c))
        (first_cong (λ c. run_cost x (c ∷ rest c)) (through x) (passing_below P.choices (P.able x))
        (all_flat _ P.choices _ (λ c l. by_test (P.able x c) (λ w. rw w (rest_cost c l w, tt)) (λ w. rw w tt))))

    -- Bellman's equation: the cost to go is the least over the choices, each with the cost to go from where it leads
    pub bellman : to_go x ≡ least (map (through x) (passing_below P.choices (P.able x)))
    unfolding to_go best_run
    bellman = least_is (run_cost x) (runs x) ∙ ap (cost_of (run_cost x)) best_by_first
        ∙ go (first_least (through x) (passing_below P.choices (P.able x))) (scan (through x) (P.able x) P.choices)
        ∙ sym (least_is (through x) (passing_below P.choices (P.able x)))
      where
        go : (o : Option ℕ) → Scanned (through x) (P.able x) P.choices o → cost_of (run_cost x) (Option·map (λ c. c ∷ rest c) o) ≡ cost_of (through x) o
        go none h = refl
        go (some c) h = rest_cost c h.below h.is_able

    -- the first completion of least cost begins with the first choice whose step plus the cost to go of the rest equals the cost to go
    -- here, and goes on with the first completion of least cost from there
    pub record FirstStep : Type 0 where
      pub choice : ℕ
      pub others : List ℕ
      pub below : choice < P.choices
      pub is_able : P.able x choice ≡ true
      pub equal : through x choice ≡ to_go x
      pub none_less : (c : ℕ) → c < P.choices → P.able x c ≡ true → to_go x ≤ through x c
      pub none_before : (c : ℕ) → c < choice → P.able x c ≡ true → to_go x < through x c
      pub begins : best_run x ≡ some (choice ∷ others)
      pub goes_on : best_run (P.next x choice) ≡ some others

    pub first_step : (runs x ≡ [] → ⊥) → FirstStep
    first_step h = go (first_least (through x) (passing_below P.choices (P.able x))) refl (scan (through x) (P.able x) P.choices)
      where
        go : (o : Option ℕ) → first_least (through x) (passing_below P.choices (P.able x)) ≡ o → Scanned (through x) (P.able x) P.choices o → FirstStep
        go none e s = absurd (Option·none-ne-some _ (sym (ap (Option·map (λ c. c ∷ rest c)) e) ∙ sym best_by_first ∙ (best_some x h).1))
        go (some c) e s =
            let b : best_run x ≡ some (c ∷ rest c) = best_by_first ∙ ap (Option·map (λ c. c ∷ rest c)) e in
            let q : through x c ≡ to_go x = sym (rest_cost c s.below s.is_able) ∙ sym (best_cost x (c ∷ rest c) b) in
            record {
              choice = c;
              others = rest c;
              below = s.below;
              is_able = s.is_able;
              equal = q;
              none_less = λ i l a. omega (arith, s.least_one i l a, q);
              none_before = λ i l a. omega (arith, s.first_one i l a, q);
              begins = b;
              goes_on = rest_is c s.below s.is_able;
            }
