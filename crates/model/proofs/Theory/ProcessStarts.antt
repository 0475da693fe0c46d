-- A process with several starts: the first of least cost of all their completions is the first start of least cost to go, with its own. Assumes nothing.
use Rattle.model.proofs.Basics.{◌≡◌, refl, sym, ap, ◌∙◌, subst, true, true≢false, List, [], map, Option, none, some, Option·map}
use Rattle.model.proofs.Basics.{Option·getD, ℕ, ◌≤◌, ◌<◌}
use Rattle.model.specs.{flat_map_below, passing_below, lists_below, first_least}
use Rattle.model.proofs.Tools.Choices.{first_map, first_cong, first_flat}
use Rattle.model.proofs.Tools.{Lists.all_flat, Lists.all_kept, Scans.Scanned, Scans.scan}
use Rattle.model.proofs.Theory.Process.{Process, completes, runs, run_cost, to_go, best_run, best_cost, best_completes, best, best_is}

module _ (P : Process) (n : ℕ) (from : ℕ → P.State) where
  -- the first of the starts below n of least cost to go
  abbrev pub first_from : Option ℕ
  first_from = first_least (λ s. to_go P (from s)) (passing_below n (λ s. true))

  -- the first completion of least cost from start s
  abbrev pub best_from : ℕ → List ℕ
  best_from s = best P (from s)

  -- every start with every completion from there, start by start; the two together are an A
  abbrev pub started : {A : Type 0} → (ℕ → List ℕ → A) → List A
  started pair = flat_map_below n (λ s. map (pair s) (runs P (from s)))

  -- where each start has a completion, and an A costs what the completion costs from the start
  module _ (live : (s : ℕ) → s < n → runs P (from s) ≡ [] → ⊥) {A : Type 0} (pair : ℕ → List ℕ → A) (f : A → ℕ)
      (costs : (s : ℕ) → s < n → (cs : List ℕ) → completes P (from s) cs ≡ true → f (pair s cs) ≡ run_cost P (from s) cs) where
    best_there : (s : ℕ) → s < n → best_run P (from s) ≡ some (best_from s)
    best_there s l = best_is P (from s) (live s l)

    pair_cost : (s : ℕ) (cs : List ℕ) → s < n → best_run P (from s) ≡ some cs → f (pair s cs) ≡ to_go P (from s)
    pair_cost s cs l e = costs s l cs (best_completes P (from s) cs e) ∙ sym (best_cost P (from s) cs e)

    -- the law: of all of them, the first of least cost
    pub first_started : first_least f (started pair) ≡ Option·map (λ s. pair s (best_from s)) first_from
    unfolding best_run
    first_started = first_flat f (λ s. map (pair s) (runs P (from s))) (λ s. true) (λ s. pair s (best_from s)) n
        (λ s l w. first_map f (pair s) (runs P (from s)) ∙ ap (Option·map (pair s)) (first_cong _ (run_cost P (from s)) (runs P (from s))
        (all_kept _ (completes P (from s)) (costs s l) (lists_below P.choices (P.left (from s)))) ∙ best_there s l))
        (λ s l w. absurd (true≢false w))
        ∙ ap (Option·map (λ s. pair s (best_from s))) (first_cong (λ s. f (pair s (best_from s))) (λ s. to_go P (from s)) (passing_below n (λ s. true))
        (all_flat _ n _ (λ s l. (pair_cost s (best_from s) l (best_there s l), tt))))

    -- no start has a lesser cost to go, none before it the same, and it goes on with the first completion of least cost from there
    pub record FirstStart : Type 0 where
      pub start : ℕ
      pub run : List ℕ
      pub below : start < n
      pub none_less : (s : ℕ) → s < n → to_go P (from start) ≤ to_go P (from s)
      pub none_before : (s : ℕ) → s < start → to_go P (from start) < to_go P (from s)
      pub from_there : best_run P (from start) ≡ some run
      pub is_first_lem : first_least f (started pair) ≡ some (pair start run)

    pub first_start_lem : 0 < n → FirstStart
    first_start_lem some-start = go first_from refl (scan (λ s. to_go P (from s)) (λ s. true) n)
      where
        go : (o : Option ℕ) → first_from ≡ o → Scanned (λ s. to_go P (from s)) (λ s. true) n o → FirstStart
        go none e h = absurd (true≢false (h 0 some-start))
        go (some s) e h = record {
          start = s;
          run = best_from s;
          below = h.below;
          none_less = λ i l. h.least_one i l refl;
          none_before = λ i l. h.first_one i l refl;
          from_there = best_there s h.below;
          is_first_lem = first_started ∙ ap (Option·map (λ s. pair s (best_from s))) e;
        }

    -- where the start and the completion are found one after the other, they are the first of all, and cost as much
    pub started_from : (s : ℕ) (cs : List ℕ) → first_from ≡ some s → best_run P (from s) ≡ some cs
        → (first_least f (started pair) ≡ some (pair s cs)) × (f (pair s cs) ≡ to_go P (from s))
    started_from s cs e q = (
      first_started ∙ ap (Option·map (λ s. pair s (best_from s))) e ∙ ap (λ o. some (pair s (Option·getD o []))) q,
      pair_cost s cs (subst (Scanned (λ s. to_go P (from s)) (λ s. true) n) e (scan (λ s. to_go P (from s)) (λ s. true) n)).below q,
    )
