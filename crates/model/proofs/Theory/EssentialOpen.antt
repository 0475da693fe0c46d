-- In an order that keeps every pair the tasks of an essential list are put behind the others, and every pair is still kept, as none goes from the list to a task
-- outside it. Driven, this order is a solution that comes to a step where just that list is still to come. Assumes nothing.
use Rattle.model.proofs.Basics.{◌≡◌, sym, ap, ap₂, ◌∙◌, ◌≢◌, Bool, true, false, not, List, ◌++◌, map, ℕ, suc, ◌+◌, ◌^◌, ◌≤◌, ◌<◌, arith}
use Rattle.model.proofs.Basics.{length, drop, drop_of_length-le, drop-append_seam, ltb-true, lt-ltb}
use Rattle.model.specs.{Sheet.Sheet, keep_if, count_of, index_of, bit, member, full, mask_of, is_order, keeps_pair, keeps_every_pair}
use Rattle.model.specs.{is_admissible, essential, is_solution, InRange, Plannable}
use Rattle.model.proofs.Tools.Tests.{and_left, and_right, and_both, all_at, all_below_lem, by_test, not_less}
use Rattle.model.proofs.Tools.Positions.{index_stands, drop_map, count_append, index_front, index_behind, keep_count, keep_index}
use Rattle.model.proofs.TaskLists.{Masks.full_bit, Masks.full_lt, Counting.order_means}
use Rattle.model.proofs.Theory.Existence.{part, part_admissible, admissible_is, order_driven}
use Rattle.model.proofs.Theory.{FirstTask.mask_is, Enumerations.has_order, Solutions.solution, Solutions.solution_length}
use Rattle.model.proofs.Theory.{Starts.solution_completes, Meanings.essential_means}

-- ---- the numbers that pass a test, behind the others

module _ (p : ℕ → Bool) (xs : List ℕ) where
  -- those that do not pass, as they stand
  abbrev others : List ℕ
  others = keep_if (λ x. not (p x)) xs

  -- and behind them those that pass, as they stand
  abbrev parted : List ℕ
  parted = others ++ keep_if p xs

  -- each is counted as before
  parted_count : (t : ℕ) → count_of t parted ≡ count_of t xs
  parted_count t = count_append t others (keep_if p xs) ∙ ap₂ ◌+◌ (keep_count (λ x. not (p x)) t xs) (keep_count p t xs)
      ∙ by_test (p t) (λ w. rw w (omega arith)) (λ w. rw w (omega arith))

  -- one that passes stands behind the others
  behind : (t : ℕ) → p t ≡ true → index_of t parted ≡ length others + index_of t (keep_if p xs)
  behind t h = index_behind t others (keep_if p xs) (keep_count (λ x. not (p x)) t xs ∙ rw h)

  -- and one that does not stands among them
  in_front : (t : ℕ) → 1 ≤ count_of t xs → p t ≡ false → (index_of t parted ≡ index_of t others) × (index_of t others < length others)
  in_front t l h =
      let c : 1 ≤ count_of t others = rw (keep_count (λ x. not (p x)) t xs, h) l in
      (index_front t others (keep_if p xs) c, (index_stands t others c).0)

  -- so two of them stand one before the other as before, unless only the first passes
  parted_index : (s r : ℕ) → (p s ≡ true → p r ≡ true) → 1 ≤ count_of s xs → 1 ≤ count_of r xs
      → index_of s xs < index_of r xs → index_of s parted < index_of r parted
  parted_index s r k ls lr l = by_test (p s)
      (λ u. omega (arith, behind s u, behind r (k u), keep_index p s r u (k u) xs l))
      (λ u. let f = in_front s ls u in by_test (p r)
      (λ w. omega (arith, f.0, f.1, behind r w))
      (λ w. omega (arith, f.0, (in_front r lr w).0, keep_index (λ x. not (p x)) s r (ap not u) (ap not w) xs l)))

-- ---- the tasks of an essential list, behind the others

-- the order stays one of the full list that keeps every pair
parted_admissible : (S : Sheet) → InRange S → (K : ℕ) → essential S K ≡ true
    → (ts : List ℕ) → is_admissible S ts ≡ true → is_admissible S (parted (member K) ts) ≡ true
unfolding is_admissible keeps_every_pair keeps_pair
parted_admissible S R K e ts a = and_both
    ((order_means S.tasks (full S.tasks) (parted (member K) ts) (full_lt S.tasks)).1 (λ t. parted_count (member K) ts t ∙ counts t))
    (all_below_lem S.pairs _ (λ i l. lt-ltb _ _ (parted_index (member K) ts (S.sender i) (S.receiver i) (((essential_means S K).0 e).1 i l)
    (once (S.sender i) (R.sender i l)) (once (S.receiver i) (R.receiver i l))
    (ltb-true _ _ (all_at S.pairs (keeps_pair S ts) (and_right (is_order S.tasks (full S.tasks) ts) _ a) i l)))))
  where
    counts : (t : ℕ) → count_of t ts ≡ bit (full S.tasks) t
    counts = (order_means S.tasks (full S.tasks) ts (full_lt S.tasks)).0 (and_left _ (keeps_every_pair S ts) a)

    once : (t : ℕ) → t < S.tasks → 1 ≤ count_of t ts
    once t l = omega (arith, counts t, full_bit S.tasks t l)

-- where something is still to come, the step is before the end
before_end : (f : ℕ → ℕ) (ds : List ℕ) (i : ℕ) → mask_of (map f (drop i ds)) ≢ 0 → i < length ds
before_end f ds i h = not_less (length ds) (suc i) (λ w. h (ap (λ (xs : List ℕ). mask_of (map f xs)) (drop_of_length-le ds {i = i} (omega arith))))

-- every essential list is the list of the tasks still to come at some step of some solution
pub essential_open : (S : Sheet) → Plannable S → 0 < S.starts → (K : ℕ) → K < 2 ^ S.tasks → essential S K ≡ true
    → (ds : List ℕ) × (i : ℕ) × (is_solution S 0 ds ≡ true) × (i < S.tasks) × (mask_of (map S.task (drop i ds)) ≡ K)
essential_open S G l K below e =
    let o = has_order S G.ordered in
    let ts : List ℕ = parted (member K) o.0 in
    let i : ℕ = length (others (member K) o.0) in
    let d = order_driven S G.doors (full S.tasks) ts (sym (admissible_is S G.ranges ts) ∙ parted_admissible S G.ranges K e o.0 o.1) in
    let s : is_solution S 0 d.0 ≡ true = solution_completes S G 0 d.0 l ∙ d.1 in
    let rest : map S.task (drop i d.0) ≡ part K o.0
    = sym (drop_map S.task i d.0) ∙ ap (drop i) d.2 ∙ drop-append_seam (others (member K) o.0) (part K o.0) in
    let m : mask_of (map S.task (drop i d.0)) ≡ K = ap mask_of rest ∙ mask_is S (part K o.0) K below (part_admissible S G.ranges K o.0 o.1) in
    let b : i < length d.0 = before_end S.task d.0 i (λ z. ((essential_means S K).0 e).0 (sym m ∙ z)) in
    (d.0, i, s, omega (arith, solution_length S 0 d.0 (solution S 0 d.0 s)), m)
