-- The enumerations hold exactly what the predicates say, each once and in rank order: each is what passes a test, from a ranked list that has all of it.
-- Assumes nothing.
use Rattle.model.proofs.Basics.{◌≡◌, refl, sym, ◌∙◌, subst, inl, inr, ◌↔◌, Bool, true, false, ◌&&◌, true≢false, List, [], ◌∷◌, map}
use Rattle.model.proofs.Basics.{List-as-Memᴰ, List·Memᴰ·not-nil, List·Memᴰ·head, Memᴰ·map, ℕ, ltb, length, length-map, ltb-true}
use Rattle.model.specs.{all_in, keep_if, is_empty, lists_below, full, size, is_order, is_admissible, is_order_within, admissible_orders}
use Rattle.model.specs.{orders_within, no_order, Plan, in_sheet, is_solution, plans, solutions, is_completion, completions}
use Rattle.model.specs.Sheet.{Sheet}
use Rattle.model.proofs.Tools.{Lists.mem_flat, Lists.lists_member, Tests.and_left, Tests.and_right, Tests.by_test, Folds.empty_nil}
use Rattle.model.proofs.TaskLists.{Masks.size_full, Counting.order_in, Counting.order_length}
use Rattle.model.proofs.Theory.Ranks.{Ranked, ranked_flat, ranked_map, before_map, DoorsBefore, RanksBefore, doors_irreflexive}
use Rattle.model.proofs.Theory.Ranks.{ranks_irreflexive, lists_ranked, Enumerates, kept_enumerated}

-- what passes a test, from all lists of k numbers below n, where it is one of them
lists_enumerated : (test : List ℕ → Bool) (n k : ℕ) → ((ds : List ℕ) → test ds ≡ true → (all_in (λ d. ltb d n) ds ≡ true) × (length ds ≡ k))
    → Enumerates DoorsBefore (λ ds. test ds ≡ true) (keep_if test (lists_below n k))
lists_enumerated test n k fits = kept_enumerated DoorsBefore doors_irreflexive test (lists_below n k) (lists_ranked n k)
    (λ ds h. rw (fits ds h).1 at (lists_member n ds (fits ds h).0))

-- ---- orders of the tasks

-- the orders of K that keep the pairs within K
pub orders_enumerated : (S : Sheet) (K : ℕ) → Enumerates DoorsBefore (λ ts. is_order_within S K ts ≡ true) (orders_within S K)
unfolding orders_within is_order_within
orders_enumerated S K = lists_enumerated (is_order_within S K) S.tasks (size S.tasks K) (λ ts h.
    let o = and_left (is_order S.tasks K ts) _ h in
    (order_in S.tasks K ts o, order_length S.tasks K ts o))

full_order : (S : Sheet) (ts : List ℕ) → is_admissible S ts ≡ true → (all_in (λ t. ltb t S.tasks) ts ≡ true) × (length ts ≡ S.tasks)
unfolding is_admissible
full_order S ts h =
    let o = and_left (is_order S.tasks (full S.tasks) ts) _ h in
    (order_in S.tasks (full S.tasks) ts o, order_length S.tasks (full S.tasks) ts o ∙ size_full S.tasks)

-- the orders of the full list that keep every pair
pub admissible_enumerated : (S : Sheet) → Enumerates DoorsBefore (λ ts. is_admissible S ts ≡ true) (admissible_orders S)
unfolding admissible_orders
admissible_enumerated S = lists_enumerated (is_admissible S) S.tasks S.tasks (full_order S)

some_in : {A : Type 0} (xs : List A) → is_empty xs ≡ false → (x : A) × List-as-Memᴰ x xs
some_in [] h = absurd (true≢false h)
some_in (x ∷ xs) h = (x, List·Memᴰ·head refl)

-- where `no_order` fails, some order of the tasks keeps every pair
pub has_order : (S : Sheet) → no_order S ≡ false → (ts : List ℕ) × (is_admissible S ts ≡ true)
unfolding no_order
has_order S h = let r = some_in (admissible_orders S) h in (r.0, (admissible_enumerated S).nothing_else r.0 r.1)

-- and where it holds, none does
pub no_order_iff : (S : Sheet) → (no_order S ≡ true) ↔ ((ts : List ℕ) → is_admissible S ts ≡ true → ⊥)
unfolding no_order
no_order_iff S = (
  λ h ts a. List·Memᴰ·not-nil (subst (List-as-Memᴰ ts) (empty_nil (admissible_orders S) h) ((admissible_enumerated S).each ts a)),
  λ h. by_test (no_order S) (λ w. w) (λ w. let r = has_order S w in absurd (h r.0 r.1)),
)

pub no_order_false : (S : Sheet) (ts : List ℕ) → is_admissible S ts ≡ true → no_order S ≡ false
no_order_false S ts a = by_test (no_order S) (λ w. absurd ((no_order_iff S).0 w ts a)) (λ w. w)

-- ---- what is left of a round: the completions of K

pub completions_enumerated : (S : Sheet) (K : ℕ) → Enumerates DoorsBefore (λ ds. is_completion S K ds ≡ true) (completions S K)
unfolding completions is_completion in_sheet is_order_within
completions_enumerated S K = lists_enumerated (is_completion S K) S.doors (size S.tasks K) (λ ds h.
    let o = and_left (is_order S.tasks K (map S.task ds)) _ (and_right (in_sheet S ds) _ h) in
    (and_left (in_sheet S ds) _ h, sym (length-map ds S.task) ∙ order_length S.tasks K (map S.task ds) o))

-- ---- the whole round: the solutions

abbrev plan_of : ℕ → List ℕ → Plan
plan_of s ds = record { start = s; doors = ds }

plans_ranked : (S : Sheet) → Ranked RanksBefore (plans S)
unfolding plans
plans_ranked S = ranked_flat RanksBefore S.starts _
    (λ s l. ranked_map DoorsBefore RanksBefore (plan_of s) (λ xs ys h. inr (refl, h)) (lists_below S.doors S.tasks) (lists_ranked S.doors S.tasks))
    (λ s t l m. before_map RanksBefore (plan_of s) (plan_of t) (λ xs ys. inl l) (lists_below S.doors S.tasks) (lists_below S.doors S.tasks))

solution_planned : (S : Sheet) (x : Plan) → is_solution S x.start x.doors ≡ true → List-as-Memᴰ x (plans S)
unfolding plans is_solution in_sheet
solution_planned S x h =
    let ds = x.doors in
    let b = and_left (ltb x.start S.starts && in_sheet S ds) (is_admissible S (map S.task ds)) h in
    let a = and_right (ltb x.start S.starts && in_sheet S ds) (is_admissible S (map S.task ds)) h in
    let e : length ds ≡ S.tasks = sym (length-map ds S.task) ∙ (full_order S (map S.task ds) a).1 in
    mem_flat S.starts _ x x.start (ltb-true x.start S.starts (and_left (ltb x.start S.starts) (in_sheet S ds) b))
    (Memᴰ·map (plan_of x.start) (rw e at (lists_member S.doors ds (and_right (ltb x.start S.starts) (in_sheet S ds) b))))

pub solutions_enumerated : (S : Sheet) → Enumerates RanksBefore (λ x. is_solution S x.start x.doors ≡ true) (solutions S)
unfolding solutions
solutions_enumerated S = kept_enumerated RanksBefore ranks_irreflexive _ (plans S) (plans_ranked S) (solution_planned S)

pub solution_listed : (S : Sheet) (s : ℕ) (ds : List ℕ) → is_solution S s ds ≡ true → List-as-Memᴰ (plan_of s ds) (solutions S)
solution_listed S s ds = (solutions_enumerated S).each (plan_of s ds)
