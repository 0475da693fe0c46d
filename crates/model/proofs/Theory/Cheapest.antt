-- The cheapest plan is a solution, no solution costs less, and of those that cost the same it ranks first, as the first of least cost in a list in rank
-- order does. Assumes nothing.
use Rattle.model.proofs.Basics.{◌≡◌, refl, sym, ap, ◌∙◌, subst, ◌⊎◌, inl, inr, true, List, [], ◌∷◌, List-as-Memᴰ, List·Memᴰ·not-nil}
use Rattle.model.proofs.Basics.{List·Memᴰ·head, List·Memᴰ·tail, Option, none, some, Option·none-ne-some, ℕ, ◌≤◌, le_refl, arith}
use Rattle.model.proofs.Basics.{ltb, ltb-true, ltb-false}
use Rattle.model.specs.{Sheet.Sheet, cheaper, first_least, cost, Plan, is_solution, round_cost, plan_cost, solutions, cheapest}
use Rattle.model.specs.{is_completion, completions, cost_to_go}
use Rattle.model.proofs.Tools.Choices.{first_some, cost_of, least_is}
use Rattle.model.proofs.Tools.{Lists.All, Lists.all_member, Lists.by_member, Tests.by_test}
use Rattle.model.proofs.Theory.Ranks.{Ranked, DoorsBefore, RanksBefore}
use Rattle.model.proofs.Theory.Enumerations.{solution_listed, solutions_enumerated, completions_enumerated}

-- ---- the first of least cost in a ranked list

module _ {A : Type 0} (R : A → A → Type 0) (f : A → ℕ) where
  -- the choice from the list: an element of least cost that ranks before all others of that cost, or nothing from an empty list
  abbrev Best : Option A → List A → Type 0
  Best none xs = (y : A) → List-as-Memᴰ y xs → ⊥
  Best (some x) xs = (List-as-Memᴰ x xs) × ((y : A) → List-as-Memᴰ y xs → (f x ≤ f y) × (f y ≡ f x → (y ≡ x) ⊎ R x y))

  best_head : (z : A) (zs : List A) → All (R z) zs → ((y : A) → List-as-Memᴰ y zs → f z ≤ f y) → Best (some z) (z ∷ zs)
  best_head z zs r h = (
    List·Memᴰ·head refl,
    λ y m. by_member m (λ w. (rw w (le_refl (f z)), λ e. inl w)) (λ w. (h y w, λ e. inr (all_member (R z) zs r y w))),
  )

  best_cons : (z : A) (zs : List A) (o : Option A) → All (R z) zs → Best o zs → Best (cheaper f (some z) o) (z ∷ zs)
  best_cons z zs none r h = best_head z zs r (λ y m. absurd (h y m))
  best_cons z zs (some x) r h = by_test (ltb (f x) (f z))
      (λ t. rw t (
        List·Memᴰ·tail h.0,
        λ y m. by_member m
            (λ w. (omega (arith, ltb-true, ap f w), λ e. absurd (omega (arith, ltb-true, ap f w))))
            (h.1 y),
      ))
      (λ t. rw t (best_head z zs r (λ y m. omega (arith, ltb-false, (h.1 y m).0))))

  best_first : (xs : List A) → Ranked R xs → Best (first_least f xs) xs
  best_first [] h = λ y m. List·Memᴰ·not-nil m
  best_first (x ∷ xs) h = best_cons x xs (first_least f xs) h.0 (best_first xs h.1)

  -- it is in the list, none costs less, and it ranks before every other that costs the same
  pub first_best : (xs : List A) (x : A) → Ranked R xs → first_least f xs ≡ some x
      → (List-as-Memᴰ x xs) × ((y : A) → List-as-Memᴰ y xs → (f x ≤ f y) × (f y ≡ f x → (y ≡ x) ⊎ R x y))
  first_best xs x h e = subst (λ o. Best o xs) e (best_first xs h)

member_not_nil : {A : Type 0} (xs : List A) (x : A) → List-as-Memᴰ x xs → xs ≡ [] → ⊥
member_not_nil xs x m e = List·Memᴰ·not-nil (subst (List-as-Memᴰ x) e m)

-- ---- the cheapest plan

module _ (S : Sheet) (x : Plan) (chosen : cheapest S ≡ some x) where
  chosen_best : Best RanksBefore (plan_cost S) (some x) (solutions S)
  unfolding cheapest
  chosen_best = first_best RanksBefore (plan_cost S) (solutions S) x (solutions_enumerated S).in_order chosen

  -- it is a solution
  pub cheapest_solution : is_solution S x.start x.doors ≡ true
  cheapest_solution = (solutions_enumerated S).nothing_else x chosen_best.0

  -- no solution costs less
  pub cheapest_least : (s : ℕ) (ds : List ℕ) → is_solution S s ds ≡ true → plan_cost S x ≤ round_cost S s ds
  unfolding plan_cost
  cheapest_least s ds h = (chosen_best.1 _ (solution_listed S s ds h)).0

  -- of the solutions that cost the same it ranks first
  pub cheapest_first : (s : ℕ) (ds : List ℕ) → is_solution S s ds ≡ true → round_cost S s ds ≡ plan_cost S x
      → (record { start = s; doors = ds } ≡ x) ⊎ RanksBefore x (record { start = s; doors = ds })
  unfolding plan_cost
  cheapest_first s ds h = (chosen_best.1 _ (solution_listed S s ds h)).1

-- there is one where there is a solution
pub cheapest_some : (S : Sheet) (s : ℕ) (ds : List ℕ) → is_solution S s ds ≡ true → (x : Plan) × (cheapest S ≡ some x)
unfolding cheapest
cheapest_some S s ds h = first_some (plan_cost S) (solutions S) (member_not_nil (solutions S) _ (solution_listed S s ds h))

-- and none only where there is no solution
pub cheapest_none : (S : Sheet) → cheapest S ≡ none → (s : ℕ) (ds : List ℕ) → is_solution S s ds ≡ true → ⊥
cheapest_none S e s ds h = let c = cheapest_some S s ds h in Option·none-ne-some c.0 (sym e ∙ c.1)

-- ---- the cost to go

module _ (S : Sheet) (K p : ℕ) where
  to_go_is : (ds : List ℕ) → first_least (cost S p) (completions S K) ≡ some ds → cost_to_go S K p ≡ cost S p ds
  unfolding cost_to_go
  to_go_is ds e = least_is (cost S p) (completions S K) ∙ ap (cost_of (cost S p)) e

  first_completion : (completions S K ≡ [] → ⊥) → (ds : List ℕ) × (is_completion S K ds ≡ true) × (cost S p ds ≡ cost_to_go S K p)
      × ((es : List ℕ) → is_completion S K es ≡ true → cost_to_go S K p ≤ cost S p es)
  first_completion n =
      let r = first_some (cost S p) (completions S K) n in
      let b = first_best DoorsBefore (cost S p) (completions S K) r.0 (completions_enumerated S K).in_order r.1 in
      let e = to_go_is r.0 r.1 in
      (r.0, (completions_enumerated S K).nothing_else r.0 b.0, sym e, λ es h. rw e (b.1 es ((completions_enumerated S K).each es h)).0)

  -- some completion costs just that, where there is any
  pub to_go_attained : (completions S K ≡ [] → ⊥) → (ds : List ℕ) × (is_completion S K ds ≡ true) × (cost S p ds ≡ cost_to_go S K p)
  to_go_attained n = let r = first_completion n in (r.0, r.1, r.2)

  -- and none costs less
  pub to_go_least : (ds : List ℕ) → is_completion S K ds ≡ true → cost_to_go S K p ≤ cost S p ds
  to_go_least ds h = (first_completion (member_not_nil (completions S K) ds ((completions_enumerated S K).each ds h))).3 ds h
