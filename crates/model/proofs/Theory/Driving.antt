-- Finishing a round of a sheet that can be planned: Bellman's equation for a sheet, and the first door of the cheapest completion, as driving is a process
-- whose every choice leads to a completion. Assumes nothing.
use Rattle.model.proofs.Basics.{◌≡◌, sym, ap, ◌∙◌, subst, subst₂, fun_ext, true, List, [], ◌∷◌, map, List-as-Memᴰ, List·Memᴰ·not-nil}
use Rattle.model.proofs.Basics.{some, ℕ, suc, ◌+◌, ◌^◌, ◌≤◌, ◌<◌, arith}
use Rattle.model.specs.{Sheet.Sheet, least, without, size, can_come_first, first_doors, step_cost, cost, is_completion, completions}
use Rattle.model.specs.{cost_to_go, cheapest_completion, Plannable}
use Rattle.model.proofs.TaskLists.Masks.{without_le}
use Rattle.model.proofs.Theory.Process.{runs, to_go, through, bellman, FirstStep, first_step, Process}
use Rattle.model.proofs.Theory.Completions.{Position, driving, completes_is, completions_are, cost_is, to_go_is, cheapest_is}
use Rattle.model.proofs.Theory.Completions.{standing}
use Rattle.model.proofs.Theory.Existence.{part, part_admissible, order_driven}
use Rattle.model.proofs.Theory.Enumerations.{has_order, completions_enumerated}
use Rattle.model.proofs.Theory.Process as process

-- door d, and the cost to go from where it leads
unfoldable pub through_door : Sheet → ℕ → ℕ → ℕ → ℕ
through_door S K p d = step_cost S K p d + cost_to_go S (without K (S.task d)) (S.depart d)

module _ (S : Sheet) (G : Plannable S) where
  abbrev D : Process
  D = driving S G.ranges

  -- every list has a completion
  pub has_completion : (K : ℕ) → (ds : List ℕ) × (is_completion S K ds ≡ true)
  has_completion K =
      let o = has_order S G.ordered in
      let d = order_driven S G.doors K (part K o.0) (part_admissible S G.ranges K o.0 o.1) in
      (d.0, d.1)

  pub some_completion : (K : ℕ) → completions S K ≡ [] → ⊥
  some_completion K e = let c = has_completion K in List·Memᴰ·not-nil (subst (List-as-Memᴰ c.0) e ((completions_enumerated S K).each c.0 c.1))

  module _ (K p : ℕ) (below : K < 2 ^ S.tasks) where
    abbrev here : Position
    here = standing K p

    through_is : (d : ℕ) → through D here d ≡ through_door S K p d
    unfolding through through_door
    through_is d = ap (λ (v : ℕ). step_cost S K p d + v)
        (sym (to_go_is S G.ranges (without K (S.task d)) (S.depart d) (omega (arith, without_le K (S.task d)))))

    through_all : through D here ≡ through_door S K p
    through_all = fun_ext through_is

    -- every door that can come first leads to a completion
    live : (d : ℕ) → d < S.doors → can_come_first S K (S.task d) ≡ true
        → runs D (standing (without K (S.task d)) (S.depart d)) ≡ [] → ⊥
    live d l e h = some_completion (without K (S.task d)) (completions_are S G.ranges (without K (S.task d)) (S.depart d) ∙ h)

    module _ (k : ℕ) (more : size S.tasks K ≡ suc k) where
      -- Bellman's equation, from every point with every list open
      pub to_go_by_first : cost_to_go S K p ≡ least (map (through_door S K p) (first_doors S K))
      unfolding first_doors
      to_go_by_first = to_go_is S G.ranges K p below ∙ bellman D here k more live
          ∙ ap (λ (f : ℕ → ℕ). least (map f (first_doors S K))) through_all

      -- the cheapest completion begins with the first door whose step plus the cost to go of the rest equals the cost to go here,
      -- and goes on with the cheapest completion from there
      pub record FirstDoor : Type 0 where
        pub door : ℕ
        pub rest : List ℕ
        pub stands_in_sheet : door < S.doors
        pub can : can_come_first S K (S.task door) ≡ true
        pub equal : through_door S K p door ≡ cost_to_go S K p
        pub none_less : (d : ℕ) → d < S.doors → can_come_first S K (S.task d) ≡ true → cost_to_go S K p ≤ through_door S K p d
        pub none_before : (d : ℕ) → d < door → can_come_first S K (S.task d) ≡ true → cost_to_go S K p < through_door S K p d
        pub begins : cheapest_completion S K p ≡ some (door ∷ rest)
        pub goes_on : cheapest_completion S (without K (S.task door)) (S.depart door) ≡ some rest

      pub first_door : FirstDoor
      first_door =
          let f : FirstStep D here k more live
          = first_step D here k more live (λ h. some_completion K (completions_are S G.ranges K p ∙ h)) in
          let t : to_go D here ≡ cost_to_go S K p = sym (to_go_is S G.ranges K p below) in
          record {
            door = f.choice;
            rest = f.others;
            stands_in_sheet = f.below;
            can = f.is_able;
            equal = sym (through_is f.choice) ∙ f.equal ∙ t;
            none_less = λ d l e. subst₂ (λ (x y : ℕ). x ≤ y) t (through_is d) (f.none_less d l e);
            none_before = λ d l e. subst₂ (λ (x y : ℕ). x < y) t (through_is d) (f.none_before d l e);
            begins = cheapest_is S G.ranges K p below ∙ f.begins;
            goes_on = cheapest_is S G.ranges _ (S.depart f.choice) (omega (arith, without_le K (S.task f.choice))) ∙ f.goes_on;
          }

    -- what a door costs with the cost to go from where it leads is the cost of a completion: what no completion costs more than, it does not
    pub through_bound : (c : ℕ) → ((ds : List ℕ) → is_completion S K ds ≡ true → cost S p ds ≤ c) → (d : ℕ) → d < S.doors → can_come_first S K (S.task d) ≡ true
        → through_door S K p d ≤ c
    through_bound c bound d l e = subst (λ (v : ℕ). v ≤ c) (through_is d)
        (process.through_bound D here d l e (live d l e) c
        (λ ds h. let a : is_completion S K ds ≡ true = sym (completes_is S G.ranges ds K p) ∙ h in
        subst (λ (v : ℕ). v ≤ c) (cost_is S G.ranges ds K p below a) (bound ds a)))
