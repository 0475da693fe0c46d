-- The layers are filled, so the row of the full list shows what the whole round costs from each point; the start chosen from it and the cost there are those of
-- the cheapest plan. Assumes nothing.
use Rattle.model.proofs.Basics.{◌≡◌, sym, ap, ◌∙◌, cond, List, some, ℕ, ◌%◌, ◌≤◌, ◌<◌, mod-lt, zero-lt-suc}
use Rattle.model.proofs.Basics.{arith, eqb, length, get_or, take, length-take-le, get_or-take, eqb-true, eqb-false}
use Rattle.model.specs.{full, cost_to_go, accepted, decode, InRange}
use Rattle.model.proofs.Tools.Tests.{by_test}
use Rattle.model.proofs.Calls.{Reading.counts_read, Planning.plannable}
use Rattle.kernel_sheet.specs.Prepared.{StartsOf}
use Rattle.kernel_start.specs.Choosing.{start_cost, first_start, Startable}
use Rattle.kernel_start.proofs.Starting.{round_from, chosen_below, cheapest_there}
use Rattle.kernel_layers.specs.Layers.{LayerFilled}
use Rattle.kernel_layers.proofs.Layering.{row_within}
use Rattle.price.specs.Pricing.{price_of, price, LayersAfter}
use Rattle.price.proofs.Fits.{Fits, priced_by}

module _ (b even odd : List ℕ) {even' odd' : List ℕ} (F : Fits b (length even) (length odd)) (E : LayerFilled (decode b) 0 even even')
    (O : LayerFilled (decode b) 1 odd odd') where
  -- there is room for a row in both
  pub within : ((decode b).points ≤ length even') × ((decode b).points ≤ length odd')
  within = rw (E.as_many, O.as_many) (row_within (decode b) F.even_room, row_within (decode b) F.odd_room)

  -- the row as the code takes it, by its numbers of tasks and points
  module _ {n p : ℕ} {row : List ℕ} (tasks : n ≡ (decode b).tasks) (points : p ≡ (decode b).points) (is : row ≡ take p (cond (eqb (n % 2) 0) even' odd')) where
    -- it has P cells, and they show the costs to go with the full list open
    pub row_shows : (length row ≡ (decode b).points) × ((q : ℕ) → q < (decode b).points → get_or row q 0 ≡ cost_to_go (decode b) (full (decode b).tasks) q)
    row_shows = rw (is, tasks, points) (by_test (eqb ((decode b).tasks % 2) 0)
        (λ w. rw w (length-take-le _ even' within.0, λ q l. get_or-take _ even' q 0 l ∙ E.whole_round (eqb-true _ _ w) q l))
        (λ w.
        let n : ((decode b).tasks % 2 ≡ 0 → ⊥) = eqb-false _ _ w in
        let one : (decode b).tasks % 2 ≡ 1 = omega (arith, mod-lt (decode b).tasks (zero-lt-suc 1)) in
        rw w (length-take-le _ odd' within.1, λ q l. get_or-take _ odd' q 0 l ∙ O.whole_round one q l)))

    ranges : InRange (decode b)
    ranges = (plannable b F.reads).ranges

    -- the start can be chosen from it
    pub startable : {starts : List ℕ} → StartsOf (decode b) starts → length starts ≡ (decode b).starts → Startable (decode b) starts row
    startable h e =
        let w = counts_read b F.reads in
        record { points = h; count = e; one_start = w.one_start; few = w.starts; held = λ s l. rw row_shows.0 (ranges.start s l) }

    shows : (s : ℕ) → s < (decode b).starts → get_or row ((decode b).start_point s) 0 ≡ round_from (decode b) s
    shows s l = row_shows.1 ((decode b).start_point s) (ranges.start s l)

    -- the start s was chosen from it, and c is the cost there
    module _ {s c : ℕ} (chosen : some s ≡ first_start (decode b) row) (there : c ≡ start_cost (decode b) row s) where
      pub quoted : (accepted (record { cost = c; start = s }) ≡ price b (length even) (length odd)) × LayersAfter b even odd even' odd'
      unfolding price_of start_cost
      quoted =
          let x = cheapest_there (decode b) row shows chosen (plannable b F.reads) in
          let is : price b (length even) (length odd) ≡ accepted (record { cost = c; start = s }) =
          priced_by b (length even) (length odd) _ F x.0
          ∙ ap (λ (k : ℕ). accepted (record { cost = k; start = s })) (x.1 ∙ sym (shows s (chosen_below (decode b) row chosen)) ∙ sym there) in
          (sym is, rw is (E, O))
