-- What is claimed of pricing holds: its numbers by the tests that it shares with the row call, and its answer as that of planning, because both are made of the
-- cheapest plan. Assumes nothing.
use Rattle.model.proofs.Basics.{◌≡◌, refl, sym, ap, ◌∙◌, ◌⊎◌, inl, inr, ⊎_elim, ◌↔◌, Bool, true, false, ◌||◌, List, [], ◌∷◌, ◌++◌, some, ℕ, ◌+◌, ◌*◌, ◌%◌, ◌^◌}
use Rattle.model.proofs.Basics.{◌≤◌, ◌<◌, arith, lit<, ltb, length, ext_get_or, ltb-true, lt-ltb, le-ltb, mul-le-mul_right}
use Rattle.model.specs.{Answer.Answer, Plans.Plan, Sheet.Sheet, map_below, index_of, full, cheapest, cost_to_go, refused, accepted, Test, ◌when◌, refuse_first, status}
use Rattle.model.specs.{placed, placed_number, overwrite, decode, decode_by, entries, line_at, read_sheet, sheet_tests, unless_fault, plan_length, plan_bytes, short_room}
use Rattle.model.specs.{cells_needed, few_cells, room_tests, or_no_order, plan_for, carried_out, plan}
use Rattle.model.specs.Figures.{SheetApplies, Before, AnswersBy}
use Rattle.model.proofs.Tools.Tests.{or-true, not_less}
use Rattle.model.proofs.Tools.Folds.{length_map_below, map_below_at}
use Rattle.model.proofs.Tools.Refusing.{refused≢accepted, refused_number, accepted_value, returned, returned_refusal, AllPass, Applies, accepted_pass, refused_applies}
use Rattle.model.proofs.Tools.Refusing.{refuse_append, pass_append, applies_append, applies_before, answers_by}
use Rattle.model.proofs.Theory.Cheapest.{cheapest_solution}
use Rattle.model.proofs.Theory.Solutions.{solution, solution_length}
use Rattle.model.proofs.Bytes.PlanBytes.{length_is}
use Rattle.model.proofs.Calls.Reading.{Reads, all_reads, reads_then, accepted_reads}
use Rattle.model.proofs.Calls.{Figures.sheet_applies, Figures.reading_answers_lem, Figures.planning_answers, Interface.left_alone, Planning.has_plan}
use Rattle.rank.specs.Binomials.{most_lists}
use Rattle.rank.proofs.Binomials.{two_layers_less, two_layers_same_1, two_layers_same_2}
use Rattle.kernel_layers.specs.Layers.{layer_cells, OpenCell, LayerFilled}
use Rattle.price.specs.Pricing.{short_layer, layer_tests, unless_short, Price, price_of, price_in, price, LayerAfter, LayersAfter, price_row, RowPlace, row_place}
use Rattle.price.specs.Pricing.{price_cost, price_start, row_layer, row_cells}
use Rattle.price.specs.Claims.{PricingApplies, pricing_order, EitherShort, PricingHolds, PriceIsPlan, SameLeft, LentOrCost, row_told, RowHandedBack, LayersLeft}
use Rattle.price.specs.Claims.{FewerCells}
use Rattle.price.proofs.Fits.{Fits, fits, fits_then, refused_alike_22, priced, row_there}
use Rattle.price.proofs.Quoting.{row_shows}

-- ---- the numbers

either_true : (a b : Bool) → (a || b) ≡ true → (a ≡ true) ⊎ (b ≡ true)
either_true true b e = inl refl
either_true false b e = inr e

module _ (b : List ℕ) (even odd : ℕ) where
  -- 22 is for either layer
  short_is : (short_layer (decode b) even odd ≡ true) ↔ EitherShort b even odd
  unfolding short_layer layer_cells
  short_is = (
    (λ e. ⊎_elim (λ a. inl (ltb-true _ _ a)) (λ a. inr (ltb-true _ _ a)) (either_true _ _ e)),
    ⊎_elim (λ l. rw (lt-ltb _ _ l)) (λ l. or-true (ltb even (most_lists (decode b).tasks * (decode b).points)) _ (lt-ltb _ _ l)),
  )

  tests : List Test
  tests = sheet_tests b ++ layer_tests (decode b) even odd

  pricing_applies : (r : ℕ) → Applies tests r ↔ PricingApplies b even odd r
  unfolding tests layer_tests decode decode_by entries line_at
  pricing_applies r = (
    (λ h. there ((applies_append (sheet_tests b) (layer_tests (decode b) even odd) r).0 h)),
    (λ h. (applies_append (sheet_tests b) (layer_tests (decode b) even odd) r).1 (back h)),
  )
    where
      there : Applies (sheet_tests b) r ⊎ Applies (layer_tests (decode b) even odd) r → PricingApplies b even odd r
      there (inl h) = PricingApplies.sheet ((sheet_applies b r).0 h)
      there (inr (inl h)) = ⊎_elim (PricingApplies.even22 h.0) (PricingApplies.odd22 h.0) (short_is.0 h.1)
      there (inr (inr h)) = absurd h

      back : PricingApplies b even odd r → Applies (sheet_tests b) r ⊎ Applies (layer_tests (decode b) even odd) r
      back (PricingApplies.sheet h) = inl ((sheet_applies b r).1 h)
      back (PricingApplies.even22 e l) = inr (inl (e, short_is.1 (inl l)))
      back (PricingApplies.odd22 e l) = inr (inl (e, short_is.1 (inr l)))

  answers : AnswersBy pricing_order (PricingApplies b even odd) (price b even odd)
  unfolding price unless_short unless_fault tests sheet_tests layer_tests
  answers = rw (refuse_append (sheet_tests b) (layer_tests (decode b) even odd) (price_in (decode b) (or_no_order (cheapest (decode b)))))
      (answers_by pricing_order tests _ (PricingApplies b even odd) refl
      (λ p. let x = has_plan b (all_reads b (pass_append (sheet_tests b) (layer_tests (decode b) even odd) p).0) in
      (price_of (decode b) x.0, ap (λ o. price_in (decode b) (or_no_order o)) x.1))
      (λ r n. pricing_applies r))

  -- only 22 is left for a sheet that reads
  left : status (read_sheet b) ≡ 0 → (r : ℕ) → PricingApplies b even odd r → (r ≡ 22) × EitherShort b even odd
  unfolding decode decode_by entries line_at
  left z r (PricingApplies.sheet s) = absurd ((reading_answers_lem b).returns_0.0 z r s)
  left z r (PricingApplies.even22 e l) = (e, inl l)
  left z r (PricingApplies.odd22 e l) = (e, inr l)

  right : EitherShort b even odd → PricingApplies b even odd 22
  unfolding decode decode_by entries line_at
  right (inl l) = PricingApplies.even22 refl l
  right (inr l) = PricingApplies.odd22 refl l

  -- a number of the sheet's own is tested before it
  earlier : (n : ℕ) → SheetApplies b n → Before pricing_order n 22
  unfolding sheet_tests
  earlier n s = applies_before (sheet_tests b) (22 ∷ []) n ((sheet_applies b n).1 s)

  gets : (price b even odd ≡ refused 22) ↔ ((status (read_sheet b) ≡ 0) × EitherShort b even odd)
  gets = (
    (λ e.
        let p = (answers.refuses 22).0 e in
        let z = (reading_answers_lem b).returns_0.1 (λ n s. p.1 n (earlier n s) (PricingApplies.sheet s)) in
        (z, (left z 22 p.0).1)),
    (λ h. (answers.refuses 22).1 (right h.1, λ n l a. omega (arith, l, ap (λ (x : ℕ). index_of x pricing_order) (left h.0 n a).0))),
  )

  -- the row call has the same tests
  row_returns : status (row_place b even odd) ≡ status (price b even odd)
  unfolding row_place price
  row_returns = go (row_place b even odd) refl
    where
      go : (a : Answer RowPlace) → row_place b even odd ≡ a → status (row_place b even odd) ≡ status (price b even odd)
      go (refused r) e = ap status e ∙ sym (ap status (refused_alike_22 b even odd _ _ refl e))
      go (accepted x) e = ap status e ∙ sym (ap status (priced b even odd (fits b even odd _ e).0).price_is)

  -- what it answers where it does not refuse
  row_answers : status (row_place b even odd) ≡ 0 → row_place b even odd ≡ accepted (record { layer = (decode b).tasks % 2; cells = (decode b).points })
  unfolding row_place price
  row_answers z =
      let x = answers.accepts.1 (answers.returns_0.0 (sym row_returns ∙ z)) in
      fits_then b even odd _ (fits b even odd _ x.1).0

  pub pricing : PricingHolds b even odd
  pricing = record {
    answers = answers;
    gets_22 = gets;
    returns_22 = ((λ e. gets.0 (returned_refusal _ 22 (lit< tt) e)), (λ h. ap status (gets.1 h)));
    returns_0 = (
      (λ e. let none = answers.returns_0.0 e in (
        (reading_answers_lem b).returns_0.1 (λ n s. none n (PricingApplies.sheet s)),
        not_less _ _ (λ l. none 22 (right (inl l))),
        not_less _ _ (λ l. none 22 (right (inr l))),
      )),
      (λ h. answers.returns_0.1 (λ n a. ⊎_elim (λ l. omega (arith, h.1)) (λ l. omega (arith, h.2)) (left h.0 n a).1)),
    );
    row_alike = row_returns;
    row_told = λ layer cells z. rw (row_answers z) (refl, refl);
    leaves = λ cost start n. (left_alone price_cost (price b even odd) cost n, left_alone price_start (price b even odd) start n);
    row_leaves = λ layer cells n. (left_alone row_layer (row_place b even odd) layer n, left_alone row_cells (row_place b even odd) cells n);
  }

-- ---- pricing is planning

-- two answers with the same tests before them: all tests pass, or they are refused alike
pass_or_alike : {A B : Type 0} (ts : List Test) (a : Answer A) (c : Answer B) (r : ℕ) → refuse_first ts a ≡ refused r
    → AllPass ts ⊎ (refuse_first ts c ≡ refused r)
pass_or_alike [] a c r e = inl tt
pass_or_alike ((n when true) ∷ ts) a c r e = inr (ap refused (refused_number e))
pass_or_alike ((n when false) ∷ ts) a c r e = ⊎_elim (λ p. inl (refl, p)) inr (pass_or_alike ts a c r e)

-- what planning answers is the cheapest plan
is_cheapest : (b : List ℕ) (cells room : ℕ) (x : Plan) → plan_for b cells room ≡ accepted x → Reads b × (or_no_order (cheapest (decode b)) ≡ accepted x)
unfolding plan_for
is_cheapest b cells room x e = let r = accepted_reads b _ x e in (r.0, (accepted_pass (room_tests (decode b) cells room) _ x r.1).1)

module _ (b : List ℕ) (even odd cells room : ℕ) where
  -- what is left for a sheet that reads is not one of its own numbers
  room_number : (r : ℕ) → Reads b → plan_for b cells room ≡ refused r → 17 < r
  unfolding plan_for room_tests
  room_number r h e =
      let x = has_plan b h in
      ⊎_elim
      (⊎_elim (λ a. omega (arith, a.0)) (⊎_elim (λ a. omega (arith, a.0)) absurd))
      (λ a. absurd (refused≢accepted (sym a.1 ∙ ap or_no_order x.1)))
      (refused_applies (room_tests (decode b) cells room) _ r (sym (reads_then b _ h) ∙ e))

  layer_number : (r : ℕ) → Reads b → price b even odd ≡ refused r → 17 < r
  unfolding price unless_short layer_tests
  layer_number r h e =
      let x = has_plan b h in
      ⊎_elim
      (⊎_elim (λ a. omega (arith, a.0)) absurd)
      (λ a. absurd (refused≢accepted (sym a.1 ∙ ap (λ o. price_in (decode b) (or_no_order o)) x.1)))
      (refused_applies (layer_tests (decode b) even odd) _ r (sym (reads_then b _ h) ∙ e))

  -- and with room the cheapest plan is what planning answers
  plan_given : (x : Plan) → Reads b → cheapest (decode b) ≡ some x → 2 ^ (decode b).tasks * (decode b).points ≤ cells → 32 + 2 * (decode b).tasks ≤ room
      → plan_for b cells room ≡ accepted x
  unfolding plan_for room_tests few_cells short_room cells_needed
  plan_given x h e c l =
      let long : plan_length (decode b).tasks ≤ room = rw (length_is (decode b).tasks) l in
      reads_then b _ h ∙ rw (le-ltb cells (2 ^ (decode b).tasks * (decode b).points) c, le-ltb room (plan_length (decode b).tasks) long, e)

  pub price_is_plan : PriceIsPlan b even odd cells room
  unfolding price plan_for price_of unless_fault unless_short layer_cells
  price_is_plan = record {
    priced = λ x e l m.
        let r = is_cheapest b cells room x e in
        fits_then b even odd _ (record { reads = r.0; even_room = l; odd_room = m }) ∙ ap (price_in (decode b)) r.1;
    planned = λ y e c l.
        let f = fits b even odd _ e in
        let x = has_plan b f.0.reads in
        let same : price_of (decode b) x.0 ≡ y = accepted_value (sym (ap (λ o. price_in (decode b) (or_no_order o)) x.1) ∙ f.1) in
        (x.0, plan_given x.0 f.0.reads x.1 c l, ap price_cost same, ap price_start same);
    refused_alike = λ r s. (
      (λ e. ⊎_elim (λ p. absurd (omega (arith, s.1, room_number r (all_reads b p) e))) (λ q. q) (pass_or_alike (sheet_tests b) _ _ r e)),
      (λ e. ⊎_elim (λ p. absurd (omega (arith, s.1, layer_number r (all_reads b p) e))) (λ q. q) (pass_or_alike (sheet_tests b) _ _ r e)),
    );
  }

-- the cheapest plan has as many doors as there are tasks
as_many_doors : (b : List ℕ) (x : Plan) → Reads b × (or_no_order (cheapest (decode b)) ≡ accepted x) → length x.doors ≡ (decode b).tasks
as_many_doors b x h =
    let y = has_plan b h.0 in
    let same : y.0 ≡ x = accepted_value (sym (ap or_no_order y.1) ∙ h.1) in
    let is : cheapest (decode b) ≡ some x = y.1 ∙ ap some same in
    solution_length (decode b) x.start x.doors (solution (decode b) x.start x.doors (cheapest_solution (decode b) x is))

-- by what is returned and left
pub same_left : (b cells buffer : List ℕ) (even odd : ℕ) → SameLeft b cells buffer even odd
unfolding plan layer_cells
same_left b cells buffer even odd cost start e f = go (plan_for b (length cells) (length buffer)) refl
  where
    go : (a : Answer Plan) → plan_for b (length cells) (length buffer) ≡ a
        → (placed price_cost (price b even odd) cost ≡ placed_number (plan b cells buffer).answer cost)
        × ((doors : List ℕ) × (length doors ≡ (decode b).tasks) × ((plan b cells buffer).bytes
        ≡ overwrite (plan_bytes (decode b).tasks (placed price_start (price b even odd) start) doors (placed price_cost (price b even odd) cost)) buffer))
    go (refused r) q =
        let a = planning_answers b cells buffer in
        let x = a.accepts.1 (a.returns_0.0 e) in
        absurd (refused≢accepted (sym (ap (λ k. (carried_out (decode b) k cells buffer).answer) q) ∙ x.1))
    go (accepted x) q =
        let room = (pricing b even odd).returns_0.0 f in
        let p = (price_is_plan b even odd (length cells) (length buffer)).priced x q room.1 room.2 in
        rw (q, p) (refl, (x.doors, as_many_doors b x (is_cheapest b (length cells) (length buffer) x q), refl))

-- ---- the layers and the row

-- what an open cell holds, in plain facts
plain : (S : Sheet) (parity i x y : ℕ) → OpenCell S parity i x y → LentOrCost S parity i x y
plain S parity i x y (inl e) = inl e
plain S parity i x y (inr c) = inr (c.list, c.listed, c.allowed, c.of_layer, c.ranked, c.is)

-- what the row call hands back, of layers that hold whatever they hold
pub handed_back : (b even odd : List ℕ) → RowHandedBack b even odd
unfolding price row_place price_row
handed_back b even odd = record {
  handed = λ layer cells z.
      let a = (pricing b (length even) (length odd)).answers in
      let x = a.accepts.1 (a.returns_0.0 z) in
      let F : Fits b (length even) (length odd) = (fits b (length even) (length odd) _ x.1).0 in
      sym (rw (fits_then b (length even) (length odd) _ F) (row_there b even odd F refl refl));
  empty = λ n. rw (returned (price b (length even) (length odd)) n);
}

module _ (b even odd even' odd' : List ℕ) where
  -- ---- left by a refusal, left by a price

  left_as : (a : Answer Price) → LayerAfter a (decode b) 0 even even' × LayerAfter a (decode b) 1 odd odd'
      → (length even' ≡ length even) × (length odd' ≡ length odd)
  left_as (refused r) h = (ap length h.0, ap length h.1)
  left_as (accepted x) h = (h.0.as_many, h.1.as_many)

  -- a refusal left everything
  stays : (a : Answer Price) → price b (length even) (length odd) ≡ a → LayerAfter a (decode b) 0 even even' × LayerAfter a (decode b) 1 odd odd'
      → (status a ≡ 0 → ⊥) → (even' ≡ even) × (odd' ≡ odd) × (price_row b even' odd' ≡ [])
  unfolding price_row
  stays (refused r) q h n = (h.0, h.1, rw (h.0, h.1, q))
  stays (accepted x) q h n = absurd (n refl)

  -- a price left the costs to go of the whole round in the row
  module _ (h : LayersAfter b even odd even' odd') (z : status (price b (length even) (length odd)) ≡ 0) where
    is_priced : (x : Price) × (price b (length even) (length odd) ≡ accepted x)
    is_priced = let a = (pricing b (length even) (length odd)).answers in a.accepts.1 (a.returns_0.0 z)

    fitted : Fits b (length even) (length odd)
    unfolding price
    fitted = (fits b (length even) (length odd) _ is_priced.1).0

    both : LayerFilled (decode b) 0 even even' × LayerFilled (decode b) 1 odd odd'
    both =
        let a = accepted is_priced.0 in
        let k : LayerAfter a (decode b) 0 even even' × LayerAfter a (decode b) 1 odd odd' = rw is_priced.1 at h in k

    lent : Fits b (length even') (length odd')
    lent = record {
      reads = fitted.reads;
      even_room = rw both.0.as_many fitted.even_room;
      odd_room = rw both.1.as_many fitted.odd_room;
    }

    shown : price_row b even' odd' ≡ map_below (decode b).points (cost_to_go (decode b) (full (decode b).tasks))
    shown =
        let w = row_shows b even odd fitted both.0 both.1 refl refl refl in
        sym (row_there b even' odd' lent refl refl)
        ∙ ext_get_or 0 _ _ (w.0 ∙ sym (length_map_below (decode b).points _))
        (λ i l. let m : i < (decode b).points = rw w.0 at l in w.1 i m ∙ sym (map_below_at (decode b).points _ i 0 m))

    -- as it is told in C
    told : (layer cells : ℕ) → row_told b even' odd' layer cells ≡ map_below (decode b).points (cost_to_go (decode b) (full (decode b).tasks))
    unfolding row_place
    told layer cells = rw (fits_then b (length even') (length odd') _ lent) (row_there b even' odd' lent refl refl ∙ shown)

  pub layers_left : LayersAfter b even odd even' odd' → LayersLeft b even odd even' odd'
  unfolding layer_cells
  layers_left h = record {
    left_alone = stays (price b (length even) (length odd)) refl h;
    as_many = left_as (price b (length even) (length odd)) h;
    beyond = λ z i l. let w = both h z in (w.0.beyond i l, w.1.beyond i l);
    row_shows = shown h;
    told_shows = λ layer cells z. told h z layer cells;
    others = λ z i l. let w = both h z in (plain _ _ _ _ _ (w.0.others i l), plain _ _ _ _ _ (w.1.others i l));
  }

-- ---- fewer cells

pub fewer_cells : (S : Sheet) → FewerCells S
unfolding layer_cells cells_needed
fewer_cells S = record {
  three_on = λ p l.
      let less : 2 * most_lists S.tasks + 1 ≤ 2 ^ S.tasks = omega (arith, two_layers_less S.tasks l) in
      omega (arith, mul-le-mul_right S.points less);
  one_or_two = ⊎_elim
      (λ (e : S.tasks ≡ 1). rw e (omega (arith, ap (λ (n : ℕ). n * S.points) two_layers_same_1)))
      (λ (e : S.tasks ≡ 2). rw e (omega (arith, ap (λ (n : ℕ). n * S.points) two_layers_same_2)));
}
