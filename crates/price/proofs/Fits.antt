-- Whether a sheet can be priced in two layers: it reads, and each layer has room. Then the answer stands; else it is the sheet's own number, or 22.
-- Assumes nothing.
use Rattle.model.proofs.Basics.{◌≡◌, refl, sym, ap, ap₂, ◌∙◌, ⊎_elim, Bool, false, cond, ◌||◌, List, [], ◌++◌, some, ℕ, ◌*◌, ◌%◌, ◌≤◌, ◌<◌, arith, eqb, ltb}
use Rattle.model.proofs.Basics.{length, take, length-take-le, ltb-false, le-ltb}
use Rattle.model.specs.{Answer.Answer, Plans.Plan, cheapest, refused, accepted, refuse_if, status, decode, read_sheet, sheet_tests, unless_fault, or_no_order}
use Rattle.model.proofs.Tools.Tests.{or_left, or_right, by_test}
use Rattle.model.proofs.Tools.Refusing.{refused≢accepted, accepted_value, returned_0, accepted_pass, refused_applies, refuse_append, refuses_alike}
use Rattle.model.proofs.Calls.Reading.{Reads, reads_then, counts_read, accepted_reads, refused_reads, refused_alike}
use Rattle.model.proofs.Calls.Planning.{has_plan}
use Rattle.view.specs.{declared.View.View, Views.Viewed}
use Rattle.view.proofs.Counted.{tasks_are, points_are}
use Rattle.rank.specs.Ranks.{most_lists_of}
use Rattle.rank.proofs.Binomials.{most_of}
use Rattle.kernel_layers.specs.Layers.{layer_cells}
use Rattle.kernel_layers.proofs.Layering.{row_within}
use Rattle.price.specs.Pricing.{short_layer, layer_tests, unless_short, price_of, price_in, price, layer_of, price_row, RowPlace, row_place}

pub record Fits (b : List ℕ) (even odd : ℕ) : Type 0 where
  pub reads : Reads b
  pub even_room : layer_cells (decode b) ≤ even
  pub odd_room : layer_cells (decode b) ≤ odd

-- the cells that the code counts, n being its most lists of one size
pub needed_is : {b : List ℕ} {v : View} {n : ℕ} → Reads b → Viewed b v → n ≡ most_lists_of v.tasks → n * v.points ≡ layer_cells (decode b)
unfolding layer_cells
needed_is {b} h w e = ap₂ ◌*◌ (e ∙ ap most_lists_of (tasks_are w) ∙ most_of _ (omega (arith, (counts_read b h).tasks))) (points_are w)

module _ (b : List ℕ) (even odd : ℕ) {A : Type 0} (a : Answer A) where
  -- what reading refuses is refused, with the same number
  pub sheet_refused : {r : ℕ} → refused r ≡ read_sheet b → unless_short b even odd a ≡ refused r
  unfolding read_sheet unless_short
  sheet_refused {r} e = refused_alike b _ _ _ r refl (sym e)

  -- a sheet that reads gets 22 by its layers
  pub then_short : Reads b → unless_short b even odd a ≡ refuse_if (short_layer (decode b) even odd) 22 a
  unfolding unless_short layer_tests
  then_short h = reads_then b _ h

  -- what is accepted fits
  pub fits : {x : A} → unless_short b even odd a ≡ accepted x → Fits b even odd × (a ≡ accepted x)
  unfolding unless_short layer_tests short_layer
  fits {x} e =
      let r = accepted_reads b _ x e in
      let p = accepted_pass (layer_tests (decode b) even odd) a x r.1 in
      let s : (ltb even (layer_cells (decode b)) || ltb odd (layer_cells (decode b))) ≡ false = p.0.0 in
      let short : Bool = ltb even (layer_cells (decode b)) in
      (record { reads = r.0; even_room = ltb-false _ _ (or_left short _ s); odd_room = ltb-false _ _ (or_right short _ s) }, p.1)

  -- and what fits is answered
  pub fits_then : Fits b even odd → unless_short b even odd a ≡ a
  unfolding short_layer
  fits_then h = then_short h.reads ∙ rw (le-ltb even (layer_cells (decode b)) h.even_room, le-ltb odd (layer_cells (decode b)) h.odd_room)

-- two answers with these tests before them are refused alike
pub refused_alike_22 : {A B : Type 0} (b : List ℕ) (even odd : ℕ) (a : Answer A) (c : Answer B) {x : A} {r : ℕ} → a ≡ accepted x
    → unless_short b even odd a ≡ refused r → unless_short b even odd c ≡ refused r
unfolding unless_short unless_fault
refused_alike_22 b even odd a c {x} {r} w e =
    let ts = sheet_tests b in
    let us = layer_tests (decode b) even odd in
    refuse_append ts us c ∙ refuses_alike (ts ++ us) a c x r w (sym (refuse_append ts us a) ∙ e)

-- what fits is priced by the cheapest plan
pub record Priced (b : List ℕ) (even odd : ℕ) : Type 0 where
  pub best : Plan
  pub cheapest_is : cheapest (decode b) ≡ some best
  pub price_is : price b even odd ≡ accepted (price_of (decode b) best)

pub priced_by : (b : List ℕ) (even odd : ℕ) (best : Plan) → Fits b even odd → cheapest (decode b) ≡ some best
    → price b even odd ≡ accepted (price_of (decode b) best)
unfolding price
priced_by b even odd best h e = fits_then b even odd _ h ∙ ap (λ o. price_in (decode b) (or_no_order o)) e

pub priced : (b : List ℕ) (even odd : ℕ) → Fits b even odd → Priced b even odd
priced b even odd h =
    let x = has_plan b h.reads in
    record { best = x.0; cheapest_is = x.1; price_is = priced_by b even odd x.0 h x.1 }

-- a call with these tests returns 0 only where the sheet fits: every refusal has a number above 0
pub fits_0 : (b : List ℕ) (even odd : ℕ) → status (row_place b even odd) ≡ 0 → Fits b even odd
unfolding row_place unless_short layer_tests
fits_0 b even odd e =
    let x = returned_0 (row_place b even odd) above e in
    (fits b even odd _ x.1).0
  where
    above : (r : ℕ) → row_place b even odd ≡ refused r → 0 < r
    above r q = ⊎_elim
        (λ k. omega (arith, k.0))
        (λ k. ⊎_elim
        (⊎_elim (λ a. omega (arith, a.0)) absurd)
        (λ a. absurd (refused≢accepted (sym a.1)))
        (refused_applies (layer_tests (decode b) even odd) _ r k.1))
        (refused_reads b _ r q)

-- ---- the row of the full list

module _ (b even odd : List ℕ) where
  -- n and p: the numbers of tasks and points that the code goes by
  pub row_there : {n p : ℕ} → Fits b (length even) (length odd) → n ≡ (decode b).tasks → p ≡ (decode b).points
      → take p (cond (eqb (n % 2) 0) even odd) ≡ price_row b even odd
  unfolding price_row layer_of
  row_there h e q = rw (e, q, (priced b (length even) (length odd) h).price_is)

  -- what does not fit pricing refuses, with the same number
  pub price_refused : {r : ℕ} → refused r ≡ row_place b (length even) (length odd) → price b (length even) (length odd) ≡ refused r
  unfolding row_place price
  price_refused e = refused_alike_22 b (length even) (length odd) _ _ refl (sym e)

  -- and there is no row
  pub row_none : {r : ℕ} → refused r ≡ row_place b (length even) (length odd) → [] ≡ price_row b even odd
  unfolding price_row
  row_none e = rw (price_refused e)

  -- where the row is told, pricing returns 0, and the row has as many cells as told
  pub row_told : {x : RowPlace} → row_place b (length even) (length odd) ≡ accepted x
      → (status (price b (length even) (length odd)) ≡ 0) × (length (price_row b even odd) ≡ x.cells)
  unfolding row_place price_row layer_of
  row_told {x} e =
      let f = fits b (length even) (length odd) _ e in
      let p = priced b (length even) (length odd) f.0 in
      let is : (decode b).points ≡ x.cells = ap (λ (y : RowPlace). y.cells) (accepted_value f.1) in
      rw p.price_is (
        refl,
        by_test (eqb ((decode b).tasks % 2) 0)
            (λ w. rw w (length-take-le _ even (row_within (decode b) f.0.even_room) ∙ is))
            (λ w. rw w (length-take-le _ odd (row_within (decode b) f.0.odd_room) ∙ is)),
      )
