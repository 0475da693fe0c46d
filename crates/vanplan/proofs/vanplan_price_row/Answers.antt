-- Where the sheet fits, the row is told: its cells by the part that the row call hands back. Assumes nothing.
use Rattle.std.proofs.Common.{Result, Ok, Err}
use Rattle.model.proofs.Basics.{◌≡◌, refl, sym, ap, ◌∙◌, List, ℕ, length}
use Rattle.model.specs.{status}
use Rattle.refusal.specs.{declared.Refusal.Refusal, Answers.answer_by}
use Rattle.sheet.specs.declared.ReadSheet.{ReadSheet}
use Rattle.price.specs.{Pricing.price, Pricing.row_place, Answers.place_in}
use Rattle.price.proofs.Fits.{price_refused, row_told}
use Rattle.vanplan.proofs.vanplan_price_row.Goals.{in-Ok, in_default}
use Rattle.vanplan.proofs.vanplan_price_row.Goals as goal

-- what the test of the layers answers has the status of pricing
status_told : (b even odd : List ℕ) (r : Result ReadSheet Refusal) → answer_by (λ (x : ReadSheet). place_in x.sheet.view) r ≡ row_place b (length even) (length odd)
    → status (answer_by (λ (x : ReadSheet). x) r) ≡ status (price b (length even) (length odd))
status_told b even odd (Ok x) e = sym (row_told b even odd (sym e)).0
status_told b even odd (Err r) e = rw (price_refused b even odd e) refl

pub returns-clause-returned : goal.returns-clause-returned
returns-clause-returned c =
    let a = c.args in
    c.status_of.ensures ∙ status_told a.sheet.now a.even.now a.odd.now c.fit-fitting.result c.fit-fitting.ensures.place

pub returns-clause-cells : goal.returns-clause-cells
returns-clause-cells c =
    let a = c.args in
    elim c.match-fitting.branch [
      | in-Ok w ↦
          let e = sym c.fit-fitting.ensures.place ∙ ap (answer_by (λ (x : ReadSheet). place_in x.sheet.view)) w.in-Ok.is in
          w.cells-is ∙ rw e (ap length w.row-row.ensures ∙ (row_told a.sheet.now a.even.now a.odd.now e).1)
      | in_default w ↦
          let e = sym c.fit-fitting.ensures.place ∙ ap (answer_by (λ (x : ReadSheet). place_in x.sheet.view)) w.in_default.is in
          w.cells-is ∙ rw e
    ]
