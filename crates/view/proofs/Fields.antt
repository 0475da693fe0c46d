-- A field read over a view lies within the sheet and is the sheet's: one law for every body, field and entry. Assumes nothing.
use Rattle.model.proofs.Basics.{◌≡◌, ap, ◌∙◌, ⊎_elim, true, false, List, [], ◌∷◌, ℕ, ◌+◌, ◌*◌, ◌≤◌, ◌<◌, arith, ltb, length, get_or}
use Rattle.model.proofs.Basics.{ltb-true, ltb-false}
use Rattle.model.specs.{sum_below, map_below, number_at, bodies, kind1, field_width, bytes_before, entry_bytes, line_at, entries, body_at, field_at}
use Rattle.model.specs.{layout_of}
use Rattle.model.proofs.Tools.Tests.{tested}
use Rattle.model.proofs.Tools.Folds.{map_below_at}
use Rattle.model.proofs.Calls.Passing.{field_within}
use lib.ListN.{get_or-eq_default}
use Rattle.view.specs.declared.View.{View}
use Rattle.view.specs.Views.{places_of, view_of, Viewed}

-- ---- the widths that `kind1` has, and what follows from them, open so that a reader's numbers are found by computing

abbrev widths : List (List ℕ)
widths = (2 ∷ []) ∷ (2 ∷ 2 ∷ 2 ∷ 4 ∷ []) ∷ (2 ∷ []) ∷ (2 ∷ 2 ∷ []) ∷ (2 ∷ 2 ∷ 2 ∷ 4 ∷ []) ∷ (4 ∷ []) ∷ (2 ∷ []) ∷ []

abbrev width : ℕ → ℕ → ℕ
width i f = get_or (get_or widths i []) f 0

abbrev fields_before : ℕ → ℕ → ℕ
fields_before i f = sum_below f (width i)

abbrev entry_size : ℕ → ℕ
entry_size i = fields_before i (length (get_or widths i []))

-- where the code begins to read body i
abbrev place_in : View → ℕ → ℕ
place_in v i = get_or (46 ∷ v.at.doors ∷ v.at.starts ∷ v.at.pairs ∷ v.at.rules ∷ v.at.points ∷ v.at.distances ∷ []) i 0

-- ---- field f of entry e of body i

module _ {b : List ℕ} {v : View} (h : Viewed b v) (i f e : ℕ) (lf : f < length (get_or widths i [])) where
  -- a body that has a field is one of the seven
  body : i < bodies
  body = ⊎_elim
      (λ (w : ltb i bodies ≡ true). ltb-true i bodies w)
      (λ (w : ltb i bodies ≡ false). absurd (omega (arith, ap length (get_or-eq_default widths [] (ltb-false i bodies w)))))
      (tested (ltb i bodies))

  place_is : place_in v i ≡ body_at (layout_of b) b i
  unfolding view_of places_of map_below line_at
  place_is = ap (λ (x : View). place_in x i) h.is ∙ map_below_at bodies (body_at (layout_of b) b) i 0 body

  pub within : e < entries b i → place_in v i + e * entry_size i + fields_before i f + width i f ≤ length b
  unfolding layout_of kind1 field_width bytes_before entry_bytes
  within le = rw place_is (field_within (layout_of b) b h.ends i e f body le lf)

  pub field_is : {r : ℕ} → r ≡ number_at (width i f) b (place_in v i + e * entry_size i + fields_before i f) → r ≡ field_at (layout_of b) b i f e
  unfolding layout_of kind1 field_width bytes_before entry_bytes field_at
  field_is q = rw place_is at q
