-- A sheet that 10 to 13 do not refuse has the layout that reading over its view asks for, and numbers of entries within the table; so has
-- one that reads. Assumes nothing.
use Rattle.model.proofs.Basics.{◌≡◌, List, ℕ, ◌*◌, arith, lit<, length, eqb-true, not-false}
use Rattle.model.specs.{any_below, distances_body, bodies, kind1, entries, body_at, decode_by, layout_of, decode, wrong_line, wrong_length}
use Rattle.model.specs.{wrong_places, CountsWithin}
use Rattle.model.proofs.Tools.Tests.{or_right}
use Rattle.model.proofs.Bytes.Entries.{entries_within, counts_within}
use Rattle.model.proofs.Calls.Reading.{Reads}
use Rattle.view.specs.declared.View.{View}
use Rattle.view.specs.Views.{view_of, Viewed}
use Rattle.sheet.specs.Layouts.{LaidOut}

module _ {b : List ℕ} (h : LaidOut b) where
  pub counts : CountsWithin (decode b)
  counts = counts_within b (entries_within (layout_of b) b h.entries)

  squared : entries b distances_body ≡ (decode b).points * (decode b).points
  unfolding layout_of kind1 decode_by decode
  squared = let e = entries_within (layout_of b) b h.entries distances_body (lit< tt) in omega (arith, e.0, e.1)

  ended : length b ≡ body_at (layout_of b) b bodies
  unfolding wrong_places wrong_length
  ended = eqb-true _ _ (not-false _ (or_right (any_below bodies (wrong_line (layout_of b) b)) _ h.places))

  pub viewed : {v : View} → v ≡ view_of b → Viewed b v
  viewed e = record { is = e; square = squared; ends = ended }

pub reads_laid : {b : List ℕ} → Reads b → LaidOut b
reads_laid h = let c = h.passed_tests in record { long = c.long; kind = c.kind; entries = c.counts; places = c.places }
