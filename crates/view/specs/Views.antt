-- A view of a sheet: its counts and the places of its bodies (01, Layout of a task sheet). Assumes nothing.
use Rattle.std.specs.Prelude.{◌≡◌, List, ℕ, ◌*◌, length}
use Rattle.model.specs.SheetLayout.{doors_body, starts_body, pairs_body, rules_body, points_body, distances_body, bodies, entries, body_at, layout_of, decode}
use Rattle.view.specs.declared.Places.{Places}
use Rattle.view.specs.declared.View.{View}

-- the places of the bodies behind the first
unfoldable pub places_of : List ℕ → Places
places_of b = record {
  doors = body_at (layout_of b) b doors_body;
  starts = body_at (layout_of b) b starts_body;
  pairs = body_at (layout_of b) b pairs_body;
  rules = body_at (layout_of b) b rules_body;
  points = body_at (layout_of b) b points_body;
  distances = body_at (layout_of b) b distances_body;
}

-- the view of the sheet b
unfoldable pub view_of : List ℕ → View
view_of b = record {
  tasks = (decode b).tasks;
  doors = (decode b).doors;
  starts = (decode b).starts;
  pairs = (decode b).pairs;
  rules = (decode b).rules;
  points = (decode b).points;
  at = places_of b;
}

-- what reading over a view asks: v is the view of the sheet b, and the layout holds: there are P times P distances, as 12 has tested, and the sheet ends
-- with its last body, as 13 has
pub record Viewed (b : List ℕ) (v : View) : Type 0 where
  pub is : v ≡ view_of b
  pub square : entries b distances_body ≡ (decode b).points * (decode b).points
  pub ends : length b ≡ body_at (layout_of b) b bodies
