-- The 16 that was tested until 02's Req 03: the load of the lightest list of all. And what has become of planning since, by the old order of tests. `since_then` proves
-- it (02, Req 03). The code tests the lightest list first, because where its load is not below zero no list's is. Assumes nothing.
use Rattle.std.specs.Prelude.{◌≡◌, ◌⊎◌, Bool, false, cond, List, [], ◌∷◌, ℕ, zero, suc, ◌+◌, ◌*◌, ◌^◌, ◌≤◌, ℤ, pos, ◌+ℤ◌, length}
use Rattle.std.specs.Int.Signed.{lt_z}
use Rattle.model.specs.Folds.{sum_below}
use Rattle.model.specs.Sheet.{Sheet}
use Rattle.model.specs.Orders.{no_order}
use Rattle.model.specs.Plans.{cheapest}
use Rattle.model.specs.Answer.{Answer, refused, accepted, Test, ◌when◌, refuse_first}
use Rattle.model.specs.SheetLayout.{layout_of, decode}
use Rattle.model.specs.Faults.{too_short, wrong_kind, some_wrong_entries, wrong_places, out_of_range, some_lacks_door, too_light, unless_fault}
use Rattle.model.specs.Planning.{room_tests, or_no_order, Planned, carried_out, plan}
use Rattle.model.specs.Passing.{down}

-- ---- the old 16 (01, Numbers a call can answer with)

-- the end load plus all negative changes, which is the load of the lightest list; here of the tasks below n
abbrev pub lightest_below : Sheet → ℕ → ℤ
lightest_below S zero = pos S.end_load
lightest_below S (suc n) = lightest_below S n +ℤ cond (lt_z (S.change n) (pos 0)) (S.change n) (pos 0)

-- it is below zero
unfoldable pub lightest_too_light : Sheet → Bool
lightest_too_light S = lt_z (lightest_below S S.tasks) (pos 0)

-- in plain facts it is not: all that is taken away is at most the end load
abbrev pub LightestHolds : Sheet → Type 0
LightestHolds S = sum_below S.tasks (λ j. down (S.change j)) ≤ S.end_load

-- ---- planning as it was

-- the sheet's own numbers in their old order, with the old 16
unfoldable pub tests_before : List ℕ → List Test
tests_before b =
    (10 when too_short b)
    ∷ (11 when wrong_kind (layout_of b) b)
    ∷ (12 when some_wrong_entries (layout_of b) b)
    ∷ (13 when wrong_places (layout_of b) b)
    ∷ (14 when out_of_range (layout_of b) (decode b))
    ∷ (15 when some_lacks_door (decode b))
    ∷ (16 when lightest_too_light (decode b))
    ∷ (17 when no_order (decode b))
    ∷ []

-- planning by them: all else is as it is
unfoldable pub plan_before : List ℕ → List ℕ → List ℕ → Planned
plan_before b cells buffer =
    let room = refuse_first (room_tests (decode b) (length cells) (length buffer)) (or_no_order (cheapest (decode b))) in
    carried_out (decode b) (refuse_first (tests_before b) room) cells buffer

-- ---- since then

pub record SinceThen (b : List ℕ) : Type 1 where
  -- a sheet that passes the old 16 passes the new one
  pub passes : lightest_too_light (decode b) ≡ false → too_light (decode b) ≡ false
  -- and every call then answers what it did
  pub answers_alike : {A : Type 0} (a : Answer A) → lightest_too_light (decode b) ≡ false → unless_fault b a ≡ refuse_first (tests_before b) a
  -- what was planned is planned, with the same cost, cells and bytes
  pub planned_alike : (cells buffer : List ℕ) (c : ℕ) → (plan_before b cells buffer).answer ≡ accepted c → plan b cells buffer ≡ plan_before b cells buffer
  -- what was refused with another number than 16 is refused with the same
  pub refused_alike : (cells buffer : List ℕ) (r : ℕ) → (r ≡ 16 → ⊥) → (plan_before b cells buffer).answer ≡ refused r → plan b cells buffer ≡ plan_before b cells buffer
  -- what was refused with 16 is refused with 17, refused with 16, or planned, given room
  pub got_16 : (cells buffer : List ℕ) → 2 ^ (decode b).tasks * (decode b).points ≤ length cells → 32 + 2 * (decode b).tasks ≤ length buffer
      → (plan_before b cells buffer).answer ≡ refused 16
      → ((plan b cells buffer).answer ≡ refused 17) ⊎ (((plan b cells buffer).answer ≡ refused 16) ⊎ ((c : ℕ) × ((plan b cells buffer).answer ≡ accepted c)))
