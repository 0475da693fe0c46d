-- The head lies within a sheet that is viewed, and so do the distances, counted by row and column. Assumes nothing.
use Rattle.model.proofs.Basics.{◌≡◌, List, ℕ, ◌+◌, ◌*◌, ◌≤◌, ◌<◌, add-zero, arith, lit<, length}
use Rattle.model.specs.{number_at, distances_body, line_at, decode_by, decode}
use lib.Arith.{digits_lt}
use Rattle.view.proofs.Fields.{within, field_is}
use Rattle.view.proofs.Counted.{points_are}
use Rattle.view.specs.declared.View.{View}
use Rattle.view.specs.Views.{Viewed}

pub head_within : {b : List ℕ} {v : View} → Viewed b v → 46 ≤ length b
unfolding line_at
head_within h = rw h.ends (omega arith)

module _ {b : List ℕ} {v : View} (h : Viewed b v) (p q : ℕ) (lp : p < (decode b).points) (lq : q < (decode b).points) where
  -- the distance from p to q is among the P times P
  pub distance_within : v.at.distances + (p * v.points + q) * 2 + 2 ≤ length b
  distance_within =
      let w = within h distances_body 0 (p * (decode b).points + q) (lit< tt) (rw h.square (digits_lt lp lq)) in
      rw (points_are h) (omega (arith, w))

  -- and is the only field of the last body, at the entry that row and column give
  pub distance_is : (r : ℕ) → r ≡ number_at 2 b (v.at.distances + (p * v.points + q) * 2) → r ≡ (decode b).distance p q
  unfolding decode_by decode
  distance_is r e = field_is h distances_body 0 _ (lit< tt) (rw add-zero (rw (points_are h) at e))
