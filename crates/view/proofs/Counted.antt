-- The counts in a view are those of the sheet. Assumes nothing.
use Rattle.model.proofs.Basics.{◌≡◌, ap, List, ℕ}
use Rattle.model.specs.{decode}
use Rattle.view.specs.declared.View.{View}
use Rattle.view.specs.Views.{view_of, Viewed}

module _ {b : List ℕ} {v : View} (h : Viewed b v) where
  pub tasks_are : v.tasks ≡ (decode b).tasks
  unfolding view_of
  tasks_are = ap (λ (x : View). x.tasks) h.is

  pub doors_are : v.doors ≡ (decode b).doors
  unfolding view_of
  doors_are = ap (λ (x : View). x.doors) h.is

  pub starts_are : v.starts ≡ (decode b).starts
  unfolding view_of
  starts_are = ap (λ (x : View). x.starts) h.is

  pub pairs_are : v.pairs ≡ (decode b).pairs
  unfolding view_of
  pairs_are = ap (λ (x : View). x.pairs) h.is

  pub rules_are : v.rules ≡ (decode b).rules
  unfolding view_of
  rules_are = ap (λ (x : View). x.rules) h.is

  pub points_are : v.points ≡ (decode b).points
  unfolding view_of
  points_are = ap (λ (x : View). x.points) h.is
