-- The access rules in the code: the sum of what those below i cost is part of the sum of all. Assumes nothing.
use Rattle.model.proofs.Basics.{◌≡◌, ap, ap₂, ◌∙◌, List, ℕ, ◌+◌, ◌≤◌, ◌<◌, le_refl, add-one, arith, get_or}
use Rattle.model.specs.{sum_below, rule_charge}
use Rattle.model.specs.Sheet.{Sheet}
use native.Mathlib.Decide.{le_ind}
use Rattle.route.specs.Routes.{charges_with}

-- what rule j costs with the list at its door
abbrev charged : Sheet → List ℕ → ℕ → ℕ
charged S lists j = rule_charge S (get_or lists (S.rule_door j) 0) j

-- the sum in the code, of what the rules below i cost
pub record ChargedBelow (S : Sheet) (lists : List ℕ) (i sum : ℕ) : Type 0 where
  pub is : sum ≡ sum_below i (charged S lists)

-- it is part of the whole
sum_part : (f : ℕ → ℕ) (m n : ℕ) → m ≤ n → sum_below m f ≤ sum_below n f
sum_part f m n l = le_ind (λ (k : ℕ). sum_below m f ≤ sum_below k f) (le_refl (sum_below m f)) (λ k a e. omega (arith, e)) n l

module _ {S : Sheet} {lists : List ℕ} {i sum : ℕ} (h : ChargedBelow S lists i sum) where
  -- rule i is on `door`, and r is what it costs
  module _ {door r : ℕ} (e : door ≡ S.rule_door i) (q : r ≡ rule_charge S (get_or lists door 0) i) where
    pub next_rule : ChargedBelow S lists (i + 1) (sum + r)
    next_rule = rw add-one (record { is = ap₂ ◌+◌ h.is (rw e at q) })

    pub rule_fits : {w : ℕ} → i < S.rules → charges_with S lists < w → sum + r < w
    unfolding charges_with
    rule_fits l f = omega (arith, next_rule.is, sum_part (charged S lists) (i + 1) S.rules (omega arith), f)

  pub all_rules : i ≡ S.rules → sum ≡ charges_with S lists
  unfolding charges_with
  all_rules e = h.is ∙ ap (λ (n : ℕ). sum_below n (charged S lists)) e
