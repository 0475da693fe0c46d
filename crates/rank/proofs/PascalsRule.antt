-- A table of 17 rows of 17 that follows Pascal's rule has the binomials: one test over the whole table, which antt computes, gives the rule at each entry, and
-- the rule gives the binomial, from the row above. The table is given by its entries, in row n at place k. Assumes nothing.
use Rattle.model.proofs.Basics.{◌≡◌, ap₂, ◌∙◌, Bool, true, ℕ, zero, suc, ◌+◌, ◌≤◌, arith, eqb, eqb-true}
use Rattle.model.specs.{all_below}
use Rattle.model.proofs.Tools.Tests.{all_at}
use Rattle.rank.specs.Binomials.{binomial}
use Rattle.rank.specs.Ranks.{max_ranked}

-- what the rule has in row n at place k
abbrev rule : (ℕ → ℕ → ℕ) → ℕ → ℕ → ℕ
rule entry n zero = 1
rule entry zero (suc k) = 0
rule entry (suc n) (suc k) = entry n k + entry n (suc k)

abbrev ruled_at : (ℕ → ℕ → ℕ) → ℕ → ℕ → Bool
ruled_at entry n k = eqb (entry n k) (rule entry n k)

abbrev ruled_row : (ℕ → ℕ → ℕ) → ℕ → Bool
ruled_row entry n = all_below (suc max_ranked) (ruled_at entry n)

-- the rule holds at every entry
abbrev pub follows_rule : (ℕ → ℕ → ℕ) → Bool
follows_rule entry = all_below (suc max_ranked) (ruled_row entry)

module _ (entry : ℕ → ℕ → ℕ) (t : follows_rule entry ≡ true) where
  ruled : (n k : ℕ) → n ≤ max_ranked → k ≤ max_ranked → entry n k ≡ rule entry n k
  ruled n k h l =
      let row = all_at (suc max_ranked) (ruled_row entry) t n (omega arith) in
      eqb-true (entry n k) (rule entry n k) (all_at (suc max_ranked) (ruled_at entry n) row k (omega arith))

  pub tabled : (n k : ℕ) → n ≤ max_ranked → k ≤ max_ranked → entry n k ≡ binomial n k
  tabled n zero h l = ruled n 0 h l
  tabled zero (suc k) h l = ruled 0 (suc k) h l
  tabled (suc n) (suc k) h l = ruled (suc n) (suc k) h l ∙ ap₂ ◌+◌ (tabled n k (omega arith) (omega arith)) (tabled n (suc k) (omega arith) l)
