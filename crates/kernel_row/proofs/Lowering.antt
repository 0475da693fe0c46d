-- The leasts of a row, lowered from the front by a loop: each stands in a float, and what stood there before is lowered by what its point costs. Assumes nothing.
use Rattle.model.proofs.Basics.{◌≡◌, refl, ◌∙◌, List, ℕ, ◌+◌, ◌*◌, ◌%◌, ◌^◌, ◌≤◌, ◌<◌, arith, length, get_or, set, length-set, get_or-set_same}
use Rattle.model.proofs.Basics.{get_or-set_other}
use Rattle.model.proofs.Tools.Tests.{by_last}
use native.Mathlib.Nat.{mod-eq_of_lt}
use lib.Ieee.{Float, nan}
use Rattle.minimum.specs.Floats.{Holds}
use Rattle.kernel_row.specs.Leasts.{no_cost}
use Rattle.kernel_row.specs.Held.{Held}

-- ---- the cost through a door

-- the distance of 32 bits, as the code takes it
module _ (distance load part : ℕ) (wide : distance < 2 ^ 32) where
  pub cost_is : distance % 2 ^ 32 * load + part ≡ distance * load + part
  cost_is = rw (mod-eq_of_lt wide)

  pub cost_small : distance * load + part < no_cost → distance % 2 ^ 32 * load + part < no_cost
  cost_small h = rw cost_is h

-- ---- floats that a loop lowers

-- the numbers before place p are lowered, each by `low` of its place, and the floats from p on are as they were
pub record LoweredBelow (low : ℕ → ℕ → ℕ) (before after : List Float) (p : ℕ) : Type 0 where
  pub size : length after ≡ length before
  pub done : (q n : ℕ) → q < p → Holds (get_or before q nan) n → Holds (get_or after q nan) (low q n)
  pub rest : (q : ℕ) → p ≤ q → get_or after q nan ≡ get_or before q nan

pub none_lowered : (low : ℕ → ℕ → ℕ) (xs : List Float) → LoweredBelow low xs xs 0
none_lowered low xs = record { size = refl; done = λ q n l. absurd (omega arith); rest = λ q l. refl }

module _ {low : ℕ → ℕ → ℕ} {before now : List Float} {p : ℕ} (h : LoweredBelow low before now p) where
  -- r is what the code stores
  pub one_lowered : (r : Float) → p < length now → ((n : ℕ) → Holds (get_or now p nan) n → Holds r (low p n)) → LoweredBelow low before (set now p r) (p + 1)
  one_lowered r l k = record {
    size = length-set now p r ∙ h.size;
    done = λ q n m x. by_last q p (omega arith)
        (λ e. rw (e, get_or-set_same now p r nan l) (k n (rw (h.rest p (omega arith), ← e) x)))
        (λ b. rw (get_or-set_other now p q r nan (λ e. omega arith)) (h.done q n b x));
    rest = λ q m. get_or-set_other now p q r nan (λ e. omega arith) ∙ h.rest q (omega arith);
  }

  -- what stands at p is what stood there
  pub still : {n : ℕ} → Holds (get_or before p nan) n → Holds (get_or now p nan) n
  still x = rw (h.rest p (omega arith)) x

  pub all_lowered : {f : ℕ → ℕ} (n : ℕ) → n ≤ p → Held f n before → Held (λ q. low q (f q)) n now
  all_lowered {f} n l g q m = h.done q (f q) (omega arith) (g q m)
