-- A loop that walks a list: what a definition that goes by the list's head says of the list from place i on. Assumes nothing.
use Rattle.model.proofs.Basics.{◌≡◌, sym, Bool, true, false, List, ◌∷◌, ℕ, ◌+◌, ◌≤◌, ◌<◌, add-one, arith, length, get_or, drop}
use Rattle.model.proofs.Basics.{drop_of_length-le, drop-cons, eq-eqb, ne_eqb}
use Rattle.model.specs.{all_in, index_of}

-- its element at i, then the list from i + 1 on
pub from : (xs : List ℕ) (i : ℕ) → i < length xs → drop i xs ≡ get_or xs i 0 ∷ drop (i + 1) xs
from xs i l = rw (add-one, drop-cons xs i 0)

-- ---- where t first stands in the list: not before i

pub record Missed (t : ℕ) (xs : List ℕ) (i : ℕ) : Type 0 where
  pub within : i ≤ length xs
  pub place : i + index_of t (drop i xs) ≡ index_of t xs

module _ {t : ℕ} {xs : List ℕ} {i : ℕ} (h : Missed t xs i) where
  pub index_next : i < length xs → (get_or xs i 0 ≡ t → ⊥) → Missed t xs (i + 1)
  index_next l e = record {
    within = omega arith;
    place = omega (arith, rw (from xs i l, ne_eqb (get_or xs i 0) t e) at h.place);
  }

  pub index_here : i < length xs → get_or xs i 0 ≡ t → i ≡ index_of t xs
  index_here l e = omega (arith, rw (from xs i l, eq-eqb (get_or xs i 0) t e) at h.place)

  pub index_none : length xs ≤ i → i ≡ index_of t xs
  index_none l = omega (arith, rw (drop_of_length-le xs l) at h.place)

-- ---- whether every element passes a test: each before i does

pub record PassedTo (test : ℕ → Bool) (xs : List ℕ) (i : ℕ) : Type 0 where
  pub within : i ≤ length xs
  pub rest : all_in test (drop i xs) ≡ all_in test xs

module _ {test : ℕ → Bool} {xs : List ℕ} {i : ℕ} (h : PassedTo test xs i) where
  pub pass_next : i < length xs → test (get_or xs i 0) ≡ true → PassedTo test xs (i + 1)
  pass_next l e = record { within = omega arith; rest = rw (from xs i l, e) at h.rest }

  pub pass_fails : i < length xs → test (get_or xs i 0) ≡ false → all_in test xs ≡ false
  pass_fails l e = sym (rw (from xs i l, e) at h.rest)

  pub pass_all : length xs ≤ i → all_in test xs ≡ true
  pass_all l = sym (rw (drop_of_length-le xs l) at h.rest)
