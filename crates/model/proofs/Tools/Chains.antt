-- Chains of iterators over the numbers below a count, and ranges of numbers that contain one. Assumes nothing.
use Rattle.model.proofs.Basics.{◌≡◌, refl, sym, ap, ap₂, ◌∙◌, Bool, ◌&&◌, ◌||◌, ℕ, zero, suc, ◌≤◌, ◌<◌, take, get_or, take_all, add-one, zero-add, arith}
use Rattle.model.specs.{any_below, is_between}
use Rattle.std.proofs.Common.{tests}
use Rattle.std.specs.declared.ops.Range.{Range}
use Rattle.std.specs.Fn.{Called}
use Rattle.std.specs.Iterator.{CallableAtEachTurn, ChecksAny}
use Rattle.std.specs.List.{list_any, range_with_len}
use Rattle.std.specs.Ordering.{nat_cmp, is_le}
use Rattle.std.proofs.iter.Yields.{nat_range_steps}
use Rattle.std.proofs.lemmas.Iterator.{YieldsList-from_range, serves_from_Range}
use Rattle.std.proofs.lemmas.Iterator.Search.{any_from_yields_List}
use Rattle.std.proofs.lemmas.List.Folds.{list_any_more}
use Rattle.std.proofs.lemmas.List.FromFn.{length-range_with_len, get_or-range_with_len}
use denote.Param.Members.{Mut}

module _ (test : ℕ → Bool) (n : ℕ) where
  so_far : (i : ℕ) → i ≤ n → list_any test (take i (range_with_len 0 n)) ≡ any_below i test
  so_far zero l = refl
  so_far (suc i) l =
      let xs = range_with_len 0 n in
      let m = list_any_more test xs i 0 (omega (arith, length-range_with_len 0 n)) in
      let e : list_any test (take (suc i) xs) ≡ (list_any test (take i xs) || test (get_or xs i 0)) = rw add-one at m in
      e ∙ ap₂ ◌||◌ (so_far i (omega arith)) (ap test (get_or-range_with_len 0 n i 0 (omega arith) ∙ zero-add i))

  over_range : list_any test (range_with_len 0 n) ≡ any_below n test
  over_range = ap (list_any test) (sym (take_all n _ (omega (arith, length-range_with_len 0 n)))) ∙ so_far n (omega arith)

-- the code's count m is the n of the definition
module _ {m n : ℕ} (e : m ≡ n) where
  -- the closure may be called at each number below n, and a call leaves it as it was
  pub callable_below : {P : Type 0} {R : P → ℕ → P → Type 0} {Q : P → ℕ → Type 0} {p : P} → ((x : ℕ) (q : P) → R p x q → q ≡ p) → ((x : ℕ) → x < n → Q p x) → CallableAtEachTurn nat_range_steps R Q (record { start = 0; end = m }) p
  callable_below same at = serves_from_Range same (λ x low high. at x (omega arith))

  -- each call of the closure f gives the test
  pub any_is : {F : Type 0} {g : Mut F (ℕ × Unit {0}) Bool} {u : Range ℕ} {f : F} {r : Bool} (test : ℕ → Bool) → ChecksAny nat_range_steps g (record { start = 0; end = m }) f r u → ((x : ℕ) (b : Bool) (q : F) → Called g f (x, tt) b q → (q ≡ f) × (b ≡ test x)) → r ≡ any_below n test
  any_is test ran gives = any_from_yields_List test _ _ _ ran (YieldsList-from_range 0 m m refl (omega arith)) gives ∙ over_range test m ∙ ap (λ (k : ℕ). any_below k test) e

pub contains_is : (lo hi x : ℕ) → (is_le (nat_cmp lo x) && is_le (nat_cmp x hi)) ≡ is_between lo hi x
unfolding is_between
contains_is lo hi x = grind (arith, tests)
