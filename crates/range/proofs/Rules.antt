-- A search through the access rules for a door or a least count out of range, which joins the watched tasks that it passes. Assumes nothing.
use Rattle.model.proofs.Basics.{◌≡◌, refl, sym, ◌∙◌, Bool, true, false, ◌||◌, ℕ, ◌+◌, ◌^◌, ◌≤◌, ◌<◌, min, add-one, lit<, arith, leb, ltb, pow_mono}
use Rattle.model.proofs.Basics.{pow_pos, le-leb, lt-leb, leb-true, leb-false, ltb-true, ltb-false}
use mathlib.Core.Bool.{or-true, or-false}
use Rattle.model.specs.{any_below, Layout, bad_rule, some_bad_rule}
use Rattle.model.specs.Sheet.{Sheet}
use Rattle.model.proofs.Tools.Tests.{by_test, any_cong, any_true, none_at}
use Rattle.model.proofs.Tools.Searches.{Searched, none_tried, next, none_found}
use lib.Bits.{bit_or, or_add_and, or_lt, and_le_l, and_le_r}
use Rattle.range.specs.Rules.{watched_bits, bad_door_or_count, watches_beyond}

-- a number of k bits has no bit from k on
pub no_further : (k n w : ℕ) → w < 2 ^ k → leb (2 ^ min n k) w ≡ leb (2 ^ n) w
no_further k n w l = by_test (ltb n k)
    (λ t. let h = ltb-true n k t in let m : min n k ≡ n = omega arith in rw m)
    (λ t. let h = ltb-false n k t in let m : min n k ≡ k = omega arith in rw (m, lt-leb (2 ^ k) w l, lt-leb (2 ^ n) w (omega (arith, pow_mono h))))

-- two numbers joined have a bit at n or above exactly if one of them has
joined : (n a b : ℕ) → leb (2 ^ n) (bit_or a b) ≡ (leb (2 ^ n) a || leb (2 ^ n) b)
joined n a b = by_test (leb (2 ^ n) a)
    (λ h. rw h (le-leb (2 ^ n) (bit_or a b) (omega (arith, leb-true (2 ^ n) a h, or_add_and a b, and_le_r a b))))
    (λ h. by_test (leb (2 ^ n) b)
    (λ k. rw (h, k) (le-leb (2 ^ n) (bit_or a b) (omega (arith, leb-true (2 ^ n) b k, or_add_and a b, and_le_l a b))))
    (λ k. rw (h, k) (lt-leb (2 ^ n) (bit_or a b) (or_lt n a b (leb-false (2 ^ n) a h) (leb-false (2 ^ n) b k)))))

module _ (L : Layout) (S : Sheet) where
  -- door and least count, and what is watched
  pub bad_rule_is : (i : ℕ) → bad_rule L S i ≡ (bad_door_or_count L S i || watches_beyond S i)
  unfolding bad_rule bad_door_or_count watches_beyond
  bad_rule_is i = last_first (leb S.doors (S.rule_door i)) _ _
    where
      last_first : (a b c : Bool) → (a || b || c) ≡ (a || c || b)
      last_first true b c = refl
      last_first false true c = sym (or-true c)
      last_first false false c = sym (or-false c)

  -- of the m rules those below i are looked at: door and least count of each are in range, and w is what they watch together
  pub record Passed (m w i : ℕ) : Type 0 where
    pub searched : Searched m (bad_door_or_count L S) i
    pub narrow : w < 2 ^ watched_bits
    pub watched : leb (2 ^ S.tasks) w ≡ any_below i (watches_beyond S)

  pub none_passed : {m : ℕ} → Passed m 0 0
  none_passed = record { searched = record { opposite = none_tried }; narrow = lit< tt; watched = lt-leb _ _ (pow_pos S.tasks) }

  module _ {m w i : ℕ} (p : Passed m w i) where
    -- r and x are what the code finds of rule i
    pub one_more : {r : Bool} {x : ℕ} → i < m → r ≡ bad_door_or_count L S i → r ≡ false → x ≡ S.watched i → x < 2 ^ watched_bits → Passed m (bit_or w x) (i + 1)
    unfolding watches_beyond
    one_more {r} {x} l h t e b = record {
      searched = next p.searched l h t;
      narrow = or_lt watched_bits w x p.narrow b;
      watched = joined S.tasks w x ∙ rw (add-one, p.watched, e);
    }

    -- all are looked at, and `lists` is the number of lists of as many tasks as can be watched
    pub all_looked_at : {lists : ℕ} → m ≤ i → m ≡ S.rules → lists ≡ 2 ^ min S.tasks watched_bits → leb lists w ≡ some_bad_rule L S
    unfolding some_bad_rule
    all_looked_at l e h =
        let whole : S.rules ≡ i = omega (arith, p.searched.opposite.within) in
        let none = sym (none_found p.searched l e) in
        rw (h, no_further watched_bits S.tasks w p.narrow, p.watched, ← whole)
        (sym (any_cong S.rules _ _ (λ j k. rw (bad_rule_is j, none_at S.rules _ none j k))))

  -- a rule whose door or least count is out of range is bad
  pub one_bad : {m i : ℕ} {r : Bool} → i < m → m ≡ S.rules → r ≡ bad_door_or_count L S i → r ≡ true → true ≡ some_bad_rule L S
  unfolding some_bad_rule
  one_bad {m} {i} l e h t = sym (any_true S.rules _ i (omega arith) (rw (bad_rule_is i, sym h ∙ t)))
