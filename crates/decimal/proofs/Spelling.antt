-- The digits of a number: how many there are at most, and found one after the other, from the last to the first. Assumes nothing.
use Rattle.model.proofs.Basics.{◌≡◌, refl, sym, ap, ◌∙◌, ⊎_elim, Bool, true, false, List, [], ◌∷◌, ◌++◌, append_assoc, append-nil, ℕ}
use Rattle.model.proofs.Basics.{zero, suc, ◌+◌, ◌-◌, ◌*◌, ◌/◌, ◌%◌, ◌^◌, ◌≤◌, ◌<◌, arith, ltb, length, take, drop, set, length-append}
use Rattle.model.proofs.Basics.{length-set, take_all, drop_of_length-le, drop-cons, get_or-set_same, ltb-true, ltb-false, lt-ltb, le-ltb}
use Rattle.model.specs.{decimal_by, decimal}
use Rattle.model.proofs.Tools.Tests.{tested}
use native.Mathlib.Nat.{pow-suc}
use lib.ListN.{length-drop}
use lib.Seq.{drop-set-lt}

-- ---- a number below ten is one digit, and any other its tenth and a last digit

-- a step of the definition, by its test
abbrev by_test : ℕ → ℕ → Bool → List ℕ
by_test k n t = elim t as (λ c. List ℕ) [ true ↦ (48 + n) ∷ [] | false ↦ decimal_by k (n / 10) ++ ((48 + n % 10) ∷ []) ]

by_one : (k n : ℕ) → n < 10 → decimal_by k n ≡ (48 + n) ∷ []
by_one zero n h = refl
by_one (suc k) n h = ap (by_test k n) (lt-ltb n 10 h)

by_more : (k n : ℕ) → 9 < n → decimal_by (suc k) n ≡ decimal_by k (n / 10) ++ ((48 + n % 10) ∷ [])
by_more k n h = ap (by_test k n) (le-ltb n 10 (omega arith))

-- any number of divisions that is enough yields the same
enough : (j k n : ℕ) → n ≤ j → n ≤ k → decimal_by j n ≡ decimal_by k n
enough zero k n h l = sym (by_one k n (omega arith))
enough (suc j) zero n h l = by_one (suc j) n (omega arith)
enough (suc j) (suc k) n h l = ⊎_elim
    (λ (t : ltb n 10 ≡ true). by_one (suc j) n (ltb-true n 10 t) ∙ sym (by_one (suc k) n (ltb-true n 10 t)))
    (λ (t : ltb n 10 ≡ false). let m : 9 < n = omega (arith, ltb-false n 10 t) in
    by_more j n m ∙ ap (λ (xs : List ℕ). xs ++ ((48 + n % 10) ∷ [])) (enough j k (n / 10) (omega arith) (omega arith)) ∙ sym (by_more k n m))
    (tested (ltb n 10))

pub one_digit : (n : ℕ) → n < 10 → decimal n ≡ (48 + n) ∷ []
unfolding decimal
one_digit n h = by_one n n h

pub more_digits : (n : ℕ) → 9 < n → decimal n ≡ decimal (n / 10) ++ ((48 + n % 10) ∷ [])
unfolding decimal
more_digits n h =
    enough n (suc n) n (omega arith) (omega arith) ∙ by_more n n h
    ∙ ap (λ (xs : List ℕ). xs ++ ((48 + n % 10) ∷ [])) (enough n (n / 10) (n / 10) (omega arith) (omega arith))

-- ---- how many there are

longer : (n : ℕ) → 9 < n → length (decimal n) ≡ 1 + length (decimal (n / 10))
longer n h = ap length (more_digits n h) ∙ simp length-append (omega arith)

-- a number below the k-th power of ten has at most k digits, and at least one
pub few_digits : (k n : ℕ) → n < 10 ^ suc k → length (decimal n) ≤ suc k
few_digits zero n h = omega (arith, ap length (one_digit n h))
few_digits (suc k) n h = ⊎_elim
    (λ (t : ltb n 10 ≡ true). omega (arith, ap length (one_digit n (ltb-true n 10 t))))
    (λ (t : ltb n 10 ≡ false). let l : n < 10 ^ suc k * 10 = rw pow-suc at h in
    omega (arith, longer n (omega (arith, ltb-false n 10 t)), few_digits k (n / 10) (omega arith)))
    (tested (ltb n 10))

-- ---- found from the last to the first: from place k on the array a has the digits behind those of what is left

pub record Spelt (n rest k : ℕ) (a : List ℕ) : Type 0 where
  pub some : 1 ≤ k
  pub within : k ≤ length a
  pub small : rest < 10 ^ k
  pub split : decimal n ≡ decimal rest ++ drop k a

pub none_spelt : (n : ℕ) (a : List ℕ) → 1 ≤ length a → n < 10 ^ length a → Spelt n n (length a) a
none_spelt n a l h = record {
  some = l;
  within = omega arith;
  small = h;
  split = rw (drop_of_length-le a {i = length a} (omega arith)) (sym (append-nil (decimal n)));
}

some_place : (x j : ℕ) → 0 < x → x < 10 ^ j → 1 ≤ j
some_place x zero h l = absurd (omega arith)
some_place x (suc j) h l = omega arith

module _ {n rest k : ℕ} {a : List ℕ} (s : Spelt n rest k a) where
  -- the digit that the code stores next
  stored : drop (k - 1) (set a (k - 1) (48 + rest % 10)) ≡ (48 + rest % 10) ∷ drop k a
  stored =
      let next : suc (k - 1) ≡ k = omega (arith, s.some) in
      let here : k - 1 < length a = omega (arith, s.some, s.within) in
      let less : k - 1 < suc (k - 1) = omega arith in
      let there : k - 1 < length (set a (k - 1) (48 + rest % 10)) = rw length-set here in
      rw (drop-cons (set a (k - 1) (48 + rest % 10)) (k - 1) 0, get_or-set_same, drop-set-lt, next)

  pub one_spelt : 0 < rest / 10 → Spelt n (rest / 10) (k - 1) (set a (k - 1) (48 + rest % 10))
  one_spelt h =
      let next : k ≡ suc (k - 1) = omega (arith, s.some) in
      let big : rest < 10 ^ (k - 1) * 10 = rw (next, pow-suc) at s.small in
      record {
        some = some_place (rest / 10) (k - 1) h (omega arith);
        within = rw length-set (omega (arith, s.within));
        small = omega arith;
        split = rw (stored, s.split, more_digits rest (omega arith)) (append_assoc (decimal (rest / 10)) _ (drop k a));
      }

  -- what the code hands on is the array of m digits from there on
  pub all_spelt : (m : ℕ) → length a ≡ m → rest / 10 ≡ 0 → take (m - (k - 1)) (drop (k - 1) (set a (k - 1) (48 + rest % 10))) ≡ decimal n
  all_spelt m e h =
      let last : rest % 10 ≡ rest = omega arith in
      let all : length ((48 + rest % 10) ∷ drop k a) ≤ m - (k - 1) = rw length-drop (omega (arith, s.some, s.within)) in
      rw (stored, take_all (m - (k - 1)) ((48 + rest % 10) ∷ drop k a) all, s.split, last, one_digit rest (omega arith))
