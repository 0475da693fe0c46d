-- The next list of the same size: of K = (2 q + 1) 2 ^ b, with q + 1 = (2 c + 1) 2 ^ e, it is (2 c + 1) 2 ^ (e + b + 1) + 2 ^ e - 1. Up to the multiple of
-- 2 ^ (b + 1) that K is carried to, the lists have K's tasks and more, and from there to the next one fewer. Assumes nothing.
use Rattle.model.proofs.Basics.{◌≡◌, refl, sym, ap, ◌∙◌, ℕ, zero, suc, ◌+◌, ◌-◌, ◌*◌, ◌/◌, ◌%◌, ◌^◌, ◌≤◌, ◌<◌, zero-add, suc-add, mul-one, arith, ltb}
use Rattle.model.proofs.Basics.{ltb-true, ltb-false, pow_pos, pow_mono, lt_of_lt_of_le, ap₂}
use Rattle.model.specs.{size}
use Rattle.model.proofs.Tools.Tests.{by_test, by_last}
use Rattle.model.proofs.TaskLists.Masks.{size_is, size_zero}
use Rattle.rank.specs.Ranks.{NextOfSize}
use Rattle.rank.proofs.Sizes.{size_narrow, pow_size}
use Rattle.model.proofs.TaskLists.Lowest.{lowest, task_below}
use Rattle.tasklist.proofs.Shifts.{ones_sum, one_bit}
use native.Mathlib.Nat.{suc-mul, mul_assoc, pow-suc, le-add_right}
use lib.Pow.{pow-add, shr_lt, shl-shr}
use lib.Bits.{shifted_half, shifted_even}
use lib.Count.{ones, ones_step, ones_cat, ones-ones, count_trailing_zeros, trailing_le}

-- ---- trailing zeros

doubled : (x t : ℕ) → x * 2 ^ suc t ≡ x * 2 ^ t * 2
doubled x t = rw (pow-suc 2 t) (omega arith)

-- j zeros more at the end
trailing_shifted : (j k m : ℕ) → count_trailing_zeros (j + k) (m * 2 ^ j) ≡ j + count_trailing_zeros k m
unfolding count_trailing_zeros
trailing_shifted zero k m = rw (zero-add k, mul-one m, zero-add (count_trailing_zeros k m))
trailing_shifted (suc j) k m = rw (suc-add j k, shifted_even m j, shifted_half m j, trailing_shifted j k m) (sym (suc-add j (count_trailing_zeros k m)))

-- before them is an odd number
trailing_odd : (k K : ℕ) → 0 < K → K < 2 ^ k → (x : ℕ) × (K ≡ suc (2 * x) * 2 ^ count_trailing_zeros k K)
unfolding count_trailing_zeros
trailing_odd zero K p h = absurd (omega arith)
trailing_odd (suc k) K p h = by_last (K % 2) 1 (omega arith)
    (λ w. rw w (K / 2, omega arith))
    (λ v. let z : K % 2 ≡ 0 = omega arith in rw z (even _ z (trailing_odd k (K / 2) (omega arith) (omega arith))))
  where
    even : (t : ℕ) → K % 2 ≡ 0 → (x : ℕ) × (K / 2 ≡ suc (2 * x) * 2 ^ t) → (x : ℕ) × (K ≡ suc (2 * x) * 2 ^ suc t)
    even t z s = (s.0, omega (arith, doubled (suc (2 * s.0)) t, s.1))

-- ---- ones

ones_none : ones 0 ≡ 0
unfolding ones
ones_none = refl

ones_even : (x : ℕ) → ones (2 * x) ≡ ones x
ones_even x =
    let half : 2 * x / 2 ≡ x = omega arith in
    let low : 2 * x % 2 ≡ 0 = omega arith in
    rw (ones_step (2 * x), half, low) (omega arith)

ones_odd : (x : ℕ) → ones (suc (2 * x)) ≡ suc (ones x)
ones_odd x =
    let half : suc (2 * x) / 2 ≡ x = omega arith in
    let low : suc (2 * x) % 2 ≡ 1 = omega arith in
    rw (ones_step (suc (2 * x)), half, low) (omega arith)

ones_size : (w K : ℕ) → K < 2 ^ w → ones K ≡ size w K
ones_size w K h = ones_sum w K h ∙ sym (size_is w K)

-- ---- the next list: b is the lowest task of K, and e + 1 the tasks of the run that begins there

module _ (b q c e : ℕ) (run : suc q ≡ suc (2 * c) * 2 ^ e) where
  abbrev before : ℕ
  before = suc (2 * q) * 2 ^ b

  abbrev carried : ℕ
  carried = before + 2 ^ b

  carried_is : carried ≡ suc (2 * c) * 2 ^ (e + suc b)
  carried_is =
      let twice : suc (2 * q) * 2 ^ b + 2 ^ b ≡ suc q * (2 ^ b * 2) = omega arith in
      twice ∙ rw (run, pow-add 2 e (suc b), pow-suc 2 b) (mul_assoc (suc (2 * c)) (2 ^ e) (2 ^ b * 2))

  ones_rest : ones q ≡ ones c + e
  ones_rest =
      let parts : q ≡ 2 * c * 2 ^ e + (2 ^ e - 1) = omega (arith, suc-mul (2 * c) (2 ^ e), pow_pos e) in
      rw parts (ones_cat e (2 * c) (2 ^ e - 1) (omega (arith, pow_pos e)) ∙ ap₂ ◌+◌ (ones_even c) (ones-ones e))

  -- K and what follows up to where it is carried
  ones_before : (r : ℕ) → r < 2 ^ b → ones (before + r) ≡ suc (ones c + e) + ones r
  ones_before r h = ones_cat b (suc (2 * q)) r h ∙ ap (λ (x : ℕ). x + ones r) (ones_odd q ∙ ap suc ones_rest)

  -- and from there on
  ones_carried : (r : ℕ) → r < 2 ^ e → ones (carried + r) ≡ suc (ones c) + ones r
  ones_carried r h = rw carried_is (ones_cat (e + suc b) (suc (2 * c)) r (lt_of_lt_of_le h (pow_mono (le-add_right e (suc b))))
      ∙ ap (λ (x : ℕ). x + ones r) (ones_odd c))

  ones_of : ones before ≡ suc (ones c + e)
  ones_of = ap ones (omega arith) ∙ ones_before 0 (pow_pos b) ∙ omega (arith, ones_none)

  ones_next : ones (carried + (2 ^ e - 1)) ≡ ones before
  ones_next = ones_carried (2 ^ e - 1) (omega (arith, pow_pos e)) ∙ omega (arith, ones_of, ones-ones e)

  none_before : (w M : ℕ) → M < 2 ^ w → before < M → M < carried → ones M ≡ ones before → ⊥
  none_before w M m h l o =
      let r = M - before in
      let a : M ≡ before + r = omega arith in
      let z : ones r ≡ 0 = omega (arith, ap ones a, ones_before r (omega arith), ones_of) in
      let s : r ≡ 0 = size_zero w r (omega arith) (sym (ones_size w r (omega arith)) ∙ z) in
      omega arith

  none_after : (w M : ℕ) → M < 2 ^ w → carried ≤ M → M < carried + (2 ^ e - 1) → ones M ≡ ones before → ⊥
  none_after w M m h l o =
      let r = M - carried in
      let a : M ≡ carried + r = omega arith in
      let z : ones r ≡ e = omega (arith, ap ones a, ones_carried r (omega arith), ones_of) in
      let s : size w r ≡ e = sym (ones_size w r (omega arith)) ∙ z in
      omega (arith, rw s at (pow_size w r))

  following : (w : ℕ) → carried + (2 ^ e - 1) < 2 ^ w → NextOfSize w before (carried + (2 ^ e - 1))
  following w h = record {
    above = omega (arith, pow_pos b);
    same = sym (ones_size w _ h) ∙ ones_next ∙ ones_size w before (omega arith);
    none_between = λ M a l o.
        let s : ones M ≡ ones before = ones_size w M (omega arith) ∙ o ∙ sym (ones_size w before (omega arith)) in
        by_test (ltb M carried)
        (λ t. none_before w M (omega arith) a (ltb-true M carried t) s)
        (λ t. none_after w M (omega arith) (ltb-false M carried t) l s);
  }

  carried_least : 2 ^ e ≤ carried
  carried_least = omega (arith, carried_is, suc-mul (2 * c) (2 ^ (e + suc b)), pow_mono (le-add_right e (suc b)))

-- ---- as the code finds it, in words of w bits

-- where the lowest run begins, and where the list that it is carried to has its lowest task
record Carrying (w K low high : ℕ) : Type 0 where
  low_within : low < w
  high_above : low < high
  high_within : high ≤ w
  least : 2 ^ (high - low - 1) ≤ K + 2 ^ low
  most : K + 2 ^ low ≤ K + K
  next : K + 2 ^ low + (2 ^ (high - low - 1) - 1) < 2 ^ w → NextOfSize w K (K + 2 ^ low + (2 ^ (high - low - 1) - 1))

carrying_at : (w b q c e : ℕ) → suc q ≡ suc (2 * c) * 2 ^ e → suc b + e ≤ w → Carrying w (suc (2 * q) * 2 ^ b) b (suc b + e)
carrying_at w b q c e run h =
    let run_is : suc b + e - b - 1 ≡ e = omega arith in
    record {
      low_within = omega arith;
      high_above = omega arith;
      high_within = h;
      least = rw run_is (carried_least b q c e run);
      most = omega (arith, suc-mul (2 * q) (2 ^ b));
      next = rw run_is (following b q c e run w);
    }

-- what K is carried to, without the zeros up to b
carried_zeros : (w b j q : ℕ) → w ≡ suc b + j → suc (2 * q) * 2 ^ b + 2 ^ b < 2 ^ w
    → (suc q < 2 ^ j) × (count_trailing_zeros w (suc (2 * q) * 2 ^ b + 2 ^ b) ≡ suc b + count_trailing_zeros j (suc q))
carried_zeros w b j q e h =
    let twice : suc (2 * q) * 2 ^ b + 2 ^ b ≡ suc q * 2 ^ suc b = rw (pow-suc 2 b) (omega arith) in
    let width : j + suc b ≡ w = omega arith in
    let m : suc q * 2 ^ suc b < 2 ^ (j + suc b) = rw (width, ← twice) h in
    (rw (shl-shr (suc q) (suc b)) at (shr_lt j (suc b) m), rw (e, twice) (trailing_shifted (suc b) j (suc q)))

carrying : (w K : ℕ) → 0 < K → K + K < 2 ^ w → Carrying w K (count_trailing_zeros w K) (count_trailing_zeros w (K + 2 ^ count_trailing_zeros w K))
carrying w K p h = go (count_trailing_zeros w K) x.0 x.1 (task_below w K _ (omega arith) (lowest w K p (omega arith)).task)
  where
    x : (x : ℕ) × (K ≡ suc (2 * x) * 2 ^ count_trailing_zeros w K)
    x = trailing_odd w K p (omega arith)

    go : (b q : ℕ) → K ≡ suc (2 * q) * 2 ^ b → b < w → Carrying w K b (count_trailing_zeros w (K + 2 ^ b))
    go b q k l =
        let z = carried_zeros w b (w - suc b) q (omega arith) (omega (arith, suc-mul (2 * q) (2 ^ b))) in
        let c = trailing_odd (w - suc b) (suc q) (omega arith) z.0 in
        rw (k, z.1) (carrying_at w b q c.0 _ c.1 (omega (arith, trailing_le (w - suc b) (suc q))))

module _ (w K : ℕ) where
  abbrev low : ℕ
  low = count_trailing_zeros w K

  abbrev carried_to : ℕ
  carried_to = K + 1 * 2 ^ low % 2 ^ w

  abbrev high : ℕ
  high = count_trailing_zeros w carried_to

  -- the run's highest task is gone, and the others are at the bottom
  abbrev bottom : ℕ
  bottom = 1 * 2 ^ (high - low - 1) % 2 ^ w

pub record NextFound (w K : ℕ) : Type 0 where
  pub low_within : low w K < w
  pub carried_fits : carried_to w K < 2 ^ w
  pub high_above : low w K < high w K
  pub run_within : high w K - low w K - 1 < w
  pub next_fits : carried_to w K + bottom w K < 2 ^ w
  pub next : NextOfSize w K (carried_to w K + bottom w K - 1)

pub next_found : (w K : ℕ) → 0 < K → 4 * K < 2 ^ w → NextFound w K
next_found w K p h =
    let c = carrying w K p (omega arith) in
    let once : 1 * 2 ^ low w K % 2 ^ w ≡ 2 ^ low w K = one_bit w (low w K) c.low_within in
    let s : Carrying w K (low w K) (high w K) = rw once c in
    let run = high w K - low w K - 1 in
    let within : run < w = omega (arith, s.high_above, s.high_within) in
    let then : bottom w K ≡ 2 ^ run = one_bit w run within in
    let fits : carried_to w K + bottom w K < 2 ^ w = omega (arith, s.least, s.most) in
    let sum : carried_to w K + bottom w K - 1 ≡ K + 2 ^ low w K + (2 ^ run - 1) = omega (arith, pow_pos run) in
    record {
      low_within = c.low_within;
      carried_fits = omega arith;
      high_above = s.high_above;
      run_within = within;
      next_fits = fits;
      next = rw sum (s.next (omega arith));
    }

-- among the lists of n tasks none of K's size lies between
pub none_among : (n w K L : ℕ) → n ≤ w → NextOfSize w K L → K < 2 ^ n → (M : ℕ) → K < M → M < L → M < 2 ^ n → size n M ≡ size n K → ⊥
none_among n w K L h s k M a l m e = s.none_between M a l (size_narrow n w M m h ∙ e ∙ sym (size_narrow n w K k h))

-- only one list comes next
pub one_next : (n K L M : ℕ) → NextOfSize n K L → NextOfSize n K M → L ≡ M
one_next n K L M s t = by_test (ltb L M)
    (λ w. absurd (t.none_between L s.above (ltb-true L M w) s.same))
    (λ w. by_last M L (omega (arith, ltb-false L M w)) sym (λ v. absurd (s.none_between M t.above v t.same)))
