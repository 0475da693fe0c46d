-- Numbers from 2 ^ 52 on and below 2 ^ 62 compare as the floats whose patterns they are. Such a float is normal: with H for 2 ^ 52, its exponent is n / H and its
-- digits are n % H, so that in units of the least float it is worth (H + n % H) * 2 ^ (n / H - 1), which rises with n. Assumes nothing.
use Rattle.model.proofs.Basics.{◌≡◌, refl, sym, ap, ◌∙◌, subst, true, false, not, cond, true≢false, ℕ, suc, ◌+◌, ◌-◌, ◌*◌, ◌/◌, ◌%◌, ◌^◌, ◌≤◌, ◌<◌}
use Rattle.model.proofs.Basics.{min, le_refl, le_of_lt, lt_of_lt_of_le, mod-lt, mul-le-mul_left, mul-le-mul_right, pow_pos, pow_mono, pow-succ', arith, ℤ, pos, negsuc, T}
use Rattle.model.proofs.Basics.{ltb, ltb-true, ltb-false, lt-ltb, le-ltb, lt-leb, ne_eqb, lit<, mul_assoc, le-div_iff_mul-le}
use Rattle.model.proofs.Tools.Tests.{by_test, by_last, same_test}
use native.Mathlib.Nat.{lt_irrefl, mod-le, mod-eq_of_lt, div-add-mod', mul_comm, mul-lt-mul_of_pos_right, lt_of_mul-lt-mul_right, div-lt_iff_lt-mul, mul-pos}
use lib.Ieee.{Float, nan, inf, fin, binary64, prec, low, up, down, hid, ones, top, of_fields, of_bits, to_bits, nan_bits, is_nan, lt}
use lib.Ieee.Bits.{to_bits-of_bits, nan_bits_is, nan_bits_above}
use lib.Ieee.Exact.{HasValue, odd_sign}
use Rattle.minimum.specs.Floats.{float_of, Holds}

-- a number that is the pattern of a normal float
pub record Normal (n : ℕ) : Type 0 where
  pub low : 2 ^ 52 ≤ n
  pub high : n < 2 ^ 62

-- ---- what a pattern is worth

abbrev worth : ℕ → ℕ
worth n = (2 ^ 52 + n % 2 ^ 52) * 2 ^ (n / 2 ^ 52 - 1)

-- x and y are the exponents less 1, s and t the digits
rises : (x s y t : ℕ) → s < 2 ^ 52 → t < 2 ^ 52 → suc x * 2 ^ 52 + s < suc y * 2 ^ 52 + t → (2 ^ 52 + s) * 2 ^ x < (2 ^ 52 + t) * 2 ^ y
rises x s y t a b h = by_test (ltb x y)
    (λ e.
    let l : suc x ≤ y = ltb-true x y e in
    let w : 2 * 2 ^ x ≤ 2 ^ y = rw pow-succ' at (pow_mono l) in
    let k : (2 ^ 52 + s) * 2 ^ x < 2 * 2 ^ 52 * 2 ^ x = mul-lt-mul_of_pos_right (omega arith) (pow_pos x) in
    let m : 2 ^ 52 * (2 * 2 ^ x) ≤ 2 ^ 52 * 2 ^ y = mul-le-mul_left (2 ^ 52) w in
    let n : 2 ^ 52 * 2 ^ y ≤ (2 ^ 52 + t) * 2 ^ y = mul-le-mul_right (2 ^ y) (omega arith) in
    omega (arith, k, m, n))
    (λ e.
    let g : y ≤ x = ltb-false x y e in
    let q : y ≡ x = omega (arith, g, h, a, b) in
    rw q (mul-lt-mul_of_pos_right (omega (arith, h, q)) (pow_pos x)))

greater : (n m : ℕ) → Normal n → n < m → worth n < worth m
greater n m a l = rises (n / 2 ^ 52 - 1) (n % 2 ^ 52) (m / 2 ^ 52 - 1) (m % 2 ^ 52) (mod-lt n (pow_pos 52)) (mod-lt m (pow_pos 52))
    (rw (whole n a.low, whole m (omega (arith, a.low))) l)
  where
    whole : (n : ℕ) → 2 ^ 52 ≤ n → suc (n / 2 ^ 52 - 1) * 2 ^ 52 + n % 2 ^ 52 ≡ n
    whole n h =
        let one : 1 ≤ n / 2 ^ 52 = (le-div_iff_mul-le (pow_pos 52)).1 h in
        let e : suc (n / 2 ^ 52 - 1) ≡ n / 2 ^ 52 = omega (arith, one) in
        rw e (div-add-mod' n (2 ^ 52))

-- ---- floats that are not negative compare as what they are worth

-- x / d is a / c, and y / e is b / c
cross : (x y d e a b c : ℕ) → 0 < c → 0 < d → 0 < e → x * c ≡ a * d → y * c ≡ b * e → ltb (x * e) (y * d) ≡ ltb a b
cross x y d e a b c C D E p q =
    let k : x * e * c ≡ a * (d * e) = rw (mul_assoc, mul_comm e c, ← mul_assoc, p, mul_assoc) refl in
    let l : y * d * c ≡ b * (d * e) = rw (mul_assoc, mul_comm d c, ← mul_assoc, q, mul_assoc, mul_comm e d) refl in
    same_test (ltb (x * e) (y * d)) (ltb a b)
    (λ t. lt-ltb a b (lt_of_mul-lt-mul_right (d * e) (rw (k, l) at (mul-lt-mul_of_pos_right (ltb-true (x * e) (y * d) t) C))))
    (λ t. lt-ltb (x * e) (y * d) (lt_of_mul-lt-mul_right c (rw (k, l) (mul-lt-mul_of_pos_right (ltb-true a b t) (mul-pos D E)))))

down_pos : (e : ℤ) → 0 < down e
down_pos (pos k) = lit< tt
down_pos (negsuc k) = pow_pos (suc k)

values_compare : (x y : Float) (a b c : ℕ) → 0 < c → HasValue x false a c → HasValue y false b c → lt x y ≡ ltb a b
unfolding lt
values_compare nan y a b c C p q = absurd p
values_compare (inf s) y a b c C p q = absurd p
values_compare (fin true m e) y a b c C p q = absurd (true≢false p.0)
values_compare (fin false m e) nan a b c C p q = absurd q
values_compare (fin false m e) (inf t) a b c C p q = absurd q
values_compare (fin false m e) (fin true n d) a b c C p q = absurd (true≢false q.0)
values_compare (fin false m e) (fin false n d) a b c C p q = cross (m * up e) (n * up d) (down e) (down d) a b c C (down_pos e) (down_pos d) p.1 q.1

-- ---- the float of a pattern is worth what the pattern is

fields_worth : (x t : ℕ) → suc x < ones binary64 → HasValue (of_fields binary64 false (suc x) t) false ((hid binary64 + t) * 2 ^ x) (2 ^ low binary64)
unfolding of_fields
fields_worth x t h = rw (ne_eqb (suc x) (ones binary64) (λ e. omega (arith, h, e))) (odd_sign (prec binary64) false (hid binary64 + t) x (low binary64))

bits_worth : (n : ℕ) → Normal n → HasValue (of_bits binary64 n) false (worth n) (2 ^ low binary64)
unfolding of_bits
bits_worth n a =
    let below : n < top binary64 = omega (arith, a.high) in
    let one : 1 ≤ n / 2 ^ 52 = (le-div_iff_mul-le (pow_pos 52)).1 a.low in
    let few : n / 2 ^ 52 < 1024 = (div-lt_iff_lt-mul (pow_pos 52)).1 a.high in
    let q : n / 2 ^ 52 ≡ suc (n / 2 ^ 52 - 1) = omega (arith, one) in
    let e : of_bits binary64 n ≡ of_fields binary64 false (suc (n / 2 ^ 52 - 1)) (n % 2 ^ 52) = rw (lt-leb (top binary64) n below, mod-eq_of_lt below) (ap (λ (x : ℕ). of_fields binary64 false x (n % 2 ^ 52)) q) in
    subst (λ (x : Float). HasValue x false (worth n) (2 ^ low binary64)) (sym e) (fields_worth (n / 2 ^ 52 - 1) (n % 2 ^ 52) (omega (arith, few)))

-- ---- the law

pub patterns_compare : (n m : ℕ) → Normal n → Normal m → lt (of_bits binary64 n) (of_bits binary64 m) ≡ ltb n m
patterns_compare n m a b =
    values_compare (of_bits binary64 n) (of_bits binary64 m) (worth n) (worth m) (2 ^ low binary64) (pow_pos (low binary64)) (bits_worth n a) (bits_worth m b)
    ∙ same_test (ltb (worth n) (worth m)) (ltb n m)
    (λ t. by_test (ltb n m) (λ e. e) (λ e. absurd (lt_irrefl (worth n) (lt_of_lt_of_le (ltb-true (worth n) (worth m) t) (no_less m n b (ltb-false n m e))))))
    (λ t. lt-ltb (worth n) (worth m) (greater n m a (ltb-true n m t)))
  where
    no_less : (m n : ℕ) → Normal m → m ≤ n → worth m ≤ worth n
    no_less m n b l = by_last m n (omega arith) (λ e. rw e (le_refl (worth n))) (λ k. le_of_lt (greater m n b k))

-- so the lesser of two such floats is that of the lesser number
lesser_is : (n m : ℕ) → Normal n → Normal m → cond (lt (of_bits binary64 m) (of_bits binary64 n)) (of_bits binary64 m) (of_bits binary64 n) ≡ of_bits binary64 (min n m)
lesser_is n m a b = by_test (ltb m n)
    (λ e. let l : min n m ≡ m = omega (arith, ltb-true m n e) in rw (patterns_compare m n b a, e, l))
    (λ e. let l : min n m ≡ n = omega (arith, ltb-false m n e) in rw (patterns_compare m n b a, e, l))

-- ---- there and back

-- no number below 2 ^ 62 is the pattern of a NaN
no_nan : (n : ℕ) → n < 2 ^ 62 → nan_bits binary64 n ≡ false
no_nan n h = nan_bits_above binary64 n ∙ le-ltb (ones binary64 * hid binary64) (n % top binary64) (omega (arith, mod-le n (top binary64)))

pub a_pattern : (n : ℕ) → n < 2 ^ 62 → T (not (nan_bits binary64 n))
a_pattern n h = rw (no_nan n h) tt

is_number : (n : ℕ) → n < 2 ^ 62 → is_nan (of_bits binary64 n) ≡ false
is_number n h = sym (nan_bits_is binary64 n) ∙ no_nan n h

pattern_back : (n : ℕ) → n < 2 ^ 62 → to_bits binary64 (of_bits binary64 n) ≡ n
pattern_back n h = to_bits-of_bits binary64 n (omega arith) (rw (is_number n h) tt)

-- ---- numbers that stand in floats

module _ {x : Float} {n : ℕ} (h : Holds x n) where
  normal : Normal (n + 2 ^ 60)
  normal = record { low = omega arith; high = omega (arith, h.small) }

  pub holds_number : is_nan x ≡ false
  unfolding float_of
  holds_number = rw h.is (is_number (n + 2 ^ 60) normal.high)

  pub pattern_is : to_bits binary64 x ≡ n + 2 ^ 60
  unfolding float_of
  pattern_is = rw h.is (pattern_back (n + 2 ^ 60) normal.high)

-- r is the lesser float, as the code finds it
pub lesser_holds : {a b r : Float} {m n : ℕ} → r ≡ cond (lt b a) b a → Holds a m → Holds b n → Holds r (min m n)
unfolding float_of
lesser_holds {a} {b} {r} {m} {n} e h k = record {
  is = e ∙ rw (h.is, k.is) (lesser_is (m + 2 ^ 60) (n + 2 ^ 60) (normal h) (normal k) ∙ ap (of_bits binary64) (omega arith));
  small = omega (arith, h.small);
}
