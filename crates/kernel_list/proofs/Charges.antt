-- How often a rule is charged, and what the rules cost on every door, one rule at a time. Assumes nothing.
use Rattle.model.proofs.Basics.{◌≡◌, refl, sym, ◌∙◌, ◌≢◌, Bool, true, false, cond, ◌&&◌, List, ℕ, ◌+◌, ◌-◌, ◌*◌, ◌^◌, ◌≤◌, ◌<◌, min, lt_of_le_of_lt, arith, length, get_or, set, length-set}
use Rattle.model.proofs.Basics.{get_or-set_same, get_or-set_other, ext_get_or, eqb, ltb, ltb-true, ltb-false, eqb-true, eqb-false, eq-eqb, ne_eqb, add-one, add-zero, mul-le-mul, ap, replicate}
use Rattle.model.specs.{map_below, overwrite, bit, member, count_below, watched_in, max_doors, max_rules}
use Rattle.model.proofs.Tools.Folds.{length_map_below, map_below_at, sum_cong, sum_le, sum_none}
use Rattle.model.proofs.Tools.Arrays.{front_at, front_behind, front_size}
use Rattle.model.proofs.Tools.Tests.{by_test}
use Rattle.model.proofs.TaskLists.Masks.{bit_lt}
use Rattle.tasklist.proofs.Shifts.{ones_sum, counted_in}
use lib.Bits.{bit_and, and_le_l}
use lib.Count.{ones}
use Rattle.kernel_list.specs.Lists.{watch_bits, times_by, times_of, charged_at, sum_at, Addable, Chargeable}

cond_le : (b : Bool) → cond b 1 0 ≤ 1
cond_le true = omega arith
cond_le false = omega arith

-- ---- how often

pub ones_few : (W K : ℕ) → K < 2 ^ watch_bits → ones (bit_and K W) ≤ watch_bits
ones_few W K l = rw (ones_sum watch_bits (bit_and K W) (lt_of_le_of_lt (and_le_l K W) l))
    (omega (arith, sum_le watch_bits 1 (bit (bit_and K W)) (λ j m. omega (arith, bit_lt (bit_and K W) j))))

-- by the count of the masked list
pub times_is : (W L M K : ℕ) → K < 2 ^ watch_bits → times_by W L M K ≡ min (ones (bit_and K W) + 1 - L) M
unfolding times_by
times_is W L M K l = rw (counted_in watch_bits W K l)

-- ---- on every door

-- one rule more: on this door, or on another
module _ (doors charges : List ℕ) (times : ℕ → ℕ) (i d : ℕ) where
  charged_here : get_or doors i 0 ≡ d → charged_at doors charges times (i + 1) d ≡ charged_at doors charges times i d + get_or charges i 0 * times i
  unfolding charged_at
  charged_here e = rw (add-one, eq-eqb (get_or doors i 0) d e)

  charged_elsewhere : get_or doors i 0 ≢ d → charged_at doors charges times (i + 1) d ≡ charged_at doors charges times i d
  unfolding charged_at
  charged_elsewhere e = rw (add-one, ne_eqb (get_or doors i 0) d e, add-zero)

-- on a door of no rule there is no charge
charged_none : (doors charges : List ℕ) (times : ℕ → ℕ) (n d : ℕ) → ((i : ℕ) → i < n → get_or doors i 0 ≢ d) → charged_at doors charges times n d ≡ 0
unfolding charged_at
charged_none doors charges times n d h = sum_none n _ (λ i l. rw (ne_eqb (get_or doors i 0) d (h i l)))

-- the sums with what the rules below i cost, each at most 2 ^ 48
pub record Charged (doors charges : List ℕ) (times : ℕ → ℕ) (before after : List ℕ) (i : ℕ) : Type 0 where
  pub size : length after ≡ length before
  pub each : (d : ℕ) → d < length before → get_or after d 0 ≡ get_or before d 0 + charged_at doors charges times i d
  pub bound : (d : ℕ) → charged_at doors charges times i d ≤ i * 2 ^ 48

pub none_charged : (doors charges : List ℕ) (times : ℕ → ℕ) (sums : List ℕ) → Charged doors charges times sums sums 0
unfolding charged_at
none_charged doors charges times sums = record { size = refl; each = λ d l. omega arith; bound = λ d. omega arith }

module _ {doors charges : List ℕ} {times : ℕ → ℕ} {before after : List ℕ} {i : ℕ} (h : Charged doors charges times before after i) where
  -- e is the door of rule i, and r what it costs
  pub one_charged : {e r : ℕ} → e ≡ get_or doors i 0 → e < length before → r ≡ get_or charges i 0 * times i → r < 2 ^ 48
      → Charged doors charges times before (set after e (get_or after e 0 + r)) (i + 1)
  one_charged {e} {r} on there is small = record {
    size = length-set after e _ ∙ h.size;
    each = λ d l. by_test (eqb e d)
        (λ w. let s : e ≡ d = eqb-true e d w in
        rw (← s, get_or-set_same after e (get_or after e 0 + r) 0 (rw h.size there))
        (omega (arith, h.each e there, charged_here doors charges times i e (sym on), is)))
        (λ w. let s : e ≢ d = eqb-false e d w in
        rw (get_or-set_other after e d (get_or after e 0 + r) 0 (λ z. s (sym z)), charged_elsewhere doors charges times i d (λ z. s (on ∙ z))) (h.each d l));
    bound = λ d. by_test (eqb e d)
        (λ w. let s : e ≡ d = eqb-true e d w in omega (arith, h.bound d, charged_here doors charges times i d (sym on ∙ s), is, small))
        (λ w. let s : e ≢ d = eqb-false e d w in omega (arith, h.bound d, charged_elsewhere doors charges times i d (λ z. s (on ∙ z))));
  }

  -- no sum is too large
  pub sum_small : {e : ℕ} → e < length before → get_or before e 0 < 2 ^ 32 → i ≤ max_rules → get_or after e 0 < 2 ^ 54
  sum_small {e} l b m = omega (arith, h.each e l, h.bound e)

  pub all_charged : (n : ℕ) → i ≡ n → length before ≡ max_doors → after ≡ map_below max_doors (λ d. get_or before d 0 + charged_at doors charges times n d)
  all_charged n e s = ext_get_or 0 after _ (h.size ∙ s ∙ sym (length_map_below max_doors _)) (λ d l.
      let m : d < length before = rw h.size at l in
      h.each d m ∙ rw e (sym (map_below_at max_doors _ d 0 (rw s at m))))

-- a charge of 32 bits, 16 bits of times
pub product_small : (x n : ℕ) → x < 2 ^ 32 → n < 2 ^ 16 → x * n < 2 ^ 48
product_small x n l m = let a : x ≤ 2 ^ 32 - 1 = omega (arith, l) in let b : n ≤ 2 ^ 16 - 1 = omega (arith, m) in omega (arith, mul-le-mul a b)

-- ---- works and charges

pub times_few : (watches leasts mosts : List ℕ) (K i : ℕ) → times_of watches leasts mosts K i ≤ watch_bits + 1
unfolding times_of times_by watched_in count_below
times_few watches leasts mosts K i = omega (arith, sum_le watch_bits 1 (λ j. cond (member (get_or watches i 0) j && member K j) 1 0) (λ j m. cond_le (member (get_or watches i 0) j && member K j)))

module _ {works doors charges : List ℕ} {n rules : ℕ} {sums : List ℕ} (h : Chargeable works doors charges n rules sums) (watches leasts mosts : List ℕ) (K : ℕ)
    {first each : List ℕ} (e : first ≡ overwrite (map_below n (λ d. get_or works d 0)) sums)
    (g : each ≡ overwrite (map_below rules (times_of watches leasts mosts K)) (replicate max_rules 0)) where
  pub addable : Addable doors charges each rules first
  addable = record {
    size = rw e (front_size n _ sums (omega (arith, h.size, h.few_doors)) ∙ h.size);
    few = h.few_rules;
    on_door = λ i l. omega (arith, h.on_door i l, h.few_doors);
    sum = λ i l. rw (e, front_at n _ sums _ (h.on_door i l)) (h.work _ (h.on_door i l));
    charge = h.charge;
    often = λ i l. rw (g, front_at rules _ (replicate max_rules 0) i l) (omega (arith, times_few watches leasts mosts K i));
  }

  -- the rules are charged as often as the array has it
  same : (d : ℕ) → charged_at doors charges (λ i. get_or each i 0) rules d ≡ charged_at doors charges (times_of watches leasts mosts K) rules d
  unfolding charged_at
  same d = sum_cong rules _ _ (λ i l. rw (g, front_at rules (times_of watches leasts mosts K) (replicate max_rules 0) i l))

  pub summed : {last : List ℕ} → last ≡ map_below max_doors (λ d. get_or first d 0 + charged_at doors charges (λ i. get_or each i 0) rules d)
      → last ≡ overwrite (map_below n (sum_at works doors watches leasts mosts charges rules K)) sums
  unfolding sum_at
  summed q = q ∙ ext_get_or 0 _ _ (length_map_below max_doors _ ∙ sym h.size ∙ sym (front_size n _ sums (omega (arith, h.size, h.few_doors)))) (λ d l.
      let m : d < max_doors = rw length_map_below at l in
      map_below_at max_doors _ d 0 m ∙ by_test (ltb d n)
      (λ w. let k : d < n = ltb-true d n w in
      rw (front_at n (sum_at works doors watches leasts mosts charges rules K) sums d k, e, front_at n (λ j. get_or works j 0) sums d k) (ap (λ (x : ℕ). get_or works d 0 + x) (same d)))
      (λ w. let k : n ≤ d = ltb-false d n w in
      rw (
        front_behind n (sum_at works doors watches leasts mosts charges rules K) sums d k,
        e,
        front_behind n (λ j. get_or works j 0) sums d k,
        charged_none doors charges (λ i. get_or each i 0) rules d (λ i v z. omega (arith, h.on_door i v)),
        add-zero,
      )))
