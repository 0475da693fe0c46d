-- What the arrays say of a list is what the sheet says of it. Assumes nothing.
use Rattle.model.proofs.Basics.{◌≡◌, refl, sym, ap, ap₂, ◌∙◌, Bool, true, cond, not, ◌&&◌, ◌||◌, List, ℕ, zero, suc, ◌+◌, ◌-◌, ◌*◌, ◌^◌, ◌≤◌, ◌<◌, min, arith, ℤ, pos, ◌+ℤ◌, nat_abs}
use Rattle.model.proofs.Basics.{eqb, ltb, leb, length, get_or, eqb-true, eq-eqb, ne_eqb, ltb-true, [], Bool·not-not, +ℤ_idr, add-zero, leb-true, leb-false, lt_of_le_of_lt, lt_of_lt_of_le, pow_mono}
use Rattle.model.specs.{all_below, any_below, map_below, overwrite, member, watched_in, essential, pair_within, is_free, can_come_first, load_below, load, rule_charge, charges}
use Rattle.model.specs.{mask_bits, max_tasks, max_doors, InRange}
use Rattle.model.specs.Sheet.{Sheet}
use Rattle.model.proofs.Tools.Tests.{by_test, same_test, all_at, all_below_lem, any_true, any_not, all_cong, one_passes, implied, and_left, and_right, and_both}
use Rattle.model.proofs.Tools.Folds.{map_below_cong, sum_cong}
use Rattle.model.proofs.TaskLists.Masks.{bit_above, member_bit, bit_member}
use Rattle.model.proofs.TaskLists.Lowest.{task_below}
use Rattle.model.proofs.Theory.FirstTask.{first_bit}
use Rattle.model.proofs.TaskLists.OpenLists.{watched_same}
use lib.Bits.{bit_and, and_le_l}
use Rattle.kernel_sheet.specs.declared.Numbers.{Numbers}
use Rattle.kernel_sheet.specs.Prepared.{sends, serves, ReceiversOf, ChangesOf, RulesOf}
use Rattle.kernel_list.specs.Lists.{union_of, watch_bits, sum_of_below, sum_of, Loadable, times_by, times_of, charged_at, sum_at, Chargeable, Waiting, Opening, Opened}
use Rattle.kernel_list.proofs.Unions.{union_member, without_all}

-- ---- who waits

-- a task of K is one of the sheet's
below : (S : Sheet) (K t : ℕ) → K < 2 ^ S.tasks → member K t ≡ true → t < S.tasks
below S K t l e = task_below S.tasks K t l (member_bit K t e)

-- the union of the receivers of K's tasks has those that wait
module _ (S : Sheet) (receiving : List ℕ) (K j : ℕ) where
  abbrev unites : ℕ → Bool
  unites t = member K t && member (get_or receiving t 0) j

  abbrev pairs_off : ℕ → Bool
  pairs_off i = member K (S.sender i) && eqb (S.receiver i) j

  abbrev sent_by : ℕ → ℕ → Bool
  sent_by t i = eqb (S.sender i) t && eqb (S.receiver i) j

  waits : S.tasks ≤ max_tasks → K < 2 ^ S.tasks → InRange S → ReceiversOf S receiving → any_below max_tasks unites ≡ any_below S.pairs pairs_off
  unfolding sends
  waits few l R h = same_test _ _
      (λ a.
      let t = one_passes max_tasks unites a in
      let k = and_left (member K t.0) _ t.2 in
      let i = one_passes S.pairs (sent_by t.0) (sym (h t.0 j (below S K t.0 l k)) ∙ and_right (member K t.0) _ t.2) in
      let e = eqb-true (S.sender i.0) t.0 (and_left _ (eqb (S.receiver i.0) j) i.2) in
      any_true S.pairs pairs_off i.0 i.1 (and_both (ap (member K) e ∙ k) (and_right (eqb (S.sender i.0) t.0) _ i.2)))
      (λ a.
      let i = one_passes S.pairs pairs_off a in
      let b = R.sender i.0 i.1 in
      let k = and_left (member K (S.sender i.0)) _ i.2 in
      any_true max_tasks unites (S.sender i.0) (omega (arith, b)) (and_both k (h (S.sender i.0) j b
      ∙ any_true S.pairs (sent_by (S.sender i.0)) i.0 i.1 (and_both (eq-eqb (S.sender i.0) _ refl) (and_right (member K (S.sender i.0)) _ i.2)))))

pub waiting_is : (S : Sheet) (receiving : List ℕ) (K r : ℕ) → S.tasks ≤ max_tasks → K < 2 ^ S.tasks → InRange S → ReceiversOf S receiving → r ≡ union_of receiving K → Waiting S K r
unfolding union_of
waiting_is S receiving K r few l R h e j = ap (λ (x : ℕ). member x j) e ∙ union_member receiving K max_tasks j ∙ waits S receiving K j few l R h

module _ (S : Sheet) (K r : ℕ) (w : Waiting S K r) where
  abbrev has_it : ℕ → Bool
  has_it j = not (member r j) || member K j

  abbrev keeps : ℕ → Bool
  keeps i = not (member K (S.sender i)) || member K (S.receiver i)

  -- so K is essential where it has them all
  pub essential_is : (n : ℕ) → S.tasks ≤ n → InRange S → 0 < K → all_below n has_it ≡ essential S K
  unfolding essential
  essential_is n few R some = rw (ne_eqb K 0 (λ z. omega (arith, some))) (same_test _ _
      (λ a. all_below_lem S.pairs keeps (λ i l. (implied (member K (S.sender i)) _).1 (λ k.
      let m : S.receiver i < n = omega (arith, R.receiver i l) in
      (implied (member r (S.receiver i)) _).0 (all_at n has_it a (S.receiver i) m)
      (w (S.receiver i) ∙ any_true S.pairs (pairs_off S [] K (S.receiver i)) i l (and_both k (eq-eqb (S.receiver i) _ refl))))))
      (λ a. all_below_lem n has_it (λ j l. (implied (member r j) _).1 (λ m.
      let i = one_passes S.pairs (pairs_off S [] K j) (sym (w j) ∙ m) in
      let e = eqb-true (S.receiver i.0) j (and_right (member K (S.sender i.0)) _ i.2) in
      ap (member K) (sym e) ∙ (implied (member K (S.sender i.0)) _).0 (all_at S.pairs keeps a i.0 i.1) (and_left (member K (S.sender i.0)) _ i.2)))))

  -- a pair whose receiver is a task of K lies within K where its sender does
  pair_in : (t i : ℕ) → member K t ≡ true → pairs_off S [] K t i ≡ (pair_within S K i && eqb t (S.receiver i))
  unfolding pair_within
  pair_in t i k = same_test _ _
      (λ a. let e = eqb-true (S.receiver i) t (and_right (member K (S.sender i)) _ a) in
      and_both (and_both (and_left (member K (S.sender i)) _ a) (ap (member K) e ∙ k)) (eq-eqb t _ (sym e)))
      (λ a. and_both (and_left (member K (S.sender i)) _ (and_left (member K (S.sender i) && member K (S.receiver i)) _ a))
      (eq-eqb (S.receiver i) t (sym (eqb-true t (S.receiver i) (and_right (member K (S.sender i) && member K (S.receiver i)) _ a)))))

  -- and its tasks that do not wait can come first
  pub first_is : (t : ℕ) → (member K t && not (member r t)) ≡ can_come_first S K t
  unfolding can_come_first is_free
  first_is t = by_test (member K t)
      (λ k. rw (k, w t, any_not S.pairs (pairs_off S [] K t), Bool·not-not) (all_cong S.pairs _ _ (λ i l. ap not (pair_in t i k))))
      (λ k. rw k)

-- ---- what a list has

-- the load: beyond the sheet's tasks K has none
module _ (S : Sheet) (changes : List ℤ) (K : ℕ) (h : ChangesOf S changes) (l : K < 2 ^ S.tasks) where
  load_below_lem : (n : ℕ) → n ≤ S.tasks → sum_of_below S.end_load changes K n ≡ load_below S K n
  load_below_lem zero m = refl
  load_below_lem (suc n) m = ap₂ (λ (a b : ℤ). a +ℤ cond (member K n) b (pos 0)) (load_below_lem n (omega (arith, m))) (h n (omega (arith, m)))

  load_beyond : (d : ℕ) → sum_of_below S.end_load changes K (S.tasks + d) ≡ load_below S K S.tasks
  load_beyond zero = rw add-zero (load_below_lem S.tasks (omega arith))
  load_beyond (suc d) =
      let e : S.tasks + suc d ≡ suc (S.tasks + d) = omega arith in
      rw (e, bit_above S.tasks (S.tasks + d) K l (omega arith)) (+ℤ_idr _ ∙ load_beyond d)

  pub load_is : S.tasks ≤ max_tasks → sum_of S.end_load changes K ≡ load S K
  unfolding sum_of load
  load_is few = let e : max_tasks ≡ S.tasks + (max_tasks - S.tasks) = omega (arith, few) in ap (sum_of_below S.end_load changes K) e ∙ load_beyond (max_tasks - S.tasks)

-- the charge of a rule that is charged once at most
pub charge_is : (S : Sheet) (K i : ℕ) (doors watches leasts mosts charged : List ℕ) → RulesOf S doors watches leasts mosts charged → i < S.rules → K < 2 ^ S.tasks → S.tasks ≤ watch_bits
    → get_or charged i 0 * times_of watches leasts mosts K i ≡ rule_charge S K i
unfolding times_of times_by rule_charge
charge_is S K i doors watches leasts mosts charged h l k few =
    rw (h.watched i l, h.least i l, h.most i l, h.charge i l, watched_same watch_bits S.tasks (S.watched i) K (lt_of_lt_of_le k (pow_mono few)) k)
    (by_test (leb (S.least_count i) (watched_in S.tasks (S.watched i) K))
    (λ w. let m : min (watched_in S.tasks (S.watched i) K + 1 - S.least_count i) 1 ≡ 1 = omega (arith, leb-true (S.least_count i) (watched_in S.tasks (S.watched i) K) w) in rw (w, m) (omega arith))
    (λ w. let m : min (watched_in S.tasks (S.watched i) K + 1 - S.least_count i) 1 ≡ 0 = omega (arith, leb-false (S.least_count i) (watched_in S.tasks (S.watched i) K) w) in rw (w, m) (omega arith)))

module _ {S : Sheet} {x : Numbers} {K r : ℕ} (h : Opening S x K r) where
  few : S.tasks ≤ max_tasks
  few = h.workable.counts.tasks

  pub list_small : K < 2 ^ watch_bits
  list_small = let l : S.tasks ≤ watch_bits = omega (arith, few) in lt_of_lt_of_le h.list (pow_mono l)

  -- and so is what is left of it without those that wait
  pub firsts_small : (J : ℕ) → bit_and K J < 2 ^ max_tasks
  firsts_small J = lt_of_le_of_lt (and_le_l K J) (lt_of_lt_of_le h.list (pow_mono few))

  sum_is : sum_of x.counts.end_load x.tasks.change K ≡ load S K
  sum_is = rw h.counts.end_load (load_is S x.tasks.change K h.change h.list few)

  pub loadable : Loadable x.counts.end_load x.tasks.change K
  loadable = record {
    list = lt_of_lt_of_le h.list (pow_mono few);
    small = λ t l e. let m = below S K t h.list e in rw (h.change t m) (h.workable.change t m);
    holds = rw sum_is (h.workable.loads K h.list h.ess);
  }

  pub chargeable : {sums : List ℕ} → length sums ≡ max_doors → Chargeable x.doors.work x.rules.door x.rules.charge x.counts.doors x.counts.rules sums
  chargeable size = rw (h.counts.doors, h.counts.rules) (record {
    size = size;
    few_doors = h.workable.counts.doors;
    few_rules = h.workable.counts.rules;
    on_door = λ i l. rw (h.rules.door i l) (h.workable.plannable.ranges.rule_door i l);
    work = λ d l. rw (h.work d l) (h.workable.work d l);
    charge = λ i l. rw (h.rules.charge i l) (h.workable.charge i l);
  })

  sum_at_lem : (d : ℕ) → d < S.doors → sum_at x.doors.work x.rules.door x.rules.watched x.rules.least x.rules.most x.rules.charge S.rules K d ≡ S.work d + charges S K d
  unfolding sum_at charged_at charges
  sum_at_lem d l = ap₂ ◌+◌ (h.work d l) (sum_cong S.rules _ _ (λ i m.
      ap₂ (λ (e y : ℕ). cond (eqb e d) y 0) (h.rules.door i m) (charge_is S K i x.rules.door x.rules.watched x.rules.least x.rules.most x.rules.charge h.rules m h.list (omega (arith, few)))))

  module _ {set : ℕ} (e : set ≡ union_of x.tasks.doors (bit_and K (2 ^ mask_bits - 1 - r))) (small : r < 2 ^ mask_bits) where
    abbrev offers : ℕ → ℕ → Bool
    offers d t = member (bit_and K (2 ^ mask_bits - 1 - r)) t && member (get_or x.tasks.doors t 0) d

    can : (t : ℕ) → t < max_tasks → member (bit_and K (2 ^ mask_bits - 1 - r)) t ≡ can_come_first S K t
    can t l = without_all mask_bits K r t small (omega (arith, l)) ∙ first_is S K r h.waiting t

    doors_are : (d : ℕ) → member set d ≡ (ltb d S.doors && can_come_first S K (S.task d))
    unfolding union_of serves
    doors_are d = ap (λ (y : ℕ). member y d) e ∙ union_member x.tasks.doors _ max_tasks d ∙ same_test _ _
        (λ a.
        let t = one_passes max_tasks (offers d) a in
        let c = sym (can t.0 t.1) ∙ and_left (member (bit_and K (2 ^ mask_bits - 1 - r)) t.0) _ t.2 in
        let v = sym (h.set t.0 d (below S K t.0 h.list (bit_member K t.0 (first_bit S K t.0 c)))) ∙ and_right (member (bit_and K (2 ^ mask_bits - 1 - r)) t.0) _ t.2 in
        and_both (and_left (ltb d S.doors) _ v) (ap (can_come_first S K) (eqb-true (S.task d) t.0 (and_right (ltb d S.doors) _ v)) ∙ c))
        (λ a.
        let l = and_left (ltb d S.doors) _ a in
        let m = h.workable.plannable.ranges.task d (ltb-true d S.doors l) in
        let n : S.task d < max_tasks = omega (arith, m, few) in
        any_true max_tasks (offers d) (S.task d) n
        (and_both (can (S.task d) n ∙ and_right (ltb d S.doors) _ a) (h.set (S.task d) d m ∙ and_both l (eq-eqb (S.task d) _ refl))))

    pub opened : {w : ℕ} {before after : List ℕ} → pos w ≡ sum_of x.counts.end_load x.tasks.change K
        → after ≡ overwrite (map_below x.counts.doors (sum_at x.doors.work x.rules.door x.rules.watched x.rules.least x.rules.most x.rules.charge x.counts.rules K)) before → Opened S K w set before after
    opened {w} {before} p q = record {
      load = ap nat_abs (p ∙ sum_is);
      doors = doors_are;
      sums = q ∙ rw (h.counts.doors, h.counts.rules) (ap (λ (ys : List ℕ). overwrite ys before) (map_below_cong S.doors _ _ sum_at_lem));
    }
