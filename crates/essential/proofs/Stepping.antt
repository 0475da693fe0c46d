-- The load from one list to the next: the lowest task of the next joins, and all tasks below it leave. Assumes nothing.
use Rattle.model.proofs.Basics.{◌≡◌, refl, sym, ap, ◌∙◌, ℕ, zero, suc, ◌+◌, ◌*◌, ◌^◌, ◌≤◌, ◌<◌, arith, ℤ, pos, ◌+ℤ◌, +ℤ_idr}
use Rattle.model.proofs.Basics.{mag}
use Rattle.model.specs.{bit, load_below, load}
use Rattle.model.specs.Sheet.{Sheet}
use Rattle.model.proofs.Tools.Tests.{by_last}
use Rattle.model.proofs.Tools.SignedSums.{mag_add}
use Rattle.model.proofs.TaskLists.Masks.{by_bit}
use Rattle.model.proofs.TaskLists.Lowest.{Lowest, BeforeLowest, before_lowest}
use lib.IntN.{+ℤ_assoc, +ℤ_comm, -ℤ-+ℤ_cancel, ◌-ℤ◌}
use Rattle.essential.specs.Method.{changes_below, step}

-- ---- sums

last_two : (a b c : ℤ) → (a +ℤ b) +ℤ c ≡ (a +ℤ c) +ℤ b
last_two a b c = +ℤ_assoc a b c ∙ ap (λ x. a +ℤ x) (+ℤ_comm b c) ∙ sym (+ℤ_assoc a c b)

-- what was added before is taken away
instead : (e b c : ℤ) → (e +ℤ b) +ℤ (c -ℤ b) ≡ e +ℤ c
instead e b c = +ℤ_assoc e b (c -ℤ b) ∙ ap (λ x. e +ℤ x) (+ℤ_comm b (c -ℤ b) ∙ -ℤ-+ℤ_cancel c b)

-- a task more is open, or it is not
opened : (S : Sheet) (J n : ℕ) → bit J n ≡ 1 → load_below S J (suc n) ≡ load_below S J n +ℤ S.change n
opened S J n h = rw h

done : (S : Sheet) (J n : ℕ) → bit J n ≡ 0 → load_below S J (suc n) ≡ load_below S J n
done S J n h = rw h (+ℤ_idr (load_below S J n))

-- ---- the next list

module _ (S : Sheet) (K t : ℕ) (low : Lowest (suc K) t) where
  before : BeforeLowest K t
  before = before_lowest t K low

  -- below the lowest task the next list has nothing, and the list before everything
  none_yet : (n : ℕ) → n ≤ t → load_below S (suc K) n ≡ pos S.end_load
  none_yet zero l = refl
  none_yet (suc n) l = done S (suc K) n (low.none_below n (omega arith)) ∙ none_yet n (omega arith)

  all_yet : (n : ℕ) → n ≤ t → load_below S K n ≡ pos S.end_load +ℤ changes_below S n
  all_yet zero l = sym (+ℤ_idr (pos S.end_load))
  all_yet (suc n) l =
      opened S K n (before.all_below_lem n (omega arith)) ∙ ap (λ x. x +ℤ S.change n) (all_yet n (omega arith))
      ∙ +ℤ_assoc (pos S.end_load) (changes_below S n) (S.change n)

  -- from there on both have the same tasks
  grows : (n : ℕ) → t < n → load_below S (suc K) n ≡ load_below S K n +ℤ step S t
  unfolding step
  grows zero l = absurd (omega arith)
  grows (suc n) l = by_last t n l
      (λ e. rw (← e) (opened S (suc K) t low.task ∙ ap (λ x. x +ℤ S.change t) (none_yet t (omega arith))
      ∙ sym (instead (pos S.end_load) (changes_below S t) (S.change t))
      ∙ ap (λ x. x +ℤ (S.change t -ℤ changes_below S t)) (sym (done S K t before.not_task ∙ all_yet t (omega arith)))))
      (λ m. by_bit K n
      (λ z. done S (suc K) n (sym (before.same_above n m) ∙ z) ∙ grows n m ∙ ap (λ x. x +ℤ step S t) (sym (done S K n z)))
      (λ o. opened S (suc K) n (sym (before.same_above n m) ∙ o) ∙ ap (λ x. x +ℤ S.change n) (grows n m)
      ∙ last_two (load_below S K n) (step S t) (S.change n) ∙ ap (λ x. x +ℤ step S t) (sym (opened S K n o))))

  pub next_load : t < S.tasks → load S (suc K) ≡ load S K +ℤ step S t
  unfolding load
  next_load l = grows S.tasks l

-- ---- how large

-- with changes of 16 bits a load of n tasks stays below the end load and n changes
below_bound : (S : Sheet) (K n : ℕ) → ((t : ℕ) → t < n → mag (S.change t) < 2 ^ 15) → mag (load_below S K n) ≤ S.end_load + n * 2 ^ 15
below_bound S K zero h = omega arith
below_bound S K (suc n) h = by_bit K n
    (λ z. rw (done S K n z) (omega (arith, below_bound S K n (λ t l. h t (omega arith)))))
    (λ o. rw (opened S K n o) (omega (arith, mag_add (load_below S K n) (S.change n), below_bound S K n (λ t l. h t (omega arith)), h n (omega arith))))

pub load_bound : (S : Sheet) (K : ℕ) → ((t : ℕ) → t < S.tasks → mag (S.change t) < 2 ^ 15) → mag (load S K) ≤ S.end_load + S.tasks * 2 ^ 15
unfolding load
load_bound S K h = below_bound S K S.tasks h
