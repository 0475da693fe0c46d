-- The ranks of K without each of its tasks, from the highest down: without t, the tasks above t stand one place lower and those below it where they are in K.
-- The sum has the tasks that are done at their lower place, and those that are left where they are. Assumes nothing.
use Rattle.model.proofs.Basics.{◌≡◌, refl, sym, ap, ◌∙◌, ◌≢◌, cond, List, [], ◌∷◌, ℕ, suc, ◌+◌, ◌-◌, ◌*◌, ◌%◌, ◌^◌, ◌≤◌, ◌<◌, mul-le-mul_right, arith}
use Rattle.model.proofs.Basics.{set, lt_of_le_of_lt, mod-lt, pow_pos, eqb, eqb-true, eqb-false, ltb, ltb-true, ltb-false}
use Rattle.model.specs.{sum_below, map_below, bit, member, without, size}
use Rattle.model.proofs.Tools.Tests.{by_test}
use Rattle.model.proofs.Tools.Folds.{sum_cong, flat_cong}
use Rattle.model.proofs.Tools.Arrays.{map_set}
use Rattle.model.proofs.TaskLists.Masks.{bit_none, bit_above, without_same, without_other, without_le, without_none, size_without, size_le}
use Rattle.model.proofs.TaskLists.Masks.{same_members, by_bit}
use Rattle.rank.specs.Binomials.{binomial}
use Rattle.rank.specs.Ranks.{rank, rank_part, binomial_rank, max_ranked, rank_of, rank_ends}
use Rattle.rank.proofs.Sums.{sum_differ}
use Rattle.rank.proofs.Sizes.{size_cong}
use Rattle.rank.proofs.Counting.{part_cong, rank_by_binomials, rank_le}
use Rattle.model.proofs.TaskLists.Lowest.{task_below}
use Rattle.rank.proofs.Ends.{Highest, highest_size, bit_first}

-- ---- the sum

-- what task j adds one place lower
abbrev lowered : ℕ → ℕ → ℕ
lowered K j = cond (member K j) (binomial j (size j K)) 0

-- what it adds while some are left
abbrev mixed : ℕ → ℕ → ℕ → ℕ
mixed K left j = cond (member left j) (rank_part K j) (lowered K j)

-- of K the tasks up to some place are left, i of them, and the sum has each of the others one place lower
pub record Lowering (n K left sum i : ℕ) : Type 0 where
  pub listed : K < 2 ^ n
  pub small : left < 2 ^ n
  pub same : (h j : ℕ) → h ≤ j → bit left j ≡ 1 → bit left h ≡ bit K h
  pub counted : i ≡ size n left
  pub summed : sum ≡ sum_below n (mixed K left)

-- where left is as K
mixed_same : (K left j : ℕ) → bit left j ≡ bit K j → mixed K left j ≡ rank_part K j
unfolding rank_part
mixed_same K left j e = rw e (by_test (member K j) (λ w. rw w) (λ w. rw w))

pub none_lowered : (n K : ℕ) {sum i : ℕ} → K < 2 ^ n → sum ≡ rank n K → i ≡ size n K → Lowering n K K sum i
unfolding binomial_rank
none_lowered n K h e c = record {
  listed = h;
  small = h;
  same = λ g j l b. refl;
  counted = c;
  summed = e ∙ rank_by_binomials n K h ∙ sum_cong n _ _ (λ j l. sym (mixed_same K K j refl));
}

module _ {n K left sum i : ℕ} (s : Lowering n K left sum i) {t : ℕ} (l : Highest left t) where
  below : t < n
  below = task_below n left t s.small l.task

  task : bit K t ≡ 1
  task = sym (s.same t t (omega arith) l.task) ∙ l.task

  place : i ≡ suc (size t K)
  place = omega (arith, s.counted, highest_size n l below, size_cong t left K (λ j h. s.same j t (omega arith) l.task))

  -- at every other task the sum has what it adds to the rank of K without t
  others : (j : ℕ) → j < n → j ≢ t → mixed K left j ≡ rank_part (without K t) j
  unfolding rank_part
  others j h o = by_test (ltb j t)
      (λ w. let b = ltb-true j t w in
      mixed_same K left j (s.same j t (omega arith) l.task) ∙ part_cong K (without K t) j (λ i g. sym (without_other K t i (omega arith))))
      (λ w. let a : t < j = omega (arith, ltb-false j t w) in
      rw (bit_above (suc t) j left l.within a, without_other K t j o, size_without j K t a task))

  -- without t K has the rank that is left of the sum
  rest_is : sum ≡ rank n (without K t) + binomial t i
  unfolding binomial_rank rank_part
  rest_is =
      let at : mixed K left t ≡ rank_part (without K t) t + binomial t i = rw (l.task, task, without_same K t, place) (omega arith) in
      s.summed ∙ sum_differ n t (binomial t i) (rank_part (without K t)) (mixed K left) below at others
      ∙ ap (λ (x : ℕ). x + binomial t i) (sym (rank_by_binomials n (without K t) (lt_of_le_of_lt (without_le K t) s.listed)))

  rest_sum : rank n (without K t) + binomial t (i - 1) ≡ sum_below n (mixed K (without left t))
  unfolding binomial_rank rank_part
  rest_sum =
      let e : i - 1 ≡ size t K = omega (arith, place) in
      let at : mixed K (without left t) t ≡ rank_part (without K t) t + binomial t (i - 1) =
      rw (without_same left t, task, without_same K t, e) (omega arith) in
      ap (λ (x : ℕ). x + binomial t (i - 1)) (rank_by_binomials n (without K t) (lt_of_le_of_lt (without_le K t) s.listed))
      ∙ sym (sum_differ n t (binomial t (i - 1)) (rank_part (without K t)) (mixed K (without left t)) below at
      (λ j h o. rw (without_other left t j o) (others j h o)))

  -- the tasks that stay are below it
  stays : (j : ℕ) → bit (without left t) j ≡ 1 → (bit left j ≡ 1) × (j < t)
  stays j e =
      let o : j ≢ t = λ w. omega (arith, without_same left t, rw w at e) in
      let b : bit left j ≡ 1 = sym (without_other left t j o) ∙ e in
      let u : j < suc t = task_below (suc t) left j l.within b in
      (b, omega arith)

  pub one_lowered : {rest : ℕ} → rest ≡ rank n (without K t) → Lowering n K (without left t) (rest + binomial t (i - 1)) (i - 1)
  one_lowered {rest} e = record {
    listed = s.listed;
    small = lt_of_le_of_lt (without_le left t) s.small;
    same = λ h j a b. let p = stays j b in without_other left t h (omega arith) ∙ s.same h j a p.0;
    counted = omega (arith, s.counted, size_without n left t below l.task);
    summed = rw e rest_sum;
  }

  -- b is the code's binomial
  pub rest_now : {b : ℕ} → b ≡ binomial t i → (b ≤ sum) × (sum - b ≡ rank n (without K t)) × (sum - b < 2 ^ n)
  rest_now {b} e =
      let r : sum - b ≡ rank n (without K t) = omega (arith, rest_is) in
      let small : without K t < 2 ^ n = lt_of_le_of_lt (without_le K t) s.listed in
      (omega (arith, rest_is), r, omega (arith, rank_le n (without K t) small))

  pub lower_fits : (t < n) × (i ≤ n) × (0 < i)
  lower_fits = (below, omega (arith, s.counted, size_le n left), omega (arith, place))

-- ---- the rows

pub rank_small : (K : ℕ) → rank_of K < 2 ^ max_ranked
unfolding rank_of
rank_small K = let l : K % 2 ^ max_ranked < 2 ^ max_ranked = mod-lt K (pow_pos max_ranked) in lt_of_le_of_lt (rank_le max_ranked _ l) l

pub row_fits : {r P : ℕ} → r < 2 ^ 16 → P < 2 ^ 16 → r * P + P < 2 ^ 33
row_fits {r} {P} h l = omega (arith, mul-le-mul_right P h)

-- the first n tasks of K without t
first_without : (n K t : ℕ) → t < n → without K t % 2 ^ n ≡ without (K % 2 ^ n) t
first_without n K t h = same_members n _ _ (mod-lt (without K t) (pow_pos n)) (lt_of_le_of_lt (without_le (K % 2 ^ n) t) (mod-lt K (pow_pos n)))
    (λ j l. bit_first n (without K t) j l ∙ at j l)
  where
    at : (j : ℕ) → j < n → bit (without K t) j ≡ bit (without (K % 2 ^ n) t) j
    at j l = by_test (eqb j t)
        (λ w. rw (eqb-true j t w, without_same K t, without_same (K % 2 ^ n) t))
        (λ w. let o : j ≢ t = eqb-false j t w in rw (without_other K t j o, without_other (K % 2 ^ n) t j o) (sym (bit_first n K j l)))

rank_without : (K t : ℕ) → t < max_ranked → rank_of (without K t) ≡ rank max_ranked (without (K % 2 ^ max_ranked) t)
unfolding rank_of
rank_without K t h = ap (rank max_ranked) (first_without max_ranked K t h)

-- where the row of K without t ends, if t is done, and K's own until then
abbrev row_while : ℕ → ℕ → ℕ → ℕ → ℕ
row_while P K left t = cond (member left t) (rank_of K * P + P) (rank_of (without K t) * P + P)

abbrev pub rows_while : ℕ → ℕ → ℕ → List ℕ
rows_while P K left = map_below max_ranked (row_while P K left)

rows_cong : (f g : ℕ → ℕ) → ((j : ℕ) → j < max_ranked → f j ≡ g j) → map_below max_ranked f ≡ map_below max_ranked g
unfolding map_below
rows_cong f g h = flat_cong max_ranked _ _ (λ j l. ap (λ (x : ℕ). x ∷ []) (h j l))

-- what is not a task of K is done from the start, and its row is K's own
pub rows_none : (P K r : ℕ) → r ≡ rank_of K → map_below max_ranked (λ j. r * P + P) ≡ rows_while P K (K % 2 ^ max_ranked)
rows_none P K r e = rows_cong _ _ (λ j l. ap (λ (x : ℕ). x * P + P) e ∙ by_bit K j
    (λ w. rw (bit_first max_ranked K j l, w, without_none K j w))
    (λ w. rw (bit_first max_ranked K j l, w)))

-- r is the rank that the code has of the list without t
pub rows_one : (P K left t r : ℕ) → t < max_ranked → r ≡ rank max_ranked (without (K % 2 ^ max_ranked) t)
    → set (rows_while P K left) t (r * P + P) ≡ rows_while P K (without left t)
rows_one P K left t r h e =
    let now : r * P + P ≡ row_while P K (without left t) t = rw (without_same left t, rank_without K t h) (ap (λ (x : ℕ). x * P + P) e) in
    rw now (map_set max_ranked t (row_while P K left) (row_while P K (without left t)) h (λ j o. rw (without_other left t j o)))

pub rows_all : (P K left : ℕ) → left ≡ 0 → rows_while P K left ≡ rank_ends P K
unfolding rank_ends
rows_all P K left z = rows_cong _ _ (λ j l. rw (z, bit_none j))
