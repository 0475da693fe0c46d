-- The rank summed up from the lowest task: of K's tasks some are left, all above the others; i are done, and the sum has what they add. Assumes nothing.
use Rattle.model.proofs.Basics.{◌≡◌, sym, ◌∙◌, ◌≢◌, cond, ℕ, suc, ◌+◌, ◌^◌, ◌≤◌, ◌<◌, add-one, arith}
use Rattle.model.specs.{sum_below, bit, member, without, size}
use Rattle.model.proofs.Tools.Tests.{by_test, not_less}
use Rattle.model.proofs.Tools.Folds.{sum_cong, sum_none}
use Rattle.model.proofs.TaskLists.Masks.{bit_none, without_same, without_other, without_le, size_without, size_none, size_le}
use Rattle.rank.specs.Binomials.{binomial}
use Rattle.rank.specs.Ranks.{rank, rank_part, binomial_rank}
use Rattle.rank.proofs.Sums.{sum_differ}
use Rattle.rank.proofs.Counting.{rank_by_binomials, rank_le}
use Rattle.model.proofs.TaskLists.Lowest.{Lowest, task_below}
use Rattle.rank.proofs.Ends.{lowest_none}

-- what the tasks of left add
abbrev added : ℕ → ℕ → ℕ → ℕ
added K left j = cond (member left j) (rank_part K j) 0

pub record Ranking (n K left sum i : ℕ) : Type 0 where
  pub listed : K < 2 ^ n
  pub small : left < 2 ^ n
  pub among : (j : ℕ) → bit left j ≡ 1 → bit K j ≡ 1
  pub places : (j : ℕ) → bit left j ≡ 1 → i + size j left ≡ size j K
  pub counted : i + size n left ≡ size n K
  pub summed : sum + sum_below n (added K left) ≡ binomial_rank n K

-- what t adds as the i-th task, from 0
part_is : (K t i : ℕ) → bit K t ≡ 1 → size t K ≡ i → rank_part K t ≡ binomial t (suc i)
unfolding rank_part
part_is K t i h e = rw (h, e)

pub none_ranked : (n K : ℕ) → K < 2 ^ n → Ranking n K K 0 0
unfolding binomial_rank rank_part
none_ranked n K h = record {
  listed = h;
  small = h;
  among = λ j e. e;
  places = λ j e. omega arith;
  counted = omega arith;
  summed = omega (arith, sum_cong n (added K K) (rank_part K) (λ j l. by_test (member K j) (λ w. rw w) (λ w. rw w)));
}

module _ {n K left sum i : ℕ} (s : Ranking n K left sum i) where
  -- i is the number of tasks, and the sum the rank, when none is left
  pub all_ranked : left ≡ 0 → (sum ≡ rank n K) × (i ≡ size n K)
  all_ranked z =
      let size_zero : size n left ≡ 0 = rw z (size_none n) in
      let none : sum_below n (added K left) ≡ 0 = sum_none n _ (λ j l. rw (z, bit_none j)) in
      (omega (arith, s.summed, rank_by_binomials n K s.listed), omega (arith, s.counted, size_zero))

  module _ {t : ℕ} (l : Lowest left t) where
    below : t < n
    below = task_below n left t s.small l.task

    place : size t K ≡ i
    place = omega (arith, s.places t l.task, lowest_none l)

    part : rank_part K t ≡ binomial t (suc i)
    part = part_is K t i (s.among t l.task) place

    rest : sum_below n (added K left) ≡ sum_below n (added K (without left t)) + binomial t (suc i)
    rest = sum_differ n t (binomial t (suc i)) (added K (without left t)) (added K left) below
        (rw (l.task, without_same left t, part) (omega arith))
        (λ j b o. rw (without_other left t j o))

    pub rank_fits : (t ≤ n) × (i + 1 ≤ n) × (sum + binomial t (i + 1) ≤ K)
    rank_fits = (
      omega (arith, below),
      omega (arith, s.counted, size_le n K, size_without n left t below l.task),
      rw add-one (omega (arith, s.summed, rest, rank_by_binomials n K s.listed, rank_le n K s.listed)),
    )

    -- the tasks that stay are above it
    stays : (j : ℕ) → bit (without left t) j ≡ 1 → (bit left j ≡ 1) × (t < j)
    stays j e =
        let o : j ≢ t = λ w. omega (arith, without_same left t, rw w at e) in
        let b : bit left j ≡ 1 = sym (without_other left t j o) ∙ e in
        (b, not_less j (suc t) (λ (h : j < suc t). omega (arith, l.none_below j (omega arith))))

    pub one_ranked : Ranking n K (without left t) (sum + binomial t (i + 1)) (i + 1)
    one_ranked = record {
      listed = s.listed;
      small = omega (arith, s.small, without_le left t);
      among = λ j e. s.among j (stays j e).0;
      places = λ j e. omega (arith, s.places j (stays j e).0, size_without j left t (stays j e).1 l.task);
      counted = omega (arith, s.counted, size_without n left t below l.task);
      summed = rw add-one (omega (arith, s.summed, rest));
    }
