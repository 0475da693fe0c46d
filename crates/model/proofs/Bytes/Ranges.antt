-- What 14 and 15 rule out, and nothing else: every number that a sheet names is in the sheet, and every task has a door. Assumes nothing.
use Rattle.model.proofs.Basics.{◌≡◌, ap, false, not, ◌||◌, ℕ, ◌^◌, ◌<◌, eqb, leb, eqb-true, eq-eqb, leb-false, lt-leb, not-false}
use Rattle.model.specs.{Sheet.Sheet, Layout, bad_door, bad_start, bad_pair, bad_rule, some_bad_door, some_bad_start, some_bad_pair, some_bad_rule}
use Rattle.model.specs.{out_of_range, lacks_door, some_lacks_door, InRange, LeastCounts, Served, is_between}
use Rattle.model.proofs.Tools.Tests.{or_left, or_right, or_neither, between_true, between_is, all_false, one_fails, none_at}
use Rattle.model.proofs.Tools.Tests.{none_below, three_fail}

module _ (L : Layout) (S : Sheet) (h : out_of_range L S ≡ false) where
  kinds : (some_bad_door S ≡ false) × (some_bad_start S ≡ false) × (some_bad_pair S ≡ false)
  unfolding out_of_range
  kinds = three_fail _ _ _ (or_left (some_bad_door S || some_bad_start S || some_bad_pair S) _ h)

  door : (d : ℕ) → d < S.doors
      → (leb S.tasks (S.task d) ≡ false) × (leb S.points (S.arrive d) ≡ false) × (leb S.points (S.depart d) ≡ false)
  unfolding some_bad_door bad_door
  door d l = three_fail _ _ _ (none_at S.doors (bad_door S) kinds.0 d l)

  rule : (i : ℕ) → i < S.rules → (leb S.doors (S.rule_door i) ≡ false) × (leb (2 ^ S.tasks) (S.watched i) ≡ false)
      × (not (is_between 1 L.max_least_count (S.least_count i)) ≡ false)
  unfolding out_of_range some_bad_rule bad_rule
  rule i l = three_fail _ _ _ (none_at S.rules (bad_rule L S) (or_right (some_bad_door S || some_bad_start S || some_bad_pair S) _ h) i l)

  pub in_range : InRange S
  unfolding some_bad_start bad_start some_bad_pair bad_pair
  in_range = record {
    task = λ d l. leb-false _ _ (door d l).0;
    arrive = λ d l. leb-false _ _ (door d l).1;
    depart = λ d l. leb-false _ _ (door d l).2;
    start = λ s l. leb-false _ _ (none_at S.starts (bad_start S) kinds.1 s l);
    sender = λ i l. leb-false _ _ (or_left (leb S.tasks (S.sender i)) _ (none_at S.pairs (bad_pair S) kinds.2 i l));
    receiver = λ i l. leb-false _ _ (or_right (leb S.tasks (S.sender i)) _ (none_at S.pairs (bad_pair S) kinds.2 i l));
    rule_door = λ i l. leb-false _ _ (rule i l).0;
    watched = λ i l. leb-false _ _ (rule i l).1;
  }

  pub least_counts_lem : LeastCounts L S
  least_counts_lem i l = between_true 1 L.max_least_count (S.least_count i) (not-false _ (rule i l).2)

pub range_passes : (L : Layout) (S : Sheet) → InRange S → LeastCounts L S → out_of_range L S ≡ false
unfolding out_of_range some_bad_door some_bad_start some_bad_pair some_bad_rule bad_door bad_start bad_pair bad_rule
range_passes L S R C = or_neither (or_neither (or_neither
    (none_below S.doors (bad_door S) (λ d l. or_neither (or_neither (lt-leb _ _ (R.task d l)) (lt-leb _ _ (R.arrive d l))) (lt-leb _ _ (R.depart d l))))
    (none_below S.starts (bad_start S) (λ s l. lt-leb _ _ (R.start s l))))
    (none_below S.pairs (bad_pair S) (λ i l. or_neither (lt-leb _ _ (R.sender i l)) (lt-leb _ _ (R.receiver i l)))))
    (none_below S.rules (bad_rule L S) (λ i l. or_neither (or_neither (lt-leb _ _ (R.rule_door i l)) (lt-leb _ _ (R.watched i l)))
    (ap not (between_is 1 L.max_least_count (S.least_count i) (C i l).0 (C i l).1))))

pub served : (S : Sheet) → some_lacks_door S ≡ false → Served S
unfolding some_lacks_door lacks_door
served S h t l =
    let r = one_fails S.doors (λ d. not (eqb (S.task d) t)) (none_at S.tasks (lacks_door S) h t l) in
    (r.0, r.1, eqb-true _ _ (not-false _ r.2))

pub served_passes : (S : Sheet) → Served S → some_lacks_door S ≡ false
unfolding some_lacks_door lacks_door
served_passes S D = none_below S.tasks (lacks_door S) (λ t l. let d = D t l in
    all_false S.doors (λ d. not (eqb (S.task d) t)) d.0 d.1 (ap not (eq-eqb (S.task d.0) t d.2)))
