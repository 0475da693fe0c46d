-- What is prepared are the numbers of the sheet, which the kernel can work on. Assumes nothing.
use Rattle.model.proofs.Basics.{◌≡◌, refl, ◌∙◌, ◌&&◌, List, ℕ, ◌*◌, ◌<◌, arith, eqb, ltb, pos, true, ◌^◌, ◌≤◌, ℤ, negsuc, are_bytes, mag, length}
use Rattle.model.proofs.Basics.{eqb-true, eq-eqb, ltb-true, lt-ltb}
use Rattle.model.specs.{any_below, overwrite, max_tasks, max_doors, max_starts, max_rules, max_points, CountsWithin, InRange, up, down, decode}
use Rattle.model.specs.Sheet.{Sheet}
use Rattle.model.proofs.Tools.Tests.{same_test, and_left, and_right, and_both, any_true, one_passes}
use Rattle.model.proofs.Tools.Folds.{map_below_at}
use Rattle.model.proofs.Theory.Bounds.{field_limits, kind1_limits, kind1_within, cost_small}
use Rattle.model.proofs.Bytes.Widths.{widths}
use Rattle.model.proofs.Calls.{Reading.Reads, Reading.counts_read, Reading.loads_read, Planning.plannable}
use Rattle.kernel_sheet.specs.declared.Numbers.{Numbers}
use Rattle.kernel_sheet.specs.Prepared.{NumbersOf, Workable, Prepared, sends, serves}
use Rattle.kernel_columns.specs.ByColumns.{columns_of}
use Rattle.kernel_columns.proofs.Entries.{columns_held}
use Rattle.kernel_prepare.specs.Preparing.{receivers_below, doors_below, counts_of, tasks_of, doors_of, rules_of, numbers_of}
use Rattle.kernel_prepare.proofs.Padding.{padded_at, length_padded}
use Rattle.kernel_prepare.proofs.Joining.{receivers_join, doors_join, joined_member}

module _ (S : Sheet) where
  -- some door below n is one of task t and is d: so d is below n, and one of task t
  this_door : (n t d : ℕ) → any_below n (λ i. eqb (S.task i) t && eqb i d) ≡ (ltb d n && eqb (S.task d) t)
  this_door n t d = same_test _ _
      (λ h.
      let r = one_passes n (λ i. eqb (S.task i) t && eqb i d) h in
      let e : r.0 ≡ d = eqb-true r.0 d (and_right (eqb (S.task r.0) t) _ r.2) in
      and_both (lt-ltb d n (rw e at r.1)) (rw e at (and_left (eqb (S.task r.0) t) _ r.2)))
      (λ h. any_true n (λ i. eqb (S.task i) t && eqb i d) d (ltb-true d n (and_left (ltb d n) _ h)) (and_both (and_right (ltb d n) _ h) (eq-eqb d d refl)))

  pub numbers_held : CountsWithin S → InRange S → NumbersOf S (numbers_of S)
  unfolding numbers_of counts_of tasks_of doors_of rules_of sends serves
  numbers_held W R = record {
    counts = record { end_load = refl; tasks = refl; doors = refl; starts = refl; rules = refl; points = refl };
    tasks = record {
      change = padded_at (pos 0) max_tasks S.tasks S.change;
      receivers = λ t j l.
          rw (map_below_at max_tasks (receivers_below S S.pairs) t 0 (omega (arith, W.tasks)))
          (joined_member (receivers_join S) S.pairs t j (λ i k. omega (arith, W.tasks, R.receiver i k)));
      doors = λ t d l.
          rw (map_below_at max_tasks (doors_below S S.doors) t 0 (omega (arith, W.tasks)))
          (joined_member (doors_join S) S.doors t d (λ i k. omega (arith, W.doors)) ∙ this_door S.doors t d);
    };
    doors = record {
      column = padded_at 0 max_doors S.doors (λ d. S.arrive d * S.points);
      task = padded_at 0 max_doors S.doors S.task;
      depart = padded_at 0 max_doors S.doors S.depart;
      work = padded_at 0 max_doors S.doors S.work;
    };
    rules = record {
      door = padded_at 0 max_rules S.rules S.rule_door;
      watched = padded_at 0 max_rules S.rules S.watched;
      least = padded_at 0 max_rules S.rules S.least_count;
      most = padded_at 0 max_rules S.rules (λ i. 1);
      charge = padded_at 0 max_rules S.rules S.charge;
    };
    starts = padded_at 0 max_starts S.starts S.start_point;
    ends = padded_at 0 max_points S.points S.end_cost;
  }

  -- there is room for the starts
  pub starts_room : {x : Numbers} → x ≡ numbers_of S → CountsWithin S → S.starts ≤ length x.starts
  unfolding numbers_of
  starts_room e W = rw (e, length_padded 0 max_starts S.starts S.start_point W.starts) W.starts

-- ---- a sheet that reads

-- the magnitude of a change of 16 bits
change_small : (z : ℤ) → up z < 2 ^ 15 → down z ≤ 2 ^ 15 → mag z < 2 ^ 15
change_small (pos n) u d = u
change_small (negsuc n) u d = omega (arith, d)

module _ (b : List ℕ) (bytes : are_bytes b ≡ true) (reads : Reads b) where
  -- the kernel can work on it: its sums are below 2 ^ 40
  pub workable : Workable (decode b)
  unfolding kind1_limits field_limits
  workable =
      let n = counts_read b reads in
      let w = widths b bytes in
      record {
        counts = n;
        plannable = plannable b reads;
        loads = loads_read b reads;
        change = λ t l. change_small ((decode b).change t) (w.change_up t) (w.change_down t);
        work = λ d l. w.work d;
        charge = λ i l. w.charge i;
        load = λ K. omega (arith, (kind1_within b bytes n).load K);
        distance = λ p q l k. omega (arith, w.distance p q);
        sums = λ K p ds h. omega (arith, cost_small b bytes n K p ds h);
      }

  -- and what is prepared of it are its numbers and its columns; buf is what the columns' array held before
  pub prepared : (buf : List ℕ) {x : Numbers} {columns : List ℕ} → x ≡ numbers_of (decode b) → columns ≡ overwrite (columns_of (decode b)) buf → Prepared (decode b) x columns
  prepared buf e c = record {
    workable = workable;
    numbers = rw e (numbers_held (decode b) workable.counts workable.plannable.ranges);
    columned = columns_held (decode b) buf c;
  }
