-- The widths of a sheet's fields: what bytes below 256 say of the numbers in them. Assumes nothing.
use Rattle.model.proofs.Basics.{◌≡◌, true, List, ℕ, ◌*◌, ◌^◌, ◌≤◌, ◌<◌, arith, ltb, are_bytes, ltb-true, ltb-false}
use Rattle.model.specs.{Sheet.Sheet, signed, Layout, tasks_body, doors_body, starts_body, pairs_body, rules_body, points_body}
use Rattle.model.specs.{distances_body, kind1, field_width, field_at, decode_by, layout_of, decode, up, down}
use Rattle.model.proofs.{Bytes.Numbers.number_lt, Tools.Tests.by_test}

-- in two's complement a number of k bytes is less than half of 256 to the k up
pub signed_up : (k n : ℕ) → n < 256 ^ k → 2 * up (signed k n) < 256 ^ k
unfolding signed
signed_up k n h = by_test (ltb (2 * n) (256 ^ k)) (λ w. rw w (ltb-true (2 * n) (256 ^ k) w)) (λ w. rw w (omega arith))

-- and at most half of it down
pub signed_down : (k n : ℕ) → n < 256 ^ k → 2 * down (signed k n) ≤ 256 ^ k
unfolding signed
signed_down k n h = by_test (ltb (2 * n) (256 ^ k))
    (λ w. rw w (omega arith))
    (λ w. rw w (omega (arith, ltb-false (2 * n) (256 ^ k) w)))

-- ---- the fields of a sheet

pub record Widths (S : Sheet) : Type 0 where
  pub end_load : S.end_load < 2 ^ 16
  pub change_up : (j : ℕ) → up (S.change j) < 2 ^ 15
  pub change_down : (j : ℕ) → down (S.change j) ≤ 2 ^ 15
  pub task : (d : ℕ) → S.task d < 2 ^ 16
  pub arrive : (d : ℕ) → S.arrive d < 2 ^ 16
  pub depart : (d : ℕ) → S.depart d < 2 ^ 16
  pub work : (d : ℕ) → S.work d < 2 ^ 32
  pub start_point : (s : ℕ) → S.start_point s < 2 ^ 16
  pub sender : (i : ℕ) → S.sender i < 2 ^ 16
  pub receiver : (i : ℕ) → S.receiver i < 2 ^ 16
  pub rule_door : (i : ℕ) → S.rule_door i < 2 ^ 16
  pub watched : (i : ℕ) → S.watched i < 2 ^ 16
  pub least_count : (i : ℕ) → S.least_count i < 2 ^ 16
  pub charge : (i : ℕ) → S.charge i < 2 ^ 32
  pub end_cost : (p : ℕ) → S.end_cost p < 2 ^ 32
  pub distance : (p q : ℕ) → S.distance p q < 2 ^ 16

-- a field is below 256 to its width
pub field_lt : (L : Layout) (b : List ℕ) → are_bytes b ≡ true → (i f e : ℕ) → field_at L b i f e < 256 ^ field_width L i f
unfolding field_at
field_lt L b h i f e = number_lt (field_width L i f) b _ h

-- a sheet of kind 1 has fields of these widths
pub widths : (b : List ℕ) → are_bytes b ≡ true → Widths (decode b)
unfolding decode decode_by layout_of kind1 field_width
widths b h = record {
  end_load = number_lt 2 b 2 h;
  change_up = λ j. omega (arith, signed_up 2 (field_at kind1 b tasks_body 0 j) (field_lt kind1 b h tasks_body 0 j));
  change_down = λ j. omega (arith, signed_down 2 (field_at kind1 b tasks_body 0 j) (field_lt kind1 b h tasks_body 0 j));
  task = field_lt kind1 b h doors_body 0;
  arrive = field_lt kind1 b h doors_body 1;
  depart = field_lt kind1 b h doors_body 2;
  work = field_lt kind1 b h doors_body 3;
  start_point = field_lt kind1 b h starts_body 0;
  sender = field_lt kind1 b h pairs_body 0;
  receiver = field_lt kind1 b h pairs_body 1;
  rule_door = field_lt kind1 b h rules_body 0;
  watched = field_lt kind1 b h rules_body 1;
  least_count = field_lt kind1 b h rules_body 2;
  charge = field_lt kind1 b h rules_body 3;
  end_cost = field_lt kind1 b h points_body 0;
  distance = λ p q. field_lt kind1 b h distances_body 0 _;
}
