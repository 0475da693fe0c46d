-- What `write_plan` is in each of its three cases; where it writes, the four parts stand one behind the other. Assumes nothing.
use Rattle.model.proofs.Basics.{◌≡◌, refl, ap, true, false, List, ℕ, ◌-◌, ◌≤◌, ◌<◌, arith, length, get_or, take, length-take-le, get_or-take}
use Rattle.model.proofs.Basics.{lt-ltb, le-ltb}
use Rattle.model.specs.Answer.{Answer}
use Rattle.model.specs.{refused, accepted, bytes_of, overwrite_at, plan_start_at, plan_doors_at, plan_cost_at, plan_length, plan_head, door_bytes}
use Rattle.model.specs.{plan_bytes, wrong_tasks, short_room, write_tests, write_answer, bytes_written, write_plan}
use Rattle.model.proofs.Tools.Folds.{flat_cong}
use Rattle.model.proofs.Bytes.Numbers.{length_bytes_of, row, length_row}
use Rattle.model.proofs.Bytes.Overwriting.{over_front, over_behind}
use Rattle.model.proofs.Bytes.PlanBytes.{fitting, length_head, to_start, to_doors, length_to_start, length_to_doors, length_plan}
use Rattle.store.specs.Rows.{row_bytes}

-- the first n doors
front_row : (n : ℕ) (ds : List ℕ) → n ≤ length ds → row_bytes (take n ds) ≡ row 2 n (λ i. get_or ds i 0)
front_row n ds h =
    rw (length-take-le n ds h) (flat_cong n _ (λ i. bytes_of 2 (get_or ds i 0)) (λ i l. ap (bytes_of 2) (get_or-take n ds i 0 l)))

module _ (n start : ℕ) (doors : List ℕ) (cost : ℕ) (b : List ℕ) where
  -- answer and bytes, where the code has a for the one and d for the other
  abbrev pub Wrote : Answer ℕ → List ℕ → Type 0
  Wrote a d = (a ≡ (write_plan n start doors cost b).answer) × (d ≡ (write_plan n start doors cost b).bytes)

  pub wrong_number : wrong_tasks n (length doors) ≡ true → Wrote (refused 12) b
  unfolding write_plan write_answer write_tests short_room bytes_written
  wrong_number t = rw t (refl, refl)

  -- m is the length that the code computes
  module _ (m : ℕ) (t : wrong_tasks n (length doors) ≡ false) (e : m ≡ plan_length n) where
    pub no_room : length b < m → Wrote (refused 21) b
    unfolding write_plan write_answer write_tests short_room bytes_written
    no_room l = rw (t, lt-ltb (length b) (plan_length n) (omega arith)) (refl, refl)

    -- the buffer after each part
    pub plan_written : {b₁ b₂ b₃ b₄ : List ℕ} → m ≤ length b
        → b₁ ≡ overwrite_at 0 (plan_head n) b
        → b₂ ≡ overwrite_at plan_start_at (bytes_of 2 start) b₁
        → b₃ ≡ overwrite_at plan_doors_at (row_bytes (take n doors)) b₂
        → b₄ ≡ overwrite_at (m - 8) (bytes_of 8 cost) b₃
        → Wrote (accepted m) b₄
    unfolding write_plan write_answer write_tests short_room bytes_written plan_bytes door_bytes plan_length plan_cost_at plan_doors_at
    plan_written l e₁ e₂ e₃ e₄ =
        let place : m - 8 ≡ plan_cost_at n = omega arith in
        let doorRow = row 2 n (λ i. get_or doors i 0) in
        rw (t, le-ltb (length b) (plan_length n) (omega arith), e₄, e₃, e₂, e₁, place, front_row n doors (fitting n (length doors) t).2) (
          ap accepted e,
          rw (
            over_behind plan_start_at (plan_head n) (bytes_of 2 start) b (length_head n) (rw length_bytes_of (omega arith)),
            over_behind plan_doors_at (to_start n start) doorRow b (length_to_start n start) (rw length_row (omega arith)),
            over_behind _ (to_doors n start doors) (bytes_of 8 cost) b (length_to_doors n start doors) (rw length_bytes_of (omega arith)),
          ) (over_front (plan_bytes n start doors cost) b (rw length_plan (omega arith))),
        )
