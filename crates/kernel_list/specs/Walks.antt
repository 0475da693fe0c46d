-- A list walked task by task, the lowest first. Assumes nothing.
use Rattle.std.specs.Prelude.{◌≡◌, ℕ, Option, MatchOption, ◌<◌}
use Rattle.model.specs.TaskList.{bit, without}
use Rattle.kernel_list.specs.declared.Walk.{Walk}

-- t is the lowest task of K
pub record IsLowest (K t : ℕ) : Type 0 where
  pub task : bit K t ≡ 1
  pub none_below : (j : ℕ) → j < t → bit K j ≡ 0

-- from what is left the lowest task is taken, until nothing is left
abbrev pub TakesLowest : Walk → Option ℕ → Walk → Type 0
TakesLowest left t then = MatchOption t (left.0 ≡ 0) (λ t. IsLowest left.0 t × (then.0 ≡ without left.0 t))
