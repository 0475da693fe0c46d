-- What a call answers: a value, or a refusal, by its number (01, Numbers a call can answer with). Assumes nothing.
use Rattle.std.specs.Prelude.{ℕ, Result, Ok, Err}
use Rattle.model.specs.Answer.{Answer, refused, accepted}
use Rattle.refusal.specs.Numbers.{number_of}
use Rattle.refusal.specs.declared.Refusal.{Refusal}

-- what a call answered: what was asked for, as f tells it, or the number of the refusal
abbrev pub answer_by : {T V : Type 0} → (T → V) → Result T Refusal → Answer V
answer_by f (Ok x) = accepted (f x)
answer_by f (Err r) = refused (number_of r)

-- the same where a number was asked for
abbrev pub answered : Result ℕ Refusal → Answer ℕ
answered r = answer_by (λ (n : ℕ). n) r
