-- What a call answers: a refusal's number alone, or what it was asked for (01, Numbers a call can answer with). Assumes nothing.
use Rattle.std.specs.Prelude.{Bool, true, false, List, [], ◌∷◌, ℕ}

infix 20 ◌when◌
-- an answer (01, Numbers a call can answer with)
pub data Answer (A : Type 0) : Type 0 where
  refused : ℕ → Answer A
  accepted : A → Answer A

-- a test of a call: the number that it refuses with, and whether that applies (01, Numbers a call can answer with)
pub data Test : Type 0 where
  ◌when◌ : ℕ → Bool → Test

-- refused with n where that applies, and otherwise the answer a (01, Numbers a call can answer with)
abbrev pub refuse_if : {A : Type 0} → Bool → ℕ → Answer A → Answer A
refuse_if true n a = refused n
refuse_if false n a = a

-- refused with the number of the first test that applies, in the order of the list, and otherwise the answer a (01, Numbers a call can answer with)
abbrev pub refuse_first : {A : Type 0} → List Test → Answer A → Answer A
refuse_first [] a = a
refuse_first ((n when applies) ∷ ts) a = refuse_if applies n (refuse_first ts a)

-- ---- an answer through the C interface (01, Numbers a call can answer with)

-- what the call returns: 0, or the refusal's number
abbrev pub status : {A : Type 0} → Answer A → ℕ
status (refused n) = n
status (accepted x) = 0

-- what a place that was lent holds afterwards: the part f of what was asked for, or after a refusal what it held before
abbrev pub placed : {A : Type 0} → {B : Type 0} → (A → B) → Answer A → B → B
placed f (refused n) before = before
placed f (accepted x) before = f x

-- the same where a number was asked for
abbrev pub placed_number : Answer ℕ → ℕ → ℕ
placed_number a before = placed (λ (n : ℕ). n) a before
