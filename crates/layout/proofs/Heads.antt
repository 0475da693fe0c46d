-- The head of a plan as a row of numbers that fit their bytes, written and compared with bytes. Assumes nothing.
use Rattle.model.proofs.Basics.{◌≡◌, refl, sym, ap, ◌∙◌, Bool, true, false, not, List, append_assoc, ℕ, ◌*◌, ◌%◌, ◌^◌, ◌≤◌, ◌<◌, arith, eqb}
use Rattle.model.proofs.Basics.{ltb, length, get_or, take, are_bytes, ne_eqb, ltb-true, lt-ltb}
use Rattle.model.specs.{all_below, all_in, same_list, number_at, overwrite_at, line_at, plan_start_at, plan_doors_at, plan_cost_at, line_bytes, plan_head}
use Rattle.model.proofs.Tools.Elements.{in_at}
use Rattle.model.proofs.Tools.Searches.{PassedBelow, all_passed, one_failed}
use Rattle.model.proofs.Bytes.Numbers.{row}
use Rattle.model.proofs.Bytes.Overwriting.{bytes_mod}
use Rattle.model.proofs.Bytes.Rows.{same_row}
use Rattle.store.specs.Rows.{row_bytes}
use Rattle.layout.specs.Heads.{head_numbers, head_count}

-- the head is eleven numbers of two bytes
head_row : (n : ℕ) → plan_head n ≡ row 2 head_count (λ i. get_or (head_numbers n) i 0)
unfolding plan_head line_bytes head_numbers
head_row n = simp (append_assoc, bytes_mod 2 (plan_cost_at n))

-- numbers are what the code has for the head's
pub head_written : (n : ℕ) (numbers a b : List ℕ) → numbers ≡ head_numbers n → b ≡ overwrite_at 0 (row_bytes numbers) a
    → b ≡ overwrite_at 0 (plan_head n) a
unfolding head_numbers
head_written n numbers a b e w = rw (head_row n) (rw e at w)

head_fits : (n : ℕ) → n < 2 ^ 16 → (i : ℕ) → i < head_count → get_or (head_numbers n) i 0 < 2 ^ 16
unfolding head_numbers plan_doors_at plan_start_at line_at
head_fits n h i l =
    let cost : plan_cost_at n % 2 ^ 16 < 2 ^ 16 = omega arith in
    let all : all_in (λ x. ltb x (2 ^ 16)) (head_numbers n) ≡ true = rw (lt-ltb n (2 ^ 16) h, lt-ltb _ _ cost) in
    ltb-true _ _ (in_at (λ x. ltb x (2 ^ 16)) (head_numbers n) 0 all i l)

-- number i is what the bytes hold there
abbrev pub same_at : List ℕ → List ℕ → ℕ → Bool
same_at q numbers i = eqb (number_at 2 q (2 * i)) (get_or numbers i 0)

-- numbers are the head's, and q are bytes that a head has room in
pub record Comparable (n : ℕ) (q numbers : List ℕ) : Type 0 where
  pub head_is : numbers ≡ head_numbers n
  pub fits : n < 2 ^ 16
  pub bytes : are_bytes q ≡ true
  pub long : plan_start_at ≤ length q

module _ {n : ℕ} {q numbers : List ℕ} (c : Comparable n q numbers) where
  head_same : same_list (take plan_start_at q) (plan_head n) ≡ all_below head_count (same_at q numbers)
  unfolding plan_start_at line_at
  head_same =
      rw (head_row n, c.head_is)
      (same_row 2 head_count (λ i. get_or (head_numbers n) i 0) q c.bytes c.long (head_fits n c.fits))

  -- x is what the code reads
  pub one_differs : {i x : ℕ} → i < head_count → x ≡ number_at 2 q (2 * i) → (x ≡ get_or numbers i 0 → ⊥)
      → true ≡ not (same_list (take plan_start_at q) (plan_head n))
  one_differs l r ne = sym (ap not (head_same ∙ one_failed (same_at q numbers) l refl (ne_eqb _ _ (λ t. ne (r ∙ t)))))

  pub none_differs : {k : ℕ} → PassedBelow head_count (same_at q numbers) k → head_count ≤ k
      → false ≡ not (same_list (take plan_start_at q) (plan_head n))
  none_differs s l = sym (ap not (head_same ∙ all_passed s l refl))
