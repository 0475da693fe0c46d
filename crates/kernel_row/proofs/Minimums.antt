-- The least over the numbers below n is the least of a list, taken from either end. Assumes nothing.
use Rattle.model.proofs.Basics.{◌≡◌, sym, ap, ◌∙◌, List, [], ◌∷◌, map, ℕ, zero, suc, ◌≤◌, ◌<◌, min, arith, length, get_or}
use Rattle.model.proofs.Basics.{length-map}
use Rattle.model.specs.{least}
use Rattle.model.proofs.Tools.Positions.{map_at}
use Rattle.kernel_row.specs.Leasts.{no_cost, least_below}
use Rattle.kernel_row.proofs.Passes.{least_cong}

-- the first apart from the others
least_first : (n : ℕ) (f : ℕ → ℕ) → least_below (suc n) f ≡ min (f 0) (least_below n (λ i. f (suc i)))
least_first zero f = omega arith
least_first (suc n) f = omega (arith, least_first n f)

-- of a list that is not empty, and of numbers that are no more than what stands for none
pub least_below_lem : (xs : List ℕ) → 0 < length xs → ((i : ℕ) → i < length xs → get_or xs i 0 ≤ no_cost) → least_below (length xs) (λ i. get_or xs i 0) ≡ least xs
least_below_lem [] some h = absurd (omega arith)
least_below_lem (x ∷ []) some h = omega (arith, h 0 (omega arith))
least_below_lem (x ∷ y ∷ ys) some h = least_first (length (y ∷ ys)) (λ i. get_or (x ∷ y ∷ ys) i 0)
    ∙ ap (min x) (least_below_lem (y ∷ ys) (omega arith) (λ i l. h (suc i) (omega arith)))

-- the same where f i is g of the i-th element
pub least_mapped : (f g : ℕ → ℕ) (xs : List ℕ) → 0 < length xs → ((i : ℕ) → i < length xs → f i ≡ g (get_or xs i 0))
    → ((i : ℕ) → i < length xs → g (get_or xs i 0) ≤ no_cost) → least_below (length xs) f ≡ least (map g xs)
least_mapped f g xs some same small =
    let e : length (map g xs) ≡ length xs = length-map xs g in
    least_cong (length xs) f (λ i. get_or (map g xs) i 0) (λ i l. same i l ∙ sym (map_at g xs i l))
    ∙ ap (λ (n : ℕ). least_below n (λ i. get_or (map g xs) i 0)) (sym e)
    ∙ least_below_lem (map g xs) (omega arith) (λ i l. let m : i < length xs = omega arith in rw (map_at g xs i m) (small i m))
