-- A row of numbers in bytes: written into a buffer number by number, and compared with bytes number by number. Assumes nothing.
use Rattle.model.proofs.Basics.{◌≡◌, sym, ap, ◌∙◌, true, List, [], ℕ, suc, ◌+◌, ◌*◌, ◌^◌, ◌≤◌, ◌<◌, zero-add, mul-le-mul_left}
use Rattle.model.proofs.Basics.{add-one, arith, eqb, length, take, drop, take-append-drop, length-take-le, are_bytes, eqb-true}
use Rattle.model.proofs.Basics.{eq-eqb}
use Rattle.model.specs.{all_below, same_list, number_at, bytes_of, overwrite_at}
use Rattle.model.proofs.Tools.{Tests.same_test, Tests.all_at, Tests.all_below_lem, Tests.same_list_lem, Tests.list_same, Folds.flat_cong}
use Rattle.model.proofs.Bytes.Numbers.{length_bytes_of, number_front, row, length_row, read_row, row_on}
use Rattle.model.proofs.Bytes.Overwriting.{over_not, length_over, over_none, over_on}

-- a number more of a row is written
pub over_row : (k n i : ℕ) (f : ℕ → ℕ) (b : List ℕ) → i + k * suc n ≤ length b
    → overwrite_at (i + k * n) (bytes_of k (f n)) (overwrite_at i (row k n f) b) ≡ overwrite_at i (row k (suc n) f) b
over_row k n i f b h = rw (← length_row k n f) (over_on i (row k n f) (bytes_of k (f n)) b (rw (length_row, length_bytes_of) (omega arith)))

-- a row of numbers that fit their bytes stands at the front where each number is read there
pub same_row : (k n : ℕ) (f : ℕ → ℕ) (b : List ℕ) → are_bytes b ≡ true → k * n ≤ length b → ((i : ℕ) → i < n → f i < 256 ^ k)
    → same_list (take (k * n) b) (row k n f) ≡ all_below n (λ i. eqb (number_at k b (k * i)) (f i))
same_row k n f b bytes l fits = same_test _ _
    (λ e. all_below_lem n _ (λ i m. eq-eqb _ _ (there i m (same_list_lem _ _ e))))
    (λ e. rw (here e) (list_same (take (k * n) b)))
  where
    there : (i : ℕ) → i < n → take (k * n) b ≡ row k n f → number_at k b (k * i) ≡ f i
    there i m e =
        let long : length (take (k * n) b) ≡ k * n = length-take-le (k * n) b l in
        ap (λ (x : List ℕ). number_at k x (k * i)) (sym (take-append-drop (k * n) b))
        ∙ number_front k (take (k * n) b) (drop (k * n) b) (k * i) (omega (arith, mul-le-mul_left k m))
        ∙ rw (e, ← zero-add (k * i)) (read_row k n f [] i m (fits i m))

    here : all_below n (λ i. eqb (number_at k b (k * i)) (f i)) ≡ true → row k n f ≡ take (k * n) b
    here e =
        flat_cong n _ (λ i. bytes_of k (number_at k b (0 + k * i))) (λ i m. ap (bytes_of k) (rw (zero-add (k * i)) (sym (eqb-true _ _ (all_at n _ e i m)))))
        ∙ row_on k n b 0 bytes (omega arith)
        ∙ rw (zero-add (k * n))

-- ---- a row that a loop writes, its numbers of k bytes

pub row_too_long : (k n p : ℕ) (f : ℕ → ℕ) (b : List ℕ) → length b < p + k * n → b ≡ overwrite_at p (row k n f) b
row_too_long k n p f b h = sym (over_not p (row k n f) b (rw length_row h))

-- of m numbers i are written to the buffer a, from byte p on, which yields b
pub record Written (k m p : ℕ) (f : ℕ → ℕ) (a b : List ℕ) (i : ℕ) : Type 0 where
  pub within : i ≤ m
  pub so_far : b ≡ overwrite_at p (row k i f) a

pub none_written : (k m p : ℕ) (f : ℕ → ℕ) (a : List ℕ) → p ≤ length a → Written k m p f a a 0
none_written k m p f a h = record { within = omega arith; so_far = sym (over_none p a h) }

module _ {k m p : ℕ} {f : ℕ → ℕ} {a b : List ℕ} {i : ℕ} (w : Written k m p f a b i) where
  -- d is the buffer after number i
  pub one_written : (at : ℕ) (d : List ℕ) → i < m → p + k * m ≤ length a → at ≡ p + k * i → d ≡ overwrite_at at (bytes_of k (f i)) b → Written k m p f a d (i + 1)
  one_written at d l h place e = record {
    within = omega arith;
    so_far = rw add-one (e ∙ rw (place, w.so_far) (over_row k i p f a (omega (arith, mul-le-mul_left k l))));
  }

  pub same_room : length b ≡ length a
  same_room = ap length w.so_far ∙ length_over p (row k i f) a

  pub all_written : m ≤ i → b ≡ overwrite_at p (row k m f) a
  all_written l = let e : m ≡ i = omega (arith, w.within) in rw e w.so_far
