-- Lists by their places: what a test of every element says of each place, and back. Assumes nothing.
use Rattle.model.proofs.Basics.{◌≡◌, refl, Bool, true, List, [], ◌∷◌, ℕ, suc, ◌<◌, length, get_or, are_bytes, lt-ltb, w8, Fits}
use Rattle.model.specs.{all_in}
use Rattle.model.proofs.Tools.{Tests.and_both, Lists.all_get_d, Lists.all_in_lem}

pub in_at : {A : Type 0} (test : A → Bool) (xs : List A) (d : A) → all_in test xs ≡ true → (i : ℕ) → i < length xs → test (get_or xs i d) ≡ true
in_at test xs d h = all_get_d _ xs d (all_in_lem test xs h)

-- the elements of a slice of bytes, as the code knows them
pub are_bytes_lem : (b : List ℕ) → ((i : ℕ) → Fits w8 (get_or b i 0)) → are_bytes b ≡ true
are_bytes_lem [] h = refl
are_bytes_lem (x ∷ b) h = and_both (lt-ltb x 256 (h 0).fits) (are_bytes_lem b (λ i. h (suc i)))
