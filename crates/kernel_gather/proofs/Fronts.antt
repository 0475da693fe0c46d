-- An array whose front a loop fills, with f of each element of a list. Assumes nothing.
use Rattle.model.proofs.Basics.{◌≡◌, refl, sym, ap, ◌∙◌, List, [], ◌∷◌, ◌++◌, map, ℕ, suc, ◌+◌, ◌<◌, add-one, arith, length, get_or, take}
use Rattle.model.proofs.Basics.{drop, set, length-map, length-set, length-take, drop-cons, append_snoc, set_at}
use mathlib.Core.List.{map-append}
use lib.Seq.{take-suc, take-length}

module _ {A : Type 0} where
  -- one element more at the front
  over_snoc : (xs a : List A) (v : A) (m : ℕ) → length xs ≡ m → m < length a → set (xs ++ drop m a) m v ≡ xs ++ (v ∷ []) ++ drop (suc m) a
  over_snoc xs a v m e l =
      rw (drop-cons a m v l)
      (set_at xs (get_or a m v) (drop (suc m) a) v m e ∙ sym (append_snoc xs v (drop (suc m) a)))

  -- the array a with f of the first i elements of xs at its front is b
  pub record Front (f : ℕ → A) (xs : List ℕ) (a b : List A) (i : ℕ) : Type 0 where
    pub size : length b ≡ length a
    pub is : b ≡ map f (take i xs) ++ drop i a

  pub no_front : (f : ℕ → A) (xs : List ℕ) (a : List A) → Front f xs a a 0
  no_front f xs a = record { size = refl; is = refl }

  module _ {f : ℕ → A} {xs : List ℕ} {a b : List A} {i : ℕ} (h : Front f xs a b i) where
    -- d is the next element, and `new` the array after it
    pub front_next : {d : ℕ} {new : List A} → i < length xs → i < length a → d ≡ get_or xs i 0 → new ≡ set b i (f d) → Front f xs a new (i + 1)
    front_next {d} l k q w = record {
      size = ap length w ∙ length-set b i (f d) ∙ h.size;
      is = w ∙ rw (h.is, q, add-one, take-suc xs i 0 l, map-append)
          (over_snoc (map f (take i xs)) a (f (get_or xs i 0)) i (length-map (take i xs) f ∙ omega (arith, length-take i xs)) k);
    }

    pub front_whole : i ≡ length xs → b ≡ map f xs ++ drop i a
    front_whole e = h.is ∙ ap (λ (ys : List ℕ). map f ys ++ drop i a) (ap (λ (n : ℕ). take n xs) e ∙ take-length xs)
