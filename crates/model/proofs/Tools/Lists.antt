-- Elements of lists: what holds of each, and what is in a list that was gathered, mapped or kept. Assumes nothing.
use Rattle.model.proofs.Basics.{◌≡◌, refl, sym, ap, ap₂, ◌∙◌, subst, ⊎_elim, Bool, true, false, cond, List, [], ◌∷◌, ◌++◌, map}
use Rattle.model.proofs.Basics.{List-as-Memᴰ, List·Memᴰ·not-nil, List·Memᴰ·head, List·Memᴰ·tail, List·Memᴰ·cases-cons, Memᴰ·map}
use Rattle.model.proofs.Basics.{Memᴰ·append-left, Memᴰ·append-right, Option, none, some, ℕ, zero, suc, ◌<◌, arith, ltb, length, get_or}
use Rattle.model.proofs.Basics.{ltb-true}
use Rattle.model.specs.{flat_map_below, keep_if, lists_below, all_in}
use Rattle.model.proofs.Tools.Tests.{and_left, and_right, and_both, by_last, by_test}

-- an element of a list: one way where it is the first, another where it is one of the others
pub by_member : {A P : Type 0} {x y : A} {ys : List A} → List-as-Memᴰ x (y ∷ ys) → (x ≡ y → P) → (List-as-Memᴰ x ys → P) → P
by_member m f g = ⊎_elim f g (List·Memᴰ·cases-cons m)

-- ---- of each element

module _ {A : Type 0} (P : A → Type 0) where
  abbrev pub All : List A → Type 0
  All [] = Unit {0}
  All (x ∷ xs) = P x × All xs

  abbrev pub AllSome : Option A → Type 0
  AllSome none = Unit {0}
  AllSome (some x) = P x

  pub all_append : (xs ys : List A) → All xs → All ys → All (xs ++ ys)
  all_append [] ys h k = k
  all_append (x ∷ xs) ys h k = (h.0, all_append xs ys h.1 k)

  pub all_flat : (n : ℕ) (g : ℕ → List A) → ((i : ℕ) → i < n → All (g i)) → All (flat_map_below n g)
  all_flat zero g h = tt
  all_flat (suc n) g h = all_append (flat_map_below n g) (g n) (all_flat n g (λ i l. h i (omega arith))) (h n (omega arith))

  pub all_keep : (p : A → Bool) (xs : List A) → All xs → All (keep_if p xs)
  all_keep p [] h = tt
  all_keep p (x ∷ xs) h = by_test (p x) (λ w. rw w (h.0, all_keep p xs h.1)) (λ w. rw w (all_keep p xs h.1))

  -- what passes the test
  pub all_kept : (p : A → Bool) → ((x : A) → p x ≡ true → P x) → (xs : List A) → All (keep_if p xs)
  all_kept p h [] = tt
  all_kept p h (x ∷ xs) = by_test (p x) (λ w. rw w (h x w, all_kept p h xs)) (λ w. rw w (all_kept p h xs))

  pub all_member : (xs : List A) → All xs → (x : A) → List-as-Memᴰ x xs → P x
  all_member [] h x m = absurd (List·Memᴰ·not-nil m)
  all_member (y ∷ ys) h x m = by_member m (λ w. subst P (sym w) h.0) (λ w. all_member ys h.1 x w)

  pub member_all : (xs : List A) → ((x : A) → List-as-Memᴰ x xs → P x) → All xs
  member_all [] h = tt
  member_all (x ∷ xs) h = (h x (List·Memᴰ·head refl), member_all xs (λ y m. h y (List·Memᴰ·tail m)))

pub all_get_d : {A : Type 0} (P : A → Type 0) (xs : List A) (d : A) → All P xs → (i : ℕ) → i < length xs → P (get_or xs i d)
all_get_d P [] d h i l = absurd (omega arith)
all_get_d P (x ∷ xs) d h zero l = h.0
all_get_d P (x ∷ xs) d h (suc i) l = all_get_d P xs d h.1 i (omega arith)

pub all_imply : {A : Type 0} (P Q : A → Type 0) → ((x : A) → P x → Q x) → (xs : List A) → All P xs → All Q xs
all_imply P Q f [] h = tt
all_imply P Q f (x ∷ xs) h = (f x h.0, all_imply P Q f xs h.1)

pub all_map : {A B : Type 0} (P : B → Type 0) (f : A → B) (xs : List A) → All (λ x. P (f x)) xs → All P (map f xs)
all_map P f [] h = tt
all_map P f (x ∷ xs) h = (h.0, all_map P f xs h.1)

pub map_cong : {A B : Type 0} (f g : A → B) (xs : List A) → All (λ x. f x ≡ g x) xs → map f xs ≡ map g xs
map_cong f g [] h = refl
map_cong f g (x ∷ xs) h = ap₂ (λ y ys. y ∷ ys) h.0 (map_cong f g xs h.1)

-- a test of each element
pub all_in_lem : {A : Type 0} (test : A → Bool) (xs : List A) → all_in test xs ≡ true → All (λ x. test x ≡ true) xs
all_in_lem test [] h = tt
all_in_lem test (x ∷ xs) h = (and_left (test x) (all_in test xs) h, all_in_lem test xs (and_right (test x) (all_in test xs) h))

pub in_all : {A : Type 0} (test : A → Bool) (xs : List A) → All (λ x. test x ≡ true) xs → all_in test xs ≡ true
in_all test [] h = refl
in_all test (x ∷ xs) h = and_both h.0 (in_all test xs h.1)

-- ---- what is in a list

module _ {A : Type 0} where
  pub mem_flat : (n : ℕ) (g : ℕ → List A) (x : A) (i : ℕ) → i < n → List-as-Memᴰ x (g i) → List-as-Memᴰ x (flat_map_below n g)
  mem_flat zero g x i l m = absurd (omega arith)
  mem_flat (suc n) g x i l m = by_last i n l
      (λ w. Memᴰ·append-right (flat_map_below n g) (subst (λ (j : ℕ). List-as-Memᴰ x (g j)) w m))
      (λ w. Memᴰ·append-left (g n) (mem_flat n g x i w m))

  pub mem_keep : (p : A → Bool) (xs : List A) (x : A) → p x ≡ true → List-as-Memᴰ x xs → List-as-Memᴰ x (keep_if p xs)
  mem_keep p [] x e m = m
  mem_keep p (y ∷ ys) x e m = by_member m
      (λ w. rw (ap p (sym w) ∙ e) (List·Memᴰ·head w))
      (λ w. elim (p y) as (λ b. List-as-Memᴰ x (cond b (y ∷ keep_if p ys) (keep_if p ys)))
      [ true ↦ List·Memᴰ·tail (mem_keep p ys x e w) | false ↦ mem_keep p ys x e w ])

-- ---- all lists of k numbers below n

pub lists_member : (n : ℕ) (ds : List ℕ) → all_in (λ d. ltb d n) ds ≡ true → List-as-Memᴰ ds (lists_below n (length ds))
lists_member n [] h = List·Memᴰ·head refl
lists_member n (d ∷ ds) h = mem_flat n _ (d ∷ ds) d (ltb-true d n (and_left (ltb d n) (all_in (λ d. ltb d n) ds) h))
    (Memᴰ·map (λ (x : List ℕ). d ∷ x) (lists_member n ds (and_right (ltb d n) (all_in (λ d. ltb d n) ds) h)))
