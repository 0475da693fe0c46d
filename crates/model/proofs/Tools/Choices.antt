-- The first of least cost: of lists one behind the other it is the first of the least of the parts. Assumes nothing.
use Rattle.model.proofs.Basics.{◌≡◌, refl, sym, ap, ap₂, ◌∙◌, Bool, true, false, cond, List, [], ◌∷◌, ◌++◌, map, Option, none, some}
use Rattle.model.proofs.Basics.{Option·map, ℕ, zero, suc, ◌+◌, ◌<◌, min, arith, ltb, ltb-true, ltb-false, lt-ltb, le-ltb}
use Rattle.model.specs.{flat_map_below, passing_below, cheaper, first_least, least}
use Rattle.model.proofs.Tools.{Lists.All, Lists.AllSome, Lists.all_imply, Tests.by_test}

module _ {A : Type 0} (f : A → ℕ) where
  cheaper_none : (x : Option A) → cheaper f x none ≡ x
  cheaper_none none = refl
  cheaper_none (some x) = refl

  pub cheaper_assoc : (x y z : Option A) → cheaper f (cheaper f x y) z ≡ cheaper f x (cheaper f y z)
  cheaper_assoc none y z = refl
  cheaper_assoc (some x) none z = refl
  cheaper_assoc (some x) (some y) none = cheaper_none (cond (ltb (f y) (f x)) (some y) (some x))
  cheaper_assoc (some x) (some y) (some z) = go (ltb (f y) (f x)) refl (ltb (f z) (f y)) refl (ltb (f z) (f x)) refl
    where
      go : (a : Bool) → ltb (f y) (f x) ≡ a → (b : Bool) → ltb (f z) (f y) ≡ b → (c : Bool) → ltb (f z) (f x) ≡ c
          → cheaper f (cond a (some y) (some x)) (some z) ≡ cheaper f (some x) (cond b (some z) (some y))
      go true ea true eb true ec = rw (eb, ec)
      go true ea true eb false ec = absurd (omega (arith, ltb-true, ltb-false))
      go true ea false eb c ec = rw (eb, ea)
      go false ea true eb c ec = refl
      go false ea false eb true ec = absurd (omega (arith, ltb-true, ltb-false))
      go false ea false eb false ec = rw (ec, ea)

  pub first_append : (xs ys : List A) → first_least f (xs ++ ys) ≡ cheaper f (first_least f xs) (first_least f ys)
  first_append [] ys = refl
  first_append (x ∷ xs) ys = rw (first_append xs ys) (sym (cheaper_assoc (some x) (first_least f xs) (first_least f ys)))

  -- there is a first of least cost
  pub some_cheaper : (x : A) (o : Option A) → (y : A) × (cheaper f (some x) o ≡ some y)
  some_cheaper x none = (x, refl)
  some_cheaper x (some y) = elim (ltb (f y) (f x)) as (λ b. (z : A) × (cond b (some y) (some x) ≡ some z)) [ true ↦ (y, refl) | false ↦ (x, refl) ]

  pub first_some : (xs : List A) → (xs ≡ [] → ⊥) → (x : A) × (first_least f xs ≡ some x)
  first_some [] h = absurd (h refl)
  first_some (x ∷ xs) h = some_cheaper x (first_least f xs)

  -- the least cost is that of the first of least cost
  abbrev pub cost_of : Option A → ℕ
  cost_of none = 0
  cost_of (some x) = f x

  cost_cheaper : (x : A) (o : Option A) (y : A) → o ≡ some y → cost_of (cheaper f (some x) o) ≡ min (f x) (cost_of o)
  cost_cheaper x o y e = rw e (by_test (ltb (f y) (f x))
      (λ w. rw w (omega (arith, ltb-true)))
      (λ w. rw w (omega (arith, ltb-false))))

  pub least_is : (xs : List A) → least (map f xs) ≡ cost_of (first_least f xs)
  least_is [] = refl
  least_is (x ∷ []) = refl
  least_is (x ∷ y ∷ ys) =
      let k = some_cheaper y (first_least f ys) in
      ap (min (f x)) (least_is (y ∷ ys)) ∙ sym (cost_cheaper x (first_least f (y ∷ ys)) k.0 k.1)

module _ {A : Type 0} (P : A → Type 0) where
  all_cheaper : (f : A → ℕ) (x y : Option A) → AllSome P x → AllSome P y → AllSome P (cheaper f x y)
  all_cheaper f none y h k = k
  all_cheaper f (some x) none h k = h
  all_cheaper f (some x) (some y) h k = elim (ltb (f y) (f x)) as (λ b. AllSome P (cond b (some y) (some x))) [ true ↦ k | false ↦ h ]

  pub all_first : (f : A → ℕ) (xs : List A) → All P xs → AllSome P (first_least f xs)
  all_first f [] h = tt
  all_first f (x ∷ xs) h = all_cheaper f (some x) (first_least f xs) h.0 (all_first f xs h.1)

module _ {A B : Type 0} (f : B → ℕ) (g : A → B) where
  pub cheaper_map : (x y : Option A) → cheaper f (Option·map g x) (Option·map g y) ≡ Option·map g (cheaper (λ a. f (g a)) x y)
  cheaper_map none y = refl
  cheaper_map (some x) none = refl
  cheaper_map (some x) (some y) = by_test (ltb (f (g y)) (f (g x))) (λ w. rw w) (λ w. rw w)

  pub first_map : (xs : List A) → first_least f (map g xs) ≡ Option·map g (first_least (λ a. f (g a)) xs)
  first_map [] = refl
  first_map (x ∷ xs) = rw (first_map xs) (cheaper_map (some x) (first_least (λ a. f (g a)) xs))

ltb_shift : (c a b : ℕ) → ltb (c + a) (c + b) ≡ ltb a b
ltb_shift c a b = by_test (ltb a b)
    (λ w. lt-ltb (c + a) (c + b) (omega (arith, ltb-true)) ∙ sym w)
    (λ w. le-ltb (c + a) (c + b) (omega (arith, ltb-false)) ∙ sym w)

-- a cost that is c more at each element has the same first of least cost
module _ {A : Type 0} (f h : A → ℕ) (c : ℕ) where
  cheaper_shift : (x : A) (o : Option A) → f x ≡ c + h x → AllSome (λ y. f y ≡ c + h y) o → cheaper f (some x) o ≡ cheaper h (some x) o
  cheaper_shift x none e k = refl
  cheaper_shift x (some y) e k = rw (e, k, ltb_shift)

  pub first_shift : (xs : List A) → All (λ y. f y ≡ c + h y) xs → first_least f xs ≡ first_least h xs
  first_shift [] k = refl
  first_shift (x ∷ xs) k =
      ap (cheaper f (some x)) (first_shift xs k.1) ∙ cheaper_shift x (first_least h xs) k.0 (all_first (λ y. f y ≡ c + h y) h xs k.1)

-- costs that are equal at each element have the same first of least cost
pub first_cong : {A : Type 0} (f g : A → ℕ) (xs : List A) → All (λ x. f x ≡ g x) xs → first_least f xs ≡ first_least g xs
first_cong f g xs h = first_shift f g 0 xs (all_imply _ _ (λ x e. omega arith) xs h)

-- where each part g i with able i has choice i for its first of least cost, and the other parts are empty
module _ {A : Type 0} (f : A → ℕ) (g : ℕ → List A) (able : ℕ → Bool) (choice : ℕ → A) where
  one_part : (i : ℕ) → (able i ≡ true → first_least f (g i) ≡ some (choice i)) → (able i ≡ false → g i ≡ [])
      → first_least f (g i) ≡ Option·map choice (first_least (λ i. f (choice i)) (cond (able i) (i ∷ []) []))
  one_part i has lacks = by_test (able i) (λ w. rw w (has w)) (λ w. rw w (ap (first_least f) (lacks w)))

  pub first_flat : (n : ℕ) → ((i : ℕ) → i < n → able i ≡ true → first_least f (g i) ≡ some (choice i)) → ((i : ℕ) → i < n → able i ≡ false → g i ≡ [])
      → first_least f (flat_map_below n g) ≡ Option·map choice (first_least (λ i. f (choice i)) (passing_below n able))
  first_flat zero has lacks = refl
  first_flat (suc n) has lacks =
      first_append f (flat_map_below n g) (g n)
      ∙ ap₂ (cheaper f) (first_flat n (λ i l. has i (omega arith)) (λ i l. lacks i (omega arith))) (one_part n (has n (omega arith)) (lacks n (omega arith)))
      ∙ cheaper_map f choice (first_least (λ i. f (choice i)) (passing_below n able)) (first_least (λ i. f (choice i)) (cond (able n) (n ∷ []) []))
      ∙ ap (Option·map choice) (sym (first_append (λ i. f (choice i)) (passing_below n able) (cond (able n) (n ∷ []) [])))
