-- Lists in rank order: each element ranks before every later one, so none stands twice. Assumes nothing.
use Rattle.model.proofs.Basics.{◌≡◌, refl, ap, ◌⊎◌, inl, inr, Bool, true, List, [], ◌∷◌, ◌++◌, map, List-as-Memᴰ, ℕ, zero, suc, ◌<◌}
use Rattle.model.proofs.Basics.{arith, length, get_or, take}
use Rattle.model.specs.{flat_map_below, keep_if, lists_below, Plan}
use Rattle.model.proofs.Tools.{Lists.All, Lists.all_append, Lists.all_flat, Lists.all_keep, Lists.all_imply, Lists.all_map}
use Rattle.model.proofs.Tools.{Lists.member_all, Lists.mem_keep, Lists.all_kept, Lists.all_member, Lists.all_get_d, Tests.by_test}

-- ---- a list in the order R

module _ {A : Type 0} (R : A → A → Type 0) where
  -- each element stands in R to every later one
  abbrev pub Ranked : List A → Type 0
  Ranked [] = Unit {0}
  Ranked (x ∷ xs) = All (R x) xs × Ranked xs

  -- each element of the first list stands in R to each of the second
  abbrev pub AllBefore : List A → List A → Type 0
  AllBefore xs ys = All (λ x. All (R x) ys) xs

  -- two ranked lists, the first all before the second, one behind the other
  pub ranked_append : (xs ys : List A) → Ranked xs → Ranked ys → AllBefore xs ys → Ranked (xs ++ ys)
  ranked_append [] ys h k b = k
  ranked_append (x ∷ xs) ys h k b = (all_append (R x) xs ys h.0 b.0, ranked_append xs ys h.1 k b.1)

  -- ranked parts, each all before every later one
  pub ranked_flat : (n : ℕ) (g : ℕ → List A) → ((i : ℕ) → i < n → Ranked (g i))
      → ((i j : ℕ) → i < j → j < n → AllBefore (g i) (g j)) → Ranked (flat_map_below n g)
  ranked_flat zero g h b = tt
  ranked_flat (suc n) g h b = ranked_append (flat_map_below n g) (g n)
      (ranked_flat n g (λ i l. h i (omega arith)) (λ i j l m. b i j l (omega arith)))
      (h n (omega arith))
      (all_flat _ n g (λ i l. b i n l (omega arith)))

  -- the elements that pass a test
  pub ranked_keep : (p : A → Bool) (xs : List A) → Ranked xs → Ranked (keep_if p xs)
  ranked_keep p [] h = tt
  ranked_keep p (x ∷ xs) h = by_test (p x)
      (λ w. rw w (all_keep (R x) p xs h.0, ranked_keep p xs h.1))
      (λ w. rw w (ranked_keep p xs h.1))

  -- the element at i stands in R to the one at j, for i < j
  pub ranked_at : (xs : List A) (d : A) → Ranked xs → (i j : ℕ) → i < j → j < length xs → R (get_or xs i d) (get_or xs j d)
  ranked_at [] d h i j l m = absurd (omega arith)
  ranked_at (x ∷ xs) d h i zero l m = absurd (omega arith)
  ranked_at (x ∷ xs) d h zero (suc j) l m = all_get_d (R x) xs d h.0 j (omega arith)
  ranked_at (x ∷ xs) d h (suc i) (suc j) l m = ranked_at xs d h.1 i j (omega arith) (omega arith)

  -- no element stands twice
  pub once : ((x : A) → R x x → ⊥) → (xs : List A) (d : A) → Ranked xs → (i j : ℕ) → i < j → j < length xs → get_or xs i d ≡ get_or xs j d → ⊥
  once irreflexive xs d h i j l m e = irreflexive (get_or xs j d) (rw e at (ranked_at xs d h i j l m))

-- a list that enumerates what P holds of: each of them once, nothing else, in the order R
pub record Enumerates {A : Type 0} (R : A → A → Type 0) (P : A → Type 0) (xs : List A) : Type 0 where
  pub each : (x : A) → P x → List-as-Memᴰ x xs
  pub nothing_else : (x : A) → List-as-Memᴰ x xs → P x
  pub not_twice : (d : A) (i j : ℕ) → i < j → j < length xs → get_or xs i d ≡ get_or xs j d → ⊥
  pub in_order : Ranked R xs

-- what passes a test, from a ranked list that has all of it
pub kept_enumerated : {A : Type 0} (R : A → A → Type 0) → ((x : A) → R x x → ⊥) → (test : A → Bool) (xs : List A) → Ranked R xs
    → ((x : A) → test x ≡ true → List-as-Memᴰ x xs) → Enumerates R (λ x. test x ≡ true) (keep_if test xs)
kept_enumerated R strict test xs ranked has = record {
  each = λ x h. mem_keep test xs x h (has x h);
  nothing_else = all_member _ (keep_if test xs) (all_kept _ test (λ x e. e) xs);
  not_twice = λ d. once R strict (keep_if test xs) d (ranked_keep R test xs ranked);
  in_order = ranked_keep R test xs ranked;
}

-- a map that takes the one order to the other
pub ranked_map : {A B : Type 0} (Q : A → A → Type 0) (R : B → B → Type 0) (f : A → B) → ((x y : A) → Q x y → R (f x) (f y))
    → (xs : List A) → Ranked Q xs → Ranked R (map f xs)
ranked_map Q R f k [] h = tt
ranked_map Q R f k (x ∷ xs) h = (all_map (R (f x)) f xs (all_imply (Q x) _ (k x) xs h.0), ranked_map Q R f k xs h.1)

-- two maps, any value of the first before any of the second
pub before_map : {A B C : Type 0} (R : C → C → Type 0) (f : A → C) (g : B → C) → ((x : A) (y : B) → R (f x) (g y))
    → (xs : List A) (ys : List B) → AllBefore R (map f xs) (map g ys)
before_map R f g h xs ys = all_map _ f xs (member_all _ xs (λ x m. all_map _ g ys (member_all _ ys (λ y k. h x y))))

-- ---- doors, and plans

-- where the two first differ, the first has the lower number
abbrev pub DoorsBefore : List ℕ → List ℕ → Type 0
DoorsBefore xs ys = (i : ℕ) × (i < length xs) × (i < length ys) × (take i xs ≡ take i ys) × (get_or xs i 0 < get_or ys i 0)

-- the lower start number or, from the same start, the doors before
abbrev pub RanksBefore : Plan → Plan → Type 0
RanksBefore x y = (x.start < y.start) ⊎ ((x.start ≡ y.start) × DoorsBefore x.doors y.doors)

-- nothing ranks before itself
pub doors_irreflexive : (xs : List ℕ) → DoorsBefore xs xs → ⊥
doors_irreflexive xs h = omega arith

pub ranks_irreflexive : (x : Plan) → RanksBefore x x → ⊥
ranks_irreflexive x (inl l) = omega arith
ranks_irreflexive x (inr h) = doors_irreflexive x.doors h.1

lower_first : (a b : ℕ) (xs ys : List ℕ) → a < b → DoorsBefore (a ∷ xs) (b ∷ ys)
lower_first a b xs ys l = (0, omega arith, omega arith, refl, l)

same_first : (a : ℕ) (xs ys : List ℕ) → DoorsBefore xs ys → DoorsBefore (a ∷ xs) (a ∷ ys)
same_first a xs ys h = (suc h.0, omega arith, omega arith, ap (λ (zs : List ℕ). a ∷ zs) h.3, h.4)

-- all lists of k numbers below n, in rank order
pub lists_ranked : (n k : ℕ) → Ranked DoorsBefore (lists_below n k)
lists_ranked n zero = (tt, tt)
lists_ranked n (suc k) = ranked_flat DoorsBefore n _
    (λ d l. ranked_map DoorsBefore DoorsBefore (λ (ds : List ℕ). d ∷ ds) (same_first d) (lists_below n k) (lists_ranked n k))
    (λ d e l m. before_map DoorsBefore (λ (ds : List ℕ). d ∷ ds) (λ (ds : List ℕ). e ∷ ds) (λ xs ys. lower_first d e xs ys l) (lists_below n k) (lists_below n k))
