-- Where numbers stand in a list: one that is counted stands somewhere, one counted twice at two places, and the first place is `index_of`; the same of two lists
-- one behind the other, and of the numbers that pass a test. Assumes nothing.
use Rattle.model.proofs.Basics.{◌≡◌, refl, sym, ap, ◌∙◌, Bool, true, false, cond, List, [], ◌∷◌, ◌++◌, map, ℕ, zero, suc, ◌+◌, ◌≤◌}
use Rattle.model.proofs.Basics.{◌<◌, zero-add, arith, eqb, length, get_or, drop, length-map, eqb-true, eq-eqb}
use Rattle.model.specs.{map_below, keep_if, all_in, count_of, index_of}
use Rattle.model.proofs.Tools.{Tests.not_both, Tests.by_test, Folds.length_map_below, Folds.map_below_at}

-- x stands at place i
abbrev pub StandsIn : List ℕ → ℕ → ℕ → Type 0
StandsIn xs i x = (i < length xs) × (get_or xs i 0 ≡ x)

pub counted_once : (t : ℕ) (ts : List ℕ) → 1 ≤ count_of t ts → (i : ℕ) × StandsIn ts i t
counted_once t [] h = absurd (omega arith)
counted_once t (x ∷ xs) h = by_test (eqb x t)
    (λ w. (0, (omega arith, eqb-true x t w)))
    (λ w. let r = counted_once t xs (omega (arith, rw w at h)) in (suc r.0, (omega (arith, r.1.0), r.1.1)))

pub counted_twice : (t : ℕ) (ts : List ℕ) → 2 ≤ count_of t ts → (i j : ℕ) × (i < j) × StandsIn ts i t × StandsIn ts j t
counted_twice t [] h = absurd (omega arith)
counted_twice t (x ∷ xs) h = by_test (eqb x t)
    (λ w. let r = counted_once t xs (omega (arith, rw w at h)) in
    (0, suc r.0, omega arith, (omega arith, eqb-true x t w), (omega (arith, r.1.0), r.1.1)))
    (λ w. let r = counted_twice t xs (omega (arith, rw w at h)) in
    (suc r.0, suc r.1, omega (arith, r.2), (omega (arith, r.3.0), r.3.1), (omega (arith, r.4.0), r.4.1)))

pub stands_counted : (t : ℕ) (ts : List ℕ) (i : ℕ) → StandsIn ts i t → 1 ≤ count_of t ts
stands_counted t [] i h = absurd (omega (arith, h.0))
stands_counted t (x ∷ xs) zero h = rw (eq-eqb x t h.1) (omega arith)
stands_counted t (x ∷ xs) (suc i) h = omega (arith, stands_counted t xs i (omega (arith, h.0), h.1))

pub stands_twice : (t : ℕ) (ts : List ℕ) (i j : ℕ) → i < j → StandsIn ts i t → StandsIn ts j t → 2 ≤ count_of t ts
stands_twice t [] i j l h k = absurd (omega (arith, h.0))
stands_twice t (x ∷ xs) i zero l h k = absurd (omega arith)
stands_twice t (x ∷ xs) zero (suc j) l h k = rw (eq-eqb x t h.1) (omega (arith, stands_counted t xs j (omega (arith, k.0), k.1)))
stands_twice t (x ∷ xs) (suc i) (suc j) l h k =
    omega (arith, stands_twice t xs i j (omega arith) (omega (arith, h.0), h.1) (omega (arith, k.0), k.1))

-- the first place
pub index_stands : (t : ℕ) (ts : List ℕ) → 1 ≤ count_of t ts → StandsIn ts (index_of t ts) t
index_stands t [] h = absurd (omega arith)
index_stands t (x ∷ xs) h = by_test (eqb x t)
    (λ w. rw w (omega arith, eqb-true x t w))
    (λ w. let r = index_stands t xs (omega (arith, rw w at h)) in rw w (omega (arith, r.0), r.1))

pub index_first : (t : ℕ) (ts : List ℕ) (j : ℕ) → StandsIn ts j t → index_of t ts ≤ j
index_first t [] j h = omega arith
index_first t (x ∷ xs) zero h = rw (eq-eqb x t h.1) (omega arith)
index_first t (x ∷ xs) (suc j) h =
    let r = index_first t xs j (omega (arith, h.0), h.1) in
    by_test (eqb x t) (λ w. rw w (omega arith)) (λ w. rw w (omega arith))

-- an element that fails a test stands somewhere
pub fails_somewhere : (test : ℕ → Bool) (xs : List ℕ) → all_in test xs ≡ false → (i : ℕ) × (i < length xs) × (test (get_or xs i 0) ≡ false)
fails_somewhere test [] h = absurd (not_both refl h)
fails_somewhere test (x ∷ xs) h = by_test (test x)
    (λ w. let r = fails_somewhere test xs (rw w at h) in (suc r.0, omega (arith, r.1), r.2))
    (λ w. (0, omega arith, w))

-- what stands in a list of images
pub map_at : (f : ℕ → ℕ) (xs : List ℕ) (i : ℕ) → i < length xs → get_or (map f xs) i 0 ≡ f (get_or xs i 0)
map_at f [] i l = absurd (omega arith)
map_at f (x ∷ xs) zero l = refl
map_at f (x ∷ xs) (suc i) l = map_at f xs i (omega arith)

-- and of the images of g 0, g 1, .. below n
pub image_stands : (f g : ℕ → ℕ) (n i : ℕ) → i < n → StandsIn (map f (map_below n g)) i (f (g i))
image_stands f g n i l = let m : i < length (map_below n g) = rw length_map_below l in
    (rw length-map m, map_at f (map_below n g) i m ∙ ap f (map_below_at n g i 0 l))

-- the last of the images are the images of the last
pub drop_map : (f : ℕ → ℕ) (i : ℕ) (xs : List ℕ) → drop i (map f xs) ≡ map f (drop i xs)
drop_map f zero xs = refl
drop_map f (suc i) [] = refl
drop_map f (suc i) (x ∷ xs) = drop_map f i xs

-- ---- two lists, one behind the other

-- each number is counted in both
pub count_append : (t : ℕ) (xs ys : List ℕ) → count_of t (xs ++ ys) ≡ count_of t xs + count_of t ys
count_append t [] ys = omega arith
count_append t (x ∷ xs) ys = omega (arith, count_append t xs ys)

-- one of the first list stands where it stands there
pub index_front : (t : ℕ) (xs ys : List ℕ) → 1 ≤ count_of t xs → index_of t (xs ++ ys) ≡ index_of t xs
index_front t [] ys h = absurd (omega arith)
index_front t (x ∷ xs) ys h = by_test (eqb x t) (λ w. rw w) (λ w. rw w (ap suc (index_front t xs ys (omega (arith, rw w at h)))))

-- one that is not in the first list stands behind it
pub index_behind : (t : ℕ) (xs ys : List ℕ) → count_of t xs ≡ 0 → index_of t (xs ++ ys) ≡ length xs + index_of t ys
index_behind t [] ys h = omega arith
index_behind t (x ∷ xs) ys h = by_test (eqb x t)
    (λ w. absurd (omega (arith, rw w at h)))
    (λ w. rw w (omega (arith, index_behind t xs ys (omega (arith, rw w at h)))))

-- ---- the numbers that pass a test

module _ (p : ℕ → Bool) where
  -- one that passes is counted as before, and no other
  pub keep_count : (t : ℕ) (xs : List ℕ) → count_of t (keep_if p xs) ≡ cond (p t) (count_of t xs) 0
  keep_count t [] = by_test (p t) (λ w. rw w) (λ w. rw w)
  keep_count t (x ∷ xs) =
      let r = keep_count t xs in
      let same : eqb x t ≡ true → p t ≡ p x = λ w. ap p (sym (eqb-true x t w)) in
      by_test (p x)
      (λ u. by_test (eqb x t) (λ w. rw (u, w, r, same w ∙ u)) (λ w. rw (u, w, r) (simp zero-add)))
      (λ u. by_test (eqb x t) (λ w. rw (u, w, r, same w ∙ u)) (λ w. rw (u, w, r) (simp zero-add)))

  -- two that pass stand one before the other as before
  pub keep_index : (s r : ℕ) → p s ≡ true → p r ≡ true → (xs : List ℕ) → index_of s xs < index_of r xs → index_of s (keep_if p xs) < index_of r (keep_if p xs)
  keep_index s r hs hr [] l = l
  keep_index s r hs hr (x ∷ xs) l = go (keep_index s r hs hr xs) (p x) refl (eqb x s) refl (eqb x r) refl l
    where
      go : (index_of s xs < index_of r xs → index_of s (keep_if p xs) < index_of r (keep_if p xs))
          → (a : Bool) → p x ≡ a → (b : Bool) → eqb x s ≡ b → (c : Bool) → eqb x r ≡ c → cond b 0 (suc (index_of s xs)) < cond c 0 (suc (index_of r xs))
          → index_of s (cond a (x ∷ keep_if p xs) (keep_if p xs)) < index_of r (cond a (x ∷ keep_if p xs) (keep_if p xs))
      go ih a ea true eb true ec l = absurd (omega arith)
      go ih a ea false eb true ec l = absurd (omega arith)
      go ih true ea true eb false ec l = rw (eb, ec) (omega arith)
      go ih false ea true eb false ec l = absurd (not_both hs (ap p (sym (eqb-true x s eb)) ∙ ea))
      go ih true ea false eb false ec l = rw (eb, ec) (omega (arith, ih (omega arith)))
      go ih false ea false eb false ec l = ih (omega arith)
