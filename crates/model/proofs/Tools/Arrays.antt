-- The list f 0, f 1, .. below n as an array: filled from the front by a loop, and with one element changed. Assumes nothing.
use Rattle.model.proofs.Basics.{◌≡◌, refl, sym, ap, ◌∙◌, ◌≢◌, Bool, true, false, cond, List, ◌++◌, map, append-nil, ℕ, suc, ◌+◌, ◌-◌, ◌≤◌}
use Rattle.model.proofs.Basics.{◌<◌, add-one, arith, eqb, ltb, length, get_or, drop, set, length-map, length-set, drop_of_length-le}
use Rattle.model.proofs.Basics.{List·getD-map, drop-cons, ext_get_or, get_or-set_same, get_or-set_other, append_snoc, set_at, eqb-true}
use Rattle.model.proofs.Basics.{eqb-false, ltb-true, lt-ltb, length-append, List·getD-append}
use lib.ListN.{length-drop}
use lib.Seq.{get_or-drop, get_or-append-add}
use Rattle.model.specs.{map_below, overwrite, door_array}
use Rattle.model.proofs.Tools.{Tests.same_test, Folds.length_map_below, Folds.map_below_at}

-- ---- an array that a loop fills

-- the array a with f 0, f 1, .. as its first i elements is b
pub record Filled (f : ℕ → ℕ) (a b : List ℕ) (i : ℕ) : Type 0 where
  pub within : i ≤ length a
  pub size : length b ≡ length a
  pub so_far : b ≡ map_below i f ++ drop i a

pub none_filled : (f : ℕ → ℕ) (a : List ℕ) → Filled f a a 0
unfolding map_below
none_filled f a = record { within = omega arith; size = refl; so_far = refl }

fill_next : (i : ℕ) (f : ℕ → ℕ) (a : List ℕ) → i < length a → set (map_below i f ++ drop i a) i (f i) ≡ map_below (suc i) f ++ drop (suc i) a
unfolding map_below
fill_next i f a h =
    rw (drop-cons a i 0 h)
    (set_at (map_below i f) (get_or a i 0) (drop (suc i) a) (f i) i (length_map_below i f) ∙ sym (append_snoc (map_below i f) (f i) (drop (suc i) a)))

module _ {f : ℕ → ℕ} {a b : List ℕ} {i : ℕ} (s : Filled f a b i) where
  -- v is what the code stores, and d the array after it
  pub one_filled : (v : ℕ) (d : List ℕ) → i < length b → v ≡ f i → d ≡ set b i v → Filled f a d (i + 1)
  one_filled v d l h e =
      let m : i < length a = rw s.size at l in
      record {
        within = omega arith;
        size = ap length e ∙ length-set b i v ∙ s.size;
        so_far = rw add-one (e ∙ rw (h, s.so_far) (fill_next i f a m));
      }

  pub all_filled : length b ≤ i → b ≡ map_below (length a) f
  all_filled l =
      let k : length a ≤ i = rw s.size at l in
      let e : length a ≡ i = omega (arith, s.within) in
      s.so_far ∙ rw (e, drop_of_length-le a {i = i} k) (append-nil (map_below i f))

-- ---- a list by its elements

pub map_elements : (xs : List ℕ) → map_below (length xs) (λ i. get_or xs i 0) ≡ xs
map_elements xs = ext_get_or 0 _ xs (length_map_below (length xs) _) (λ i l. map_below_at (length xs) (λ i. get_or xs i 0) i 0 (rw length_map_below at l))

pub map_places : (g : ℕ → ℕ) (xs : List ℕ) → map_below (length xs) (λ i. g (get_or xs i 0)) ≡ map g xs
map_places g xs = ext_get_or (g 0) _ (map g xs) (length_map_below (length xs) _ ∙ sym (length-map xs g)) (λ i l.
    map_below_at (length xs) (λ i. g (get_or xs i 0)) i (g 0) (rw length_map_below at l) ∙ sym (List·getD-map g xs i 0))

-- its last elements, from i on
pub drop_map_below : (i n : ℕ) (f : ℕ → ℕ) → drop i (map_below n f) ≡ map_below (n - i) (λ k. f (i + k))
drop_map_below i n f =
    let long : length (drop i (map_below n f)) ≡ n - i = length-drop i (map_below n f) ∙ ap (λ (m : ℕ). m - i) (length_map_below n f) in
    ext_get_or 0 _ _ (long ∙ sym (length_map_below (n - i) _)) (λ k l.
    let m : k < n - i = rw long at l in
    get_or-drop i (map_below n f) k 0 ∙ map_below_at n f (i + k) 0 (omega arith) ∙ sym (map_below_at (n - i) (λ k. f (i + k)) k 0 m))

-- ---- an array of doors, with one door more

-- f and g differ at n only
pub map_set : (m n : ℕ) (f g : ℕ → ℕ) → n < m → ((i : ℕ) → i ≢ n → f i ≡ g i) → set (map_below m f) n (g n) ≡ map_below m g
map_set m n f g h other = ext_get_or 0 _ _ (length-set (map_below m f) n (g n) ∙ length_map_below m f ∙ sym (length_map_below m g)) (λ i l.
    let k : i < m = rw (length-set, length_map_below) at l in
    at i k (eqb i n) refl ∙ sym (map_below_at m g i 0 k))
  where
    at : (i : ℕ) → i < m → (b : Bool) → eqb i n ≡ b → get_or (set (map_below m f) n (g n)) i 0 ≡ g i
    at i k true e = let q = eqb-true i n e in rw q (get_or-set_same (map_below m f) n (g n) 0 (rw length_map_below h))
    at i k false e = get_or-set_other (map_below m f) n i (g n) 0 (eqb-false i n e) ∙ map_below_at m f i 0 k ∙ other i (eqb-false i n e)

pub array_next : (lent n : ℕ) (f : ℕ → ℕ) → n < lent → set (door_array lent n f) n (f n) ≡ door_array lent (suc n) f
unfolding door_array
array_next lent n f h =
    ap (set (door_array lent n f) n) (rw (lt-ltb n (suc n) (omega arith)))
    ∙ map_set lent n (λ i. cond (ltb i n) (f i) 0) (λ i. cond (ltb i (suc n)) (f i) 0) h (λ i ne. ap (λ (b : Bool). cond b (f i) 0) (same_test _ _
    (λ e. let l = ltb-true i n e in lt-ltb i (suc n) (omega arith))
    (λ e. let l = ltb-true i (suc n) e in lt-ltb i n (omega arith))))

-- ---- numbers at the front of an array

pub front_written : {f : ℕ → ℕ} {a b : List ℕ} {i : ℕ} (n : ℕ) → Filled f a b i → i ≡ n → b ≡ overwrite (map_below n f) a
unfolding overwrite
front_written n h e = h.so_far ∙ rw (e, length_map_below)

-- an array with f 0, f 1, .. below n at its front
module _ (n : ℕ) (f : ℕ → ℕ) (b : List ℕ) where
  pub front_at : (i : ℕ) → i < n → get_or (overwrite (map_below n f) b) i 0 ≡ f i
  unfolding overwrite
  front_at i l = List·getD-append (map_below n f) _ 0 i (rw length_map_below l) ∙ map_below_at n f i 0 l

  pub front_behind : (i : ℕ) → n ≤ i → get_or (overwrite (map_below n f) b) i 0 ≡ get_or b i 0
  unfolding overwrite
  front_behind i l =
      let e : i ≡ length (map_below n f) + (i - n) = rw length_map_below (omega arith) in
      ap (λ (j : ℕ). get_or (map_below n f ++ drop (length (map_below n f)) b) j 0) e
      ∙ get_or-append-add (map_below n f) _ (i - n) 0 ∙ rw (length_map_below, get_or-drop) (ap (λ (j : ℕ). get_or b j 0) (omega arith))

  pub front_size : n ≤ length b → length (overwrite (map_below n f) b) ≡ length b
  unfolding overwrite
  front_size l = rw (length-append, length_map_below) (omega (arith, length-drop n b))
