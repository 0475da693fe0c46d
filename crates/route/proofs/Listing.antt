-- The open lists in the code, from the last door to the first: one door more changes the list at that door alone. Assumes nothing.
use Rattle.model.proofs.Basics.{◌≡◌, refl, sym, ap, ap₂, ◌∙◌, ◌≢◌, List, [], ◌∷◌, map, ℕ, suc, ◌≤◌, ◌<◌, arith, length, get_or, drop, set}
use Rattle.model.proofs.Basics.{replicate, drop-cons, drop-length, eq-eqb, ne_eqb}
use Rattle.model.specs.{map_below, with, mask_of, mask_bits, with_in, open_on, max_doors}
use Rattle.model.specs.Sheet.{Sheet}
use Rattle.model.proofs.Tools.Arrays.{map_set}
use Rattle.model.proofs.TaskLists.Masks.{with_in_lem}
use Rattle.route.specs.Routes.{open_by, Listable}

-- with the tasks of the doors they are the lists of the sheet
pub open_on_lem : (S : Sheet) (ds : List ℕ) (x : ℕ) → open_by ds (map S.task ds) x ≡ open_on S ds x
open_on_lem S [] x = refl
open_on_lem S (d ∷ ds) x = rw (open_on_lem S ds x)

-- the doors from i on: the lists that are open there, and the last of them
pub record ListedFrom (ds ts : List ℕ) (lists : List ℕ) (later i : ℕ) : Type 0 where
  pub within : i ≤ length ds
  pub are : lists ≡ map_below max_doors (open_by (drop i ds) (drop i ts))
  pub still_open : later ≡ mask_of (drop i ts)

pub none_listed : (ds ts : List ℕ) → Listable ds ts → ListedFrom ds ts (replicate max_doors 0) 0 (length ds)
unfolding map_below
none_listed ds ts A = record { within = omega arith; are = rw drop-length refl; still_open = rw (← A.size, drop-length) }

module _ {ds ts lists : List ℕ} {later i : ℕ} (h : ListedFrom ds ts lists later i) where
  -- door j, with k open
  pub next_listed : Listable ds ts → (j : ℕ) → i ≡ suc j → {k : ℕ} {new : List ℕ} → k ≡ with_in mask_bits later (get_or ts j 0)
      → new ≡ set lists (get_or ds j 0) k → ListedFrom ds ts new k j
  next_listed A j e {k} {new} hk q =
      let l : j < length ds = omega (arith, h.within) in
      let m : j < length ts = rw A.size l in
      let d : ℕ = get_or ds j 0 in
      let t : ℕ = get_or ts j 0 in
      let later-ds : List ℕ = drop (suc j) ds in
      let later-ts : List ℕ = drop (suc j) ts in
      let o : k ≡ with (mask_of later-ts) t =
      hk ∙ with_in_lem mask_bits later t (A.task j l) ∙ ap (λ (x : ℕ). with x t) (rw e at h.still_open) in
      record {
        within = omega arith;
        are = rw (drop-cons ds j 0 l, drop-cons ts j 0 m) (
            q ∙ ap₂ (λ (x : List ℕ) (y : ℕ). set x d y) (rw e at h.are) (o ∙ sym (here d t later-ds later-ts))
            ∙ map_set max_doors d (open_by later-ds later-ts) (open_by (d ∷ later-ds) (t ∷ later-ts)) (A.door j l)
            (λ x n. sym (there d t later-ds later-ts x n)));
        still_open = rw (drop-cons ts j 0 m) o;
      }
    where
      here : (d t : ℕ) (ds ts : List ℕ) → open_by (d ∷ ds) (t ∷ ts) d ≡ with (mask_of ts) t
      here d t ds ts = rw (eq-eqb d d refl)

      there : (d t : ℕ) (ds ts : List ℕ) (x : ℕ) → x ≢ d → open_by (d ∷ ds) (t ∷ ts) x ≡ open_by ds ts x
      there d t ds ts x n = rw (ne_eqb d x (λ e. n (sym e)))
