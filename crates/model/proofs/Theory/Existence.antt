-- The part of an order that lies in a smaller list is an order of it; so where some order of the tasks keeps every pair, every list has a completion.
-- Assumes nothing.
use Rattle.model.proofs.Basics.{◌≡◌, refl, sym, ap, ap₂, ◌∙◌, true, not, ◌&&◌, ◌||◌, List, [], ◌∷◌, map, ℕ, ◌<◌, eqb, ltb, eq-eqb}
use Rattle.model.proofs.Basics.{ltb-true, lt-ltb}
use Rattle.model.specs.{Sheet.Sheet, all_below, all_in, keep_if, count_of, bit, member, full, is_order, keeps_pair, keeps_every_pair}
use Rattle.model.specs.{pair_within, keeps_pairs_within, is_admissible, is_order_within, in_sheet, is_completion, InRange, Served}
use Rattle.model.proofs.Tools.Tests.{and_left, and_right, and_both, all_at, all_below_lem, all_cong, implied}
use Rattle.model.proofs.Tools.{Lists.in_all, Lists.all_keep, Lists.all_in_lem, Positions.keep_count, Positions.keep_index}
use Rattle.model.proofs.TaskLists.Masks.{member_bit, full_bit, by_bit}
use Rattle.model.proofs.TaskLists.Counting.{order_in, order_count}

-- ---- the part of an order that lies in K

module _ (K : ℕ) where
  abbrev pub part : List ℕ → List ℕ
  part ts = keep_if (member K) ts

  part_below : (n : ℕ) (ts : List ℕ) → all_in (λ t. ltb t n) ts ≡ true → all_in (λ t. ltb t n) (part ts) ≡ true
  part_below n ts e = in_all _ (part ts) (all_keep _ (member K) ts (all_in_lem _ ts e))

-- an order of K that keeps the pairs within K has in it one of each smaller list
pub part_within : (S : Sheet) → InRange S → (K L : ℕ) → ((j : ℕ) → j < S.tasks → bit L j ≡ 1 → bit K j ≡ 1)
    → (ts : List ℕ) → is_order_within S K ts ≡ true → is_order_within S L (part L ts) ≡ true
unfolding is_order_within is_order keeps_pairs_within keeps_pair pair_within
part_within S R K L smaller ts e = and_both
    (and_both (part_below L S.tasks ts (order_in S.tasks K ts o)) (all_below_lem S.tasks _ (λ j l. eq-eqb _ _ (keep_count (member L) j ts ∙ by_bit L j
    (λ w. rw w)
    (λ w. rw (w, order_count S.tasks K ts o j l, smaller j l w))))))
    (all_below_lem S.pairs _ (λ i l. (implied (pair_within S L i) _).1 (paired i l)))
  where
    o : is_order S.tasks K ts ≡ true
    o = and_left (is_order S.tasks K ts) (keeps_pairs_within S K ts) e

    paired : (i : ℕ) → i < S.pairs → pair_within S L i ≡ true → keeps_pair S (part L ts) i ≡ true
    paired i l h =
        let s = and_left (member L (S.sender i)) _ h in
        let r = and_right (member L (S.sender i)) _ h in
        let sK : bit K (S.sender i) ≡ 1 = smaller (S.sender i) (R.sender i l) (member_bit L (S.sender i) s) in
        let rK : bit K (S.receiver i) ≡ 1 = smaller (S.receiver i) (R.receiver i l) (member_bit L (S.receiver i) r) in
        let k = all_at S.pairs (λ i. not (pair_within S K i) || keeps_pair S ts i) (and_right (is_order S.tasks K ts) _ e) i l in
        lt-ltb _ _ (keep_index (member L) (S.sender i) (S.receiver i) s r ts (ltb-true _ _ (rw (sK, rK) at k)))

-- every pair lies within the full list
pub admissible_is : (S : Sheet) → InRange S → (ts : List ℕ) → is_admissible S ts ≡ is_order_within S (full S.tasks) ts
unfolding is_admissible is_order_within keeps_every_pair keeps_pairs_within pair_within
admissible_is S R ts = ap (λ b. is_order S.tasks (full S.tasks) ts && b)
    (all_cong S.pairs _ _ (λ i l. rw (full_bit S.tasks (S.sender i) (R.sender i l), full_bit S.tasks (S.receiver i) (R.receiver i l))))

-- so an order of the full list that keeps every pair has in it one of each list
pub part_admissible : (S : Sheet) → InRange S → (K : ℕ) (ts : List ℕ) → is_admissible S ts ≡ true → is_order_within S K (part K ts) ≡ true
part_admissible S R K ts a = part_within S R (full S.tasks) K (λ j l h. full_bit S.tasks j l) ts (sym (admissible_is S R ts) ∙ a)

-- ---- doors for the tasks of an order

doors_for : (S : Sheet) → Served S → (ts : List ℕ) → all_in (λ t. ltb t S.tasks) ts ≡ true → (ds : List ℕ) × (in_sheet S ds ≡ true) × (map S.task ds ≡ ts)
unfolding in_sheet
doors_for S D [] h = ([], refl, refl)
doors_for S D (t ∷ ts) h =
    let d = D t (ltb-true t S.tasks (and_left (ltb t S.tasks) (all_in (λ t. ltb t S.tasks) ts) h)) in
    let r = doors_for S D ts (and_right (ltb t S.tasks) (all_in (λ t. ltb t S.tasks) ts) h) in
    (d.0 ∷ r.0, and_both (lt-ltb d.0 S.doors d.1) r.1, ap₂ (λ (x : ℕ) (xs : List ℕ). x ∷ xs) d.2 r.2)

pub order_driven : (S : Sheet) → Served S → (K : ℕ) (ts : List ℕ) → is_order_within S K ts ≡ true
    → (ds : List ℕ) × (is_completion S K ds ≡ true) × (map S.task ds ≡ ts)
unfolding is_completion is_order_within is_order
order_driven S D K ts e =
    let d = doors_for S D ts (and_left (all_in (λ t. ltb t S.tasks) ts) (all_below S.tasks (λ t. eqb (count_of t ts) (bit K t)))
    (and_left (is_order S.tasks K ts) (keeps_pairs_within S K ts) e)) in
    (d.0, and_both d.1 (ap (is_order_within S K) d.2 ∙ e), d.2)
