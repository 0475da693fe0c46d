-- What the tests of specs/ say, in the language of logic: a reader may believe either. Assumes nothing.
use Rattle.model.proofs.Basics.{◌≡◌, sym, ap, ◌∙◌, ◌≢◌, ◌↔◌, Bool, true, not, ◌&&◌, ◌||◌, List, [], ◌∷◌, map, List-as-Memᴰ}
use Rattle.model.proofs.Basics.{List·Memᴰ·not-nil, List·Memᴰ·head, List·Memᴰ·tail, ℕ, ◌^◌, ◌≤◌, ◌<◌, arith, eqb, ltb, eqb-true}
use Rattle.model.proofs.Basics.{eqb-false, ne_eqb, ltb-true, ltb-false, lt-ltb, not-true}
use Rattle.model.specs.{all_below, count_of, index_of, bit, member, with, full, mask_of, is_order, keeps_pair, keeps_every_pair, pair_within}
use Rattle.model.specs.{keeps_pairs_within, is_admissible, is_order_within, essential, in_sheet, is_solution, is_completion, SolutionMeans, CompletionMeans, Figures.KeepsPairs}
use Rattle.model.specs.Sheet.{Sheet}
use Rattle.model.proofs.Tools.Tests.{and_left, and_right, and_both, all_at, all_below_lem, by_test, implied}
use Rattle.model.proofs.Tools.Lists.{all_member, member_all, all_imply, all_in_lem, in_all, by_member}
use Rattle.model.proofs.TaskLists.Masks.{bit_none, member_bit, bit_member, bit_above, full_bit, full_lt, with_same, with_other}
use Rattle.model.proofs.TaskLists.Counting.{order_means}
use Rattle.model.proofs.Theory.Solutions.{SolutionTests, solution, is_solution_lem}

-- the list of the tasks ts has just those tasks
pub mask_means : (ts : List ℕ) (t : ℕ) → (member (mask_of ts) t ≡ true) ↔ List-as-Memᴰ t ts
mask_means ts t = (there ts, back ts)
  where
    there : (ts : List ℕ) → member (mask_of ts) t ≡ true → List-as-Memᴰ t ts
    there [] h = absurd (omega (arith, bit_none t, member_bit 0 t h))
    there (x ∷ xs) h = by_test (eqb t x)
        (λ w. List·Memᴰ·head (eqb-true t x w))
        (λ w. List·Memᴰ·tail (there xs (bit_member (mask_of xs) t (sym (with_other (mask_of xs) x t (eqb-false t x w)) ∙ member_bit _ t h))))

    back : (ts : List ℕ) → List-as-Memᴰ t ts → member (mask_of ts) t ≡ true
    back [] m = absurd (List·Memᴰ·not-nil m)
    back (x ∷ xs) m = by_test (eqb t x)
        (λ v. bit_member (with (mask_of xs) x) t (ap (bit (with (mask_of xs) x)) (eqb-true t x v) ∙ with_same (mask_of xs) x))
        (λ v. let other : t ≢ x = eqb-false t x v in by_member m
        (λ w. absurd (other w))
        (λ w. bit_member (with (mask_of xs) x) t (with_other (mask_of xs) x t other ∙ member_bit (mask_of xs) t (back xs w))))

-- an essential list is not empty, and has the receiver of each pair whose sender it has
pub essential_means : (S : Sheet) (K : ℕ)
    → (essential S K ≡ true) ↔ ((K ≢ 0) × ((i : ℕ) → i < S.pairs → member K (S.sender i) ≡ true → member K (S.receiver i) ≡ true))
unfolding essential
essential_means S K = (
  (λ h. (
    eqb-false K 0 (not-true _ (and_left (not (eqb K 0)) _ h)),
    λ i l. (implied (member K (S.sender i)) (member K (S.receiver i))).0 (all_at S.pairs closed (and_right (not (eqb K 0)) _ h) i l),
  )),
  (λ h. and_both
      (ap not (ne_eqb K 0 h.0))
      (all_below_lem S.pairs closed (λ i l. (implied (member K (S.sender i)) (member K (S.receiver i))).1 (h.1 i l)))),
)
  where
    closed : ℕ → Bool
    closed i = not (member K (S.sender i)) || member K (S.receiver i)

-- each door is one of the sheet's
doors_mean : (S : Sheet) (ds : List ℕ) → (in_sheet S ds ≡ true) ↔ ((d : ℕ) → List-as-Memᴰ d ds → d < S.doors)
unfolding in_sheet
doors_mean S ds = (
  λ h. all_member _ ds (all_imply _ _ (λ d e. ltb-true d S.doors e) ds (all_in_lem (λ d. ltb d S.doors) ds h)),
  λ h. in_all (λ d. ltb d S.doors) ds (member_all _ ds (λ d m. lt-ltb d S.doors (h d m))),
)

-- an order of all tasks that keeps every pair
pub admissible_means : (S : Sheet) (ts : List ℕ) → (is_admissible S ts ≡ true) ↔ KeepsPairs S ts
unfolding is_admissible keeps_every_pair keeps_pair
admissible_means S ts = (
  (λ h. let o = and_left (is_order S.tasks (full S.tasks) ts) (all_below S.pairs (keeps_pair S ts)) h in record {
    once = λ t l. counts.0 o t ∙ full_bit S.tasks t l;
    nothing_else = λ t l. counts.0 o t ∙ beyond t l;
    pairs = λ i l. ltb-true _ _ (all_at S.pairs (keeps_pair S ts) (and_right (is_order S.tasks (full S.tasks) ts) _ h) i l);
  }),
  (λ h. and_both
      (counts.1 (λ t. by_test (ltb t S.tasks)
      (λ w. let l = ltb-true t S.tasks w in h.once t l ∙ sym (full_bit S.tasks t l))
      (λ w. let l = ltb-false t S.tasks w in h.nothing_else t l ∙ sym (beyond t l))))
      (all_below_lem S.pairs (keeps_pair S ts) (λ i l. lt-ltb _ _ (h.pairs i l)))),
)
  where
    counts : (is_order S.tasks (full S.tasks) ts ≡ true) ↔ ((t : ℕ) → count_of t ts ≡ bit (full S.tasks) t)
    counts = order_means S.tasks (full S.tasks) ts (full_lt S.tasks)

    beyond : (t : ℕ) → S.tasks ≤ t → bit (full S.tasks) t ≡ 0
    beyond t l = bit_above S.tasks t (full S.tasks) (full_lt S.tasks) l

pub solution_means : (S : Sheet) (s : ℕ) (ds : List ℕ) → (is_solution S s ds ≡ true) ↔ SolutionMeans S s ds
unfolding is_admissible
solution_means S s ds = (
  (λ h.
      let x : SolutionTests S s ds = solution S s ds h in
      let k : KeepsPairs S (map S.task ds) = (admissible_means S (map S.task ds)).0 (and_both x.order x.pairs) in
      record { start = x.start; doors = (doors_mean S ds).0 x.doors; once = k.once; nothing_else = k.nothing_else; pairs = k.pairs }),
  (λ h.
      let a = (admissible_means S (map S.task ds)).1 (record { once = h.once; nothing_else = h.nothing_else; pairs = h.pairs }) in
      is_solution_lem S s ds (record {
        start = h.start;
        doors = (doors_mean S ds).1 h.doors;
        order = and_left _ (keeps_every_pair S (map S.task ds)) a;
        pairs = and_right (is_order S.tasks (full S.tasks) (map S.task ds)) _ a;
      })),
)

pub completion_means : (S : Sheet) (K : ℕ) (ds : List ℕ) → K < 2 ^ S.tasks → (is_completion S K ds ≡ true) ↔ CompletionMeans S K ds
unfolding is_completion is_order_within keeps_pairs_within keeps_pair pair_within
completion_means S K ds below = (
  (λ h. let o = and_right (in_sheet S ds) (is_order S.tasks K ts && all_below S.pairs kept) h in record {
    doors = (doors_mean S ds).0 (and_left (in_sheet S ds) (is_order S.tasks K ts && all_below S.pairs kept) h);
    once = (order_means S.tasks K ts below).0 (and_left (is_order S.tasks K ts) (all_below S.pairs kept) o);
    pairs = λ i l p q. ltb-true _ _ ((implied (within i) _).0
        (all_at S.pairs kept (and_right (is_order S.tasks K ts) (all_below S.pairs kept) o) i l) (and_both p q));
  }),
  (λ h. and_both ((doors_mean S ds).1 h.doors) (and_both ((order_means S.tasks K ts below).1 h.once)
      (all_below_lem S.pairs kept (λ i l. (implied (within i) _).1 (λ e. lt-ltb _ _
      (h.pairs i l (and_left _ (member K (S.receiver i)) e) (and_right (member K (S.sender i)) _ e))))))),
)
  where
    ts : List ℕ
    ts = map S.task ds

    within : ℕ → Bool
    within i = member K (S.sender i) && member K (S.receiver i)

    kept : ℕ → Bool
    kept i = not (within i) || ltb (index_of (S.sender i) ts) (index_of (S.receiver i) ts)
