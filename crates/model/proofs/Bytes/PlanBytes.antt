-- A plan written and then read has its start, doors and cost again; bytes that read as a plan are those that writing it yields. Assumes nothing.
use Rattle.model.proofs.Basics.{◌≡◌, sym, ap, ◌∙◌, ◌⊎◌, inl, inr, Bool, true, false, cond, not, List, [], ◌∷◌, ◌++◌, append_assoc}
use Rattle.model.proofs.Basics.{append-nil, ℕ, ◌+◌, ◌*◌, ◌^◌, ◌≤◌, ◌<◌, arith, eqb, ltb, length, get_or, take, drop, length-append}
use Rattle.model.proofs.Basics.{drop_of_length-le, length-take-le, ext_get_or, get_or-take, take_all, take_at, are_bytes, eqb-true}
use Rattle.model.proofs.Basics.{eq-eqb, ltb-true, ltb-false, lt-ltb, le-ltb, not-false}
use Rattle.model.specs.{Answer.Answer, is_between, map_below, number_at, bytes_of, overwrite, refused, accepted, ◌when◌, refuse_first}
use Rattle.model.specs.{line_at, max_plan_doors, plan_start_at, plan_doors_at, plan_cost_at, plan_length, line_bytes, plan_head, door_bytes}
use Rattle.model.specs.{plan_bytes, wrong_tasks, short_room, write_tests, write_answer, bytes_written, write_plan, wrong_head, ill_formed}
use Rattle.model.specs.{start_in, door_in, doors_in, cost_in, door_array, PlanRead, read_tests, read_plan}
use Rattle.model.proofs.Tools.Tests.{or_left, or_right, or_neither, between_true, between_is, same_list_lem, list_same, by_test}
use Rattle.model.proofs.Tools.Folds.{flat_cong, length_map_below, map_below_at}
use Rattle.model.proofs.Tools.Refusing.{refused≢accepted, refused_number, accepted_value, accepted_pass}
use Rattle.model.proofs.Bytes.Numbers.{length_bytes_of, number_front, read_last, written_on, row, length_row, read_row, row_on}
use Rattle.model.proofs.Bytes.Numbers.{overwritten}

-- ---- the parts of a plan

pub length_is : (n : ℕ) → plan_length n ≡ 32 + 2 * n
unfolding plan_length plan_cost_at plan_doors_at plan_start_at line_at
length_is n = omega arith

pub tasks_fit : (n lent : ℕ) → 1 ≤ n → n ≤ max_plan_doors → n ≤ lent → wrong_tasks n lent ≡ false
unfolding wrong_tasks
tasks_fit n lent l h k = or_neither (ap not (between_is 1 max_plan_doors n l h)) (le-ltb lent n k)

-- what 12 does not refuse
pub fitting : (n lent : ℕ) → wrong_tasks n lent ≡ false → (1 ≤ n) × (n ≤ max_plan_doors) × (n ≤ lent)
unfolding wrong_tasks
fitting n lent h =
    let b = between_true 1 max_plan_doors n (not-false _ (or_left (not (is_between 1 max_plan_doors n)) _ h)) in
    (b.0, b.1, ltb-false lent n (or_right (not (is_between 1 max_plan_doors n)) _ h))

pub length_head : (n : ℕ) → length (plan_head n) ≡ plan_start_at
unfolding plan_head line_bytes plan_start_at line_at
length_head n = simp (length-append, length_bytes_of)

-- as far as the start, and as far as the doors
abbrev pub to_start : ℕ → ℕ → List ℕ
to_start n s = plan_head n ++ bytes_of 2 s

abbrev pub to_doors : ℕ → ℕ → List ℕ → List ℕ
to_doors n s ds = to_start n s ++ row 2 n (λ i. get_or ds i 0)

pub length_to_start : (n s : ℕ) → length (to_start n s) ≡ plan_doors_at
unfolding plan_doors_at
length_to_start n s = simp (length-append, length_head, length_bytes_of)

pub length_to_doors : (n s : ℕ) (ds : List ℕ) → length (to_doors n s ds) ≡ plan_cost_at n
unfolding plan_cost_at plan_doors_at
length_to_doors n s ds = simp (length-append, length_head, length_bytes_of, length_row)

-- n doors are read
pub length_doors : (n : ℕ) (q : List ℕ) → length (doors_in n q) ≡ n
unfolding doors_in
length_doors n q = length_map_below n (door_in q)

-- only the first n of the doors are written
pub plan_cong : (n s : ℕ) (ds es : List ℕ) (c : ℕ) → ((i : ℕ) → i < n → get_or ds i 0 ≡ get_or es i 0) → plan_bytes n s ds c ≡ plan_bytes n s es c
unfolding plan_bytes door_bytes
plan_cong n s ds es c h = ap (λ (x : List ℕ). to_start n s ++ x ++ bytes_of 8 c) (flat_cong n _ _ (λ i l. ap (bytes_of 2) (h i l)))

-- ---- written, then read

module _ (n s : ℕ) (ds : List ℕ) (c : ℕ) where
  -- a plan has the length that its layout says
  pub length_plan : length (plan_bytes n s ds c) ≡ plan_length n
  unfolding plan_bytes door_bytes plan_length plan_cost_at plan_doors_at
  length_plan = simp (length-append, length_head, length_bytes_of, length_row)

  -- what is written is not ill-formed
  plan_head_lem : take plan_start_at (plan_bytes n s ds c) ≡ plan_head n
  unfolding plan_bytes door_bytes
  plan_head_lem = simp append_assoc (take_at (plan_head n) _ plan_start_at (length_head n))

  pub plan_well_formed : ill_formed n (plan_bytes n s ds c) ≡ false
  unfolding ill_formed wrong_head
  plan_well_formed = rw (eq-eqb _ _ length_plan, plan_head_lem, list_same)

  before_cost : (k i : ℕ) → i + k ≤ plan_cost_at n → number_at k (plan_bytes n s ds c) i ≡ number_at k (to_doors n s ds) i
  unfolding plan_bytes door_bytes
  before_cost k i h = number_front k (to_doors n s ds) (bytes_of 8 c) i (rw length_to_doors h)

  -- and its parts are read again: the start, a door, all doors, the cost
  pub start_again : s < 2 ^ 16 → start_in (plan_bytes n s ds c) ≡ s
  unfolding start_in plan_cost_at plan_doors_at
  start_again h =
      before_cost 2 plan_start_at (omega arith)
      ∙ number_front 2 (to_start n s) (row 2 n (λ i. get_or ds i 0)) plan_start_at (omega (arith, length_to_start n s))
      ∙ rw (← length_head n) (read_last 2 s (plan_head n) h)

  pub door_again : (i : ℕ) → i < n → get_or ds i 0 < 2 ^ 16 → door_in (plan_bytes n s ds c) i ≡ get_or ds i 0
  unfolding door_in plan_cost_at
  door_again i l h =
      before_cost 2 (plan_doors_at + 2 * i) (omega arith)
      ∙ rw (← length_to_start n s) (read_row 2 n (λ i. get_or ds i 0) (to_start n s) i l h)

  pub doors_again : length ds ≡ n → ((i : ℕ) → i < n → get_or ds i 0 < 2 ^ 16) → doors_in n (plan_bytes n s ds c) ≡ ds
  unfolding doors_in
  doors_again e h = ext_get_or 0 _ ds (length_doors n (plan_bytes n s ds c) ∙ sym e) (λ i l.
      let m : i < n = rw length_map_below at l in
      map_below_at n (door_in (plan_bytes n s ds c)) i 0 m ∙ door_again i m (h i m))

  pub cost_again : c < 2 ^ 64 → cost_in n (plan_bytes n s ds c) ≡ c
  unfolding cost_in plan_bytes door_bytes
  cost_again h = rw (← length_to_doors n s ds) (read_last 8 c (to_doors n s ds) h)

-- the array that reading fills
array_cong : (lent n : ℕ) (f g : ℕ → ℕ) → ((i : ℕ) → i < n → f i ≡ g i) → door_array lent n f ≡ door_array lent n g
unfolding door_array map_below
array_cong lent n f g h = flat_cong lent _ _ (λ i l. by_test (ltb i n) (λ w. rw (w, h i (ltb-true i n w))) (λ w. rw w))

pub length_array : (lent n : ℕ) (f : ℕ → ℕ) → length (door_array lent n f) ≡ lent
unfolding door_array
length_array lent n f = length_map_below lent _

pub array_at : (lent n : ℕ) (f : ℕ → ℕ) (i : ℕ) → n ≤ lent → i < n → get_or (door_array lent n f) i 0 ≡ f i
unfolding door_array
array_at lent n f i h l = map_below_at lent (λ i. cond (ltb i n) (f i) 0) i 0 (omega arith) ∙ rw (lt-ltb i n l)

pub array_beyond : (lent n : ℕ) (f : ℕ → ℕ) (i d : ℕ) → n ≤ i → i < lent → get_or (door_array lent n f) i d ≡ 0
unfolding door_array
array_beyond lent n f i d h l = map_below_at lent (λ i. cond (ltb i n) (f i) 0) i d l ∙ rw (le-ltb i n h)

pub array_front : (lent n : ℕ) (ds : List ℕ) → n ≤ lent → length ds ≡ n → take n (door_array lent n (λ i. get_or ds i 0)) ≡ ds
unfolding door_array
array_front lent n ds h e =
    let l : length (take n (door_array lent n (λ i. get_or ds i 0))) ≡ n = length-take-le n _ (rw length_map_below h) in
    ext_get_or 0 _ ds (l ∙ sym e) (λ i m. let k : i < n = rw l at m in get_or-take n _ i 0 k ∙ array_at lent n (λ i. get_or ds i 0) i h k)

-- a plan written and then read has its start, doors and cost again
pub read_what_was_written : (n lent s : ℕ) (ds : List ℕ) (c : ℕ) → wrong_tasks n lent ≡ false → s < 2 ^ 16
    → ((i : ℕ) → i < n → get_or ds i 0 < 2 ^ 16) → c < 2 ^ 64
    → read_plan n lent (plan_bytes n s ds c) ≡ accepted (record { start = s; doors = door_array lent n (λ i. get_or ds i 0); cost = c })
unfolding read_plan read_tests
read_what_was_written n lent s ds c t hs hd hc = rw (t, plan_well_formed n s ds c) (λ j. accepted (record {
  start = start_again n s ds c hs j;
  doors = array_cong lent n (door_in (plan_bytes n s ds c)) (λ i. get_or ds i 0) (λ i l. door_again n s ds c i l (hd i l)) j;
  cost = cost_again n s ds c hc j;
}))

-- ---- read, then written

-- the bytes of a plan that is not ill-formed, from its parts
pub well_formed_is : (n : ℕ) (q : List ℕ) → are_bytes q ≡ true → ill_formed n q ≡ false → plan_bytes n (start_in q) (doors_in n q) (cost_in n q) ≡ q
unfolding ill_formed wrong_head start_in doors_in door_in cost_in plan_bytes door_bytes plan_length plan_cost_at plan_doors_at
well_formed_is n q b h =
    let long : length q ≡ plan_length n = eqb-true _ _ (not-false _ (or_left (not (eqb (length q) (plan_length n))) _ h)) in
    let head : take plan_start_at q ≡ plan_head n = same_list_lem _ _ (not-false _ (or_right (not (eqb (length q) (plan_length n))) _ h)) in
    rw (
      flat_cong n (λ i. bytes_of 2 (get_or (doors_in n q) i 0)) (λ i. bytes_of 2 (door_in q i)) (λ i l. ap (bytes_of 2) (map_below_at n (door_in q) i 0 l)),
      ← head,
      written_on 2 q plan_start_at b (omega arith),
      row_on 2 n q plan_doors_at b (omega arith),
      written_on 8 q (plan_cost_at n) b (omega arith),
    ) (take_all (plan_length n) q (omega arith))

module _ (n lent : ℕ) (q : List ℕ) (r : PlanRead) (e : read_plan n lent q ≡ accepted r) where
  -- what reads as a plan is refused neither with 12 nor with 30, and is the plan that stands in the bytes
  read_is : (wrong_tasks n lent ≡ false) × (ill_formed n q ≡ false)
      × (record { start = start_in q; doors = door_array lent n (door_in q); cost = cost_in n q } ≡ r)
  unfolding read_plan read_tests
  read_is = let p = accepted_pass (read_tests n lent q) _ r e in (p.0.0, p.0.1.0, accepted_value p.1)

  -- bytes that read as a plan are as many as its layout says
  pub read_length : (wrong_tasks n lent ≡ false) × (length q ≡ plan_length n) × (length r.doors ≡ lent)
  unfolding ill_formed wrong_head
  read_length = (
    read_is.0,
    eqb-true _ _ (not-false _ (or_left (not (eqb (length q) (plan_length n))) _ read_is.1)),
    rw (← read_is.2) (length_array lent n (door_in q)),
  )

  -- they are those that writing it yields
  pub write_what_was_read : are_bytes q ≡ true → plan_bytes n r.start r.doors r.cost ≡ q
  unfolding doors_in
  write_what_was_read b =
      let h : n ≤ lent = (fitting n lent read_is.0).2 in
      rw (← read_is.2)
      (plan_cong n (start_in q) (door_array lent n (door_in q)) (doors_in n q) (cost_in n q)
      (λ i l. array_at lent n (door_in q) i h l ∙ sym (map_below_at n (door_in q) i 0 l))
      ∙ well_formed_is n q b read_is.1)

  -- they read as the same plan wherever as many doors are lent
  pub read_with : (more : ℕ) → n ≤ more
      → (x : PlanRead) × (read_plan n more q ≡ accepted x) × (x.start ≡ r.start) × (take n x.doors ≡ take n r.doors) × (x.cost ≡ r.cost)
  unfolding read_plan read_tests
  read_with more here =
      let f = fitting n lent read_is.0 in (
        record { start = start_in q; doors = door_array more n (door_in q); cost = cost_in n q },
        rw (tasks_fit n more f.0 f.1 here, read_is.1),
        ap (λ (x : PlanRead). x.start) read_is.2,
        first more here ∙ sym (first lent f.2) ∙ ap (λ (x : PlanRead). take n x.doors) read_is.2,
        ap (λ (x : PlanRead). x.cost) read_is.2,
      )
    where
      first : (m : ℕ) → n ≤ m → take n (door_array m n (door_in q)) ≡ map_below n (door_in q)
      first m h = ap (take n) (array_cong m n (door_in q) _ (λ i l. sym (map_below_at n (door_in q) i 0 l)))
          ∙ array_front m n (map_below n (door_in q)) h (length_map_below n (door_in q))

-- ---- writing into a buffer

-- of two tests, one was the answer
either : {A : Type 0} (m n : ℕ) (t u : Bool) (x : A) (r : ℕ) → refuse_first ((m when t) ∷ (n when u) ∷ []) (accepted x) ≡ refused r → (r ≡ m) ⊎ (r ≡ n)
either m n true u x r e = inl (sym (refused_number e))
either m n false true x r e = inr (sym (refused_number e))
either m n false false x r e = absurd (refused≢accepted (sym e))

module _ (n s : ℕ) (ds : List ℕ) (c : ℕ) (buffer : List ℕ) where
  -- the plan stands at the front of the buffer, and the rest is as it was
  pub plan_over : (take (plan_length n) (overwrite (plan_bytes n s ds c) buffer) ≡ plan_bytes n s ds c)
      × (drop (plan_length n) (overwrite (plan_bytes n s ds c) buffer) ≡ drop (plan_length n) buffer)
  plan_over = rw length_plan at (overwritten (plan_bytes n s ds c) buffer)

  -- what writing refuses, and that it then writes nothing
  pub write_refusals : (r : ℕ) → (write_plan n s ds c buffer).answer ≡ refused r → ((r ≡ 12) ⊎ (r ≡ 21)) × ((write_plan n s ds c buffer).bytes ≡ buffer)
  unfolding write_plan write_answer write_tests short_room bytes_written
  write_refusals r e = (
    either 12 21 (wrong_tasks n (length ds)) (short_room n (length buffer)) (plan_length n) r e,
    ap (λ (a : Answer ℕ). bytes_written a (plan_bytes n s ds c) buffer) e,
  )

  -- writing, where there is room
  module _ (fits : wrong_tasks n (length ds) ≡ false) where
    write_accepts : plan_length n ≤ length buffer → write_answer n (length ds) (length buffer) ≡ accepted (plan_length n)
    unfolding write_answer write_tests short_room
    write_accepts l = rw (fits, le-ltb (length buffer) (plan_length n) l)

    -- it is written over the front of the buffer
    pub written_over : plan_length n ≤ length buffer → (write_plan n s ds c buffer).bytes ≡ overwrite (plan_bytes n s ds c) buffer
    unfolding write_plan bytes_written
    written_over l = rw (write_accepts l)

    pub written : plan_length n ≤ length buffer → ((write_plan n s ds c buffer).answer ≡ accepted (plan_length n))
        × (take (plan_length n) (write_plan n s ds c buffer).bytes ≡ plan_bytes n s ds c)
        × (drop (plan_length n) (write_plan n s ds c buffer).bytes ≡ drop (plan_length n) buffer)
    unfolding write_plan
    written l = (write_accepts l, rw written_over plan_over.0, rw written_over plan_over.1)

    -- a buffer of just that length holds the plan and nothing else
    pub written_whole : length buffer ≡ plan_length n → (write_plan n s ds c buffer).bytes ≡ plan_bytes n s ds c
    unfolding overwrite
    written_whole e = written_over (omega arith)
        ∙ rw (length_plan n s ds c, drop_of_length-le buffer {i = plan_length n} (omega arith)) (append-nil (plan_bytes n s ds c))

-- what reading refuses
pub read_refusals : (n lent : ℕ) (q : List ℕ) (r : ℕ) → read_plan n lent q ≡ refused r → (r ≡ 12) ⊎ (r ≡ 30)
unfolding read_plan read_tests
read_refusals n lent q r e = either 12 30 (wrong_tasks n lent) (ill_formed n q) _ r e
