-- What is printed is what planning answers with room for any plan, whatever stands in cells and buffer; and the print program loses nothing by
-- reading no more than 9,639 bytes: a longer sheet is refused by its first 46. Assumes nothing.
use Rattle.model.proofs.Basics.{◌≡◌, refl, sym, ap, ap₂, ◌∙◌, Bool, true, false, not, List, some, ℕ, zero, suc, ◌+◌, ◌*◌, ◌≤◌, ◌<◌}
use Rattle.model.proofs.Basics.{arith, eqb, ltb, lit<, length, take, length-take-le, get_or-take, take_all, ne_eqb, ltb-true}
use Rattle.model.proofs.Basics.{ltb-false, le-ltb}
use Rattle.model.specs.{Plan, plan_cost, cheapest, refused, accepted, points_body, bodies, line_at, entries, body_at}
use Rattle.model.specs.{layout_of, decode, max_plan_doors, plan_length, plan_bytes, number_at, overwrite, plan_for, plan}
use Rattle.model.specs.{refusal_line, plan_lines, answer_lines, printed_with, printed, any_below, too_short, wrong_kind, wrong_entries}
use Rattle.model.specs.{some_wrong_entries, wrong_line, wrong_length, wrong_places, sheet_tests, unless_fault}
use Rattle.model.proofs.Tools.{Tests.or-true, Tests.any_cong, Tests.by_test}
use Rattle.model.proofs.Bytes.Entries.{entries_within}
use Rattle.model.proofs.Calls.{Reading.Reads, Planning.accepted_planned, Planning.planned, Planning.accepted_plan, Planning.refused_planned, Passing.end_between}

module _ (b cells buffer : List ℕ) (as_long : length buffer ≡ plan_length max_plan_doors) where
  same_room : plan_for b (length cells) (length buffer) ≡ plan_for b (length cells) (plan_length max_plan_doors)
  same_room = ap (plan_for b (length cells)) as_long

  -- a refusal is printed as its number
  pub prints_refusal : (r : ℕ) → (plan b cells buffer).answer ≡ refused r → printed_with (length cells) b ≡ refusal_line r
  unfolding printed_with
  prints_refusal r e = ap (answer_lines (decode b)) (sym same_room ∙ refused_planned b cells buffer r e)

  -- and a plan as its cost and the steps of the very plan that stands in the buffer, the cheapest of a sheet that reads
  pub prints_plan : (c : ℕ) → (plan b cells buffer).answer ≡ accepted c
      → (x : Plan) × (plan_cost (decode b) x ≡ c) × (printed_with (length cells) b ≡ plan_lines (decode b) x)
      × ((plan b cells buffer).bytes ≡ overwrite (plan_bytes (decode b).tasks x.start x.doors c) buffer) × Reads b × (cheapest (decode b) ≡ some x)
  unfolding printed_with
  prints_plan c e =
      let g = accepted_planned b cells buffer c e in
      let r = accepted_plan b (length cells) (length buffer) g.0 g.1 in
      (g.0, g.2, ap (answer_lines (decode b)) (sym same_room ∙ g.1), rw (planned b cells buffer g.0 g.1, g.2) refl, r.0, r.1)

-- ---- what is cut from a long input

-- a number within the first m bytes
number_take : (k m : ℕ) (b : List ℕ) (i : ℕ) → i + k ≤ m → number_at k (take m b) i ≡ number_at k b i
unfolding number_at
number_take zero m b i l = refl
number_take (suc k) m b i l = ap₂ (λ (x y : ℕ). x + 256 * y) (get_or-take m b i 0 (omega arith)) (number_take k m b (suc i) (omega arith))

-- a sheet longer than any is refused with 11, 12 or 13, by its first 46 bytes
module _ (b : List ℕ) (m cells room : ℕ) (room_for : 9639 ≤ m) (long : m ≤ length b) where
  abbrev front : List ℕ
  front = take m b

  length_front : length front ≡ m
  length_front = length-take-le m b long

  same_entries : (i : ℕ) → i < bodies → entries front i ≡ entries b i
  unfolding entries line_at
  same_entries i l = number_take 2 m b _ (omega arith)

  same_kind : wrong_kind (layout_of b) front ≡ wrong_kind (layout_of b) b
  unfolding wrong_kind
  same_kind = ap (λ (n : ℕ). not (eqb n (layout_of b).kind)) (number_take 2 m b 0 (omega arith))

  same_counts : some_wrong_entries (layout_of b) front ≡ some_wrong_entries (layout_of b) b
  unfolding some_wrong_entries wrong_entries
  same_counts = any_cong bodies (wrong_entries (layout_of b) front) (wrong_entries (layout_of b) b)
      (λ i l. rw (same_entries i l, same_entries points_body (lit< tt)))

  -- a sheet whose numbers of entries are within the table ends before
  too_long : (c : List ℕ) → 9639 ≤ length c → some_wrong_entries (layout_of c) c ≡ false → wrong_places (layout_of c) c ≡ true
  unfolding wrong_places wrong_length
  too_long c l h = or-true (any_below bodies (wrong_line (layout_of c) c)) _ (ap not (ne_eqb (length c) (body_at (layout_of c) c bodies)
      (λ e. omega (arith, (end_between c (entries_within (layout_of c) c h)).1))))

  -- so both get the same number
  pub cut_alike : (r : ℕ) × (plan_for front cells room ≡ refused r) × (plan_for b cells room ≡ refused r)
  unfolding plan_for unless_fault sheet_tests too_short line_at layout_of
  cut_alike = go (wrong_kind (layout_of b) b) refl (some_wrong_entries (layout_of b) b) refl
    where
      head : (c : List ℕ) → 9639 ≤ length c → ltb (length c) 46 ≡ false
      head c l = le-ltb (length c) 46 (omega arith)

      go : (t : Bool) → wrong_kind (layout_of b) b ≡ t → (u : Bool) → some_wrong_entries (layout_of b) b ≡ u
          → (r : ℕ) × (plan_for front cells room ≡ refused r) × (plan_for b cells room ≡ refused r)
      go true e u f = (11, rw (head front (rw length_front room_for), same_kind, e), rw (head b (omega arith), e))
      go false e true f = (12, rw (head front (rw length_front room_for), same_kind, e, same_counts, f), rw (head b (omega arith), e, f))
      go false e false f = (
        13,
        rw (head front (rw length_front room_for), same_kind, e, same_counts, f, too_long front (rw length_front room_for) (same_counts ∙ f)),
        rw (head b (omega arith), e, f, too_long b (omega arith) f),
      )

-- cutting the input at 9,639 bytes changes nothing that is printed
pub cut_input : (input : List ℕ) → printed input ≡ printed_with 4096 input
unfolding printed printed_with
cut_input input = by_test (ltb (length input) 9639)
    (λ w. ap (λ (b : List ℕ). answer_lines (decode b) (plan_for b 4096 (plan_length max_plan_doors)))
    (take_all 9639 input (omega (arith, ltb-true (length input) 9639 w))))
    (λ w.
    let c = cut_alike input 9639 4096 (plan_length max_plan_doors) (omega arith) (ltb-false _ _ w) in
    ap (answer_lines (decode (take 9639 input))) c.1 ∙ sym (ap (answer_lines (decode input)) c.2))
