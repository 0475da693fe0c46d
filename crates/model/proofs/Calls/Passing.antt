-- A sheet passes the tests of 10 to 15 exactly where the facts of `Passes` hold of it; how long it then is; no field lies beyond its end. Assumes nothing.
use Rattle.model.proofs.Basics.{◌≡◌, ap, ◌↔◌, false, not, List, [], ℕ, zero, suc, ◌+◌, ◌*◌, ◌≤◌, ◌<◌, mul-le-mul_right, mul-le-mul}
use Rattle.model.proofs.Basics.{arith, eqb, lit<, length, get_or, eqb-true, eq-eqb, ltb-false, le-ltb, not-false}
use Rattle.model.specs.{any_below, sum_below, Layout, bodies, kind1, field_width, bytes_before, entry_bytes, line_at, line_body, entries}
use Rattle.model.specs.{body_at, layout_of, decode, too_short, wrong_kind, wrong_entries, some_wrong_entries, wrong_line, wrong_length}
use Rattle.model.specs.{wrong_places, EntriesWithin, Passes, line_offset}
use Rattle.model.proofs.Tools.Tests.{or_left, or_right, or_neither, between_is, none_at, none_below, by_last}
use Rattle.model.proofs.Bytes.Ranges.{in_range, least_counts_lem, range_passes, served, served_passes}
use Rattle.model.proofs.{Bytes.Entries.entries_within, Calls.Reading.Cleared}

-- a contents line that 13 does not refuse
pub right_line : (L : Layout) (b : List ℕ) (i : ℕ) → (wrong_line L b i ≡ false) ↔ ((line_body b i ≡ suc i) × (line_offset b i ≡ body_at L b i))
unfolding wrong_line
right_line L b i = (
  (λ w. (
    eqb-true _ _ (not-false _ (or_left (not (eqb (line_body b i) (suc i))) _ w)),
    eqb-true _ _ (not-false _ (or_right (not (eqb (line_body b i) (suc i))) _ w)),
  )),
  (λ h. or_neither (ap not (eq-eqb _ _ h.0)) (ap not (eq-eqb _ _ h.1))),
)

pub passes_iff : (b : List ℕ) → Cleared b ↔ Passes b
unfolding too_short wrong_kind some_wrong_entries wrong_entries wrong_places wrong_length line_at
passes_iff b = (there, back)
  where
    there : Cleared b → Passes b
    there h = record {
      long = ltb-false _ _ h.long;
      kind = eqb-true _ _ (not-false _ h.kind);
      counts = entries_within (layout_of b) b h.counts;
      lines = λ i l. (right_line (layout_of b) b i).0
          (none_at bodies (wrong_line (layout_of b) b) (or_left (any_below bodies (wrong_line (layout_of b) b)) _ h.places) i l);
      ends = eqb-true _ _ (not-false _ (or_right (any_below bodies (wrong_line (layout_of b) b)) _ h.places));
      ranges = in_range (layout_of b) (decode b) h.ranges;
      least_counts = least_counts_lem (layout_of b) (decode b) h.ranges;
      doors = served (decode b) h.doors;
    }

    back : Passes b → Cleared b
    back h = record {
      long = le-ltb _ _ h.long;
      kind = ap not (eq-eqb _ _ h.kind);
      counts = none_below bodies (wrong_entries (layout_of b) b) (λ i l. ap not (between_is _ _ _ (h.counts i l).0 (h.counts i l).1));
      places = or_neither
          (none_below bodies (wrong_line (layout_of b) b) (λ i l. (right_line (layout_of b) b i).1 (h.lines i l)))
          (ap not (eq-eqb _ _ h.ends));
      ranges = range_passes (layout_of b) (decode b) h.ranges h.least_counts;
      doors = served_passes (decode b) h.doors;
    }

-- the shortest sheet has 66 bytes, the longest 9,638
pub end_between : (b : List ℕ) → EntriesWithin (layout_of b) b → (66 ≤ body_at (layout_of b) b bodies) × (body_at (layout_of b) b bodies ≤ 9638)
unfolding layout_of kind1 entry_bytes bytes_before field_width line_at
end_between b h =
    let n = h 0 (lit< tt) in
    let d = h 1 (lit< tt) in
    let s = h 2 (lit< tt) in
    let q = h 3 (lit< tt) in
    let r = h 4 (lit< tt) in
    let p = h 5 (lit< tt) in
    let m = h 6 (lit< tt) in
    let lo : 1 * 1 ≤ entries b 5 * entries b 5 = mul-le-mul p.0 p.0 in
    let hi : entries b 5 * entries b 5 ≤ 64 * 64 = mul-le-mul p.1 p.1 in
    (omega (arith, n, d, s, m, lo), omega (arith, n, d, s, q, r, m, hi))

pub length_between : (b : List ℕ) → Passes b → (66 ≤ length b) × (length b ≤ 9638)
length_between b h = rw h.ends (end_between b h.counts)

-- ---- no field lies beyond the end

up_to : (g : ℕ → ℕ) (f n : ℕ) → f < n → sum_below f g + g f ≤ sum_below n g
up_to g f zero l = absurd (omega arith)
up_to g f (suc n) l = by_last f n l (λ w. rw w (omega arith)) (λ w. omega (arith, up_to g f n w))

body_within : (L : Layout) (b : List ℕ) (i n : ℕ) → i < n → body_at L b i + entries b i * entry_bytes L i ≤ body_at L b n
body_within L b i zero l = absurd (omega arith)
body_within L b i (suc n) l = by_last i n l (λ w. rw w (omega arith)) (λ w. omega (arith, body_within L b i n w))

-- field f of entry e of body i ends within a sheet that ends with its last body
pub field_within : (L : Layout) (b : List ℕ) → length b ≡ body_at L b bodies
    → (i e f : ℕ) → i < bodies → e < entries b i → f < length (get_or L.field_widths i [])
    → body_at L b i + e * entry_bytes L i + bytes_before L i f + field_width L i f ≤ length b
unfolding entry_bytes bytes_before
field_within L b end i e f li le lf =
    let row : sum_below f (field_width L i) + field_width L i f ≤ entry_bytes L i = up_to (field_width L i) f (length (get_or L.field_widths i [])) lf in
    let last : (e + 1) * entry_bytes L i ≤ entries b i * entry_bytes L i = mul-le-mul_right (entry_bytes L i) (omega arith) in
    omega (arith, row, last, body_within L b i bodies li, end)
