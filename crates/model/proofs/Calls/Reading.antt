-- Which faults a sheet passes, from what a call answers: every call tests them first, in one order. Assumes nothing.
use Rattle.model.proofs.Basics.{◌≡◌, refl, sym, ◌∙◌, ◌⊎◌, inl, inr, ⊎_elim, ◌↔◌, Bool, true, false, List, ℕ, ◌≤◌, arith}
use Rattle.model.specs.{Demands.SomeOrder, Demands.NoOrder, SomeTooLight, LoadsHold, Answer.Answer, is_between, no_order, refused, accepted, refuse_if, layout_of, decode, too_short, wrong_kind}
use Rattle.model.specs.{some_wrong_entries, wrong_places, out_of_range, some_lacks_door, too_light, sheet_tests, unless_fault, CountsWithin}
use Rattle.model.proofs.Tools.Refusing.{refused≢accepted, refused_number, AllPass, Applies, all_pass, accepted_pass, refused_applies}
use Rattle.model.proofs.Tools.Refusing.{refuses_alike, applies_within}
use Rattle.model.proofs.Bytes.Entries.{entries_within, counts_within}
use Rattle.model.proofs.Theory.{Enumerations.has_order, Enumerations.no_order_iff, Enumerations.no_order_false, Loads.loads_hold, Loads.some_light, Loads.light_some}

-- the tests of 10 to 15, none of which applies
pub record Cleared (b : List ℕ) : Type 0 where
  pub long : too_short b ≡ false
  pub kind : wrong_kind (layout_of b) b ≡ false
  pub counts : some_wrong_entries (layout_of b) b ≡ false
  pub places : wrong_places (layout_of b) b ≡ false
  pub ranges : out_of_range (layout_of b) (decode b) ≡ false
  pub doors : some_lacks_door (decode b) ≡ false

-- and of 17 and 16: a sheet that reads
pub record Reads (b : List ℕ) : Type 0 where
  pub passed_tests : Cleared b
  pub ordered : no_order (decode b) ≡ false
  pub light : too_light (decode b) ≡ false

-- which is to pass all of the sheet's tests
pub reads_all : (b : List ℕ) → Reads b → AllPass (sheet_tests b)
unfolding sheet_tests
reads_all b h =
    let c : Cleared b = h.passed_tests in
    (c.long, (c.kind, (c.counts, (c.places, (c.ranges, (c.doors, (h.ordered, (h.light, tt))))))))

pub all_reads : (b : List ℕ) → AllPass (sheet_tests b) → Reads b
unfolding sheet_tests
all_reads b (t₁, (t₂, (t₃, (t₄, (t₅, (t₆, (t₇, (t₈, t)))))))) = record {
  passed_tests = record { long = t₁; kind = t₂; counts = t₃; places = t₄; ranges = t₅; doors = t₆ };
  ordered = t₇;
  light = t₈;
}

-- on a sheet that passes 10 to 15 there are 17 and 16 left
pub passed_then : {A : Type 0} (b : List ℕ) (a : Answer A) → Cleared b
    → unless_fault b a ≡ refuse_if (no_order (decode b)) 17 (refuse_if (too_light (decode b)) 16 a)
unfolding unless_fault sheet_tests
passed_then b a h = rw (h.long, h.kind, h.counts, h.places, h.ranges, h.doors)

-- so a call that accepts every sheet that reads gets 17 exactly where no order of the tasks keeps every pair, and of the others 16 exactly where some essential list
-- has a load below zero
module _ {A : Type 0} (b : List ℕ) (a : Answer A) (ends : Reads b → (x : A) × (a ≡ accepted x)) (h : Cleared b) where
  pub gets_17 : (unless_fault b a ≡ refused 17) ↔ NoOrder (decode b)
  gets_17 = rw (passed_then b a h) (
    (λ r. (no_order_iff (decode b)).0 (due (no_order (decode b)) (too_light (decode b)) refl refl r)),
    (λ k. rw ((no_order_iff (decode b)).1 k)),
  )
    where
      due : (t u : Bool) → no_order (decode b) ≡ t → too_light (decode b) ≡ u → refuse_if t 17 (refuse_if u 16 a) ≡ refused 17 → t ≡ true
      due true u w v r = refl
      due false true w v r = absurd (omega (arith, refused_number r))
      due false false w v r = absurd (refused≢accepted (sym r ∙ (ends (record { passed_tests = h; ordered = w; light = v })).1))

  pub gets_16 : (unless_fault b a ≡ refused 16) ↔ (SomeOrder (decode b) × SomeTooLight (decode b))
  gets_16 = rw (passed_then b a h) (
    (λ r. let w = due (no_order (decode b)) (too_light (decode b)) refl refl r in (has_order (decode b) w.0, some_light (decode b) w.1)),
    (λ k. rw (no_order_false (decode b) k.0.0 k.0.1, light_some (decode b) k.1)),
  )
    where
      due : (t u : Bool) → no_order (decode b) ≡ t → too_light (decode b) ≡ u → refuse_if t 17 (refuse_if u 16 a) ≡ refused 16 → (t ≡ false) × (u ≡ true)
      due true u w v r = absurd (omega (arith, refused_number r))
      due false true w v r = (refl, refl)
      due false false w v r = absurd (refused≢accepted (sym r ∙ (ends (record { passed_tests = h; ordered = w; light = v })).1))

pub reads_then : {A : Type 0} (b : List ℕ) (a : Answer A) → Reads b → unless_fault b a ≡ a
unfolding unless_fault
reads_then b a h = all_pass (sheet_tests b) a (reads_all b h)

-- its numbers of entries are within the table
pub counts_read : (b : List ℕ) → Reads b → CountsWithin (decode b)
counts_read b h = counts_within b (entries_within (layout_of b) b h.passed_tests.counts)

-- and no essential list has a load below zero
pub loads_read : (b : List ℕ) → Reads b → LoadsHold (decode b)
loads_read b h = loads_hold (decode b) h.light

-- what is accepted has passed them all
pub accepted_reads : {A : Type 0} (b : List ℕ) (a : Answer A) (x : A) → unless_fault b a ≡ accepted x → Reads b × (a ≡ accepted x)
unfolding unless_fault
accepted_reads b a x e = let r = accepted_pass (sheet_tests b) a x e in (all_reads b r.0, r.1)

-- the sheet's own numbers are 10 to 17
pub sheet_within : (b : List ℕ) (r : ℕ) → Applies (sheet_tests b) r → (10 ≤ r) × (r ≤ 17)
unfolding sheet_tests is_between
sheet_within b r = applies_within 10 17 (sheet_tests b) r refl

-- what is refused is refused with one of 10 to 17, or reads
pub refused_reads : {A : Type 0} (b : List ℕ) (a : Answer A) (r : ℕ) → unless_fault b a ≡ refused r → ((10 ≤ r) × (r ≤ 17)) ⊎ (Reads b × (a ≡ refused r))
unfolding unless_fault
refused_reads b a r e = ⊎_elim (λ h. inl (sheet_within b r h)) (λ h. inr (all_reads b h.0, h.1)) (refused_applies (sheet_tests b) a r e)

-- what reading refuses every call refuses, with the same number
pub refused_alike : {A B : Type 0} (b : List ℕ) (a : Answer A) (c : Answer B) (x : A) (r : ℕ) → a ≡ accepted x
    → unless_fault b a ≡ refused r → unless_fault b c ≡ refused r
unfolding unless_fault
refused_alike b = refuses_alike (sheet_tests b)
