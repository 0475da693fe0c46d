-- Calls that are refused with the number of the first test that applies, for any list of tests: a refusal is one of the list; where all pass the
-- answer stands; two calls with the same tests refuse alike; and where the numbers stand in the order in which they are tested, the first that applies is answered.
-- Assumes nothing.
use Rattle.model.proofs.Basics.{◌≡◌, refl, sym, ap, ◌∙◌, ◌⊎◌, inl, inr, ⊎_elim, ◌↔◌, Bool, true, false, ◌&&◌, true≢false, List, [], ◌∷◌}
use Rattle.model.proofs.Basics.{◌++◌, map, ℕ, zero, suc, ◌≤◌, ◌<◌, arith, eqb, ltb, leb, length, eqb-false, ltb-true, leb-true}
use Rattle.model.specs.{Answer.Answer, is_between, all_in, index_of, refused, accepted, Test, ◌when◌, refuse_if, refuse_first, status}
use Rattle.model.specs.Figures.{First, None, Listed, AnswersBy}
use Rattle.model.proofs.Tools.Tests.{not_both, and_left, and_right, between_true, by_last, by_test}

-- ---- answers

module _ {A : Type 0} where
  pub refused≢accepted : {n : ℕ} {x : A} → refused n ≡ accepted x → ⊥
  refused≢accepted e = let z : ◌≡◌ {A = ℕ} 0 1 = cc in omega arith

  pub refused_number : {m n : ℕ} → ◌≡◌ {A = Answer A} (refused m) (refused n) → m ≡ n
  refused_number e = cc

  pub accepted_value : {x y : A} → ◌≡◌ {A = Answer A} (accepted x) (accepted y) → x ≡ y
  accepted_value e = cc

  -- a call whose refusals all have numbers above 0 returns 0 only where it accepted
  pub returned_0 : (a : Answer A) → ((r : ℕ) → a ≡ refused r → 0 < r) → status a ≡ 0 → (x : A) × (a ≡ accepted x)
  returned_0 (refused r) h e = absurd (omega (arith, h r refl))
  returned_0 (accepted x) h e = (x, refl)

  -- and what it returns otherwise is the number of its refusal
  pub returned : (a : Answer A) → (status a ≡ 0 → ⊥) → a ≡ refused (status a)
  returned (refused r) n = refl
  returned (accepted x) n = absurd (n refl)

  -- so what returns a number above 0 was refused with it
  pub returned_refusal : (a : Answer A) (r : ℕ) → 0 < r → status a ≡ r → a ≡ refused r
  returned_refusal a r l e = returned a (λ z. omega arith) ∙ ap refused e

-- ---- a list of tests

-- none of the tests applies
abbrev pub AllPass : List Test → Type 0
AllPass [] = Unit {0}
AllPass ((n when t) ∷ ts) = (t ≡ false) × AllPass ts

-- one of the tests applies, and has the number r
abbrev pub Applies : List Test → ℕ → Type 0
Applies [] r = ⊥
Applies ((n when t) ∷ ts) r = ((r ≡ n) × (t ≡ true)) ⊎ Applies ts r

-- where all pass, the answer stands
pub all_pass : {A : Type 0} (ts : List Test) (a : Answer A) → AllPass ts → refuse_first ts a ≡ a
all_pass [] a h = refl
all_pass ((n when t) ∷ ts) a h = ap (λ u. refuse_if u n (refuse_first ts a)) h.0 ∙ all_pass ts a h.1

-- what is accepted has passed them all
pub accepted_pass : {A : Type 0} (ts : List Test) (a : Answer A) (x : A) → refuse_first ts a ≡ accepted x → AllPass ts × (a ≡ accepted x)
accepted_pass [] a x e = (tt, e)
accepted_pass ((n when t) ∷ ts) a x e = by_test t
    (λ w. absurd (refused≢accepted (rw w at e)))
    (λ w. let r = accepted_pass ts a x (rw w at e) in ((w, r.0), r.1))

-- what is refused is refused with the number of a test that applies, or has passed them all
pub refused_applies : {A : Type 0} (ts : List Test) (a : Answer A) (r : ℕ) → refuse_first ts a ≡ refused r
    → Applies ts r ⊎ (AllPass ts × (a ≡ refused r))
refused_applies [] a r e = inr (tt, e)
refused_applies ((n when t) ∷ ts) a r e = by_test t
    (λ w. inl (inl (sym (refused_number (rw w at e)), w)))
    (λ w. ⊎_elim (λ h. inl (inr h)) (λ h. inr ((w, h.0), h.1)) (refused_applies ts a r (rw w at e)))

-- two calls with the same tests refuse alike: what one that accepts otherwise refuses, the other refuses with the same number
pub refuses_alike : {A B : Type 0} (ts : List Test) (a : Answer A) (c : Answer B) (x : A) (r : ℕ) → a ≡ accepted x
    → refuse_first ts a ≡ refused r → refuse_first ts c ≡ refused r
refuses_alike [] a c x r w e = absurd (refused≢accepted (sym e ∙ w))
refuses_alike ((n when true) ∷ ts) a c x r w e = ap refused (refused_number e)
refuses_alike ((n when false) ∷ ts) a c x r w e = refuses_alike ts a c x r w e

-- the number of a test, and numbers that lie within bounds: a refusal's does too
abbrev pub test_number : Test → ℕ
test_number (n when t) = n

pub applies_within : (lo hi : ℕ) (ts : List Test) (r : ℕ) → all_in (λ t. is_between lo hi (test_number t)) ts ≡ true → Applies ts r → (lo ≤ r) × (r ≤ hi)
applies_within lo hi [] r h e = absurd e
applies_within lo hi ((n when t) ∷ ts) r h (inl e) = rw e.0 (between_true lo hi n (and_left (is_between lo hi n) _ h))
applies_within lo hi ((n when t) ∷ ts) r h (inr e) = applies_within lo hi ts r (and_right (is_between lo hi n) _ h) e

-- tests one behind the other
pub refuse_append : {A : Type 0} (ts us : List Test) (a : Answer A) → refuse_first ts (refuse_first us a) ≡ refuse_first (ts ++ us) a
refuse_append [] us a = refl
refuse_append ((n when t) ∷ ts) us a = ap (refuse_if t n) (refuse_append ts us a)

pub pass_append : (ts us : List Test) → AllPass (ts ++ us) → AllPass ts × AllPass us
pass_append [] us h = (tt, h)
pass_append ((n when t) ∷ ts) us h = let r = pass_append ts us h.1 in ((h.0, r.0), r.1)

pub applies_append : (ts us : List Test) (r : ℕ) → Applies (ts ++ us) r ↔ (Applies ts r ⊎ Applies us r)
applies_append [] us r = (inr, ⊎_elim absurd (λ h. h))
applies_append ((n when t) ∷ ts) us r =
    let s = applies_append ts us r in (
      ⊎_elim (λ h. inl (inl h)) (λ h. ⊎_elim (λ k. inl (inr k)) inr (s.0 h)),
      ⊎_elim (⊎_elim inl (λ k. inr (s.1 (inl k)))) (λ k. inr (s.1 (inr k))),
    )

pub none_applies : (ts : List Test) → AllPass ts → (r : ℕ) → Applies ts r → ⊥
none_applies [] h r e = e
none_applies ((n when t) ∷ ts) h r (inl e) = not_both e.1 h.0
none_applies ((n when t) ∷ ts) h r (inr e) = none_applies ts h.1 r e

pub pass_none : (ts : List Test) → ((r : ℕ) → Applies ts r → ⊥) → AllPass ts
pass_none [] h = tt
pass_none ((n when t) ∷ ts) h = (by_test t (λ w. absurd (h n (inl (refl, w)))) (λ w. w), pass_none ts (λ r e. h r (inr e)))

-- ---- the order of the tests

-- a number of the first tests stands in front of all that follow
pub applies_before : (ts : List Test) (ns : List ℕ) (r : ℕ) → Applies ts r → index_of r (map test_number ts ++ ns) < length ts
applies_before [] ns r h = absurd h
applies_before ((n when t) ∷ ts) ns r h = by_test (eqb n r)
    (λ w. rw w (omega arith))
    (λ w. rw w (⊎_elim (λ e. absurd (eqb-false n r w (sym e.0))) (λ e. omega (arith, applies_before ts ns r e)) h))

module _ (order : List ℕ) where
  -- number n stands in the order, from place m on, and is above 0
  abbrev pub in_place : ℕ → ℕ → Bool
  in_place m n = leb m (index_of n order) && ltb (index_of n order) (length order) && ltb 0 n

  -- so do the tests, one behind the other
  abbrev pub in_order : ℕ → List Test → Bool
  in_order m [] = true
  in_order m ((n when t) ∷ ts) = in_place m n && in_order (suc (index_of n order)) ts

  -- what the first test says of the order
  module _ (m n : ℕ) (t : Bool) (ts : List Test) (h : in_order m ((n when t) ∷ ts) ≡ true) where
    head_in : (leb m (index_of n order) && ltb (index_of n order) (length order)) ≡ true
    head_in = and_left _ (ltb 0 n) (and_left (in_place m n) _ h)

    head_at : m ≤ index_of n order
    head_at = leb-true m _ (and_left (leb m (index_of n order)) _ head_in)

    head_listed : Listed order n
    head_listed = ltb-true _ _ (and_right (leb m (index_of n order)) _ head_in)

    head_above : 0 < n
    head_above = ltb-true 0 n (and_right (leb m (index_of n order) && ltb (index_of n order) (length order)) _ (and_left (in_place m n) _ h))

    rest_in : in_order (suc (index_of n order)) ts ≡ true
    rest_in = and_right (in_place m n) _ h

  -- so does every number of the list that applies
  placed_from : (m : ℕ) (ts : List Test) (r : ℕ) → in_order m ts ≡ true → Applies ts r → m ≤ index_of r order
  placed_from m [] r h e = absurd e
  placed_from m ((n when t) ∷ ts) r h (inl e) = rw e.0 (head_at m n t ts h)
  placed_from m ((n when t) ∷ ts) r h (inr e) =
      omega (arith, head_at m n t ts h, placed_from (suc (index_of n order)) ts r (rest_in m n t ts h) e)

  stands_listed : (m : ℕ) (ts : List Test) (r : ℕ) → in_order m ts ≡ true → Applies ts r → Listed order r
  stands_listed m [] r h e = absurd e
  stands_listed m ((n when t) ∷ ts) r h (inl e) = rw e.0 (head_listed m n t ts h)
  stands_listed m ((n when t) ∷ ts) r h (inr e) = stands_listed (suc (index_of n order)) ts r (rest_in m n t ts h) e

  above_0 : (m : ℕ) (ts : List Test) (r : ℕ) → in_order m ts ≡ true → Applies ts r → 0 < r
  above_0 m [] r h e = absurd e
  above_0 m ((n when t) ∷ ts) r h (inl e) = rw e.0 (head_above m n t ts h)
  above_0 m ((n when t) ∷ ts) r h (inr e) = above_0 (suc (index_of n order)) ts r (rest_in m n t ts h) e

  -- what is refused is refused with the first number that applies
  first_refused : {A : Type 0} (m : ℕ) (ts : List Test) (a : Answer A) (r : ℕ) → in_order m ts ≡ true → (AllPass ts → a ≡ refused r → ⊥)
      → refuse_first ts a ≡ refused r → First order (Applies ts) r
  first_refused m [] a r h k e = absurd (k tt e)
  first_refused m ((n when true) ∷ ts) a r h k e =
      let q : n ≡ r = refused_number e in
      let same : index_of n order ≡ index_of r order = ap (λ (x : ℕ). index_of x order) q in (
        inl (sym q, refl),
        λ i l. ⊎_elim
            (λ s. omega (arith, same, ap (λ (x : ℕ). index_of x order) s.0, l))
            (λ s. omega (arith, same, placed_from (suc (index_of n order)) ts i (rest_in m n true ts h) s, l)),
      )
  first_refused m ((n when false) ∷ ts) a r h k e =
      let p = first_refused (suc (index_of n order)) ts a r (rest_in m n false ts h) (λ p. k (refl, p)) e in
      (inr p.0, λ i l. ⊎_elim (λ s. true≢false (sym s.1)) (p.1 i l))

  -- and the first number that applies is answered
  refused_first : {A : Type 0} (m : ℕ) (ts : List Test) (a : Answer A) (r : ℕ) → in_order m ts ≡ true → First order (Applies ts) r
      → refuse_first ts a ≡ refused r
  refused_first m [] a r h p = absurd p.0
  refused_first m ((n when true) ∷ ts) a r h (inl s, p) = ap refused (sym s.0)
  refused_first m ((n when true) ∷ ts) a r h (inr s, p) =
      absurd (p n (placed_from (suc (index_of n order)) ts r (rest_in m n true ts h) s) (inl (refl, refl)))
  refused_first m ((n when false) ∷ ts) a r h (inl s, p) = absurd (true≢false (sym s.1))
  refused_first m ((n when false) ∷ ts) a r h (inr s, p) = refused_first (suc (index_of n order)) ts a r (rest_in m n false ts h) (s, λ i l k. p i l (inr k))

  -- ---- two ways to say which numbers apply

  -- each says the same of a number where none before it applies: then both have the same first
  module _ (P Q : ℕ → Type 0) (same : (r : ℕ) → ((n : ℕ) → index_of n order < index_of r order → P n → ⊥) → P r ↔ Q r) where
    none_earlier : (k : ℕ) → ((n : ℕ) → index_of n order < k → Q n → ⊥) → (n : ℕ) → index_of n order < k → P n → ⊥
    none_earlier zero h n l p = absurd (omega arith)
    none_earlier (suc k) h n l p = by_last (index_of n order) k l
        (λ w. h n l ((same n (λ i m. none_earlier k (λ i o. h i (omega arith)) i (omega arith))).0 p))
        (λ w. none_earlier k (λ i o. h i (omega arith)) n w p)

    earlier_none : (k : ℕ) → ((n : ℕ) → index_of n order < k → P n → ⊥) → (n : ℕ) → index_of n order < k → Q n → ⊥
    earlier_none k h n l q = h n l ((same n (λ i m. h i (omega arith))).1 q)

    pub same_first : (r : ℕ) → First order P r ↔ First order Q r
    same_first r = (
      (λ p. ((same r p.1).0 p.0, earlier_none (index_of r order) p.1)),
      (λ q. let h = none_earlier (index_of r order) q.1 in ((same r h).1 q.0, h)),
    )

    pub same_none : None P ↔ None Q
    same_none = (
      (λ p n. earlier_none (suc (index_of n order)) (λ k l. p k) n (omega arith)),
      (λ q n. none_earlier (suc (index_of n order)) (λ k l. q k) n (omega arith)),
    )

  -- ---- the law of a call: tests that stand in the order, with numbers above 0, and what they mean where none before applies
  pub answers_by : {A : Type 0} (ts : List Test) (a : Answer A) (applies : ℕ → Type 0) → in_order 0 ts ≡ true → (AllPass ts → (x : A) × (a ≡ accepted x))
      → ((r : ℕ) → ((n : ℕ) → index_of n order < index_of r order → Applies ts n → ⊥) → Applies ts r ↔ applies r) → AnswersBy order applies (refuse_first ts a)
  answers_by {A} ts a applies stand ends means = record {
    refuses = λ r. (there r, back r);
    accepts = (
      (λ h. (same_none (Applies ts) applies means).0 (none_applies ts (accepted_pass ts a h.0 h.1).0)),
      (λ h. let p = passes h in let e = ends p in (e.0, all_pass ts a p ∙ e.1)),
    );
    returns = λ r l. ((λ e. there r (returned_refusal (refuse_first ts a) r l e)), (λ h. ap status (back r h)));
    returns_0 = (
      (λ e. let x = returned_0 (refuse_first ts a) above e in (same_none (Applies ts) applies means).0 (none_applies ts (accepted_pass ts a x.0 x.1).0)),
      (λ h. let p = passes h in let e = ends p in ap status (all_pass ts a p ∙ e.1)),
    );
    listed = λ r e. stands_listed 0 ts r stand (first r e).0;
  }
    where
      passes : None applies → AllPass ts
      passes h = pass_none ts ((same_none (Applies ts) applies means).1 h)

      first : (r : ℕ) → refuse_first ts a ≡ refused r → First order (Applies ts) r
      first r e = first_refused 0 ts a r stand (λ p w. absurd (refused≢accepted (sym w ∙ (ends p).1))) e

      there : (r : ℕ) → refuse_first ts a ≡ refused r → First order applies r
      there r e = (same_first (Applies ts) applies means r).0 (first r e)

      back : (r : ℕ) → First order applies r → refuse_first ts a ≡ refused r
      back r h = refused_first 0 ts a r stand ((same_first (Applies ts) applies means r).1 h)

      above : (r : ℕ) → refuse_first ts a ≡ refused r → 0 < r
      above r e = above_0 0 ts r stand (first r e).0
