-- A text laid behind another: both stand there as one text, and what room was left behind both is left. Every line is made of that law, and a number of
-- 64 bits has at most 20 digits. Assumes nothing.
use Rattle.model.proofs.Basics.{◌≡◌, sym, ap, ◌∙◌, subst, List, ◌++◌, append_assoc, ℕ, ◌+◌, ◌^◌, ◌≤◌, ◌<◌, arith, length, length-append}
use Rattle.model.specs.{overwrite_at, written_at, ascii, decimal, line_end, step_line}
use Rattle.model.proofs.Bytes.Overwriting.{length_over, over_on}
use Rattle.decimal.proofs.Spelling.{few_digits}
use Rattle.decimal.proofs.Placing.{as_many}
use Rattle.lines.specs.Lines.{labelled, line_of, head_lines, max_digits, max_head, max_step, Laid}

-- ---- a text behind another

-- what `put_text` and `put_number` wrote, where it fits
pub wrote : {at r : ℕ} {xs a b : List ℕ} → at + length xs ≤ length a → r ≡ written_at at xs a → b ≡ overwrite_at at xs a → Laid at xs a b (at + r)
wrote {at} {r} {xs} {a} h e w =
    let m : r ≡ length xs = e ∙ sym (as_many at xs a h) in
    record { ends = omega arith; within = omega arith; bytes = w }

module _ {at : ℕ} {xs a b : List ℕ} {m : ℕ} (f : Laid at xs a b m) where
  pub laid_room : length b ≡ length a
  laid_room = ap length f.bytes ∙ length_over at xs a

  -- what room there is behind it
  pub behind : (more : ℕ) → at + length xs + more ≤ length a → m + more ≤ length b
  behind more h = omega (arith, f.ends, laid_room)

  -- a text that was laid behind it, and one that was put there
  pub laid_on : {ys d : List ℕ} {e : ℕ} → Laid m ys b d e → Laid at (xs ++ ys) a d e
  laid_on {ys} g = record {
    ends = simp length-append (omega (arith, g.ends, f.ends));
    within = rw laid_room at g.within;
    bytes = g.bytes ∙ rw (f.ends, f.bytes) (over_on at xs ys a (omega (arith, g.ends, f.ends, g.within, laid_room)));
  }

  pub put_on : (ys : List ℕ) {d : List ℕ} {r : ℕ} → at + length xs + length ys ≤ length a
      → r ≡ written_at m ys b → d ≡ overwrite_at m ys b → Laid at (xs ++ ys) a d (m + r)
  put_on ys h e w = laid_on (wrote (behind (length ys) h) e w)

-- the same text under another name
pub laid_as : {at : ℕ} {xs ys a b : List ℕ} {m : ℕ} → xs ≡ ys → Laid at ys a b m → Laid at xs a b m
laid_as {at} {xs} {ys} {a} {b} {m} e f = subst (λ (zs : List ℕ). Laid at zs a b m) (sym e) f

-- ---- labels and numbers

pub few : (n : ℕ) → n < 2 ^ 64 → length (decimal n) ≤ max_digits
few n h = few_digits 19 n (omega arith)

pub long_label : (label : List ℕ) (n : ℕ) → n < 2 ^ 64 → length (labelled label n) ≤ length label + max_digits
unfolding labelled
long_label label n h = simp length-append (omega (arith, few n h))

pub long_line : (label : List ℕ) (n : ℕ) → n < 2 ^ 64 → length (line_of label n) ≤ length label + max_digits + 1
unfolding line_of
long_line label n h = simp length-append (omega (arith, long_label label n h))

-- ---- the lines of cost and start, and of a step

module _ (c s : ℕ) where
  pub head_is : head_lines c s ≡ ascii "cost " ++ decimal c ++ line_end ++ ascii "start " ++ decimal s ++ line_end
  unfolding head_lines line_of labelled
  head_is = regroup (ascii "cost ") (decimal c) line_end (ascii "start ") (decimal s) line_end
    where
      regroup : (a b c d e f : List ℕ) → (a ++ b ++ c) ++ (d ++ e ++ f) ≡ a ++ b ++ c ++ d ++ e ++ f
      regroup a b c d e f = simp append_assoc

  pub long_head : c < 2 ^ 64 → s < 2 ^ 64 → length (head_lines c s) ≤ max_head
  unfolding head_lines
  long_head h l = simp length-append (omega (arith, long_line (ascii "cost ") c h, long_line (ascii "start ") s l))

module _ (d t K : ℕ) where
  pub step_is : labelled (ascii "door ") d ++ labelled (ascii " task ") t ++ line_of (ascii " open ") K ≡ step_line d t K
  unfolding labelled line_of step_line
  step_is = regroup (ascii "door ") (decimal d) (ascii " task ") (decimal t) (ascii " open ") (decimal K) line_end
    where
      regroup : (a b c d e f g : List ℕ) → (a ++ b) ++ (c ++ d) ++ (e ++ f ++ g) ≡ a ++ b ++ c ++ d ++ e ++ f ++ g
      regroup a b c d e f g = simp append_assoc

  pub long_step : d < 2 ^ 64 → t < 2 ^ 64 → K < 2 ^ 64 → length (step_line d t K) ≤ max_step
  long_step hd ht hk = rw (← step_is)
      (simp length-append (omega (arith, long_label (ascii "door ") d hd, long_label (ascii " task ") t ht, long_line (ascii " open ") K hk)))
