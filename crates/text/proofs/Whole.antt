-- A text laid into a buffer from its front is what stands there. Assumes nothing.
use Rattle.model.proofs.Basics.{◌≡◌, sym, ap, ◌∙◌, ⊎_elim, true, false, List, ℕ, ◌+◌, ◌≤◌, arith, leb, length, take, length-take-le}
use Rattle.model.proofs.Basics.{leb-true}
use Rattle.model.specs.{overwrite_at, written_at, printed_with, print}
use Rattle.model.proofs.Tools.Tests.{tested}
use Rattle.model.proofs.Bytes.Numbers.{overwritten}
use Rattle.model.proofs.Bytes.Overwriting.{length_over, over_front}
use Rattle.lines.specs.Lines.{Laid}
use Rattle.lines.proofs.Laying.{laid_room}

module _ {text a b : List ℕ} {end : ℕ} (f : Laid 0 text a b end) where
  pub front_is : take end b ≡ text
  front_is =
      let e : end ≡ length text = omega (arith, f.ends) in
      rw (e, f.bytes, over_front text a (omega (arith, f.within))) (overwritten text a).0

  pub front_long : end ≡ length (take end b)
  front_long = sym (length-take-le end b (omega (arith, laid_room f, f.within)))

-- which printing puts into the buffer that was lent
pub printed_out : (b cells out : List ℕ) {text : List ℕ} {r : ℕ} {new : List ℕ} → text ≡ printed_with (length cells) b
    → r ≡ written_at 0 text out → new ≡ overwrite_at 0 text out → (r ≡ (print b cells out).written) × (new ≡ (print b cells out).bytes)
unfolding print
printed_out b cells out e w n = (w ∙ ap (λ (xs : List ℕ). written_at 0 xs out) e, n ∙ ap (λ (xs : List ℕ). overwrite_at 0 xs out) e)

-- no more is written than the buffer holds
within : (b cells out : List ℕ) → (print b cells out).written ≤ length (print b cells out).bytes
unfolding print written_at
within b cells out =
    let text = printed_with (length cells) b in
    ⊎_elim
    (λ (w : leb (0 + length text) (length out) ≡ true).
    rw (w, length_over 0 text out) (omega (arith, leb-true (0 + length text) (length out) w)))
    (λ (w : leb (0 + length text) (length out) ≡ false). rw w (omega arith))
    (tested (leb (0 + length text) (length out)))

pub written_within : (b cells out : List ℕ) {r : ℕ} {new : List ℕ}
    → r ≡ (print b cells out).written → new ≡ (print b cells out).bytes → r ≤ length new
written_within b cells out e f = rw (e, f) (within b cells out)
