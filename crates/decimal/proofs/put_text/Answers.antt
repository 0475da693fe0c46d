-- A text that does not fit is not begun; one that fits becomes the part of the buffer from byte `at` on. Assumes nothing.
use Rattle.model.proofs.Basics.{◌≡◌, List, ℕ, ◌+◌, ◌-◌, ◌≤◌, ◌<◌, arith, length}
use Rattle.model.specs.{overwrite_at}
use borrow.Rule.Slice.PartMut.{put_mid}
use Rattle.decimal.proofs.Placing.{unwritten, as_many, written}
use Rattle.decimal.proofs.put_text.Goals.{Joined-then-room-at, then-room-at-via-then-room-at, then-room-at-via-else-room-at+then-room-at-2}
use Rattle.decimal.proofs.put_text.Goals as goal

-- `at` lies behind the end, or the text does not fit
short : (c : Joined-then-room-at) → length c.args.out.now < c.args.at + length c.args.text.now
short c = elim c.then-room-at.branch [
  | then-room-at-via-then-room-at w ↦ omega (arith, w.if-room-at.true)
  | then-room-at-via-else-room-at+then-room-at-2 w ↦ omega (arith, w.if-room-at.false, w.if-room-at-2.true)
]

pub returns-then-room-at : goal.returns-then-room-at
returns-then-room-at c =
    let both = unwritten _ _ _ (short (goal.at.returns-then-room-at c).Joined-then-room-at) in record { written = both.0; bytes = both.1 }

-- so many bytes from a place on that is i
placed : (i : ℕ) (xs b ys : List ℕ) {m k : ℕ} → m ≡ i → k ≡ length xs → i + length xs ≤ length b → ys ≡ xs → put_mid m k b ys ≡ overwrite_at i xs b
placed i xs b ys {k = k} e s h q =
    let t : k ≡ i + length xs - i = omega (arith, s) in
    rw (e, t) (written i xs b ys h q)

pub returns : goal.returns
returns c =
    record { written = as_many _ _ _ (omega arith); bytes = placed _ _ _ _ (omega arith) (omega arith) (omega arith) c.copy_from_slice.ensures.after }
