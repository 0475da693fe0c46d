-- What a turn reads stands behind what the turns before it read, and the reader has lost it. Assumes nothing.
use Rattle.std.specs.Prelude.{Option}
use Rattle.std.proofs.Common.{rules, sym, ap, subst, ◌∙◌, ◌≡◌, ◌≤◌, ◌+◌, ℕ, List, ◌++◌, length, take, length-take-le}
use Rattle.std.proofs.Math.Seq.{take-append-add}
use Rattle.std.proofs.lemmas.List.{take-append-le}
use Rattle.std.proofs.KnownBytes.{Consumes-trans}
use Rattle.std.specs.Io.KnownBytes.{Consumes}
use borrow.Rule.Slice.PartMut.{put_mid, post_of}
use Rattle.print_plan.proofs.read_input.Goals as goal

-- the first i of xs, and n more that are read into xs from i on
read_on : (a b c : Option (List ℕ)) (i k n : ℕ) (xs ys : List ℕ) → i ≤ length xs → n ≤ length ys
    → Consumes a b (take i xs) → Consumes b c (take n ys) → Consumes a c (take (i + n) (put_mid i k xs ys))
read_on a b c i k n xs ys within fits before read =
    let joined : take (i + n) (put_mid i k xs ys) ≡ take i xs ++ take n ys =
    ap (λ m. take (m + n) (put_mid i k xs ys)) (sym (length-take-le i xs within))
    ∙ take-append-add (take i xs) (ys ++ post_of i k xs) n
    ∙ ap (λ l. take i xs ++ l) (take-append-le n ys (post_of i k xs) fits) in
    subst (Consumes a c) (sym joined) (Consumes-trans a b c _ _ before read)

pub loop-done-preserved : goal.loop-done-preserved
loop-done-preserved g c =
    let before = c.loop-done.invariant in
    let read = c.in_ok-more.ensures in
    (search rules, search rules, read_on _ _ _ _ _ _ _ _ before.0 read.bound.0 before.2 read.bytes.0)
