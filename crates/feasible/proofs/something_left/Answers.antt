-- What so many passes leave of the full list. Once empty, it stays empty. Assumes nothing.
use Rattle.model.proofs.Basics.{◌≡◌, sym, ap, ◌∙◌, not, ℕ, ◌≤◌, arith, eqb, take}
use Rattle.model.specs.{map_below, full_of, strike_off, senders_of, something_left}
use Rattle.view.specs.Sheets.{sheet_of}
use Rattle.view.proofs.Counted.{tasks_are}
use Rattle.feasible.proofs.Waiting.{slice_size, slice_is}
use Rattle.feasible.proofs.Striking.{slice_passed, next_pass, empty_after}
use Rattle.feasible.proofs.something_left.Goals.{After-senders-senders}
use Rattle.feasible.proofs.something_left.Goals as goal

-- what the sheet's tasks wait for
slice : (c : After-senders-senders) →
    let S = sheet_of c.args.sheet.now in
    take c.args.sheet.now.view.tasks c.senders-senders.result ≡ map_below S.tasks (senders_of S)
slice c = slice_is _ c.senders-senders.ensures (tasks_are c.args.sheet.now.viewed) c.requires.0

pub slice_bounds-senders-end-2 : goal.slice_bounds-senders-end-2
slice_bounds-senders-end-2 c = slice_size _ c.senders-senders.ensures (tasks_are c.args.sheet.now.viewed) c.requires.0

-- nothing is left
pub returns-then-left-eq0 : goal.returns-then-left-eq0
unfolding something_left
returns-then-left-eq0 c =
    let S = sheet_of c.args.sheet.now in
    let l = c.loop-pass in
    let n = tasks_are c.args.sheet.now.viewed in
    let h : l._pass ≤ S.tasks = omega arith in
    sym (ap (λ (n : ℕ). not (eqb n 0)) (empty_after S (full_of S.tasks) l._pass S.tasks h (sym l.invariant ∙ c.if-left-eq0.true)))

-- one pass more
pub loop-pass-preserved : goal.loop-pass-preserved
loop-pass-preserved c =
    let l = c.loop-pass in
    let S = sheet_of c.args.sheet.now in
    let p = c.requires in
    let q = slice_passed S (λ i l. omega (arith, p.0, p.1.sender i l)) l.left S.tasks (slice (goal.at.loop-pass-preserved c).After-senders-senders) in
    next_pass _ _ l._pass l.invariant (c.strike_pass-left.ensures ∙ q)

-- after all passes
pub returns : goal.returns
unfolding something_left
returns c =
    let S = sheet_of c.args.sheet.now in
    let l = c.loop-pass in
    let n = tasks_are c.args.sheet.now.viewed in
    let e : l._pass ≡ S.tasks = omega arith in
    ap (λ (n : ℕ). not (eqb n 0)) (l.invariant ∙ ap (λ (n : ℕ). strike_off S n (full_of S.tasks)) e)
