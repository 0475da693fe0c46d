-- Once the lists below k are done the cells are `cells_below`, of every sheet that the arrays are of: a list that is essential has its row written, and any other is passed
-- over. Assumes nothing.
use Rattle.model.proofs.Basics.{◌≡◌, sym, ap, ◌∙◌, ℕ, ◌^◌, ◌<◌, arith, pow_pos}
use Rattle.kernel_bellman.proofs.Lists.{told, listed}
use Rattle.kernel_table.specs.Cells.{cells_below}
use Rattle.kernel_table.proofs.Filling.{all_done, lists_are, known_so, room_so, row_next, pass_next}
use Rattle.kernel_table.proofs.list_rows.Goals.{then-has_all, else-has_all}
use Rattle.kernel_table.proofs.list_rows.Goals as goal

pub list_row-requires : goal.list_row-requires
list_row-requires c =
    let p = c.requires in
    let a = p.1 in
    let is = c.loop-k.invariant p.0 a p.2 p.3 p.4 in
    let point = a.workable.counts.one_point in
    let in_list : c.loop-k.k < 2 ^ p.0.tasks = omega (arith, lists_are a c.lists-lists.ensures, c.loop-k-test.true) in
    let w = c.waiting-waiting.ensures in (
      p.0,
      listed a _ p.2 _ _ in_list w (sym (told a _ p.2 _ _ in_list w c.loop-k.auto.k c.has_all.ensures) ∙ c.if-has_all.true),
      p.3,
      known_so p.4 is point in_list,
      room_so p.4 is point in_list,
    )

pub loop-k-preserved : goal.loop-k-preserved
loop-k-preserved c S a r t b =
    let is = c.loop-k.invariant S a r t b in
    let point = a.workable.counts.one_point in
    let in_list : c.loop-k.k < 2 ^ S.tasks = omega (arith, lists_are a c.lists-lists.ensures, c.loop-k-test.true) in
    let w = c.waiting-waiting.ensures in
    let tells = told a _ r _ _ in_list w c.loop-k.auto.k c.has_all.ensures in
    -- the row of an essential list was written, or nothing was
    elim c.if-has_all.branch [
      | then-has_all w' ↦ let e = sym tells ∙ w'.if-has_all.true in row_next b is point in_list e (w'.cells-is ∙ w'.list_row.ensures S (listed a _ r _ _ in_list w e) t (known_so b is point in_list))
      | else-has_all w' ↦ pass_next b is point in_list c.loop-k.auto.k (sym tells ∙ w'.if-has_all.false) w'.cells-is
    ]

pub returns : goal.returns
returns c S a r t b =
    let n = lists_are a c.lists-lists.ensures in
    let some = pow_pos S.tasks in
    let all : c.loop-k.k ≡ 2 ^ S.tasks = omega (arith, n, c.loop-k-test.false, c.loop-k.auto.k-end (omega (arith, n, some))) in
    c.loop-k.invariant S a r t b ∙ ap (λ (j : ℕ). cells_below S j c.args.cells.now) all ∙ all_done S c.args.cells.now
