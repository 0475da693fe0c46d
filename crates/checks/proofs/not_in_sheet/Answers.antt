-- With the start in the sheet the doors decide: the code looks for one that is not in it. Assumes nothing.
use Rattle.std.proofs.Common.{tests}
use Rattle.std.proofs.lemmas.Iterator.{YieldsList-from_slice}
use Rattle.std.proofs.lemmas.Iterator.Search.{any_from_yields_List}
use Rattle.std.specs.List.{list_any}
use Rattle.model.proofs.Basics.{◌≡◌, refl, ◌∙◌, Bool, not, List, [], ◌∷◌, ℕ, ◌≤◌, ◌<◌, rules, ltb, leb, ltb-true, ltb-false, le-leb, lt-leb}
use Rattle.model.specs.{all_in, in_sheet, not_in_sheet}
use Rattle.model.specs.Sheet.{Sheet}
use Rattle.model.proofs.Tools.Tests.{by_test}
use Rattle.view.proofs.Counted.{starts_are, doors_are}
use Rattle.checks.proofs.not_in_sheet.Goals as goal

-- some number reaches the limit n where not all are below it
some_reaches : (n : ℕ) (xs : List ℕ) → list_any (leb n) xs ≡ not (all_in (λ x. ltb x n) xs)
some_reaches n [] = refl
some_reaches n (x ∷ xs) = by_test (ltb x n)
    (λ w. rw (w, lt-leb n x (ltb-true x n w)) (some_reaches n xs))
    (λ w. rw (w, le-leb n x (ltb-false x n w)))

module _ (S : Sheet) (start : ℕ) (ds : List ℕ) {starts : ℕ} (e : starts ≡ S.starts) where
  no_start : starts ≤ start → leb starts start ≡ not_in_sheet S start ds
  unfolding not_in_sheet
  no_start l = rw (← e, le-leb starts start l)

  then-doors : {limit : ℕ} {r : Bool} → start < starts → limit ≡ S.doors → r ≡ list_any (leb limit) ds → r ≡ not_in_sheet S start ds
  unfolding not_in_sheet in_sheet
  then-doors {limit} l q h = h ∙ rw (← e, lt-leb starts start l, ← q) (some_reaches limit ds)

-- the start is not in the sheet
pub returns-then-sheet-start : goal.returns-then-sheet-start
returns-then-sheet-start c =
    no_start _ _ _ (starts_are c.args.sheet.now.viewed) c.if-sheet-start.true

-- it is, and the doors decide
pub returns-else-sheet-start : goal.returns-else-sheet-start
returns-else-sheet-start c =
    let v = c.args.sheet.now in
    let found = any_from_yields_List (leb v.view.doors) _ _ c.any.result c.any.ensures.ran (YieldsList-from_slice c.args.doors.now cc) (λ x b q k. search (rules, tests)) in
    then-doors _ _ _ (starts_are v.viewed) c.if-sheet-start.false (doors_are v.viewed) found
