-- Each of 10 to 13 that did not apply is one of the definition's chain, and the first that applies is its answer; past them the bodies
-- decide. Assumes nothing.
use Rattle.std.proofs.lemmas.Result.{err_from_is_err_and}
use Rattle.model.proofs.Basics.{refl, sym, ap, ◌∙◌}
use Rattle.model.proofs.Tools.Elements.{are_bytes_lem}
use Rattle.model.specs.{status, sheet_tests, unless_fault, read_sheet}
use Rattle.sheet.specs.Layouts.{LaidOut}
use Rattle.sheet.proofs.Laid.{viewed}
use Rattle.sheet.proofs.read.Goals.{Else-wrong_places}
use Rattle.sheet.proofs.read.Goals as goal

-- 10 applies
pub returns-then-too_short : goal.returns-then-too_short
unfolding sheet_tests unless_fault read_sheet
returns-then-too_short c =
    record {
      answer = rw (sym c.too_short.ensures ∙ c.if-too_short.true);
      bytes = tt;
      view = tt;
    }

-- 11 applies
pub returns-then-wrong_kind : goal.returns-then-wrong_kind
unfolding sheet_tests unless_fault read_sheet
returns-then-wrong_kind c =
    record {
      answer = rw (
        sym c.too_short.ensures ∙ c.if-too_short.false,
        sym c.wrong_kind.ensures ∙ c.if-wrong_kind.true,
      );
      bytes = tt;
      view = tt;
    }

-- 12 applies
pub returns-then-some_wrong_entries : goal.returns-then-some_wrong_entries
unfolding sheet_tests unless_fault read_sheet
returns-then-some_wrong_entries c =
    record {
      answer = rw (
        sym c.too_short.ensures ∙ c.if-too_short.false,
        sym c.wrong_kind.ensures ∙ c.if-wrong_kind.false,
        sym c.some_wrong_entries.ensures ∙ c.if-some_wrong_entries.true,
      );
      bytes = tt;
      view = tt;
    }

-- 13 applies
pub returns-then-wrong_places : goal.returns-then-wrong_places
unfolding sheet_tests unless_fault read_sheet
returns-then-wrong_places c =
    record {
      answer = rw (
        sym c.too_short.ensures ∙ c.if-too_short.false,
        sym c.wrong_kind.ensures ∙ c.if-wrong_kind.false,
        sym c.some_wrong_entries.ensures ∙ c.if-some_wrong_entries.false,
        sym c.wrong_places.ensures ∙ c.if-wrong_places.true,
      );
      bytes = tt;
      view = tt;
    }

-- ---- past them the layout holds

laid : (c : Else-wrong_places) → LaidOut c.args.s.now
laid c =
    record {
      long = sym c.too_short.ensures ∙ c.if-too_short.false;
      kind = sym c.wrong_kind.ensures ∙ c.if-wrong_kind.false;
      entries = sym c.some_wrong_entries.ensures ∙ c.if-some_wrong_entries.false;
      places = sym c.wrong_places.ensures ∙ c.if-wrong_places.false;
    }

pub invariant_of-sheet : goal.invariant_of-sheet
invariant_of-sheet c =
    record { viewed = viewed (laid (goal.at.invariant_of-sheet c).Else-wrong_places) c.of-view.ensures }

pub test_bodies-requires : goal.test_bodies-requires
test_bodies-requires c =
    laid (goal.at.test_bodies-requires c).Else-wrong_places

-- one of 14 to 17 applies
pub returns-in_err-test_bodies : goal.returns-in_err-test_bodies
returns-in_err-test_bodies c =
    let p = err_from_is_err_and c.from_residual.result c.from_residual.ensures.1 in
    rw (p.1, p.2) (record { answer = c.in_err-test_bodies.ensures; bytes = tt; view = tt })

pub invariant_of-result : goal.invariant_of-result
invariant_of-result c =
    record { fit = are_bytes_lem c.args.s.now c.type_inv.s; reads = ap status (sym c.in_ok-test_bodies.ensures) }

-- none does
pub returns : goal.returns
returns c =
    record { answer = c.in_ok-test_bodies.ensures; bytes = refl; view = c.of-view.ensures }
