-- The columns of a sheet, entry by entry. Assumes nothing.
use Rattle.model.proofs.Basics.{◌≡◌, refl, ap₂, ◌∙◌, List, ℕ, ◌+◌, ◌*◌, ◌/◌, ◌%◌, ◌<◌, arith, length-append, List·getD-append, digits_div, digits_mod, digits_lt}
use Rattle.model.specs.{map_below, overwrite}
use Rattle.model.specs.Sheet.{Sheet}
use Rattle.model.proofs.Tools.Folds.{length_map_below, map_below_at}
use Rattle.model.proofs.Tools.Arrays.{Filled}
use Rattle.kernel_sheet.specs.Prepared.{ColumnsOf}
use Rattle.kernel_columns.specs.ByColumns.{columns_of}

-- entry i, as a number of the sheet
abbrev pub entry : Sheet → ℕ → ℕ
entry S i = S.distance (i % S.points) (i / S.points)

module _ (S : Sheet) where
  pub entry_is : (p q : ℕ) → p < S.points → entry S (q * S.points + p) ≡ S.distance p q
  entry_is p q l = ap₂ S.distance (digits_mod q l) (digits_div q l)

  -- all entries written
  pub all_entries : {a b : List ℕ} {i : ℕ} → Filled (entry S) a b i → i ≡ S.points * S.points → b ≡ overwrite (columns_of S) a
  unfolding overwrite columns_of
  all_entries {a} h e = h.so_far ∙ rw (e, length_map_below) refl

  -- an array in front of which the columns stand has them
  pub columns_held : (buf : List ℕ) {columns : List ℕ} → columns ≡ overwrite (columns_of S) buf → ColumnsOf S columns
  unfolding overwrite columns_of
  columns_held buf e = record {
    room = rw (e, length-append, length_map_below) (omega arith);
    entry = λ p q l k.
        let m : q * S.points + p < S.points * S.points = digits_lt k l in
        rw e (List·getD-append (map_below (S.points * S.points) (entry S)) _ 0 (q * S.points + p) (rw length_map_below m))
        ∙ map_below_at (S.points * S.points) (entry S) (q * S.points + p) 0 m
        ∙ entry_is p q l;
  }
