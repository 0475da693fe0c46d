-- Names of the libraries, handed on from one place. None is given another meaning. Assumes nothing.
pub use mathlib.Core.Path.{◌≡◌, refl, sym, ap, ap₂, ◌∙◌, subst, subst₂, fun_ext}
pub use mathlib.Core.Logic.{◌≢◌, ◌⊎◌, inl, inr, ⊎_elim, ◌↔◌}
pub use mathlib.Core.Bool.{Bool, true, false, cond, not, ◌&&◌, ◌||◌, and_comm, and-false, and-true, or-false, true≢false, false≢true, not-not as Bool·not-not}
pub use mathlib.Core.List.Memᴰ.{head as List·Memᴰ·head}
pub use mathlib.Core.List.Memᴰ.{not-nil as List·Memᴰ·not-nil}
pub use mathlib.Core.List.Memᴰ.{tail as List·Memᴰ·tail}
pub use mathlib.Core.List.{List, [], ◌∷◌, ◌++◌, map, append_assoc, append-nil, Memᴰ as List-as-Memᴰ}
pub use mathlib.Core.List.Memᴰ.{append_left as Memᴰ·append-left}
pub use mathlib.Core.List.Memᴰ.{append_right as Memᴰ·append-right}
pub use mathlib.Core.List.Memᴰ.{cases_cons as List·Memᴰ·cases-cons}
pub use mathlib.Core.List.Memᴰ.{map as Memᴰ·map}
pub use mathlib.Core.Option.{Option, none, some, map as Option·map, none-ne-some as Option·none-ne-some, get_or as Option·getD}
pub use Prim.Native.Nat.{ℕ, zero, suc, ◌+◌, ◌-◌, ◌*◌, ◌/◌, ◌%◌, ◌^◌, ◌≤◌, ◌<◌, min}
pub use native.Mathlib.Nat.{zero-add, add-zero, le_refl, lt_of_le_of_lt, mul-le-mul_right, pow-succ', mod-lt, zero-lt-suc, zero-div}
pub use native.Mathlib.Nat.{div-one, div-div-eq-div-mul, mul-one, le_of_lt, le_trans, mul-le-mul, le-div_iff_mul-le, lt_of_lt_of_le}
pub use native.Mathlib.Nat.{suc-add, add-suc, mul_assoc, pow-suc, mod-add-div', mul-le-mul_left}
pub use native.Mathlib.Numerals.{add-one, one-add}
pub use native.Mathlib.Omega.{arith}
pub use lib.Dec.{eqb, ltb, leb, T, lit<, leb-suc-suc as leb·suc-suc, eqb-suc-suc as eqb·suc-suc, lit≤}
pub use lib.ListN.{length, get_or, take, drop, set, replicate, length-append, length-map, length-set, length-replicate, get_or-replicate}
pub use lib.ListN.{get_or-append as List·getD-append, drop_of_length-le, length-take, get_or-eq_default as List·getD-eq-default, get_or-map as List·getD-map, take-append-drop}
pub use lib.Seq.{length-take-le, drop-cons, ext_get_or, get_or-take, take_all, take-append_seam, get_or-set_same, get_or-set_other, get_or_at}
pub use lib.Seq.{drop-length, append_snoc, set_at, sets, length-sets, sets-eq, take_at, take-add, drop-append_seam}
pub use lib.Pow.{are_bytes, pow_pos, pow_mono}
pub use lib.IntN.{ℤ, pos, negsuc, ◌+ℤ◌, nat_abs, sub_ℕ, +ℤ_idr}
pub use borrow.Author.Tests.{eqb-true, eqb-false, eq-eqb, ne_eqb, ltb-true, ltb-false, lt-ltb, le-ltb, leb-true, leb-false, le-leb, lt-leb}
pub use borrow.Author.Tests.{not-true, not-false}
pub use borrow.Author.Rules.{rules}
pub use native.Mathlib.Decide.{le_ind}
pub use lib.Signed.{lt_z, non_neg, mag}
pub use lib.Arith.{digits_div, digits_mod, digits_lt}
pub use mir.Syntax.{Width, w8}
pub use mir.Val.{hbits, to_z, of_z, SFits, Fits}
pub use mir.ValLaws.{to_z-of_z, to_z_pos}
