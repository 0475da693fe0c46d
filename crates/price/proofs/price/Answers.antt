-- A sheet that fits is priced, and what does not fit is refused with the same number, both layers as they are. Assumes nothing.
use Rattle.std.proofs.lemmas.Result.{err_from_is_err_and}
use Rattle.model.proofs.Basics.{refl, sym, ap}
use Rattle.model.specs.{status}
use Rattle.price.proofs.Fits.{price_refused}
use Rattle.price.proofs.price.Goals as goal

pub price_sheet-requires : goal.price_sheet-requires
price_sheet-requires c =
    rw c.in_ok-read.ensures.bytes (ap status (sym c.in_ok-read.ensures.place))

-- refused
pub returns-in_err-read : goal.returns-in_err-read
returns-in_err-read c =
    let a = c.args in
    let p = err_from_is_err_and c.from_residual.result c.from_residual.ensures.1 in
    let e = price_refused a.s.now a.even.now a.odd.now c.in_err-read.ensures.place in
    rw (p.1, p.2) (record { answer = sym e; layers = rw e (refl, refl) })

-- priced
pub returns : goal.returns
returns c =
    let e = c.in_ok-read.ensures.bytes in
    record { answer = rw (← e) c.price_sheet.ensures.answer; layers = rw (← e) c.price_sheet.ensures.layers }
