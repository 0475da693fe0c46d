-- The legs and the charges, rule by rule, are the cost, and no part of the sum is above the whole. Assumes nothing.
use Rattle.model.proofs.Basics.{arith}
use Rattle.route.proofs.Routes.{listable, chargeable, route_is}
use Rattle.route.proofs.cost.Goals as goal

pub open_lists-lists-requires : goal.open_lists-lists-requires
open_lists-lists-requires c =
    listable c.requires

pub charges-requires : goal.charges-requires
charges-requires c =
    chargeable c.requires c.open_lists-lists.ensures

pub returns : goal.returns
returns c =
    route_is c.requires c.open_lists-lists.ensures c.legs.ensures c.charges.ensures

pub overflow_add-result : goal.overflow_add-result
overflow_add-result c =
    omega (arith, returns c, c.requires.fits)
