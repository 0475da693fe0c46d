-- Twelve zeros, written out and as the definition has them. Assumes nothing.
use Rattle.model.proofs.Basics.{refl}
use Rattle.model.specs.{map_below, no_doors}
use Rattle.hand.proofs.Plan.new.Goals as goal

pub returns : goal.returns
unfolding no_doors map_below
returns c =
    refl
