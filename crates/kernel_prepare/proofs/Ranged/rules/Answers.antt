-- Each array has the numbers of the access rules. Assumes nothing.
use Rattle.model.proofs.Basics.{rules}
use Rattle.view.specs.Sheets.{sheet_of}
use Rattle.view.proofs.Counted.{rules_are}
use Rattle.kernel_prepare.specs.Preparing.{rules_of}
use Rattle.kernel_prepare.proofs.Ranged.rules.Goals as goal

pub returns : goal.returns
unfolding rules_of
returns c =
    let s = c.args.self.now.sheet in
    let S = sheet_of s in
    let n = rules_are s.viewed in
    let door = c.padded.ensures S.rule_door (λ i x l p. search rules) in
    let watched = c.padded-2.ensures S.watched (λ i x l p. search rules) in
    let least = c.padded-3.ensures S.least_count (λ i x l p. search rules) in
    let most = c.padded-4.ensures (λ i. 1) (λ i x l p. search rules) in
    let charge = c.padded-5.ensures S.charge (λ i x l p. search rules) in
    cc
