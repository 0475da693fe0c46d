-- An access rule in the code: its charge, times whether it applies. Assumes nothing.
use Rattle.model.proofs.Basics.{◌≡◌, ◌∙◌, Bool, true, false, cond, ℕ, ◌*◌, ◌^◌, ◌≤◌, ◌<◌, arith, leb}
use Rattle.model.specs.{watched_in, mask_bits, rule_charge}
use Rattle.model.specs.Sheet.{Sheet}
use Rattle.model.proofs.TaskLists.OpenLists.{watched_same}
use mir.Val.{bool_byte}

times_cond : (b : Bool) (x : ℕ) → x * bool_byte b ≡ cond b x 0
times_cond true x = omega arith
times_cond false x = omega arith

pub times_le : (x : ℕ) (b : Bool) → x * bool_byte b ≤ x
times_le x true = omega arith
times_le x false = omega arith

-- of rule i the code has the watched tasks W, how many of them are in the mask K, the least count and the charge x
pub charge_times : (S : Sheet) (K i : ℕ) {W count least x : ℕ} → K < 2 ^ S.tasks → K < 2 ^ mask_bits → W ≡ S.watched i
    → count ≡ watched_in mask_bits W K → least ≡ S.least_count i → x ≡ S.charge i → x * bool_byte (leb least count) ≡ rule_charge S K i
unfolding rule_charge
charge_times S K i {W} {count} {least} {x} small fits w n m e =
    times_cond (leb least count) x ∙ rw (e, m, n, watched_same mask_bits S.tasks W K fits small, w)
