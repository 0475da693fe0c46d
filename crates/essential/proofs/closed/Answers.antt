-- No task so far that the list lacks has a sender in it. Assumes nothing.
use Rattle.model.proofs.Basics.{sym, ap, ◌∙◌, not, refl}
use Rattle.model.proofs.Tools.Searches.{one_failed}
use Rattle.essential.proofs.Senders.{holds_is}
use Rattle.essential.proofs.closed.Goals as goal

-- a task that the list lacks has a sender in it
pub returns-then-contains-meets : goal.returns-then-contains-meets
returns-then-contains-meets c =
    sym (one_failed _ c.loop-t-test.true refl (holds_is _ _ _ c.contains.ensures c.meets.ensures ∙ ap not c.if-contains-meets.true))
