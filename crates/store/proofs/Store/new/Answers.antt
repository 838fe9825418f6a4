use Rattle.store.proofs.Laws.{none}
use Rattle.store.proofs.Store.new.Goals as goal

pub returns : goal.returns
returns c = rw c.empty.ensures (none _)
