use Rattle.store.proofs.Laws.{none}
use Rattle.store.proofs.Store.clear.Goals as goal

pub returns : goal.returns
returns c = rw c.empty-self.ensures (none _)
