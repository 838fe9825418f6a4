use Rattle.store.proofs.Laws.{counted}
use Rattle.store.proofs.Ring.count.Goals as goal

pub returns : goal.returns
returns c cells = counted _ _ _
