use Rattle.store.proofs.Laws.{is_empty}
use Rattle.store.proofs.Ring.is_empty.Goals as goal

pub returns : goal.returns
returns c cells = is_empty _ _ _
