use Rattle.std.proofs.Common.{arith}
use Rattle.store.proofs.Laws.{taken, none_taken}
use Rattle.store.proofs.Ring.take.Goals as goal

pub returns-then-self-ne0 : goal.returns-then-self-ne0
returns-then-self-ne0 c = record { element = c.first-element.ensures; holds = taken _ _ _ (omega arith) }

pub returns-else-self-ne0 : goal.returns-else-self-ne0
returns-else-self-ne0 c = record { element = c.first-element.ensures; holds = none_taken _ _ _ (omega arith) }
