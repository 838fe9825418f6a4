use Rattle.store.proofs.Laws.{no_room, no_cell}
use Rattle.store.proofs.Ring.is_full.Goals as goal

pub returns-then-room-self : goal.returns-then-room-self
returns-then-room-self c cells = no_room _ _ _ _ c.if-room-self.true

pub returns-else-room-self : goal.returns-else-room-self
returns-else-room-self c cells = no_cell _ _ _ _ c.if-room-self.false
