use Rattle.std.proofs.Common.{arith}
use Rattle.transfer.proofs.Edges.{holds_level, shows_next, shows_last}
use Rattle.transfer.proofs.Wire.changed.Goals as goal

pub returns-then-self-s : goal.returns-then-self-s
returns-then-self-s c = search holds_level

pub returns-in-Some : goal.returns-in-Some
returns-in-Some c = shows_next _ _ _ c.if-self-s.false _ c.in-Some.k c.level.ensures (omega arith)

pub returns-in-None : goal.returns-in-None
returns-in-None c = shows_last _ _ _ c.if-self-s.false (omega arith)
