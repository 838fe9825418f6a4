use Rattle.transfer.proofs.Edges.{no_edge, odd_edge, last_edge, even_edge}
use Rattle.transfer.proofs.Wire.edge.Goals as goal

pub returns-then-s-eq0 : goal.returns-then-s-eq0
returns-then-s-eq0 c = search no_edge

pub returns-then-not-s : goal.returns-then-not-s
returns-then-not-s c = search odd_edge

pub returns-then-s-eq1 : goal.returns-then-s-eq1
returns-then-s-eq1 c = search last_edge

pub returns : goal.returns
returns c = search even_edge
