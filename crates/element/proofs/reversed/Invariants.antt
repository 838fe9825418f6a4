-- After i turns the i last bits of x stand in got in the opposite order. Assumes nothing.
use Rattle.std.proofs.Common.{◌≡◌}
use Rattle.machine.specs.Element.{reversed}
use Rattle.element.proofs.reversed.Given as goal

abbrev pub invariant-loop-i : goal.invariant-loop-i
invariant-loop-i l = l.got ≡ reversed l.i l.x
