-- After i turns the zeros of the i last bits are counted. Assumes nothing.
use Rattle.std.proofs.Common.{◌≡◌, ◌≤◌}
use Rattle.machine.specs.Access.{zeros_in}
use Rattle.registers.proofs.zeros_in.Given as goal

abbrev pub invariant-loop-i : goal.invariant-loop-i
invariant-loop-i l = (l.zeros ≡ zeros_in l.i l.v) × (l.zeros ≤ l.i)
