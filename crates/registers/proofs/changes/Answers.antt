use native.Mathlib.Omega.{arith}
use Rattle.std.proofs.Common.{◌∙◌}
use Rattle.registers.proofs.Laws.{changes_of_ne}
use Rattle.registers.proofs.changes.Goals as goal

pub returns : goal.returns
returns c = c.ne.ensures ∙ grind (arith, changes_of_ne c.args.m c.args.n)
