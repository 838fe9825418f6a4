-- The word so far stands behind the bits that are left. Assumes nothing.
use Rattle.std.proofs.Common.{◌≡◌}
use Rattle.machine.specs.Element.{word_of}
use Rattle.registers.proofs.Words.{onto}
use Rattle.registers.proofs.word_of.Given as goal

abbrev pub invariant-loop-bit : goal.invariant-loop-bit
invariant-loop-bit g l = onto l.bit-iterator.iter.rest.now l.word ≡ word_of l.fn.bits
