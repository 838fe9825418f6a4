-- The lines that a core shows. Assumes nothing.
use Rattle.std.specs.Prelude.{Bool, true, false, not, ◌&&◌, ◌||◌, cond, ℕ, ◌%◌, ◌^◌}
use Rattle.machine.specs.declared.Transfer.{Transfer}
use Rattle.machine.specs.declared.Transfer.TheVariants.{Idle, Moving, Gap}
use Rattle.machine.specs.declared.Outputs.{Outputs}
use Rattle.machine.specs.Element.{first_level}
use Rattle.machine.specs.Bought.{bits_of, lines_of}
use Rattle.machine.specs.Core.{Core, is_master, none_selected}
use Rattle.machine.specs.Registers.{differ, is_driving, interrupt_line}
use Rattle.machine.specs.Transfer.{head_on_wire, sending}

abbrev pub at_odd : Transfer → Bool
at_odd Idle = false
at_odd (Moving s) = s.odd
at_odd Gap = false

abbrev pub is_idle : Transfer → Bool
is_idle Idle = true
is_idle (Moving s) = false
is_idle Gap = false

-- "SCK rests at CPOL." "Odd edges leave the idle level CPOL, even ones return."
abbrev pub sck_of : Core → Bool
sck_of c = differ c.mode.cpol (is_master c.mode && at_odd c.transfer)

-- "SS lines are all high unless the core is an enabled master; then they show SPISSR, in automatic mode only from start tick until
-- the gap tick or an abandonment raises them." "SS 4 (bits from K up are 0)"
abbrev pub ss_of : Core → ℕ
ss_of c =
    cond (is_master c.mode && (c.mode.manual || not (is_idle c.transfer)))
    (c.select % 2 ^ lines_of c.setup)
    (none_selected c.setup)

-- "Between elements MISO shows the first bit of the Tx head at CPHA 0 (0 if empty), and 0 at CPHA 1."
abbrev pub miso_between : Core → Bool
miso_between c = not c.mode.cpha && first_level (bits_of c.setup) (head_on_wire c.mode.lsb (bits_of c.setup) c.held.tx)

-- "In mid-element it shows the bit being sent"
abbrev pub miso_at : Transfer → Core → Bool
miso_at Idle c = miso_between c
miso_at (Moving s) c = sending c.mode.cpha s
miso_at Gap c = miso_between c

-- "and 0 while sitting out." "MISO is driven exactly while an enabled slave has SPISEL low; undriven it reads 1."
abbrev pub miso_of : Core → Bool
miso_of c = cond (is_driving c) (not c.sitting && miso_at c.transfer c) true

unfoldable pub outputs : Core → Outputs
unfolding sending interrupt_line
outputs c = record {
  sck = sck_of c;
  mosi = c.mosi;
  miso = miso_of c;
  interrupt = interrupt_line c.held.flags;
  driven = is_driving c;
  ss = ss_of c;
}
