-- The registers: their offsets, the bits of their words, and the interrupt line. Assumes nothing.
use Rattle.std.specs.Prelude.{Bool, true, false, not, ◌&&◌, ◌||◌, cond, List, [], ◌∷◌, ℕ, ◌*◌, ◌^◌, eqb}
use Rattle.machine.specs.declared.Setup.{Setup}
use Rattle.machine.specs.declared.Register.{Register}
use Rattle.machine.specs.declared.Register.TheVariants.{Dgier, Ipisr, Ipier, Srr, Spicr, Spisr, Spidtr, Spidrr, Spissr, TxOccupancy, RxOccupancy}
use Rattle.machine.specs.declared.Place.{Place}
use Rattle.machine.specs.declared.Place.TheVariants as place
use Rattle.machine.specs.declared.Mode.{Mode}
use Rattle.machine.specs.declared.Interrupts.{Interrupts}
use Rattle.machine.specs.declared.Flags.{Flags}
use Rattle.machine.specs.Element.{level_of, number_of, word_of}
use Rattle.machine.specs.Bought.{room_of, has_fifo}
use Rattle.machine.specs.Store.{empty, full}
use Rattle.machine.specs.Core.{Core, is_slave}

-- "0x74, 0x78 .. depth 16 only"
abbrev pub fifo_registers : List (ℕ × Register)
fifo_registers = (0x74, TxOccupancy) ∷ (0x78, RxOccupancy) ∷ []

-- the table of offsets (000, Table 4)
abbrev pub registers : Setup → List (ℕ × Register)
registers z =
    (0x1C, Dgier)
    ∷ (0x20, Ipisr)
    ∷ (0x28, Ipier)
    ∷ (0x40, Srr)
    ∷ (0x60, Spicr)
    ∷ (0x64, Spisr)
    ∷ (0x68, Spidtr)
    ∷ (0x6C, Spidrr)
    ∷ (0x70, Spissr)
    ∷ cond (has_fifo z) fifo_registers []

unfoldable pub lookup : List (ℕ × Register) → ℕ → Place
lookup [] offset = place.Nothing
lookup (row ∷ rows) offset = cond (eqb offset row.0) (place.Register row.1) (lookup rows offset)

-- the register that answers at an offset; 11 "no register there (0x74 and 0x78 at depth 0 included)"
unfoldable pub place_of : Setup → ℕ → Place
unfolding lookup
place_of z offset = lookup (registers z) offset

-- ---- SPICR (000, Table 6)

-- "SPICR bits: 0 loop, 1 enable, 2 master, 3 CPOL, 4 CPHA, 5 Tx FIFO reset, 6 Rx FIFO reset, 7 manual select, 8 master inhibit,
-- 9 LSB first." Bits 5 and 6: "both read 0". "Reserved bits are ignored on writing and read 0."
unfoldable pub control_word : Mode → ℕ
unfolding word_of
control_word m =
    word_of
    (m.loopback
    ∷ m.enable
    ∷ m.master
    ∷ m.cpol
    ∷ m.cpha
    ∷ false
    ∷ false
    ∷ m.manual
    ∷ m.inhibit
    ∷ m.lsb
    ∷ [])

abbrev pub tx_reset : ℕ → Bool
tx_reset v = level_of v 5

abbrev pub rx_reset : ℕ → Bool
rx_reset v = level_of v 6

unfoldable pub mode_of : ℕ → Mode
mode_of v = record {
  loopback = level_of v 0;
  enable = level_of v 1;
  master = level_of v 2;
  cpol = level_of v 3;
  cpha = level_of v 4;
  manual = level_of v 7;
  inhibit = level_of v 8;
  lsb = level_of v 9;
}

-- ---- SPISR (000, Table 7)

-- SPISR bit 5 "is 0 exactly while an enabled slave has SPISEL low"; "MISO is driven exactly while" that is so
abbrev pub is_driving : Core → Bool
is_driving c = is_slave c.mode && not c.seen.spisel

-- "SPISR bits: 0 Rx empty, 1 Rx full, 2 Tx empty, 3 Tx full, 4 MODF, 5 .."
unfoldable pub status_word : Core → ℕ
unfolding word_of
status_word c =
    word_of
    (empty c.held.rx
    ∷ full (room_of c.setup) c.held.rx
    ∷ empty c.held.tx
    ∷ full (room_of c.setup) c.held.tx
    ∷ c.held.flags.modf
    ∷ not (is_driving c)
    ∷ [])

-- ---- IPISR, IPIER and DGIER (000, Tables 13 to 15)

-- "bits 0 to 8 at any depth"
unfoldable pub interrupt_word : Interrupts → ℕ
unfolding word_of
interrupt_word i =
    word_of
    (i.modf
    ∷ i.smodf
    ∷ i.emptied
    ∷ i.underrun
    ∷ i.filled
    ∷ i.overrun
    ∷ i.half
    ∷ i.selected
    ∷ i.arrived
    ∷ [])

unfoldable pub interrupts_of : ℕ → Interrupts
interrupts_of v = record {
  modf = level_of v 0;
  smodf = level_of v 1;
  emptied = level_of v 2;
  underrun = level_of v 3;
  filled = level_of v 4;
  overrun = level_of v 5;
  half = level_of v 6;
  selected = level_of v 7;
  arrived = level_of v 8;
}

abbrev pub differ : Bool → Bool → Bool
differ true b = not b
differ false b = b

-- "writing 1 to a bit toggles it"
unfoldable pub toggled : Interrupts → Interrupts → Interrupts
toggled i j = record {
  modf = differ i.modf j.modf;
  smodf = differ i.smodf j.smodf;
  emptied = differ i.emptied j.emptied;
  underrun = differ i.underrun j.underrun;
  filled = differ i.filled j.filled;
  overrun = differ i.overrun j.overrun;
  half = differ i.half j.half;
  selected = differ i.selected j.selected;
  arrived = differ i.arrived j.arrived;
}

abbrev pub share : Interrupts → Interrupts → Bool
share i j =
    i.modf && j.modf
    || i.smodf && j.smodf
    || i.emptied && j.emptied
    || i.underrun && j.underrun
    || i.filled && j.filled
    || i.overrun && j.overrun
    || i.half && j.half
    || i.selected && j.selected
    || i.arrived && j.arrived

-- "The interrupt line is high when DGIER bit 31 is set and IPISR and IPIER share a set bit."
unfoldable pub interrupt_line : Flags → Bool
interrupt_line f = f.dgier && share f.ipisr f.ipier

-- DGIER "bit 31 only"
abbrev pub global_word : Bool → ℕ
global_word b = number_of b * 2 ^ 31

abbrev pub global_of : ℕ → Bool
global_of v = level_of v 31
