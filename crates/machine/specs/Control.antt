-- Control and reset writes: what they change, abandon and have sat out. Assumes nothing.
use Rattle.std.specs.Prelude.{Bool, not, ◌&&◌, ◌||◌, cond, [], ℕ}
use Rattle.machine.specs.declared.Setup.{Setup}
use Rattle.machine.specs.declared.Mode.{Mode}
use Rattle.machine.specs.declared.Transfer.TheVariants.{Idle}
use Rattle.machine.specs.Bought.{has_fifo}
use Rattle.machine.specs.Core.{Held, Core, reset}
use Rattle.machine.specs.Registers.{mode_of, tx_reset, rx_reset, differ}

-- "changes any of bits 0 to 4, 7 or 9"
abbrev pub changes : Mode → Mode → Bool
changes m n =
    differ m.loopback n.loopback
    || differ m.enable n.enable
    || differ m.master n.master
    || differ m.cpol n.cpol
    || differ m.cpha n.cpha
    || differ m.manual n.manual
    || differ m.lsb n.lsb

-- "Writing 1 to bit 5 or 6 empties that store and sets no flag; both .. do nothing at depth 0."
abbrev pub clears_tx : Setup → ℕ → Bool
clears_tx z v = has_fifo z && tx_reset v

abbrev pub clears_rx : Setup → ℕ → Bool
clears_rx z v = has_fifo z && rx_reset v

-- "A SPICR write that changes any of bits 0 to 4, 7 or 9, or at depth 16 sets bit 5, abandons the transfer and makes the core
-- sit out line edges until SPISEL is high."
abbrev pub disturbs : Setup → Mode → ℕ → Bool
disturbs z m v = changes m (mode_of v) || clears_tx z v

-- "Setting bit 8 from 0 abandons a master's transfer; a slave ignores it."
abbrev pub inhibits : Mode → ℕ → Bool
inhibits m v = m.master && not m.inhibit && (mode_of v).inhibit

abbrev pub cleared : Setup → ℕ → Held → Held
cleared z v h = record { tx = cond (clears_tx z v) [] h.tx; rx = cond (clears_rx z v) [] h.rx; flags = h.flags }

-- "Abandoning makes a core idle at once and drops a gap still to come." "If SPISEL is already high, nothing is sat out."
unfoldable pub controlled : ℕ → Core → Core
unfolding mode_of
controlled v c = record {
  setup = c.setup;
  mode = mode_of v;
  select = c.select;
  held = cleared c.setup v c.held;
  transfer = cond (disturbs c.setup c.mode v || inhibits c.mode v) Idle c.transfer;
  mosi = c.mosi;
  seen = c.seen;
  sitting = cond (disturbs c.setup c.mode v) (not c.seen.spisel) c.sitting;
}

-- "SRR returns all but the seen line levels to power-on values and sits out likewise."
unfoldable pub reset_again : Core → Core
unfolding reset
reset_again c = reset c.setup c.seen
