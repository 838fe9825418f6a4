-- The wire of a core, its width, and what a finish promises. Assumes nothing.
use Rattle.std.specs.Prelude.{ℕ, ◌≡◌, List, Bool, cond, min}
use Rattle.machine.specs.declared.Setup.{Setup}
use Rattle.machine.specs.declared.Outcome.{Outcome}
use Rattle.machine.specs.Store.{rest}
use Rattle.machine.specs.Core.{Held, Core}
use Rattle.machine.specs.Transfer.{finish, finish_outcome}
use Rattle.transfer.specs.declared.Wire.{Wire}

abbrev pub wire_of : Core → Wire
wire_of c = record { lsb = c.mode.lsb; cpha = c.mode.cpha; width = c.setup.width }

-- the bits of an element; a width over 32 counts as 32
abbrev pub wire_bits : Wire → ℕ
wire_bits w = min w.width 32

abbrev pub leaving : Bool → List ℕ → List ℕ
leaving starved tx = cond starved tx (rest tx)

pub record Finishes (z : Setup) (slave starved : Bool) (x : ℕ) (old : Held) (r : Outcome) (new : Held) : Type 0 where
  pub outcome : r ≡ finish_outcome z x old
  pub held : new ≡ finish z slave starved x old
