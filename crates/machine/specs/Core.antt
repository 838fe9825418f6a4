-- One core: what it holds between two calls, and its power-on values. Assumes nothing.
use Rattle.std.specs.Prelude.{Bool, true, false, not, ◌&&◌, List, [], ℕ, ◌-◌, ◌^◌, Result, Ok, Err}
use Rattle.machine.specs.declared.Setup.{Setup}
use Rattle.machine.specs.declared.Mode.{Mode}
use Rattle.machine.specs.declared.Interrupts.{Interrupts}
use Rattle.machine.specs.declared.Flags.{Flags}
use Rattle.machine.specs.declared.Levels.{Levels}
use Rattle.machine.specs.declared.Transfer.{Transfer}
use Rattle.machine.specs.declared.Transfer.TheVariants.{Idle}
use Rattle.machine.specs.declared.Outcome.{Outcome}
use Rattle.machine.specs.declared.Outcome.TheVariants.{Nothing, MovedOn, Stored, Lost, Starved, Abandoned}
use Rattle.machine.specs.declared.SetupRefusal.{SetupRefusal}
use Rattle.machine.specs.declared.Held.{Held as HeldOf}
use Rattle.machine.specs.declared.Core.{Core as CoreOf}
use Rattle.machine.specs.Bought.{lines_of, Bought, bought}

-- a core, and its two stores and flags, where a store is the list of its elements
abbrev pub Held : Type 0
Held = HeldOf (List ℕ)

abbrev pub Core : Type 0
Core = CoreOf (List ℕ)

-- "An enabled master", "an enabled slave"
abbrev pub is_master : Mode → Bool
is_master m = m.enable && m.master

abbrev pub is_slave : Mode → Bool
is_slave m = m.enable && not m.master

-- what a tick or a line step gives
pub record Stepped : Type 0 where
  pub outcome : Outcome
  pub core : Core

-- "Outcomes: 0 nothing, 1 moved on (start, gap or a counted edge with no other outcome), 2 finished and stored, 3 finished and
-- lost, 4 started starved, 5 abandoned by SPISEL."
abbrev pub outcome_number : Outcome → ℕ
outcome_number Nothing = 0
outcome_number MovedOn = 1
outcome_number (Stored x) = 2
outcome_number (Lost x) = 3
outcome_number Starved = 4
outcome_number Abandoned = 5

-- "With 2 and 3 comes the received element, otherwise 0."
abbrev pub outcome_element : Outcome → ℕ
outcome_element Nothing = 0
outcome_element MovedOn = 0
outcome_element (Stored x) = x
outcome_element (Lost x) = x
outcome_element Starved = 0
outcome_element Abandoned = 0

-- ---- power-on

-- SPICR "reset 0x180": manual select and master inhibit
abbrev pub reset_mode : Mode
reset_mode = record {
  loopback = false;
  enable = false;
  master = false;
  cpol = false;
  cpha = false;
  manual = true;
  inhibit = true;
  lsb = false;
}

abbrev pub no_interrupts : Interrupts
no_interrupts = record {
  modf = false;
  smodf = false;
  emptied = false;
  underrun = false;
  filled = false;
  overrun = false;
  half = false;
  selected = false;
  arrived = false;
}

-- the stores empty, IPISR, IPIER, DGIER and MODF 0 (000, Table 4): so SPISR is "reset 0x25"
abbrev pub nothing_held : Held
nothing_held = record {
  tx = [];
  rx = [];
  flags = record { ipisr = no_interrupts; ipier = no_interrupts; dgier = false; modf = false };
}

-- SPISSR "K bits, active low, reset all ones"
abbrev pub none_selected : Setup → ℕ
none_selected z = 2 ^ lines_of z - 1

-- the power-on values of a core that has seen these levels: it sits out line edges unless SPISEL is high
unfoldable pub reset : Setup → Levels → Core
reset z seen = record {
  setup = z;
  mode = reset_mode;
  select = none_selected z;
  held = nothing_held;
  transfer = Idle;
  mosi = false;
  seen = seen;
  sitting = not seen.spisel;
}

-- "Power-on has seen SPISEL high, SCK and MOSI low."
unfoldable pub power_on : Setup → Core
unfolding reset
power_on z = reset z (record { spisel = true; sck = false; mosi = false })

-- "Setup refusals, in order, yield no core": a core at power-on, or what is refused
abbrev pub made_of : Bought → Result Core SetupRefusal
made_of (Ok z) = Ok (power_on z)
made_of (Err e) = Err e

unfoldable pub setup : ℕ → ℕ → ℕ → Result Core SetupRefusal
unfolding bought power_on
setup n d k = made_of (bought n d k)

-- ---- a core with some of its parts new

abbrev pub move : Held → Transfer → Bool → Core → Core
move h t mosi c = record {
  setup = c.setup;
  mode = c.mode;
  select = c.select;
  held = h;
  transfer = t;
  mosi = mosi;
  seen = c.seen;
  sitting = c.sitting;
}

abbrev pub keep : Held → Core → Core
keep h c = move h c.transfer c.mosi c

abbrev pub flagged : Flags → Core → Core
flagged f c = keep (record { tx = c.held.tx; rx = c.held.rx; flags = f }) c

abbrev pub still : Core → Stepped
still c = record { outcome = Nothing; core = c }
