-- "A slave's lines". Assumes nothing.
use Rattle.std.specs.Prelude.{Bool, true, false, not, ◌&&◌, ◌||◌, cond}
use Rattle.machine.specs.declared.Mode.{Mode}
use Rattle.machine.specs.declared.Interrupts.{Interrupts}
use Rattle.machine.specs.declared.Flags.{Flags}
use Rattle.machine.specs.declared.Levels.{Levels}
use Rattle.machine.specs.declared.Shift.{Shift}
use Rattle.machine.specs.declared.Edge.{Edge}
use Rattle.machine.specs.declared.Edge.TheVariants.{On, Over}
use Rattle.machine.specs.declared.Transfer.{Transfer}
use Rattle.machine.specs.declared.Transfer.TheVariants.{Idle, Moving, Gap}
use Rattle.machine.specs.declared.Outcome.{Outcome}
use Rattle.machine.specs.declared.Outcome.TheVariants.{MovedOn, Starved, Abandoned}
use Rattle.machine.specs.Element.{wire}
use Rattle.machine.specs.Bought.{bits_of}
use Rattle.machine.specs.Core.{Core, Stepped, is_slave, move, flagged, still}
use Rattle.machine.specs.Registers.{differ}
use Rattle.machine.specs.Transfer.{decided, edge, finish, finish_outcome}

-- ---- the levels are noted, whatever the core is

-- "A line step gives SPISEL, SCK, MOSI." The core "stops sitting out at a high SPISEL"
abbrev pub note : Levels → Core → Core
note given c = record {
  setup = c.setup;
  mode = c.mode;
  select = c.select;
  held = c.held;
  transfer = c.transfer;
  mosi = c.mosi;
  seen = given;
  sitting = not given.spisel && c.sitting;
}

-- at a fall: IPISR 0 "MODF (SPISEL falls, master bit set; sets SPISR bit 4 too), 1 slave MODF (SPISEL falls, neither enabled nor
-- master)", 7 "SPISEL falls on an enabled slave"
abbrev pub fall_flags : Mode → Interrupts → Interrupts
fall_flags m i = record {
  modf = i.modf || m.master;
  smodf = i.smodf || not m.master && not m.enable;
  emptied = i.emptied;
  underrun = i.underrun;
  filled = i.filled;
  overrun = i.overrun;
  half = i.half;
  selected = i.selected || is_slave m;
  arrived = i.arrived;
}

abbrev pub fallen : Mode → Flags → Flags
fallen m f = record { ipisr = fall_flags m f.ipisr; ipier = f.ipier; dgier = f.dgier; modf = f.modf || m.master }

abbrev pub fell : Core → Stepped
fell c = still (flagged (fallen c.mode c.held.flags) c)

-- ---- an enabled slave with SPISEL low

-- IPISR 3: underrun
abbrev pub underrun_flags : Bool → Interrupts → Interrupts
underrun_flags starved i = record {
  modf = i.modf;
  smodf = i.smodf;
  emptied = i.emptied;
  underrun = i.underrun || starved;
  filled = i.filled;
  overrun = i.overrun;
  half = i.half;
  selected = i.selected;
  arrived = i.arrived;
}

abbrev pub underran : Bool → Flags → Flags
underran starved f = record { ipisr = underrun_flags starved f.ipisr; ipier = f.ipier; dgier = f.dgier; modf = f.modf }

-- "It finishes at edge 2N, with the stores treated as a master's."
abbrev pub followed_at : Edge → Outcome → Bool → Core → Stepped
followed_at (On t) o starved c = record { outcome = o; core = move c.held (Moving t) c.mosi c }
followed_at (Over got) o starved c =
    let x = wire c.mode.lsb (bits_of c.setup) got in
    record {
      outcome = finish_outcome c.setup x c.held;
      core = move (finish c.setup true starved x c.held) Idle c.mosi c;
    }

-- "It samples the MOSI given with the step."
abbrev pub followed : Shift → Outcome → Core → Stepped
followed s o c = followed_at (edge c.mode.cpha (bits_of c.setup) c.seen.mosi s) o s.starved c

-- "if the store is empty it is starved: underrun is set, it sends zeros and its finish removes nothing, even if an element was
-- written meanwhile."
abbrev pub started_by : Shift → Core → Stepped
started_by s c =
    followed s (cond s.starved Starved MovedOn)
    (flagged (underran s.starved c.held.flags) c)

-- an edge of SCK, away from CPOL or towards it: "An enabled, selected slave starts at an edge away from CPOL"
abbrev pub clocked_at : Transfer → Bool → Core → Stepped
clocked_at Idle false c = still c
clocked_at Idle true c = started_by (decided c.mode.lsb (bits_of c.setup) c.held.tx) c
clocked_at (Moving s) away c = followed s MovedOn c
clocked_at Gap away c = still c

-- whether SCK has changed
abbrev pub clocked : Bool → Core → Stepped
clocked false c = still c
clocked true c = cond c.sitting (still c) (clocked_at c.transfer (differ c.mode.cpol c.seen.sck) c)

-- "SPISEL rising in mid-element abandons it; the element stays and is sent again."
abbrev pub rose_at : Transfer → Core → Stepped
rose_at Idle c = still c
rose_at (Moving s) c = record { outcome = Abandoned; core = move c.held Idle c.mosi c }
rose_at Gap c = still c

-- ---- the step

-- "SPISEL is looked at first; on the step where it falls or rises no SCK edge counts. A core that isn't an enabled slave only
-- notes the levels, sets its flag at a fall ..": SPISEL seen, SPISEL given, SCK seen; the core has noted the levels
abbrev pub line_at : Bool → Bool → Bool → Core → Stepped
line_at true true sck c = still c
line_at true false sck c = fell c
line_at false true sck c = cond (is_slave c.mode) (rose_at c.transfer c) (still c)
line_at false false sck c = cond (is_slave c.mode) (clocked (differ sck c.seen.sck) c) (still c)

unfoldable pub line_step : Levels → Core → Stepped
unfolding decided edge
line_step given c = line_at c.seen.spisel given.spisel c.seen.sck (note given c)
