-- "A master's ticks". Assumes nothing.
use Rattle.std.specs.Prelude.{Bool, true, false, cond, List, [], ◌∷◌, ℕ}
use Rattle.machine.specs.declared.Shift.{Shift}
use Rattle.machine.specs.declared.Edge.{Edge}
use Rattle.machine.specs.declared.Edge.TheVariants.{On, Over}
use Rattle.machine.specs.declared.Transfer.{Transfer}
use Rattle.machine.specs.declared.Transfer.TheVariants.{Idle, Moving, Gap}
use Rattle.machine.specs.declared.Outcome.TheVariants.{MovedOn}
use Rattle.machine.specs.Element.{wire, first_level}
use Rattle.machine.specs.Bought.{bits_of}
use Rattle.machine.specs.Core.{Core, Stepped, is_master, move, still}
use Rattle.machine.specs.Transfer.{decided, edge, changed, finish, finish_outcome}

-- "Start copies the Tx head without removing it and, if CPHA is 0, drives the first bit."
abbrev pub started : Shift → Core → Stepped
started s c = record {
  outcome = MovedOn;
  core = move c.held (Moving s) (cond c.mode.cpha c.mosi (first_level s.left s.out)) c;
}

-- "An enabled master that is idle, not inhibited and has an element starts"; "SS never decides whether a master starts."
abbrev pub start_at : Bool → List ℕ → Core → Stepped
start_at true tx c = still c
start_at false [] c = still c
start_at false (x ∷ l) c = started (decided c.mode.lsb (bits_of c.setup) (x ∷ l)) c

-- "At edge 2N the transfer finishes"; then comes the gap
abbrev pub ran_at : Edge → Shift → Core → Stepped
ran_at (On t) s c = record { outcome = MovedOn; core = move c.held (Moving t) (changed c.mode.cpha s c.mosi) c }
ran_at (Over got) s c =
    let x = wire c.mode.lsb (bits_of c.setup) got in
    record {
      outcome = finish_outcome c.setup x c.held;
      core = move (finish c.setup false s.starved x c.held) Gap (changed c.mode.cpha s c.mosi) c;
    }

-- "Loop makes a master sample its own MOSI; without the master bit it does nothing."
abbrev pub heard : Bool → Core → Bool
heard miso c = cond c.mode.loopback c.mosi miso

-- "a start tick, then 2N edge ticks, then one gap tick. Idle to idle is 2N+2 ticks."
abbrev pub tick_at : Transfer → Bool → Core → Stepped
tick_at Idle miso c = start_at c.mode.inhibit c.held.tx c
tick_at (Moving s) miso c = ran_at (edge c.mode.cpha (bits_of c.setup) (heard miso c) s) s c
tick_at Gap miso c = record { outcome = MovedOn; core = move c.held Idle c.mosi c }

-- "A tick is half an SCK period and carries the MISO level standing before it." "Ticking any other core changes nothing."
unfoldable pub tick : Bool → Core → Stepped
unfolding decided edge changed
tick miso c = cond (is_master c.mode) (tick_at c.transfer miso c) (still c)
