-- The two stores with their flags, a core, and what setup answers, as the definitions have them: a store is the list of its elements.
-- Assumes nothing.
use Rattle.std.specs.Prelude.{Result, Ok, Err}
use Rattle.machine.specs.declared.Held.{Held as HeldOf}
use Rattle.machine.specs.declared.Core.{Core as CoreOf}
use Rattle.machine.specs.Core.{Held, Core}
use Rattle.store.specs.declared.Store.{Store}
use Rattle.store.specs.Cells.{elements}

abbrev pub view_held : HeldOf Store → Held
view_held h = record { tx = elements h.tx; rx = elements h.rx; flags = h.flags }

abbrev pub view : CoreOf Store → Core
view c = record {
  setup = c.setup;
  mode = c.mode;
  select = c.select;
  held = view_held c.held;
  transfer = c.transfer;
  mosi = c.mosi;
  seen = c.seen;
  sitting = c.sitting;
}

abbrev pub view_made : {E : Type 0} → Result (CoreOf Store) E → Result Core E
view_made (Ok c) = Ok (view c)
view_made (Err e) = Err e
