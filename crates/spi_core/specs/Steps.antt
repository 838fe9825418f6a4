-- What a step gives, and what the steps of master and slave share. Assumes nothing.
use Rattle.std.specs.Prelude.{Bool, cond}
use Rattle.machine.specs.declared.Edge.{Edge}
use Rattle.machine.specs.declared.Edge.TheVariants.{On, Over}
use Rattle.machine.specs.declared.Transfer.TheVariants.{Idle, Moving, Gap}
use Rattle.machine.specs.declared.Outcome.{Outcome}
use Rattle.machine.specs.Element.{wire}
use Rattle.machine.specs.Bought.{bits_of}
use Rattle.machine.specs.Core.{Core, Stepped, is_slave, move, still}
use Rattle.machine.specs.Transfer.{finish, finish_outcome}

abbrev pub stepped : Outcome → Core → Stepped
stepped o c = record { outcome = o; core = c }

-- an edge of an element: it goes on, or its last edge finishes it; then comes a master's gap
abbrev pub advanced : Edge → Outcome → Bool → Bool → Core → Stepped
advanced (On t) going starved slave c = stepped going (move c.held (Moving t) c.mosi c)
advanced (Over got) going starved slave c =
    let x = wire c.mode.lsb (bits_of c.setup) got in
    stepped (finish_outcome c.setup x c.held) (move (finish c.setup slave starved x c.held) (cond slave Idle Gap) c.mosi c)

-- what only an enabled slave does
abbrev pub if_slave : Core → Stepped → Stepped
if_slave c does = cond (is_slave c.mode) does (still c)
