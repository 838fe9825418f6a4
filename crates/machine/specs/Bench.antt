-- "The joined bench": a master, and a slave that is number 0 and gets the master's lines. Assumes nothing.
use Rattle.std.specs.Prelude.{Bool, not, ◌&&◌, ◌||◌, cond, ℕ, zero, suc, ◌+◌, eqb}
use Rattle.machine.specs.declared.Levels.{Levels}
use Rattle.machine.specs.declared.Outputs.{Outputs}
use Rattle.machine.specs.declared.Outcome.{Outcome}
use Rattle.machine.specs.declared.Outcome.TheVariants.{Nothing}
use Rattle.machine.specs.declared.Access.{Access}
use Rattle.machine.specs.declared.Side.{Side}
use Rattle.machine.specs.declared.Side.TheVariants.{Master, Slave}
use Rattle.machine.specs.declared.Ended.{Ended}
use Rattle.machine.specs.declared.Ended.TheVariants.{Drained, LimitSpent}
use Rattle.machine.specs.Element.{level_of}
use Rattle.machine.specs.Store.{empty}
use Rattle.machine.specs.Core.{Core, Stepped}
use Rattle.machine.specs.Access.{Answer, refusal_number, access, read, write}
use Rattle.machine.specs.Master.{tick}
use Rattle.machine.specs.Slave.{line_step}
use Rattle.machine.specs.Lines.{is_idle, outputs}

pub record Bench : Type 0 where
  pub master : Core
  pub slave : Core

-- ---- the slave gets the master's lines

-- "The slave is number 0; the master gets no line step": the lines that reach slave number i are select line i, SCK and MOSI
abbrev pub lines_to : ℕ → Outputs → Levels
lines_to i o = record { spisel = level_of o.ss i; sck = o.sck; mosi = o.mosi }

abbrev pub given : Core → Core → Stepped
given m s = line_step (lines_to 0 (outputs m)) s

-- "it gets them when joined .., and that step's outcome and element are in the answer"
pub record Joined : Type 0 where
  pub step : Outcome
  pub bench : Bench

abbrev pub joined_with : Core → Stepped → Joined
joined_with m s = record { step = s.outcome; bench = record { master = m; slave = s.core } }

unfoldable pub join : Core → Core → Joined
unfolding line_step outputs
join m s = joined_with m (given m s)

-- "A slave in step is neither sitting out nor in mid-element"
abbrev pub is_in_step : Core → Bool
is_in_step s = not s.sitting && is_idle s.transfer

-- "selected means SPISSR bit 0 is low, and in manual mode SPISEL is low already"
abbrev pub is_selected : Bench → Bool
is_selected b = not (level_of b.master.select 0) && (not b.master.mode.manual || not b.slave.seen.spisel)

-- ---- accesses

pub record BenchAnswered : Type 0 where
  pub answer : Answer
  pub step : Outcome
  pub bench : Bench

abbrev pub is_accepted : Answer → Bool
is_accepted a = eqb (refusal_number a) 0

abbrev pub answered_with : Answer → Joined → BenchAnswered
answered_with a j = record { answer = a; step = j.step; bench = j.bench }

-- ".. and after every accepted access too": a refused one gives the slave no step
abbrev pub settled : Answer → Core → Core → Bench → BenchAnswered
settled a m s b =
    cond (is_accepted a) (answered_with a (join m s)) (record { answer = a; step = Nothing; bench = b })

abbrev pub access_at : Side → Access → Bench → BenchAnswered
access_at Master a b = let r = access a b.master in settled r.answer r.core b.slave b
access_at Slave a b = let r = access a b.slave in settled r.answer b.master r.core b

unfoldable pub access_on : Side → Access → Bench → BenchAnswered
unfolding read write join
access_on side a b = access_at side a b

-- ---- ticks

pub record BenchTicked : Type 0 where
  pub master : Outcome
  pub slave : Outcome
  pub bench : Bench

abbrev pub ticked_with : Outcome → Joined → BenchTicked
ticked_with o j = record { master = o; slave = j.step; bench = j.bench }

-- "In each tick the master sees the slave's MISO from before, then the slave gets the new lines as a line step"
unfoldable pub tick_bench : Bench → BenchTicked
unfolding tick join outputs
tick_bench b =
    let m = tick (outputs b.slave).miso b.master in
    ticked_with m.outcome (join m.core b.slave)

-- ---- runs

-- "the master is idle with an empty Tx store"
abbrev pub is_drained : Core → Bool
is_drained m = is_idle m.transfer && empty m.held.tx

pub record Ran : Type 0 where
  pub ended : Ended
  pub used : ℕ
  pub bench : Bench

abbrev pub ran_to : Ended → ℕ → Bench → Ran
ran_to e used b = record { ended = e; used = used; bench = b }

-- "A run goes on until the master is idle with an empty Tx store, or its limit of ticks is spent; the answer says which (the first
-- wins when both hold), and the number of ticks used is part of the answer": the ticks left of the limit, and those used
unfoldable pub run_from : ℕ → ℕ → Bench → Ran
run_from zero used b = ran_to (cond (is_drained b.master) Drained LimitSpent) used b
run_from (suc left) used b =
    let more = run_from left (used + 1) (tick_bench b).bench in
    cond (is_drained b.master) (ran_to Drained used b) more

unfoldable pub run : ℕ → Bench → Ran
unfolding run_from tick_bench
run limit b = run_from limit 0 b
