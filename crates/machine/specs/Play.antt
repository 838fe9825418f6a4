-- "Scripts and logs": playing a script. All follows from its bytes, the room lent for the log and the limit of records. Assumes nothing.
use Rattle.std.specs.Prelude.{Bool, true, false, cond, List, [], ◌++◌, ℕ, zero, suc, ◌+◌, ◌-◌, length, ltb, eqb, Result, Ok, Err}
use Rattle.machine.specs.declared.Found.{Found}
use Rattle.machine.specs.declared.Found.TheVariants.{Whole, CutShort, End}
use Rattle.machine.specs.declared.Command.{Command}
use Rattle.machine.specs.declared.Command.TheVariants.{Setup, Write, Read, Tick, LineStep, Unknown}
use Rattle.machine.specs.declared.SetupRefusal.{SetupRefusal}
use Rattle.machine.specs.declared.Levels.{Levels}
use Rattle.machine.specs.declared.Entry.TheVariants as entry
use Rattle.machine.specs.Element.{level_of}
use Rattle.machine.specs.Core.{Core, Stepped, setup}
use Rattle.machine.specs.Access.{Answered, read, write}
use Rattle.machine.specs.Master.{tick}
use Rattle.machine.specs.Slave.{line_step}
use Rattle.machine.specs.Lines.{outputs}
use Rattle.machine.specs.Records.{find, payload, command, kind_number, judge}
use Rattle.machine.specs.Log.{entry_bytes, last_record}

-- ---- carrying out a record

-- before the setup there is no core
pub data Stage : Type 0 where
  bare : Stage
  running : Core → Stage

abbrev pub is_running : Stage → Bool
is_running bare = false
is_running (running c) = true

pub record Carried : Type 0 where
  pub stage : Stage
  pub log : List ℕ

-- what the log says of an access, and of a tick or line step. "Access refusals are logged and don't stop a script."
abbrev pub accessed : ℕ → Answered → Carried
accessed kind r = record { stage = running r.core; log = entry_bytes kind (entry.Access r.answer) }

abbrev pub stepped : ℕ → Stepped → Carried
stepped kind r = record { stage = running r.core; log = entry_bytes kind (entry.Step r.outcome (outputs r.core)) }

-- "4 line step (1 byte: bit 0 SPISEL, 1 SCK, 2 MOSI)"
abbrev pub levels_of : ℕ → Levels
levels_of b = record { spisel = level_of b 0; sck = level_of b 1; mosi = level_of b 2 }

abbrev pub set_up : ℕ → Result Core SetupRefusal → Carried
set_up kind (Ok c) = record { stage = running c; log = entry_bytes kind entry.Setup }
set_up kind (Err e) = record { stage = bare; log = [] }

-- a setup makes the core, and the rest asks it. What `judge` stops is not carried out
unfoldable pub carry : Stage → Command → Carried
unfolding setup read write tick line_step outputs entry_bytes
carry bare (Setup w d k) = set_up (kind_number (Setup w d k)) (setup w d k)
carry bare (Write o l v) = record { stage = bare; log = [] }
carry bare (Read o l) = record { stage = bare; log = [] }
carry bare (Tick m) = record { stage = bare; log = [] }
carry bare (LineStep l) = record { stage = bare; log = [] }
carry bare (Unknown kind) = record { stage = bare; log = [] }
carry (running c) (Setup w d k) = record { stage = running c; log = [] }
carry (running c) (Write o l v) = accessed (kind_number (Write o l v)) (write o l v c)
carry (running c) (Read o l) = accessed (kind_number (Read o l)) (read o l c)
carry (running c) (Tick m) = stepped (kind_number (Tick m)) (tick (eqb m 1) c)
carry (running c) (LineStep l) = stepped (kind_number (LineStep l)) (line_step (levels_of l) c)
carry (running c) (Unknown kind) = record { stage = running c; log = [] }

-- ---- record after record

-- where a script stands: the core, the place of the next record, and the log so far
pub record Stand : Type 0 where
  pub stage : Stage
  pub place : ℕ
  pub log : List ℕ

pub data Turn : Type 0 where
  going : Stand → Turn
  stopped : ℕ → Stand → Turn

abbrev pub carried_out : Carried → ℕ → Stand → Stand
carried_out r next s = record { stage = r.stage; place = next; log = s.log ++ r.log }

-- "The stopping record isn't carried out or logged."
abbrev pub turn_at : ℕ → Command → ℕ → Stand → Turn
turn_at zero c next s = going (carried_out (carry s.stage c) next s)
turn_at (suc n) c next s = stopped (suc n) s

-- 20 "header or payload cut short"; the rest is judged; 0 at the end
abbrev pub found_at : Found → List ℕ → ℕ → Stand → Turn
found_at End script room s = stopped 0 s
found_at CutShort script room s = stopped 20 s
found_at (Whole kind len next) script room s =
    let c = command kind (payload script s.place) in
    turn_at (judge (is_running s.stage) (room - length s.log) len c) c next s

unfoldable pub turn : List ℕ → ℕ → Stand → Turn
unfolding find payload command judge carry
turn script room s = found_at (find script s.place) script room s

-- "The answer holds the number (0 at the end), the place of the first record not done, log length and records done."
pub record Played : Type 0 where
  pub number : ℕ
  pub place : ℕ
  pub log : List ℕ
  pub records : ℕ

abbrev pub answer : ℕ → Stand → ℕ → Played
answer n s done = record { number = n; place = s.place; log = s.log; records = done }

-- 27 "the limit of records is spent and bytes remain"
abbrev pub spent_at : Found → ℕ
spent_at End = 0
spent_at CutShort = 27
spent_at (Whole kind len next) = 27

-- records left of the limit, and records done
unfoldable pub play_from : ℕ → List ℕ → ℕ → Stand → ℕ → Played
play_from zero script room s done = answer (spent_at (find script s.place)) s done
play_from (suc left) script room s done =
    elim (turn script room s) [ going t ↦ play_from left script room t (done + 1) | stopped n t ↦ answer n t done ]

abbrev pub at_start : Stand
at_start = record { stage = bare; place = 0; log = [] }

-- 25 "script over 16,384 bytes"
unfoldable pub play : List ℕ → ℕ → ℕ → Played
unfolding find play_from turn
play script room limit =
    cond (ltb 16384 (length script)) (answer 25 at_start 0) (play_from limit script room at_start 0)

-- ---- the program

-- "The program reads standard input, lends room enough for any log and a limit of 4,096 records (no script within 25 can spend it)"
abbrev pub program_room : ℕ
program_room = 65536

abbrev pub program_limit : ℕ
program_limit = 4096

-- "writes the log and then a record of kind 0xFFFF"
unfoldable pub program : List ℕ → List ℕ
unfolding play last_record
program script =
    let p = play script program_room program_limit in
    p.log ++ last_record p.number p.place
