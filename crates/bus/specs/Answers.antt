-- What reads and writes promise. Assumes nothing.
use Rattle.std.specs.Prelude.{◌≡◌, ℕ, Bool, true, false, Result, Ok, Err}
use Rattle.machine.specs.declared.Setup.{Setup}
use Rattle.machine.specs.declared.Register.{Register}
use Rattle.machine.specs.declared.Place.{Place}
use Rattle.machine.specs.declared.Place.TheVariants as place
use Rattle.machine.specs.declared.Refusal.{Refusal}
use Rattle.machine.specs.declared.Refusal.TheVariants.{LanesOrOffset, NoRegister}
use Rattle.machine.specs.declared.Core.{Core as CoreOf}
use Rattle.machine.specs.Core.{Core}
use Rattle.machine.specs.Registers.{place_of}
use Rattle.machine.specs.Access.{Answer, Answered, whole_word}
use Rattle.machine.specs.Bench.{is_accepted}
use Rattle.store.specs.declared.Store.{Store}
use Rattle.store.specs.View.{view}

abbrev pub answered : Answer → Core → Answered
answered a c = record { answer = a; core = c }

-- the register that an access reaches, or refusal 10 or 11
abbrev pub reached_at : Bool → Place → Result Register Refusal
reached_at false p = Err LanesOrOffset
reached_at true (place.Register r) = Ok r
reached_at true place.Nothing = Err NoRegister

abbrev pub reached : Setup → ℕ → ℕ → Result Register Refusal
reached z offset lanes = reached_at (whole_word offset lanes) (place_of z offset)

-- a write that is accepted answers 0
abbrev pub written : {A : Type 0} → Result A Refusal → Answer
written (Ok a) = Ok 0
written (Err e) = Err e

-- an access gives what the definition gives; where it is refused the core is the very same
pub record Accesses (old : CoreOf Store) (r : Answer) (new : CoreOf Store) (does : Core → Answered) : Type 0 where
  pub is : answered r (view new) ≡ does (view old)
  pub same : is_accepted r ≡ false → new ≡ old
