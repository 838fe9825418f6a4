-- What a read and a write ensure, in plain variables. Assumes nothing.
use Rattle.std.proofs.Common.{◌≡◌, ℕ, Bool, true, false, sym, refl, ◌∙◌, cond, Result, Ok, Err, true≢false}
use Rattle.std.specs.Result.{OnErr}
use Rattle.machine.specs.declared.Register.{Register}
use Rattle.machine.specs.declared.Place.{Place}
use Rattle.machine.specs.declared.Place.TheVariants as place
use Rattle.machine.specs.declared.Refusal.{Refusal}
use Rattle.machine.specs.declared.Refusal.TheVariants.{LanesOrOffset, NoRegister}
use Rattle.machine.specs.declared.Core.{Core as CoreOf}
use Rattle.machine.specs.Core.{Core}
use Rattle.machine.specs.Registers.{place_of}
use Rattle.machine.specs.Access.{Answer, Answered, whole_word, refuse}
use Rattle.machine.specs.Bench.{is_accepted}
use Rattle.store.specs.declared.Store.{Store}
use Rattle.store.specs.View.{view}
use Rattle.bus.specs.Answers.{answered, reached_at, reached, Accesses}

-- what is so of each refusal is so of an answer that isn't accepted
of_refusal : {P : Type 0} (a : Answer) → OnErr a P → is_accepted a ≡ false → P
of_refusal (Ok v) p e = absurd (true≢false e)
of_refusal (Err r) p e = p

-- what the definition does of a read and of a write alike: of each place `at`, and of the register that is there `own`
module _ (old : CoreOf Store) (offset lanes : ℕ) (does : Core → Answered) (at : Place → Answered) (own : Register → Answered)
    (all : does (view old) ≡ cond (whole_word offset lanes) (at (place_of old.setup offset)) (refuse LanesOrOffset (view old)))
    (there : (r : Register) → at (place.Register r) ≡ own r) (nothing : at place.Nothing ≡ refuse NoRegister (view old)) where
  -- the register's own where there is one, else the refusal
  abbrev gives : Result Register Refusal → Answered
  gives (Ok r) = own r
  gives (Err e) = refuse e (view old)

  reaches : (r : Result Register Refusal) → reached old.setup offset lanes ≡ r → gives r ≡ does (view old)
  reaches r is = rw (← is, all) (sym (go (whole_word offset lanes) (place_of old.setup offset)))
    where
      go : (b : Bool) (p : Place) → cond b (at p) (refuse LanesOrOffset (view old)) ≡ gives (reached_at b p)
      go false p = refl
      go true place.Nothing = nothing
      go true (place.Register r) = there r

  pub is_refused : (e : Refusal) → reached old.setup offset lanes ≡ Err e → Accesses old (Err e) old does
  is_refused e is = record { is = reaches (Err e) is; same = λ _. refl }

  pub is_reached : (r : Register) (a : Answer) (new : CoreOf Store) → reached old.setup offset lanes ≡ Ok r → answered a (view new) ≡ own r
      → OnErr a (new ≡ old) → Accesses old a new does
  is_reached r a new is has same = record { is = has ∙ reaches (Ok r) is; same = of_refusal a same }
