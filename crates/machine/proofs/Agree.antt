-- Where two definitions look at one thing from two sides, they agree. Assumes nothing.
use mathlib.Core.Path.{◌≡◌, refl}
use mathlib.Core.Bool.{Bool, true, false, true≢false}
use mathlib.Core.List.{List, [], ◌∷◌}
use Prim.Native.Nat.{ℕ, zero, suc, ◌+◌, ◌*◌, ◌/◌, ◌%◌, ◌^◌}
use native.Mathlib.Nat.{div-one, div-div-eq-div-mul, pow-succ', zero-div}
use native.Mathlib.Omega.{arith}
use lib.ListN.{length}
use lib.Dec.{eqb}
use Rattle.std.specs.Prelude.{Ok}
use Rattle.machine.specs.declared.Mode.{Mode}
use Rattle.machine.specs.declared.Interrupts.{Interrupts}
use Rattle.machine.specs.declared.Shift.{Shift}
use Rattle.machine.specs.declared.Edge.TheVariants.{On, Over}
use Rattle.machine.specs.declared.Command.{Command}
use Rattle.machine.specs.declared.Command.TheVariants.{Setup, Write, Read, Tick, LineStep, Unknown}
use Rattle.machine.specs.Element.{level_of, number_of, word_of}
use Rattle.machine.specs.Core.{Core, setup}
use Rattle.machine.specs.Registers.{control_word, mode_of, interrupt_word, interrupts_of}
use Rattle.machine.specs.Transfer.{edge_at, edge, changed_at, changed, sending_at, sending}
use Rattle.machine.specs.Records.{is_unknown, is_out_of_turn, log_size}
use Rattle.machine.specs.Play.{bare, running, carry}

-- ---- what is written to a register is what it reads

nth : List Bool → ℕ → Bool
nth [] k = false
nth (b ∷ bs) zero = b
nth (b ∷ bs) (suc k) = nth bs k

-- a word has the bits that it is made of, each at its place
word_bit : (bs : List Bool) (k : ℕ) → level_of (word_of bs) k ≡ nth bs k
unfolding word_of nth
word_bit [] k = rw zero-div
word_bit (b ∷ bs) zero = rw div-one (go b)
  where
    go : (b : Bool) → eqb ((number_of b + 2 * word_of bs) % 2) 1 ≡ b
    go true = let odd : (1 + 2 * word_of bs) % 2 ≡ 1 = omega arith in rw odd
    go false = let even : (0 + 2 * word_of bs) % 2 ≡ 0 = omega arith in rw even
word_bit (b ∷ bs) (suc k) = rw (pow-succ' 2 k, ← div-div-eq-div-mul (number_of b + 2 * word_of bs) 2 (2 ^ k), half b) (word_bit bs k)
  where
    half : (b : Bool) → (number_of b + 2 * word_of bs) / 2 ≡ word_of bs
    half true = omega arith
    half false = omega arith

pub mode_again : (m : Mode) → mode_of (control_word m) ≡ m
unfolding mode_of control_word nth
mode_again m =
    let bit = word_bit
    (m.loopback ∷ m.enable ∷ m.master ∷ m.cpol ∷ m.cpha ∷ false ∷ false ∷ m.manual ∷ m.inhibit ∷ m.lsb ∷ []) in
    λ i. record {
      loopback = bit 0 i;
      enable = bit 1 i;
      master = bit 2 i;
      cpol = bit 3 i;
      cpha = bit 4 i;
      manual = bit 7 i;
      inhibit = bit 8 i;
      lsb = bit 9 i;
    }

pub interrupts_again : (j : Interrupts) → interrupts_of (interrupt_word j) ≡ j
unfolding interrupts_of interrupt_word nth
interrupts_again j =
    let bit = word_bit
    (j.modf ∷ j.smodf ∷ j.emptied ∷ j.underrun ∷ j.filled ∷ j.overrun ∷ j.half ∷ j.selected ∷ j.arrived ∷ []) in
    λ i. record {
      modf = bit 0 i;
      smodf = bit 1 i;
      emptied = bit 2 i;
      underrun = bit 3 i;
      filled = bit 4 i;
      overrun = bit 5 i;
      half = bit 6 i;
      selected = bit 7 i;
      arrived = bit 8 i;
    }

-- ---- a slave's MISO changes at its edges as a master's MOSI does

same_shift : (s t : Shift) → On s ≡ On t → s ≡ t
same_shift s t e = cc

never : (got : ℕ) (t : Shift) → Over got ≡ On t → ⊥
never got t e = let z : ◌≡◌ {A = ℕ} 0 1 = cc in omega arith

pub sends_what_changes : (cpha : Bool) (n : ℕ) (b : Bool) (s t : Shift) → edge cpha n b s ≡ On t → sending cpha t ≡ changed cpha s (sending cpha s)
unfolding edge changed sending
sends_what_changes cpha n b s t = go s.left s.odd cpha
  where
    go : (left : ℕ) (odd cpha : Bool) → edge_at left odd cpha n b s ≡ On t
        → sending_at t.left t.odd cpha t.out ≡ changed_at odd cpha left s.out (sending_at left odd cpha s.out)
    go zero odd cpha e = absurd (never s.got t e)
    go (suc k) false false e = rw (← same_shift _ t e)
    go (suc k) false true e = rw (← same_shift _ t e)
    go (suc zero) true cpha e = absurd (never _ t e)
    go (suc (suc k)) true false e = rw (← same_shift _ t e)
    go (suc (suc k)) true true e = rw (← same_shift _ t e)

-- ---- the size that a log record is judged by is its size

pub logged : (c : Core) (k : Command) → is_unknown k ≡ false → is_out_of_turn true k ≡ false → length (carry (running c) k).log ≡ log_size k
unfolding carry
logged c (Setup w d k) known turn = absurd (true≢false turn)
logged c (Write o l v) known turn = refl
logged c (Read o l) known turn = refl
logged c (Tick m) known turn = refl
logged c (LineStep l) known turn = refl
logged c (Unknown k) known turn = absurd (true≢false known)

pub logged_setup : (w d k : ℕ) (c : Core) → setup w d k ≡ Ok c → length (carry bare (Setup w d k)).log ≡ log_size (Setup w d k)
unfolding carry
logged_setup w d k c e = rw e
