-- "When the bus says SLVERR": reads and writes of the registers, and their refusals. Assumes nothing.
use Rattle.std.specs.Prelude.{Bool, false, ◌&&◌, cond, ℕ, zero, suc, ◌+◌, ◌-◌, ◌%◌, ◌^◌, leb, eqb, Result, Ok, Err}
use Rattle.machine.specs.declared.Register.{Register}
use Rattle.machine.specs.declared.Register.TheVariants.{Dgier, Ipisr, Ipier, Srr, Spicr, Spisr, Spidtr, Spidrr, Spissr, TxOccupancy, RxOccupancy}
use Rattle.machine.specs.declared.Place.{Place}
use Rattle.machine.specs.declared.Place.TheVariants as place
use Rattle.machine.specs.declared.Flags.{Flags}
use Rattle.machine.specs.declared.Access.{Access}
use Rattle.machine.specs.declared.Access.TheVariants.{Write, Read}
use Rattle.machine.specs.declared.Refusal.{Refusal}
use Rattle.machine.specs.declared.Refusal.TheVariants.{LanesOrOffset, NoRegister, TxFull, RxEmpty, ResetValue, TwoSelected}
use Rattle.machine.specs.Element.{bit_of, element_of}
use Rattle.machine.specs.Bought.{bits_of, lines_of, room_of}
use Rattle.machine.specs.Store.{empty, full, first, rest, added, occupancy}
use Rattle.machine.specs.Core.{Core, keep, flagged}
use Rattle.machine.specs.Registers.{place_of, control_word, status_word, interrupt_word, interrupts_of, toggled, global_word, global_of}
use Rattle.machine.specs.Control.{controlled, reset_again}

-- OKAY with a value, or SLVERR for a refusal. "DECERR is never issued (003)."
abbrev pub Answer : Type 0
Answer = Result ℕ Refusal

abbrev pub number_of_refusal : Refusal → ℕ
number_of_refusal LanesOrOffset = 10
number_of_refusal NoRegister = 11
number_of_refusal TxFull = 12
number_of_refusal RxEmpty = 13
number_of_refusal ResetValue = 14
number_of_refusal TwoSelected = 15

-- the refusal's number; 0 where there is none
abbrev pub refusal_number : Answer → ℕ
refusal_number (Ok v) = 0
refusal_number (Err e) = number_of_refusal e

-- "All refusals below give value 0 .."
abbrev pub answer_value : Answer → ℕ
answer_value (Ok v) = v
answer_value (Err e) = 0

pub record Answered : Type 0 where
  pub answer : Answer
  pub core : Core

-- ".. and an unchanged core."
abbrev pub refuse : Refusal → Core → Answered
refuse e c = record { answer = Err e; core = c }

abbrev pub accept : ℕ → Core → Answered
accept v c = record { answer = Ok v; core = c }

-- ---- writes

-- IPISR: "writing 1 to a bit toggles it"
abbrev pub toggle : ℕ → Flags → Flags
toggle v f = record { ipisr = toggled f.ipisr (interrupts_of v); ipier = f.ipier; dgier = f.dgier; modf = f.modf }

-- IPIER "bits 0 to 8"
abbrev pub allow : ℕ → Flags → Flags
allow v f = record { ipisr = f.ipisr; ipier = interrupts_of v; dgier = f.dgier; modf = f.modf }

-- DGIER "bit 31 only"
abbrev pub allow_all : ℕ → Flags → Flags
allow_all v f = record { ipisr = f.ipisr; ipier = f.ipier; dgier = global_of v; modf = f.modf }

-- 12: "SPIDTR written while its store is full"
unfoldable pub write_tx : ℕ → Core → Answered
write_tx v c =
    cond (full (room_of c.setup) c.held.tx) (refuse TxFull c)
    (accept 0
    (keep
    (record {
      tx = added (room_of c.setup) c.held.tx (element_of (bits_of c.setup) v);
      rx = c.held.rx;
      flags = c.held.flags;
    })
    c))

-- 14: "SRR written with another value": "write 0x0000000A resets"
unfoldable pub write_reset : ℕ → Core → Answered
unfolding reset_again
write_reset v c = cond (eqb v 0xA) (accept 0 (reset_again c)) (refuse ResetValue c)

unfoldable pub zeros_in : ℕ → ℕ → ℕ
zeros_in zero v = 0
zeros_in (suc k) v = zeros_in k v + (1 - bit_of v k)

abbrev pub selecting : ℕ → Core → Core
selecting v c = record {
  setup = c.setup;
  mode = c.mode;
  select = v;
  held = c.held;
  transfer = c.transfer;
  mosi = c.mosi;
  seen = c.seen;
  sitting = c.sitting;
}

-- 15: "SPISSR written with two or more zeros in its K bits"
unfoldable pub write_select : ℕ → Core → Answered
unfolding zeros_in
write_select v c =
    cond (leb 2 (zeros_in (lines_of c.setup) v)) (refuse TwoSelected c)
    (accept 0 (selecting (v % 2 ^ lines_of c.setup) c))

-- "writing a read-only one answers OKAY and changes nothing"
unfoldable pub write_to : Register → ℕ → Core → Answered
unfolding write_tx write_reset write_select controlled interrupts_of toggled
write_to Dgier v c = accept 0 (flagged (allow_all v c.held.flags) c)
write_to Ipisr v c = accept 0 (flagged (toggle v c.held.flags) c)
write_to Ipier v c = accept 0 (flagged (allow v c.held.flags) c)
write_to Srr v c = write_reset v c
write_to Spicr v c = accept 0 (controlled v c)
write_to Spisr v c = accept 0 c
write_to Spidtr v c = write_tx v c
write_to Spidrr v c = accept 0 c
write_to Spissr v c = write_select v c
write_to TxOccupancy v c = accept 0 c
write_to RxOccupancy v c = accept 0 c

-- ---- reads

-- "Reading SPISR clears MODF after the read."
unfoldable pub read_status : Core → Answered
unfolding status_word
read_status c =
    accept (status_word c)
    (flagged
    (record {
      ipisr = c.held.flags.ipisr;
      ipier = c.held.flags.ipier;
      dgier = c.held.flags.dgier;
      modf = false;
    })
    c)

-- 13: "SPIDRR read while its store is empty"
unfoldable pub read_rx : Core → Answered
read_rx c =
    cond (empty c.held.rx) (refuse RxEmpty c)
    (accept (first c.held.rx)
    (keep (record { tx = c.held.tx; rx = rest c.held.rx; flags = c.held.flags }) c))

-- "Reading a write-only register answers OKAY and 0"
unfoldable pub read_from : Register → Core → Answered
unfolding read_status read_rx control_word interrupt_word
read_from Dgier c = accept (global_word c.held.flags.dgier) c
read_from Ipisr c = accept (interrupt_word c.held.flags.ipisr) c
read_from Ipier c = accept (interrupt_word c.held.flags.ipier) c
read_from Srr c = accept 0 c
read_from Spicr c = accept (control_word c.mode) c
read_from Spisr c = read_status c
read_from Spidtr c = accept 0 c
read_from Spidrr c = read_rx c
read_from Spissr c = accept c.select c
read_from TxOccupancy c = accept (occupancy c.held.tx) c
read_from RxOccupancy c = accept (occupancy c.held.rx) c

-- ---- "Checked in this order": 10, 11, then the register's own

-- 10: "lanes other than 15, or offset not a multiple of 4"
abbrev pub whole_word : ℕ → ℕ → Bool
whole_word offset lanes = eqb lanes 15 && eqb (offset % 4) 0

-- 11: "An offset that no register answers ends the access there, before its value is looked at."
abbrev pub write_at : Place → ℕ → Core → Answered
write_at (place.Register r) v c = write_to r v c
write_at place.Nothing v c = refuse NoRegister c

abbrev pub read_at : Place → Core → Answered
read_at (place.Register r) c = read_from r c
read_at place.Nothing c = refuse NoRegister c

unfoldable pub write : ℕ → ℕ → ℕ → Core → Answered
unfolding place_of write_to
write offset lanes v c =
    cond (whole_word offset lanes) (write_at (place_of c.setup offset) v c) (refuse LanesOrOffset c)

unfoldable pub read : ℕ → ℕ → Core → Answered
unfolding place_of read_from
read offset lanes c = cond (whole_word offset lanes) (read_at (place_of c.setup offset) c) (refuse LanesOrOffset c)

abbrev pub access : Access → Core → Answered
access (Write offset lanes v) c = write offset lanes v c
access (Read offset lanes) c = read offset lanes c
