-- The proved table: the bench sheet's starred rows, and the whole example of "Scripts and logs", computed by the definitions.
-- Assumes nothing.
use mathlib.Core.Path.{◌≡◌, refl}
use mathlib.Core.Bool.{true}
use mathlib.Core.List.{List, [], ◌∷◌, ◌++◌}
use Prim.Native.Nat.{ℕ, zero, suc}
use lib.ListN.{replicate}
use lib.Chars.{codes}
use Rattle.std.specs.Fmt.{digits}
use Rattle.machine.specs.declared.SetupRefusal.TheVariants.{Slaves}
use Rattle.machine.specs.declared.Refusal.TheVariants.{TxFull}
use Rattle.machine.specs.declared.Side.{Side}
use Rattle.machine.specs.declared.Side.TheVariants.{Master, Slave}
use Rattle.machine.specs.declared.Access.TheVariants.{Write, Read}
use Rattle.machine.specs.Core.{Core, power_on}
use Rattle.machine.specs.Access.{refusal_number, answer_value, read, write}
use Rattle.machine.specs.Words.{setup_refusal_text, refusal_text}
use Rattle.machine.specs.Transfer.{finish, finish_outcome}
use Rattle.machine.specs.Master.{tick}
use Rattle.machine.specs.Element.{reversed}
use Rattle.machine.specs.Bench.{Bench, join, access_on, tick_bench}
use Rattle.machine.specs.Play.{program}

-- ---- the sheet's words

abbrev IPISR : ℕ
IPISR = 0x20

abbrev SRR : ℕ
SRR = 0x40

abbrev SPICR : ℕ
SPICR = 0x60

abbrev SPISR : ℕ
SPISR = 0x64

abbrev SPIDTR : ℕ
SPIDTR = 0x68

abbrev SPIDRR : ℕ
SPIDRR = 0x6C

abbrev SPISSR : ℕ
SPISSR = 0x70

abbrev tx_occupancy : ℕ
tx_occupancy = 0x74

-- width, depth and slave count
unfoldable core : ℕ → ℕ → ℕ → Core
unfolding power_on
core n d k = power_on (record { width = n; depth = d; slaves = k })

-- a core after values were written to registers, and the refusals that the writes got
unfoldable after : List (ℕ × ℕ) → Core → Core
unfolding write
after [] c = c
after (w ∷ ws) c = after ws (write w.0 15 w.1 c).core

unfoldable writes_get : List (ℕ × ℕ) → Core → List ℕ
unfolding write
writes_get [] c = []
writes_get (w ∷ ws) c = refusal_number (write w.0 15 w.1 c).answer ∷ writes_get ws (write w.0 15 w.1 c).core

-- a core after ticks with MISO high, as it reads undriven
unfoldable ticked : ℕ → Core → Core
unfolding tick finish finish_outcome
ticked zero c = c
ticked (suc n) c = ticked n (tick true c).core

-- what a register reads, and the refusal that a read of it gets
unfoldable reads : ℕ → Core → ℕ
unfolding read
reads offset c = answer_value (read offset 15 c).answer

unfoldable read_gets : ℕ → Core → ℕ
unfolding read
read_gets offset c = refusal_number (read offset 15 c).answer

-- a bench after values were written to registers of its sides, and after ticks
unfoldable bench_after : List (Side × (ℕ × ℕ)) → Bench → Bench
unfolding access_on
bench_after [] b = b
bench_after (w ∷ ws) b = bench_after ws (access_on w.0 (Write w.1.0 15 w.1.1) b).bench

unfoldable bench_ticked : ℕ → Bench → Bench
unfolding tick_bench finish finish_outcome reversed
bench_ticked zero b = b
bench_ticked (suc n) b = bench_ticked n (tick_bench b).bench

unfoldable bench_reads : Side → ℕ → Bench → ℕ
unfolding access_on
bench_reads side offset b = answer_value (access_on side (Read offset 15) b).answer

-- ---- the rows

-- "SPISR at power-on 0x25."
at_power_on : reads SPISR (core 8 16 1) ≡ 0x25
unfolding reads core
at_power_on = refl

-- "After one SPIDTR write: 0x21 at depth 16, .."
one_written_16 : reads SPISR (after ((SPIDTR, 0x35) ∷ []) (core 8 16 1)) ≡ 0x21
unfolding reads after core
one_written_16 = refl

-- ".. 0x29 at depth 0."
one_written_0 : reads SPISR (after ((SPIDTR, 0x35) ∷ []) (core 8 0 1)) ≡ 0x29
unfolding reads after core
one_written_0 = refl

-- "16 writes accepted, the 17th gets 12; .."
seventeen_writes : writes_get (replicate 17 (SPIDTR, 0x35)) (core 8 16 1) ≡ replicate 16 0 ++ (12 ∷ [])
unfolding writes_get core
seventeen_writes = refl

-- ".. occupancy then 15."
occupancy_then : reads tx_occupancy (after (replicate 17 (SPIDTR, 0x35)) (core 8 16 1)) ≡ 15
unfolding reads after core
occupancy_then = refl

-- "SPIDRR read at power-on gets 13."
nothing_to_read : read_gets SPIDRR (core 8 16 1) ≡ 13
unfolding read_gets core
nothing_to_read = refl

-- "SRR 0x0B gets 14."
reset_0_b : writes_get ((SRR, 0x0B) ∷ []) (core 8 16 1) ≡ 14 ∷ []
unfolding writes_get core
reset_0_b = refl

-- "K=2, SPISSR 0 gets 15; .."
two_selected : writes_get ((SPISSR, 0) ∷ []) (core 8 16 2) ≡ 15 ∷ []
unfolding writes_get core
two_selected = refl

-- ".. 1 is kept."
one_selected : reads SPISSR (after ((SPISSR, 1) ∷ []) (core 8 16 2)) ≡ 1
unfolding reads after core
one_selected = refl

-- "SPICR 0x87, N=8, write 0x35: after 18 ticks .."
abbrev loopback : ℕ → Core
loopback depth = ticked 18 (after ((SPICR, 0x87) ∷ (SPIDTR, 0x35) ∷ []) (core 8 depth 1))

-- ".. SPIDRR reads 0x35; .."
loopback_reads : reads SPIDRR (loopback 16) ≡ 0x35
unfolding reads ticked after core
loopback_reads = refl

-- ".. IPISR is 0x4 at depth 16, .."
loopback_flags_16 : reads IPISR (loopback 16) ≡ 0x4
unfolding reads ticked after core
loopback_flags_16 = refl

-- ".. 0x14 at depth 0."
loopback_flags_0 : reads IPISR (loopback 0) ≡ 0x14
unfolding reads ticked after core
loopback_flags_0 = refl

-- "LSB-first master, MSB-first slave, 0x35: slave receives 0xAC." SPICR 0x82 is an enabled slave, 0x286 an enabled master, LSB first
mixed_bit_order :
    bench_reads Slave SPIDRR
    (bench_ticked 18
    (bench_after
    ((Slave, (SPICR, 0x82)) ∷ (Master, (SPICR, 0x286)) ∷ (Master, (SPISSR, 0)) ∷ (Master, (SPIDTR, 0x35)) ∷ [])
    (join (core 8 16 1) (core 8 16 1)).bench))
    ≡ 0xAC
unfolding bench_reads bench_ticked bench_after join core
mixed_bit_order = refl

-- refusals as they are printed
setup_printed : setup_refusal_text Slaves ≡ codes "3: slave count"
unfolding digits
setup_printed = refl

refusal_printed : refusal_text TxFull ≡ codes "12: SPIDTR written while its store is full"
unfolding digits
refusal_printed = refl

-- "Whole example, in: .. Out: .."
whole_example :
    program (0x03 ∷ 0x00 ∷ 0x00 ∷ 0x00 ∷ 0x08 ∷ 0x10 ∷ 0x01 ∷ 0x03 ∷ 0x00 ∷ 0x02 ∷ 0x00 ∷ 0x64 ∷ 0x00 ∷ 0x0F ∷ [])
    ≡ 0x01 ∷ 0x00 ∷ 0x00 ∷ 0x80 ∷ 0x00 ∷ 0x05 ∷ 0x00 ∷ 0x02 ∷ 0x80 ∷ 0x00 ∷ 0x25 ∷ 0x00 ∷ 0x00 ∷ 0x00 ∷ 0x05 ∷ 0x00 ∷ 0xFF ∷ 0xFF ∷ 0x00 ∷ 0x0E ∷ 0x00 ∷ 0x00 ∷ 0x00 ∷ []
unfolding program
whole_example = refl
