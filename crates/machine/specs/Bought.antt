-- "The core as bought": what setup allows, and the numbers that follow from it. Assumes nothing.
use Rattle.std.specs.Prelude.{Bool, not, ◌&&◌, ◌||◌, cond, ℕ, zero, suc, ◌+◌, ◌/◌, min, leb, eqb, Result, Ok, Err}
use Rattle.machine.specs.declared.Setup.{Setup}
use Rattle.machine.specs.declared.SetupRefusal.{SetupRefusal}
use Rattle.machine.specs.declared.SetupRefusal.TheVariants.{Width, Depth, Slaves}

-- "Width N is 8, 16 or 32."
abbrev pub is_width : ℕ → Bool
is_width n = eqb n 8 || eqb n 16 || eqb n 32

-- "FIFO depth is 0 or 16"
abbrev pub is_depth : ℕ → Bool
is_depth d = eqb d 0 || eqb d 16

-- "Slave count K is 1 to 32."
abbrev pub is_slaves : ℕ → Bool
is_slaves k = leb 1 k && leb k 32

-- the core as bought, or what setup refuses
abbrev pub Bought : Type 0
Bought = Result Setup SetupRefusal

-- "Setup refusals, in order, yield no core: 1 width, 2 depth, 3 slave count."
unfoldable pub bought : ℕ → ℕ → ℕ → Bought
bought n d k =
    cond (not (is_width n)) (Err Width)
    (cond (not (is_depth d)) (Err Depth)
    (cond (not (is_slaves k)) (Err Slaves)
    (Ok (record { width = n; depth = d; slaves = k }))))

abbrev pub number_of_setup_refusal : SetupRefusal → ℕ
number_of_setup_refusal Width = 1
number_of_setup_refusal Depth = 2
number_of_setup_refusal Slaves = 3

-- 0 where setup refuses nothing
abbrev pub setup_number : Bought → ℕ
setup_number (Ok z) = 0
setup_number (Err e) = number_of_setup_refusal e

-- N and K. The bounds change nothing that setup allows: an element and the select lines are 32 bits at most
abbrev pub bits_of : Setup → ℕ
bits_of z = min z.width 32

abbrev pub lines_of : Setup → ℕ
lines_of z = min z.slaves 32

-- "at depth 0 each store holds one element"; a store has 256 cells at most
abbrev pub holds : ℕ → ℕ
holds zero = 1
holds (suc d) = min (suc d) 256

abbrev pub room_of : Setup → ℕ
room_of z = holds z.depth

-- what document 01 says of depth 16 it says of a core with FIFOs
abbrev pub has_fifo : Setup → Bool
has_fifo z = not (eqb z.depth 0)

-- IPISR bit 6: "(depth 16: a finish takes 9 elements to 8, that is the occupancy register from 8 to 7)": from one more than half the
-- depth
abbrev pub over_half : Setup → ℕ
over_half z = z.depth / 2 + 1
