-- What the functions of the crate ensure, in plain variables. Assumes nothing.
use Prim.Native.Nat.{ℕ, ◌+◌, ◌*◌, ◌/◌, ◌^◌, ◌<◌, ◌≤◌}
use mathlib.Core.Path.{◌≡◌}
use mathlib.Core.Bool.{false}
use native.Mathlib.Nat.{div-eq_of_lt}
use native.Mathlib.Omega.{arith}
use lib.Pow.{pow_mono}
use Rattle.machine.specs.Element.{bit_of, level_of, reversed}
use Rattle.machine.proofs.Element.{reversed_below}

-- an element is below 2^32, so that it has no bit from 32 up
pub no_bit : (x k : ℕ) → x < 2 ^ 32 → 32 ≤ k → level_of x k ≡ false
no_bit x k small high =
    let none : x / 2 ^ k ≡ 0 = div-eq_of_lt (omega (arith, pow_mono {i = 32} {j = k} high)) in
    rw none

-- where i bits of x stand in the opposite order, one more fits
pub bit_fits : (x i : ℕ) → i < 32 → 2 * reversed i x + bit_of x i < 2 ^ 32
bit_fits x i inside = omega (arith, reversed_below i x, pow_mono {i = i} {j = 31} (omega arith))
