-- What toggling and all ones come to, in plain variables. Assumes nothing.
use Prim.Native.Nat.{ℕ, ◌+◌, ◌-◌, ◌^◌, min}
use mathlib.Core.Path.{◌≡◌, refl}
use mathlib.Core.Bool.{Bool, true, false, not, ◌&&◌, ◌||◌, beq}
use Rattle.std.proofs.Math.Bool.{or_assoc}
use native.Mathlib.Omega.{arith}
use lib.Pow.{pow_pos, not_mod}
use Rattle.machine.specs.Element.{element_of}
use Rattle.machine.specs.declared.Mode.{Mode}
use Rattle.machine.specs.Registers.{differ}
use Rattle.machine.specs.Control.{changes}

-- the code's `^` and `!=` are the definition's `differ`
pub differs : (a b : Bool) → not (beq a b) ≡ differ a b
differs true true = refl
differs true false = refl
differs false true = refl
differs false false = refl

not_both : (a b : Bool) → not (a && b) ≡ (not a || not b)
not_both true b = refl
not_both false b = refl

same_differs : (a : Bool) → differ a a ≡ false
same_differs true = refl
same_differs false = refl

-- the derived `!=`, field by field, where bit 8 is the same
pub changes_of_ne : (m n : Mode)
    → not
    (beq m.loopback n.loopback
    && (beq m.enable n.enable
    && (beq m.master n.master
    && (beq m.cpol n.cpol
    && (beq m.cpha n.cpha && (beq m.manual n.manual && (beq n.inhibit n.inhibit && beq m.lsb n.lsb)))))))
    ≡ changes m n
changes_of_ne m n = simp (not_both, differs, same_differs, or_assoc)

-- 2^32 - 1, cut to its last bits
pub all_ones : (k : ℕ) → element_of (min k 32) 4294967295 ≡ 2 ^ min k 32 - 1
all_ones k =
    let whole : 32 - min k 32 + min k 32 ≡ 32 = omega arith in
    let cut = rw whole at (not_mod {a = 0} (32 - min k 32) (min k 32) (pow_pos (min k 32))) in
    omega arith
