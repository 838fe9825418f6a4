-- The laws of bits and of `reversed`, over the width. Assumes nothing.
use mathlib.Core.Path.{◌≡◌, refl, sym, ◌∙◌}
use mathlib.Core.Bool.{Bool, true, false}
use Prim.Native.Nat.{ℕ, zero, suc, ◌+◌, ◌-◌, ◌*◌, ◌/◌, ◌%◌, ◌^◌, ◌<◌}
use native.Mathlib.Nat.{div-div-eq-div-mul, pow-suc, pow-succ', div-one, mod-one, mod-eq_of_lt, zero-div}
use native.Mathlib.Numerals.{one-add}
use native.Mathlib.Omega.{arith}
use lib.Dec.{eqb}
use lib.Pow.{mod-pow-add}
use Rattle.machine.specs.Element.{bit_of, level_of, number_of, reversed, wire}

-- ---- bits

-- one bit more: x without its k last bits is x without its k + 1 last bits, and then the bit that has k after it
pub grow : (x k : ℕ) → 2 * (x / 2 ^ suc k) + bit_of x k ≡ x / 2 ^ k
grow x k = rw (pow-suc, ← div-div-eq-div-mul x (2 ^ k) 2) (omega arith)

-- a level's number is the bit that it shows
pub number_level : (x k : ℕ) → number_of (level_of x k) ≡ bit_of x k
number_level x k = go (bit_of x k) (omega arith)
  where
    go : (b : ℕ) → b < 2 → number_of (eqb b 1) ≡ b
    go zero h = refl
    go (suc zero) h = refl
    go (suc (suc b)) h = absurd (omega arith)

-- ---- reversed

-- below 2^n, whatever is reversed
pub reversed_below : (n x : ℕ) → reversed n x < 2 ^ n
unfolding reversed
reversed_below zero x = omega arith
reversed_below (suc n) x = omega (arith, reversed_below n x)

-- the same from the other end
reversed_low : (n x : ℕ) → reversed (suc n) x ≡ (x % 2) * 2 ^ n + reversed n (x / 2)
unfolding reversed
reversed_low zero x = rw div-one (omega arith)
reversed_low (suc n) x =
    let e : x % 2 * 2 ^ suc n ≡ 2 * (x % 2 * 2 ^ n) = rw pow-suc (omega arith) in
    rw (div-div-eq-div-mul x 2 (2 ^ n), ← pow-succ' 2 n) (omega (arith, reversed_low n x))

reversed_again : (n x : ℕ) → reversed n (reversed n x) ≡ x % 2 ^ n
unfolding reversed
reversed_again zero x = sym (mod-one x)
reversed_again (suc n) x =
    let lo : (2 * reversed n x + bit_of x n) % 2 ≡ bit_of x n = omega arith in
    let hi : (2 * reversed n x + bit_of x n) / 2 ≡ reversed n x = omega arith in
    reversed_low n (reversed (suc n) x) ∙ rw (lo, hi, reversed_again n x, ← one-add n) (sym (mod-pow-add x 1 n))

-- twice is the element
pub reversed_twice : (n x : ℕ) → x < 2 ^ n → reversed n (reversed n x) ≡ x
reversed_twice n x small = reversed_again n x ∙ mod-eq_of_lt small

-- bit i goes to n - 1 - i
pub reversed_bit : (n i x : ℕ) → i < n → bit_of (reversed n x) (n - 1 - i) ≡ bit_of x i
unfolding reversed
reversed_bit n i x inside = go n (n - 1 - i) (omega arith)
  where
    go : (n j : ℕ) → n ≡ suc (j + i) → bit_of (reversed n x) j ≡ bit_of x i
    go zero j e = absurd (omega arith)
    go (suc n) zero e =
        let same : n ≡ i = omega arith in
        rw (div-one, same) (omega arith)
    go (suc n) (suc j) e =
        let hi : (2 * reversed n x + bit_of x n) / 2 ≡ reversed n x = omega arith in
        rw (pow-succ' 2 j, ← div-div-eq-div-mul (2 * reversed n x + bit_of x n) 2 (2 ^ j), hi) (go n j (omega arith))

reversed_zero : (n : ℕ) → reversed n 0 ≡ 0
unfolding reversed
reversed_zero zero = refl
reversed_zero (suc n) = rw (reversed_zero n, zero-div)

-- ---- an element on the wire, and back

pub wire_twice : (lsb : Bool) (n x : ℕ) → x < 2 ^ n → wire lsb n (wire lsb n x) ≡ x
wire_twice false n x small = refl
wire_twice true n x small = reversed_twice n x small

pub wire_below : (lsb : Bool) (n x : ℕ) → x < 2 ^ n → wire lsb n x < 2 ^ n
wire_below false n x small = small
wire_below true n x small = reversed_below n x

pub wire_zero : (lsb : Bool) (n : ℕ) → wire lsb n 0 ≡ 0
wire_zero false n = refl
wire_zero true n = reversed_zero n
