-- Elements, and the bits that a line shows of them. Assumes nothing.
use Rattle.std.specs.Prelude.{Bool, true, false, List, [], ◌∷◌, ℕ, zero, suc, ◌+◌, ◌*◌, ◌/◌, ◌%◌, ◌^◌, eqb}

-- the bit of x that has k bits after it, as a number and as a level
abbrev pub bit_of : ℕ → ℕ → ℕ
bit_of x k = x / 2 ^ k % 2

abbrev pub level_of : ℕ → ℕ → Bool
level_of x k = eqb (bit_of x k) 1

abbrev pub number_of : Bool → ℕ
number_of false = 0
number_of true = 1

-- a register's word, from its bits: bit 0 first
unfoldable pub word_of : List Bool → ℕ
word_of [] = 0
word_of (b ∷ bs) = number_of b + 2 * word_of bs

-- "Elements are N bits: a write to SPIDTR keeps the value modulo 2^N."
abbrev pub element_of : ℕ → ℕ → ℕ
element_of n v = v % 2 ^ n

-- the n last bits of x in the opposite order
unfoldable pub reversed : ℕ → ℕ → ℕ
reversed zero x = 0
reversed (suc k) x = 2 * reversed k x + bit_of x k

-- SPICR bit 9, LSB first: an element as the wire has it, first bit on top. From the wire back it is the same turn
abbrev pub wire : Bool → ℕ → ℕ → ℕ
wire false n x = x
wire true n x = reversed n x

-- the first bit on the wire: the top one, as elements go MSB first unless SPICR bit 9 turns them (000, Table 6)
abbrev pub first_level : ℕ → ℕ → Bool
first_level zero x = false
first_level (suc k) x = level_of x k

-- one more bit behind those that came in, in a shift register of n bits
abbrev pub shifted_in : ℕ → Bool → ℕ → ℕ
shifted_in n b got = (2 * got + number_of b) % 2 ^ n
