-- A register's word, made from its last bit on. Assumes nothing.
use Prim.Native.Nat.{ℕ, ◌+◌, ◌*◌, ◌^◌, ◌<◌, ◌≤◌}
use mathlib.Core.Path.{◌≡◌, refl}
use mathlib.Core.Bool.{Bool, true, false}
use mathlib.Core.List.{List, [], ◌∷◌, ◌++◌}
use lib.ListN.{length}
use lib.Pow.{pow_mono}
use native.Mathlib.Nat.{pow-succ'}
use native.Mathlib.Omega.{arith}
use Rattle.machine.specs.Element.{number_of, word_of}

-- the word of these bits where the word `high` stands behind them
unfoldable pub onto : List Bool → ℕ → ℕ
onto [] high = high
onto (b ∷ bs) high = number_of b + 2 * onto bs high

pub onto_zero : (bs : List Bool) → onto bs 0 ≡ word_of bs
unfolding onto word_of
onto_zero [] = refl
onto_zero (b ∷ bs) = rw (onto_zero bs)

pub onto_none : (bs : List Bool) (high : ℕ) → length bs ≡ 0 → onto bs high ≡ high
unfolding onto
onto_none [] high none = refl
onto_none (b ∷ bs) high none = absurd (omega arith)

pub onto_last : (bs : List Bool) (b : Bool) (high : ℕ) → onto (bs ++ b ∷ []) high ≡ onto bs (2 * high + number_of b)
unfolding onto
onto_last [] b high = omega arith
onto_last (x ∷ bs) b high = rw (onto_last bs b high)

pub onto_least : (bs : List Bool) (high : ℕ) → high ≤ onto bs high
unfolding onto
onto_least [] high = omega arith
onto_least (b ∷ bs) high = omega (arith, onto_least bs high)

word_below : (bs : List Bool) → word_of bs < 2 ^ length bs
unfolding word_of
word_below [] = omega arith
word_below (true ∷ bs) = rw (pow-succ' 2 (length bs)) (omega (arith, word_below bs))
word_below (false ∷ bs) = rw (pow-succ' 2 (length bs)) (omega (arith, word_below bs))

pub word_fits : (bs : List Bool) → length bs ≤ 32 → word_of bs < 2 ^ 32
word_fits bs few = omega (arith, word_below bs, pow_mono {i = length bs} {j = 32} few)

pub ruleset words = (onto_zero, onto_none, onto_last, onto_least, word_fits)
