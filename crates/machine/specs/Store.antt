-- A store is the list of its elements, the first one in first. Assumes nothing.
use Rattle.std.specs.Prelude.{Bool, true, false, cond, List, [], ◌∷◌, ◌++◌, ℕ, ◌-◌, length, leb}

abbrev pub empty : List ℕ → Bool
empty [] = true
empty (x ∷ l) = false

abbrev pub full : ℕ → List ℕ → Bool
full room l = leb room (length l)

-- the head, 0 where there is none
abbrev pub first : List ℕ → ℕ
first [] = 0
first (x ∷ l) = x

-- what stays when the head leaves
abbrev pub rest : List ℕ → List ℕ
rest [] = []
rest (x ∷ l) = l

-- x behind the others, unless the store is full
abbrev pub added : ℕ → List ℕ → ℕ → List ℕ
added room l x = l ++ cond (full room l) [] (x ∷ [])

-- "Occupancy reads as elements minus one, and 0 when empty."
abbrev pub occupancy : List ℕ → ℕ
occupancy l = length l - 1
