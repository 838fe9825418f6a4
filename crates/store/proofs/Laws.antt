-- What the cells hold, for each return of the crate's functions. Assumes nothing.
use Prim.Native.Nat.{ℕ, zero, suc, ◌+◌, ◌-◌, ◌%◌, ◌<◌, ◌≤◌, min}
use mathlib.Core.Path.{◌≡◌, refl, sym, ap, ◌∙◌}
use mathlib.Core.List.{List, [], ◌∷◌, ◌++◌, append-nil}
use mathlib.Core.Bool.{Bool, true, false, true≢false}
use native.Mathlib.Omega.{arith}
use native.Mathlib.Numerals.{sub-one, add-one}
use borrow.Author.Tests.{lt-leb, le-leb, leb-true, leb-false}
use lib.ListN.{length, get_or, set}
use lib.Dec.{leb, eqb, eqb-suc-zero}
use lib.Seq.{get_or-set_same, get_or-set_other}
use Rattle.std.specs.Prelude.{Err}
use Rattle.machine.specs.Store.{empty, full, first, rest, added}
use Rattle.store.specs.Cells.{from, Puts}

-- ---- of `from`, by recursion on the count

from_length : (n h : ℕ) (cells : List ℕ) → length (from n h cells) ≡ n
unfolding from
from_length zero h cells = refl
from_length (suc n) h cells = ap suc (from_length n (h + 1) cells)

-- a cell's number counts modulo 256
from_same : (n a b : ℕ) (cells : List ℕ) → a % 256 ≡ b % 256 → from n a cells ≡ from n b cells
unfolding from
from_same zero a b cells e = refl
from_same (suc n) a b cells e = rw (e, from_same n (a + 1) (b + 1) cells (omega arith))

-- an element in the cell behind the last stands at the end: no earlier one stands in that cell
from_put : (n h i : ℕ) (cells : List ℕ) (x : ℕ) → n < 256 → i ≡ (h + n) % 256 → i < length cells
    → from (suc n) h (set cells i x) ≡ from n h cells ++ (x ∷ [])
unfolding from
from_put zero h i cells x small at inside =
    let e : h % 256 ≡ i = omega arith in
    rw (e, get_or-set_same cells i x 0 inside)
from_put (suc n) h i cells x small at inside =
    rw (get_or-set_other cells i (h % 256) x 0 (omega arith), from_put n (h + 1) i cells x (omega arith) (omega arith) inside)

pub none : (cells : List ℕ) → from 0 0 cells ≡ []
unfolding from
none cells = refl

-- a full store holds what it held
pub not_stored : {A E : Type 0} (l : List ℕ) (room x : ℕ) (e : E) → full (min room 256) l ≡ true → Puts {A = A} l room x (Err e) l
not_stored l room x e long = record { stored = rw long; holds = rw (long, append-nil); same = λ _. refl }

-- ---- of a store with n elements from cell h on

module _ (n h : ℕ) (cells : List ℕ) where
  pub counted : n ≡ length (from n h cells)
  counted = sym (from_length n h cells)

  pub is_empty : eqb n 0 ≡ empty (from n h cells)
  unfolding from
  is_empty = go n
    where
      go : (n : ℕ) → eqb n 0 ≡ empty (from n h cells)
      go zero = refl
      go (suc n) = eqb-suc-zero n

  pub is_first : empty (from n h cells) ≡ false → get_or cells (h % 256) 0 ≡ first (from n h cells)
  unfolding from
  is_first = go n
    where
      go : (n : ℕ) → empty (from n h cells) ≡ false → get_or cells (h % 256) 0 ≡ first (from n h cells)
      go zero some = absurd (true≢false some)
      go (suc n) some = refl

  pub taken : 1 ≤ n → from (n - 1) (h % 256 + 1) cells ≡ rest (from n h cells)
  unfolding from
  taken = go n
    where
      go : (n : ℕ) → 1 ≤ n → from (n - 1) (h % 256 + 1) cells ≡ rest (from n h cells)
      go zero some = absurd (omega arith)
      go (suc n) some = rw sub-one (from_same n (h % 256 + 1) (h + 1) cells (omega arith))

  pub none_taken : n ≡ 0 → from n h cells ≡ rest (from n h cells)
  unfolding from
  none_taken e = rw e

  pub no_room : (room : ℕ) → room ≤ n → leb room n ≡ full (min room 256) (from n h cells)
  no_room room many = le-leb room n many ∙ sym (le-leb (min room 256) (length (from n h cells)) (omega (arith, counted)))

  pub no_cell : (room : ℕ) → n < room → leb 256 n ≡ full (min room 256) (from n h cells)
  no_cell room few = go (leb 256 n) refl
    where
      go : (b : Bool) → leb 256 n ≡ b → b ≡ full (min room 256) (from n h cells)
      go true e = sym (le-leb (min room 256) (length (from n h cells)) (omega (arith, leb-true, counted)))
      go false e = sym (lt-leb (min room 256) (length (from n h cells)) (omega (arith, leb-false, counted)))

  -- where `is_full` says no
  module _ (room : ℕ) (short : full (min room 256) (from n h cells) ≡ false) where
    pub few : n < 256
    few = omega (arith, leb-false (min room 256) (length (from n h cells)) short, counted)

    pub stored : (x : ℕ) → length cells ≡ 256
        → from (n + 1) h (set cells ((h % 256 + n) % 256) x) ≡ added (min room 256) (from n h cells) x
    stored x all = rw (short, add-one) (from_put n h _ cells x few (omega arith) (omega arith))
