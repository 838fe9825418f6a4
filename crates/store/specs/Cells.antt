-- What the cells of a store hold, and what putting and taking promise of it. Assumes nothing.
use Rattle.std.specs.Prelude.{ℕ, zero, suc, ◌+◌, ◌%◌, min, ◌≡◌, List, [], ◌∷◌, false, not, get_or, Option, Some, None, Result}
use Rattle.std.specs.Result.{is_ok}
use Rattle.machine.specs.Store.{full, rest, added}
use Rattle.store.specs.declared.Ring.{Ring}
use Rattle.store.specs.declared.Store.{Store}

-- n elements from cell h on, round the 256 cells
unfoldable pub from : ℕ → ℕ → List ℕ → List ℕ
from zero h cells = []
from (suc n) h cells = get_or cells (h % 256) 0 ∷ from n (h + 1) cells

-- the elements of a ring over these cells, the first one first
abbrev pub held : Ring → List ℕ → List ℕ
held r cells = from r.count r.head cells

-- the elements of a store
abbrev pub elements : Store → List ℕ
elements s = held s.ring s.cells

-- no element, from cell 0 on
abbrev pub empty_ring : Ring
empty_ring = record { head = 0; count = 0 }

-- the first element, where there is one
abbrev pub front : List ℕ → Option ℕ
front [] = None
front (x ∷ l) = Some x

-- the first element leaves, handed out as `of` has it
pub record Takes {A : Type 0} (of : List ℕ → A) (old : List ℕ) (r : A) (new : List ℕ) : Type 0 where
  pub element : r ≡ of old
  pub holds : new ≡ rest old

-- x is put, unless the store is full; then it holds what it held
pub record Puts {A E : Type 0} (old : List ℕ) (room x : ℕ) (r : Result A E) (new : List ℕ) : Type 0 where
  pub stored : is_ok r ≡ not (full (min room 256) old)
  pub holds : new ≡ added (min room 256) old x
  pub same : is_ok r ≡ false → new ≡ old
