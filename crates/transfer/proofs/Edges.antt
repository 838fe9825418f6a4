-- The edges of an element, in plain variables. Assumes nothing.
use Prim.Native.Nat.{ℕ, zero, suc, ◌+◌, ◌-◌, ◌<◌}
use mathlib.Core.Path.{◌≡◌, refl}
use mathlib.Core.Bool.{Bool, true, false, not, ◌&&◌, beq, true≢false, false≢true}
use native.Mathlib.Omega.{arith}
use Rattle.machine.specs.declared.Shift.{Shift}
use Rattle.machine.specs.declared.Edge.TheVariants.{On, Over}
use mir.Val.{bool_byte}
use Rattle.machine.specs.Element.{level_of}
use Rattle.machine.specs.Transfer.{sampled, edge_at, edge, changed_at, changed, sending_at, sending}

module _ (cpha level : Bool) (n : ℕ) (s : Shift) where
  pub no_edge : s.left ≡ 0 → Over s.got ≡ edge cpha n level s
  unfolding edge
  no_edge e = rw e

  module _ (got : ℕ) (is : got ≡ sampled cpha s.odd n level s.got) where
    pub odd_edge : not s.odd ≡ true → (s.left ≡ 0 → ⊥)
        → On (record { left = s.left; odd = true; out = s.out; got = got; starved = s.starved }) ≡ edge cpha n level s
    unfolding edge
    odd_edge odd some = go s.left s.odd odd some is
      where
        go : (left : ℕ) (odd : Bool) → not odd ≡ true → (left ≡ 0 → ⊥) → got ≡ sampled cpha odd n level s.got
            → On (record { left = left; odd = true; out = s.out; got = got; starved = s.starved }) ≡ edge_at left odd cpha n level s
        go zero odd e some is = absurd (some refl)
        go (suc k) true e some is = absurd (false≢true e)
        go (suc k) false e some is = rw is

    pub last_edge : not s.odd ≡ false → s.left ≡ 1 → Over got ≡ edge cpha n level s
    unfolding edge
    last_edge even one = go s.left s.odd even one is
      where
        go : (left : ℕ) (odd : Bool) → not odd ≡ false → left ≡ 1 → got ≡ sampled cpha odd n level s.got → Over got ≡ edge_at left odd cpha n level s
        go left false e one is = absurd (true≢false e)
        go left true e one is = rw (one, is)

    pub even_edge : not s.odd ≡ false → (s.left ≡ 0 → ⊥) → (s.left ≡ 1 → ⊥)
        → On (record { left = s.left - 1; odd = false; out = s.out; got = got; starved = s.starved }) ≡ edge cpha n level s
    unfolding edge
    even_edge even some more = go s.left s.odd even some more is
      where
        go : (left : ℕ) (odd : Bool) → not odd ≡ false → (left ≡ 0 → ⊥) → (left ≡ 1 → ⊥) → got ≡ sampled cpha odd n level s.got
            → On (record { left = left - 1; odd = false; out = s.out; got = got; starved = s.starved }) ≡ edge_at left odd cpha n level s
        go left false e some more is = absurd (true≢false e)
        go zero true e some more is = absurd (some refl)
        go (suc zero) true e some more is = absurd (more refl)
        go (suc (suc k)) true e some more is =
            let d : suc (suc k) - 1 ≡ suc k = omega arith in
            rw (d, is)

-- ---- levels

module _ (cpha level : Bool) (s : Shift) where
  pub holds_level : beq cpha s.odd ≡ true → level ≡ changed cpha s level
  unfolding changed
  holds_level e = go cpha s.odd s.left e
    where
      go : (cpha odd : Bool) (left : ℕ) → beq cpha odd ≡ true → level ≡ changed_at odd cpha left s.out level
      go true true left e = refl
      go true false left e = absurd (false≢true e)
      go false true left e = absurd (false≢true e)
      go false false left e = refl

  module _ (other : beq cpha s.odd ≡ false) where
    pub shows_next : (b : Bool) (k : ℕ) → b ≡ level_of s.out k → s.left ≡ 1 + bool_byte s.odd + k → b ≡ changed cpha s level
    unfolding changed
    shows_next b k is at = go cpha s.odd s.left other at
      where
        go : (cpha odd : Bool) (left : ℕ) → beq cpha odd ≡ false → left ≡ 1 + bool_byte odd + k → b ≡ changed_at odd cpha left s.out level
        go true true left e at = absurd (true≢false e)
        go true false left e at =
            let d : left ≡ suc k = omega arith in
            rw (d, is)
        go false true left e at =
            let d : left ≡ suc (suc k) = omega arith in
            rw (d, is)
        go false false left e at = absurd (true≢false e)

    pub shows_last : s.left < 1 + bool_byte s.odd → level ≡ changed cpha s level
    unfolding changed
    shows_last few = go cpha s.odd s.left other few
      where
        go : (cpha odd : Bool) (left : ℕ) → beq cpha odd ≡ false → left < 1 + bool_byte odd → level ≡ changed_at odd cpha left s.out level
        go true true left e few = absurd (true≢false e)
        go true false zero e few = refl
        go true false (suc k) e few = absurd (omega arith)
        go false true zero e few = refl
        go false true (suc zero) e few = refl
        go false true (suc (suc k)) e few = absurd (omega arith)
        go false false left e few = absurd (true≢false e)

module _ (cpha : Bool) (s : Shift) where
  pub sends_none : s.left ≡ 0 → false ≡ sending cpha s
  unfolding sending
  sends_none e = rw e

  module _ (b : Bool) (some : s.left ≡ 0 → ⊥) where
    pub sends_still : b ≡ level_of s.out s.left → (cpha && not s.odd) ≡ true → b ≡ sending cpha s
    unfolding sending
    sends_still is e = go s.left s.odd cpha some is e
      where
        go : (left : ℕ) (odd cpha : Bool) → (left ≡ 0 → ⊥) → b ≡ level_of s.out left → (cpha && not odd) ≡ true → b ≡ sending_at left odd cpha s.out
        go zero odd cpha some is e = absurd (some refl)
        go (suc k) odd false some is e = absurd (false≢true e)
        go (suc k) true true some is e = absurd (false≢true e)
        go (suc k) false true some is e = is

    pub sends : b ≡ level_of s.out (s.left - 1) → (cpha && not s.odd) ≡ false → b ≡ sending cpha s
    unfolding sending
    sends is e = go s.left s.odd cpha some is e
      where
        go : (left : ℕ) (odd cpha : Bool) → (left ≡ 0 → ⊥) → b ≡ level_of s.out (left - 1) → (cpha && not odd) ≡ false → b ≡ sending_at left odd cpha s.out
        go zero odd cpha some is e = absurd (some refl)
        go (suc k) odd false some is e = let d : suc k - 1 ≡ k = omega arith in rw (← d) is
        go (suc k) true true some is e = let d : suc k - 1 ≡ k = omega arith in rw (← d) is
        go (suc k) false true some is e = absurd (true≢false e)
