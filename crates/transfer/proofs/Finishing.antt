-- The finish, in plain variables. Assumes nothing.
use Prim.Native.Nat.{ℕ, suc, min}
use mathlib.Core.Path.{◌≡◌, refl, sym, ◌∙◌}
use mathlib.Core.Bool.{Bool, true, false, not, ◌&&◌, ◌||◌, cond, true≢false, false≢true}
use mathlib.Core.List.{List, [], ◌∷◌, ◌++◌}
use Rattle.std.proofs.Math.Bool.{not-not}
use native.Mathlib.Omega.{arith}
use borrow.Author.Tests.{lt-leb}
use lib.ListN.{length}
use lib.Dec.{leb, eqb}
use Rattle.machine.specs.declared.Setup.{Setup}
use Rattle.machine.specs.declared.Outcome.TheVariants.{Stored, Lost}
use Rattle.machine.specs.Bought.{room_of, has_fifo, over_half}
use Rattle.machine.specs.Store.{empty, full, rest, added}
use Rattle.machine.specs.Core.{Held}
use Rattle.machine.specs.Transfer.{finish, finish_outcome}
use Rattle.transfer.specs.Wire.{leaving}

-- a list of at most one element has no rest
one_at_most : (l : List ℕ) → leb (length l) 1 ≡ empty (rest l)
one_at_most [] = refl
one_at_most (x ∷ []) = refl
one_at_most (x ∷ y ∷ l) = lt-leb (suc (suc (length l))) 1 (omega arith)

-- "Rx store made full": stored, and full then
made_full : (room x : ℕ) (l : List ℕ)
    → (not (full room l) && full room (added room l x)) ≡ (not (full room l) && full room (l ++ (x ∷ [])))
made_full room x l = go (full room l)
  where
    go : (b : Bool) → (not b && full room (l ++ cond b [] (x ∷ []))) ≡ (not b && full room (l ++ (x ∷ [])))
    go true = refl
    go false = refl

module _ (z : Setup) (slave starved : Bool) (x : ℕ) (h : Held) (room n : ℕ) (fifo none stored is_full : Bool) (tx rx : List ℕ)
    (most : min room 256 ≡ room_of z) (puts : stored ≡ not (full (min room 256) h.rx)) where
  pub finishes : n ≡ length h.tx → fifo ≡ has_fifo z → none ≡ empty h.rx → tx ≡ leaving starved h.tx
      → rx ≡ added (min room 256) h.rx x → is_full ≡ full (min room 256) rx
      → record {
        tx = tx;
        rx = rx;
        flags = record {
          ipisr = record {
            modf = h.flags.ipisr.modf;
            smodf = h.flags.ipisr.smodf;
            emptied = h.flags.ipisr.emptied || not starved && leb n 1;
            underrun = h.flags.ipisr.underrun;
            filled = h.flags.ipisr.filled || stored && is_full;
            overrun = h.flags.ipisr.overrun || not stored;
            half = h.flags.ipisr.half || not starved && fifo && eqb n (over_half z);
            selected = h.flags.ipisr.selected;
            arrived = h.flags.ipisr.arrived || slave && fifo && none;
          };
          ipier = h.flags.ipier;
          dgier = h.flags.dgier;
          modf = h.flags.modf;
        };
      }
      ≡ finish z slave starved x h
  unfolding finish
  finishes counts is tells left holds fills =
      rw (fills, holds, left, tells, is, counts, puts, most, one_at_most h.tx, made_full (room_of z) x h.rx, not-not (full (room_of z) h.rx))

module _ (z : Setup) (x : ℕ) (h : Held) (room : ℕ) (stored : Bool) (most : min room 256 ≡ room_of z)
    (puts : stored ≡ not (full (min room 256) h.rx)) where
  pub tells : (b : Bool) → stored ≡ b → cond b (Stored x) (Lost x) ≡ finish_outcome z x h
  unfolding finish_outcome
  tells b e = go b (full (room_of z) h.rx) (sym (rw most at puts) ∙ e)
    where
      go : (b f : Bool) → not f ≡ b → cond b (Stored x) (Lost x) ≡ cond f (Lost x) (Stored x)
      go true true e = absurd (false≢true e)
      go true false e = refl
      go false true e = refl
      go false false e = absurd (true≢false e)
