-- What master and slave share: the edges of an element, and its finish. Assumes nothing.
use Rattle.std.specs.Prelude.{Bool, true, false, not, ◌&&◌, ◌||◌, cond, List, [], ◌∷◌, ◌++◌, ℕ, zero, suc, length, eqb}
use Rattle.machine.specs.declared.Setup.{Setup}
use Rattle.machine.specs.declared.Interrupts.{Interrupts}
use Rattle.machine.specs.declared.Shift.{Shift}
use Rattle.machine.specs.declared.Edge.{Edge}
use Rattle.machine.specs.declared.Edge.TheVariants.{On, Over}
use Rattle.machine.specs.declared.Outcome.{Outcome}
use Rattle.machine.specs.declared.Outcome.TheVariants.{Stored, Lost}
use Rattle.machine.specs.Element.{level_of, wire, shifted_in}
use Rattle.machine.specs.Bought.{room_of, has_fifo, over_half}
use Rattle.machine.specs.Store.{empty, full, rest, added}
use Rattle.machine.specs.Core.{Held}

-- ---- the element to be sent

-- the Tx head in wire order; "it sends zeros" where there is none
abbrev pub head_on_wire : Bool → ℕ → List ℕ → ℕ
head_on_wire lsb n [] = 0
head_on_wire lsb n (x ∷ l) = wire lsb n x

-- "Start copies the Tx head without removing it"; a slave "copies its Tx head; if the store is empty it is starved"
unfoldable pub decided : Bool → ℕ → List ℕ → Shift
decided lsb n tx = record { left = n; odd = false; out = head_on_wire lsb n tx; got = 0; starved = empty tx }

-- ---- one edge

-- "CPHA 0 samples on odd edges ..; CPHA 1 .. samples on even (agrees with the table in 004)": CPHA, whether the edge is an even one, and the level sampled
abbrev pub sampled : Bool → Bool → ℕ → Bool → ℕ → ℕ
sampled false false n b got = shifted_in n b got
sampled false true n b got = got
sampled true false n b got = got
sampled true true n b got = shifted_in n b got

-- an element of n bits has 2n edges: each bit's odd one, then its even one
abbrev pub edge_at : ℕ → Bool → Bool → ℕ → Bool → Shift → Edge
edge_at zero even cpha n b s = Over s.got
edge_at (suc k) false cpha n b s =
    On (record { left = suc k; odd = true; out = s.out; got = sampled cpha false n b s.got; starved = s.starved })
edge_at (suc zero) true cpha n b s = Over (sampled cpha true n b s.got)
edge_at (suc (suc k)) true cpha n b s =
    On (record { left = suc k; odd = false; out = s.out; got = sampled cpha true n b s.got; starved = s.starved })

unfoldable pub edge : Bool → ℕ → Bool → Shift → Edge
edge cpha n b s = edge_at s.left s.odd cpha n b s

-- what the data line shows behind an edge that changes it: "CPHA 1 changes on odd"
abbrev pub changed_odd : Bool → ℕ → ℕ → Bool → Bool
changed_odd false left x level = level
changed_odd true zero x level = level
changed_odd true (suc k) x level = level_of x k

-- "CPHA 0 .. changes on even ones"; "The last even edge at CPHA 0 changes nothing."
abbrev pub changed_even : Bool → ℕ → ℕ → Bool → Bool
changed_even true left x level = level
changed_even false zero x level = level
changed_even false (suc zero) x level = level
changed_even false (suc (suc k)) x level = level_of x k

abbrev pub changed_at : Bool → Bool → ℕ → ℕ → Bool → Bool
changed_at false cpha left x level = changed_odd cpha left x level
changed_at true cpha left x level = changed_even cpha left x level

-- the line of the core that sends s, after the next edge
unfoldable pub changed : Bool → Shift → Bool → Bool
changed cpha s level = changed_at s.odd cpha s.left s.out level

-- "In mid-element it shows the bit being sent": at CPHA 0 the first of those left; at CPHA 1 that from its odd edge on, and
-- before it the one clocked last
abbrev pub sending_at : ℕ → Bool → Bool → ℕ → Bool
sending_at zero odd cpha x = false
sending_at (suc k) odd false x = level_of x k
sending_at (suc k) true true x = level_of x k
sending_at (suc k) false true x = level_of x (suc k)

unfoldable pub sending : Bool → Shift → Bool
sending cpha s = sending_at s.left s.odd cpha s.out

-- ---- the finish, at edge 2N

-- the flags that a finish of the element x may set: 2 "Tx store emptied by a finished transfer", 4 "Rx store made full",
-- 5 "overrun (an element lost)", 6 "Tx half empty", 8 "an enabled slave's Rx FIFO goes from 0 to 1 (depth 16)"
abbrev pub finish_flags : Setup → Bool → Bool → ℕ → Held → Interrupts → Interrupts
finish_flags z slave starved x h i = record {
  modf = i.modf;
  smodf = i.smodf;
  emptied = i.emptied || not starved && empty (rest h.tx);
  underrun = i.underrun;
  filled = i.filled || not (full (room_of z) h.rx) && full (room_of z) (h.rx ++ (x ∷ []));
  overrun = i.overrun || full (room_of z) h.rx;
  half = i.half || not starved && has_fifo z && eqb (length h.tx) (over_half z);
  selected = i.selected;
  arrived = i.arrived || slave && has_fifo z && empty h.rx;
}

-- "the Tx head leaves; the received element is stored, or lost if the Rx store is full"; a starved finish "removes nothing"
unfoldable pub finish : Setup → Bool → Bool → ℕ → Held → Held
finish z slave starved x h = record {
  tx = cond starved h.tx (rest h.tx);
  rx = added (room_of z) h.rx x;
  flags = record {
    ipisr = finish_flags z slave starved x h h.flags.ipisr;
    ipier = h.flags.ipier;
    dgier = h.flags.dgier;
    modf = h.flags.modf;
  };
}

unfoldable pub finish_outcome : Setup → ℕ → Held → Outcome
finish_outcome z x h = cond (full (room_of z) h.rx) (Lost x) (Stored x)
