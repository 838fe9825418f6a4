-- The table of refusals: each number is given then and only then, in the table's order, and "All refusals below give value 0 and an
-- unchanged core." Assumes nothing.
use mathlib.Core.Path.{◌≡◌, refl}
use mathlib.Core.Bool.{Bool, true, false, cond, true≢false}
use Prim.Native.Nat.{ℕ}
use lib.Dec.{leb, eqb}
use Rattle.std.specs.Prelude.{Ok, Err}
use Rattle.machine.specs.declared.Register.{Register}
use Rattle.machine.specs.declared.Register.TheVariants.{Dgier, Ipisr, Ipier, Srr, Spicr, Spisr, Spidtr, Spidrr, Spissr, TxOccupancy, RxOccupancy}
use Rattle.machine.specs.declared.Place.{Place}
use Rattle.machine.specs.declared.Place.TheVariants as place
use Rattle.machine.specs.declared.Refusal.{Refusal}
use Rattle.machine.specs.declared.Refusal.TheVariants.{LanesOrOffset, NoRegister, TxFull, RxEmpty, ResetValue, TwoSelected}
use Rattle.machine.specs.Bought.{lines_of, room_of}
use Rattle.machine.specs.Store.{empty, full}
use Rattle.machine.specs.Core.{Core}
use Rattle.machine.specs.Registers.{place_of}
use Rattle.machine.specs.Access.{Answer, Answered, number_of_refusal, refusal_number, answer_value, refuse, accept, zeros_in, whole_word, write_to, write_at, write, read_from, read_at, read}
use Rattle.machine.specs.Bench.{is_accepted}

-- ---- the table, as it stands: 10, 11, then 12 to 15 at their registers; 0 where none is given

abbrev pub own_of_write : Register → ℕ → Core → ℕ
own_of_write Dgier v c = 0
own_of_write Ipisr v c = 0
own_of_write Ipier v c = 0
own_of_write Srr v c = cond (eqb v 0xA) 0 14
own_of_write Spicr v c = 0
own_of_write Spisr v c = 0
own_of_write Spidtr v c = cond (full (room_of c.setup) c.held.tx) 12 0
own_of_write Spidrr v c = 0
own_of_write Spissr v c = cond (leb 2 (zeros_in (lines_of c.setup) v)) 15 0
own_of_write TxOccupancy v c = 0
own_of_write RxOccupancy v c = 0

abbrev pub own_of_read : Register → Core → ℕ
own_of_read Dgier c = 0
own_of_read Ipisr c = 0
own_of_read Ipier c = 0
own_of_read Srr c = 0
own_of_read Spicr c = 0
own_of_read Spisr c = 0
own_of_read Spidtr c = 0
own_of_read Spidrr c = cond (empty c.held.rx) 13 0
own_of_read Spissr c = 0
own_of_read TxOccupancy c = 0
own_of_read RxOccupancy c = 0

abbrev pub table_at : Bool → Place → (Register → ℕ) → ℕ
table_at false p own = 10
table_at true place.Nothing own = 11
table_at true (place.Register r) own = own r

-- ---- a refusal, or none, and what it leaves

-- an answer's number; value 0 and the very same core unless it is 0
pub record Gives (r : Answered) (c : Core) (n : ℕ) : Type 0 where
  pub number : refusal_number r.answer ≡ n
  pub value : is_accepted r.answer ≡ false → answer_value r.answer ≡ 0
  pub same : is_accepted r.answer ≡ false → r.core ≡ c

gives_okay : (v : ℕ) (n c : Core) → Gives (accept v n) c 0
gives_okay v n c = record { number = refl; value = λ e. absurd (true≢false e); same = λ e. absurd (true≢false e) }

no_value : (a : Answer) → is_accepted a ≡ false → answer_value a ≡ 0
no_value (Ok v) e = absurd (true≢false e)
no_value (Err LanesOrOffset) e = refl
no_value (Err NoRegister) e = refl
no_value (Err TxFull) e = refl
no_value (Err RxEmpty) e = refl
no_value (Err ResetValue) e = refl
no_value (Err TwoSelected) e = refl

gives_refused : (e : Refusal) (c : Core) → Gives (refuse e c) c (number_of_refusal e)
gives_refused e c = record { number = refl; value = no_value (Err e); same = λ _. refl }

gives_if : (b : Bool) (e : Refusal) (v : ℕ) (n c : Core) → Gives (cond b (refuse e c) (accept v n)) c (cond b (number_of_refusal e) 0)
gives_if true e v n c = gives_refused e c
gives_if false e v n c = gives_okay v n c

gives_unless : (b : Bool) (e : Refusal) (v : ℕ) (n c : Core) → Gives (cond b (accept v n) (refuse e c)) c (cond b 0 (number_of_refusal e))
gives_unless true e v n c = gives_okay v n c
gives_unless false e v n c = gives_refused e c

-- ---- writes

own_write : (r : Register) (v : ℕ) (c : Core) → Gives (write_to r v c) c (own_of_write r v c)
unfolding write_to
own_write Dgier v c = gives_okay _ _ c
own_write Ipisr v c = gives_okay _ _ c
own_write Ipier v c = gives_okay _ _ c
own_write Srr v c = gives_unless (eqb v 0xA) ResetValue _ _ c
own_write Spicr v c = gives_okay _ _ c
own_write Spisr v c = gives_okay _ _ c
own_write Spidtr v c = gives_if (full (room_of c.setup) c.held.tx) TxFull _ _ c
own_write Spidrr v c = gives_okay _ _ c
own_write Spissr v c = gives_if (leb 2 (zeros_in (lines_of c.setup) v)) TwoSelected _ _ c
own_write TxOccupancy v c = gives_okay _ _ c
own_write RxOccupancy v c = gives_okay _ _ c

pub write_gives : (offset lanes v : ℕ) (c : Core)
    → Gives (write offset lanes v c) c (table_at (whole_word offset lanes) (place_of c.setup offset) (λ r. own_of_write r v c))
unfolding write
write_gives offset lanes v c = go (whole_word offset lanes) (place_of c.setup offset)
  where
    go : (b : Bool) (p : Place) → Gives (cond b (write_at p v c) (refuse LanesOrOffset c)) c (table_at b p (λ r. own_of_write r v c))
    go false p = gives_refused LanesOrOffset c
    go true place.Nothing = gives_refused NoRegister c
    go true (place.Register r) = own_write r v c

-- ---- reads

own_read : (r : Register) (c : Core) → Gives (read_from r c) c (own_of_read r c)
unfolding read_from
own_read Dgier c = gives_okay _ _ c
own_read Ipisr c = gives_okay _ _ c
own_read Ipier c = gives_okay _ _ c
own_read Srr c = gives_okay _ _ c
own_read Spicr c = gives_okay _ _ c
own_read Spisr c = gives_okay _ _ c
own_read Spidtr c = gives_okay _ _ c
own_read Spidrr c = gives_if (empty c.held.rx) RxEmpty _ _ c
own_read Spissr c = gives_okay _ _ c
own_read TxOccupancy c = gives_okay _ _ c
own_read RxOccupancy c = gives_okay _ _ c

pub read_gives : (offset lanes : ℕ) (c : Core)
    → Gives (read offset lanes c) c (table_at (whole_word offset lanes) (place_of c.setup offset) (λ r. own_of_read r c))
unfolding read
read_gives offset lanes c = go (whole_word offset lanes) (place_of c.setup offset)
  where
    go : (b : Bool) (p : Place) → Gives (cond b (read_at p c) (refuse LanesOrOffset c)) c (table_at b p (λ r. own_of_read r c))
    go false p = gives_refused LanesOrOffset c
    go true place.Nothing = gives_refused NoRegister c
    go true (place.Register r) = own_read r c
