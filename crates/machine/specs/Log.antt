-- "Scripts and logs": the records of a log, as bytes. Assumes nothing.
use Rattle.std.specs.Prelude.{List, [], ◌∷◌, ◌++◌, ℕ, ◌+◌, ◌/◌, ◌%◌, length}
use Rattle.machine.specs.declared.Outputs.{Outputs}
use Rattle.machine.specs.declared.Entry.{Entry}
use Rattle.machine.specs.declared.Entry.TheVariants.{Setup, Access, Step}
use Rattle.machine.specs.Element.{word_of}
use Rattle.machine.specs.Core.{outcome_number, outcome_element}
use Rattle.machine.specs.Access.{refusal_number, answer_value}

-- "all little-endian"
abbrev pub pair : ℕ → List ℕ
pair v = v % 256 ∷ v / 256 % 256 ∷ []

abbrev pub quad : ℕ → List ℕ
quad v = pair (v % 65536) ++ pair (v / 65536)

-- "a 2-byte payload length, a 2-byte kind, the payload"
abbrev pub record_of : ℕ → List ℕ → List ℕ
record_of kind payload = pair (length payload) ++ pair kind ++ payload

-- "lines 1 (the core's own outputs afterwards: bit 0 SCK, 1 MOSI, 2 MISO, 3 interrupt, 4 MISO driven)"
unfoldable pub lines_byte : Outputs → ℕ
unfolding word_of
lines_byte o = word_of (o.sck ∷ o.mosi ∷ o.miso ∷ o.interrupt ∷ o.driven ∷ [])

-- "Setup: one byte 0. Access: refusal 1, value 4 (0 for writes). Tick and step: outcome 1, element 4, lines 1 (..), SS 4"
abbrev pub entry_payload : Entry → List ℕ
entry_payload Setup = 0 ∷ []
entry_payload (Access a) = refusal_number a ∷ quad (answer_value a)
entry_payload (Step o lines) = (outcome_number o ∷ quad (outcome_element o)) ++ (lines_byte lines ∷ quad lines.ss)

-- "Log kind is script kind + 0x8000."
unfoldable pub entry_bytes : ℕ → Entry → List ℕ
unfolding lines_byte
entry_bytes kind e = record_of (kind + 0x8000) (entry_payload e)

-- "and then a record of kind 0xFFFF: number 1, place 4"
unfoldable pub last_record : ℕ → ℕ → List ℕ
last_record number place = record_of 0xFFFF (number ∷ quad place)
