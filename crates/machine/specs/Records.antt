-- "Scripts and logs": the records of a script, and what stops it at one. Places count the script's bytes. Assumes nothing.
use Rattle.std.specs.Prelude.{Bool, true, false, not, cond, List, [], ℕ, ◌+◌, ◌*◌, length, get_or, take, drop, leb, ltb, eqb}
use Rattle.machine.specs.declared.Found.{Found}
use Rattle.machine.specs.declared.Found.TheVariants.{Whole, CutShort, End}
use Rattle.machine.specs.declared.Command.{Command}
use Rattle.machine.specs.declared.Command.TheVariants.{Setup, Write, Read, Tick, LineStep, Unknown}
use Rattle.machine.specs.Bought.{bought, setup_number}

-- "all little-endian"
abbrev pub pair_at : List ℕ → ℕ → ℕ
pair_at s p = get_or s p 0 + 256 * get_or s (p + 1) 0

abbrev pub quad_at : List ℕ → ℕ → ℕ
quad_at s p = pair_at s p + 65536 * pair_at s (p + 2)

-- ---- reading a record

-- "A record is a 2-byte payload length, a 2-byte kind, the payload"; 20 "header or payload cut short"
unfoldable pub find : List ℕ → ℕ → Found
find s p =
    cond (leb (length s) p) End
    (cond (ltb (length s) (p + 4)) CutShort
    (cond (ltb (length s) (p + 4 + pair_at s p)) CutShort
    (Whole (pair_at s (p + 2)) (pair_at s p) (p + 4 + pair_at s p))))

-- "Payload found is handed back as a part of the caller's script."
abbrev pub payload_at : List ℕ → ℕ → Found → List ℕ
payload_at s p (Whole kind len next) = take len (drop (p + 4) s)
payload_at s p CutShort = []
payload_at s p End = []

unfoldable pub payload : List ℕ → ℕ → List ℕ
unfolding find
payload s p = payload_at s p (find s p)

-- "Kinds: 0 setup (width, depth, K; 1 byte each), 1 write (offset 2, lanes 1, value 4), 2 read (offset 2, lanes 1), 3 tick (MISO 1),
-- 4 line step (1 byte ..)." A payload that is too short is read as if zeros followed: its length is judged, not its bytes
unfoldable pub command : ℕ → List ℕ → Command
command kind b =
    cond (eqb kind 0) (Setup (get_or b 0 0) (get_or b 1 0) (get_or b 2 0))
    (cond (eqb kind 1) (Write (pair_at b 0) (get_or b 2 0) (quad_at b 3))
    (cond (eqb kind 2) (Read (pair_at b 0) (get_or b 2 0))
    (cond (eqb kind 3) (Tick (get_or b 0 0))
    (cond (eqb kind 4) (LineStep (get_or b 0 0))
    (Unknown kind)))))

abbrev pub kind_number : Command → ℕ
kind_number (Setup w d k) = 0
kind_number (Write o l v) = 1
kind_number (Read o l) = 2
kind_number (Tick m) = 3
kind_number (LineStep l) = 4
kind_number (Unknown kind) = kind

-- ---- judging it

-- 21 "unknown kind"
abbrev pub is_unknown : Command → Bool
is_unknown (Setup w d k) = false
is_unknown (Write o l v) = false
is_unknown (Read o l) = false
is_unknown (Tick m) = false
is_unknown (LineStep l) = false
is_unknown (Unknown kind) = true

-- 22 "wrong length"
abbrev pub payload_length : Command → ℕ
payload_length (Setup w d k) = 3
payload_length (Write o l v) = 7
payload_length (Read o l) = 3
payload_length (Tick m) = 1
payload_length (LineStep l) = 1
payload_length (Unknown kind) = 0

-- 24 "setup not first, or repeated"
abbrev pub is_out_of_turn : Bool → Command → Bool
is_out_of_turn ready (Setup w d k) = ready
is_out_of_turn ready (Write o l v) = not ready
is_out_of_turn ready (Read o l) = not ready
is_out_of_turn ready (Tick m) = not ready
is_out_of_turn ready (LineStep l) = not ready
is_out_of_turn ready (Unknown kind) = not ready

-- 26 "lanes over 15, MISO over 1 or line byte over 7"
abbrev pub is_out_of_range : Command → Bool
is_out_of_range (Setup w d k) = false
is_out_of_range (Write o l v) = ltb 15 l
is_out_of_range (Read o l) = ltb 15 l
is_out_of_range (Tick m) = ltb 1 m
is_out_of_range (LineStep l) = ltb 7 l
is_out_of_range (Unknown kind) = false

-- "1 to 3", 0 where there is none
abbrev pub setup_refusal : Command → ℕ
setup_refusal (Setup w d k) = setup_number (bought w d k)
setup_refusal (Write o l v) = 0
setup_refusal (Read o l) = 0
setup_refusal (Tick m) = 0
setup_refusal (LineStep l) = 0
setup_refusal (Unknown kind) = 0

-- 23 "too little room left for its whole log record": the record's bytes, header and all
abbrev pub log_size : Command → ℕ
log_size (Setup w d k) = 5
log_size (Write o l v) = 9
log_size (Read o l) = 9
log_size (Tick m) = 14
log_size (LineStep l) = 14
log_size (Unknown kind) = 0

-- "What stops it, in order": 21, 22, 24, 26, 1 to 3, 23; 0 where nothing does
unfoldable pub judge : Bool → ℕ → ℕ → Command → ℕ
unfolding bought
judge ready room len c =
    cond (is_unknown c) 21
    (cond (not (eqb len (payload_length c))) 22
    (cond (is_out_of_turn ready c) 24
    (cond (is_out_of_range c) 26
    (cond (not (eqb (setup_refusal c) 0)) (setup_refusal c)
    (cond (ltb room (log_size c)) 23
    0)))))
