-- The boot frame (rules, 5.1), and when it is refused (rules, 2.3).
-- Assumes nothing.
use Rattle.std.specs.Prelude.{ℕ, ◌-◌, List, [], ◌∷◌, ◌++◌, Bool, false, cond, eqb, leb, ltb, length, Result, Ok, Err}
use Rattle.memory.specs.Store.{laid}
use Rattle.rom_flow.specs.declared.kind.Kind.{Kind}
use Rattle.rom_flow.specs.declared.kind.Kind.TheVariants.{P, E}
use Rattle.wire.specs.Line.{soh, ack}
use Rattle.numbers.specs.Number.{bytes_of}
use Rattle.rom_flow.specs.Flow.{first_extended}
use Rattle.frame.specs.declared.Framed.{Framed}
use Rattle.frame.specs.declared.Refusal.{Refusal}
use Rattle.frame.specs.declared.Refusal.TheVariants.{EmptyCode, LongCode, ShortOutput}

-- the longest code that the length field of a kind can say
abbrev pub longest : Kind → ℕ
longest P = 65535
longest E = 131071

-- only kind E has an extended length field, for lengths from 65,536 on
abbrev pub is_extended : Kind → (count : ℕ) → Bool
is_extended P count = false
is_extended E count = leb first_extended count

-- the shortest length field: two bytes; extended, 00 00 and two bytes with the length less 65,536
unfoldable pub length_field : Kind → (count : ℕ) → List ℕ
length_field kind count = cond (is_extended kind count) (0 ∷ 0 ∷ bytes_of 2 (count - first_extended)) (bytes_of 2 count)

abbrev pub header_of : Kind → (count : ℕ) → List ℕ
header_of kind count = soh ∷ length_field kind count

abbrev pub frame_of : Kind → (code : List ℕ) → List ℕ
frame_of kind code = header_of kind (length code) ++ code ++ ack ∷ []

-- the numbers given for no code, for a code that is too long, and for an output that is shorter than the frame
abbrev pub empty_code : ℕ
empty_code = 41

abbrev pub long_code : ℕ
long_code = 42

abbrev pub short_output : ℕ
short_output = 43

abbrev pub refused : (number : ℕ) → Framed
refused number = record { number = number; length = 0 }

abbrev pub refusal_number : Refusal → ℕ
refusal_number EmptyCode = empty_code
refusal_number LongCode = long_code
refusal_number ShortOutput = short_output

-- the number 0 and a frame's length, or a refusal
abbrev pub framed_as : Result ℕ Refusal → Framed
framed_as (Ok size) = record { number = 0; length = size }
framed_as (Err why) = refused (refusal_number why)

-- what is given back, and the output afterwards
pub record Written : Type 0 where
  pub framed : Framed
  pub out : List ℕ

abbrev pub written : Framed → (out : List ℕ) → Written
written framed out = record { framed = framed; out = out }

-- refused, the output is untouched; else it begins with the frame, and its bytes after the frame stay
unfoldable pub framed_of : Kind → (code out : List ℕ) → Written
framed_of kind code out =
    cond (eqb (length code) 0) (written (refused empty_code) out)
    (cond (ltb (longest kind) (length code)) (written (refused long_code) out)
    (cond (ltb (length out) (length (frame_of kind code))) (written (refused short_output) out)
    (written (record { number = 0; length = length (frame_of kind code) }) (laid (frame_of kind code) out))))
