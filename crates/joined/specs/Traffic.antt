-- What goes over the joined line for a command (rules, 15.9).
-- Assumes nothing.
use Rattle.std.specs.Prelude.{ℕ, ◌+◌, List, [], ◌∷◌, ◌++◌, length}
use Rattle.wire.specs.Line.{soh, ack}
use Rattle.numbers.specs.Number.{bytes_of}
use Rattle.crc.specs.Rule.{rule16}
use Rattle.crc.specs.Crc.{crc_of}
use Rattle.opcodes.specs.declared.Opcode.{Opcode}
use Rattle.opcodes.specs.Opcode.{opcode_number}
use Rattle.host_command.specs.declared.Follows.{Follows}
use Rattle.host_command.specs.declared.Follows.TheVariants.{Answers, Runs, Greets}

abbrev pub greeting_bytes : List ℕ
greeting_bytes = 0x02 ∷ 0x01 ∷ 0x00 ∷ 0x03 ∷ []

abbrev pub header_bytes : Opcode → (payload : List ℕ) → List ℕ
header_bytes opcode payload = soh ∷ opcode_number opcode ∷ bytes_of 2 (length payload)

-- a payload: the host sends it and then 06, the device between them 06 and the CRC
abbrev pub host_payload : (payload : List ℕ) → List ℕ
host_payload [] = []
host_payload (b ∷ bs) = (b ∷ bs) ++ (ack ∷ [])

abbrev pub device_payload : (payload : List ℕ) → List ℕ
device_payload [] = []
device_payload (b ∷ bs) = ack ∷ bytes_of 2 (crc_of rule16 (b ∷ bs))

-- an answer: the host sends 06 and its CRC, the device its length, the answer and 06
abbrev pub host_answer : Follows → (bytes : List ℕ) → List ℕ
host_answer (Answers size) bytes = ack ∷ bytes_of 2 (crc_of rule16 bytes)
host_answer Runs bytes = []
host_answer Greets bytes = []

abbrev pub device_answer : Follows → (bytes : List ℕ) → List ℕ
device_answer (Answers size) bytes = bytes_of 2 size ++ (bytes ++ (ack ∷ []))
device_answer Runs bytes = []
device_answer Greets bytes = []

-- the next greeting, unless code runs
abbrev pub next_greeting : Follows → List ℕ
next_greeting (Answers size) = greeting_bytes
next_greeting Runs = []
next_greeting Greets = greeting_bytes

-- all that the host sends, and all that it takes, with what comes after the execution
abbrev pub host_bytes : Opcode → (payload later : List ℕ) → List ℕ
host_bytes opcode payload later = header_bytes opcode payload ++ (host_payload payload ++ later)

abbrev pub device_bytes : (payload later : List ℕ) → List ℕ
device_bytes payload later = greeting_bytes ++ (ack ∷ (device_payload payload ++ later))

-- how many bytes the host sends: 4 for an empty payload, else 5 plus its length, and 3 more where there is an answer
abbrev pub payload_count : (payload : List ℕ) → ℕ
payload_count [] = 4
payload_count (b ∷ bs) = 5 + length (b ∷ bs)

abbrev pub answer_count : Follows → ℕ
answer_count (Answers size) = 3
answer_count Runs = 0
answer_count Greets = 0
