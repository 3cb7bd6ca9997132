-- Worked exchanges of a host (rules, 15.8): what the definition gives for a command and the device's bytes.
-- Assumes nothing.
use Rattle.std.specs.Prelude.{ℕ, List, [], ◌∷◌, ◌++◌, replicate}
use Rattle.machine.specs.Uncut.{uncut}
use Rattle.host_command.specs.Exchange.{Lent, lent}
use Rattle.host_flow.specs.Flow.{device_refused, device_crc, out_of_flow}
use Rattle.host_flow.specs.Host.{host}
use Rattle.host_flow.specs.Fresh.{fresh}

-- what a host has sent, how many of the device's bytes it has taken, its reason, and what the answer buffer holds
pub record Outcome : Type 0 where
  pub said : List ℕ
  pub taken : ℕ
  pub reason : ℕ
  pub answer : List ℕ

abbrev pub outcome : (said : List ℕ) (taken reason : ℕ) (answer : List ℕ) → Outcome
outcome said taken reason answer = record { said = said; taken = taken; reason = reason; answer = answer }

pub record Figure : Type 0 where
  pub command : Lent
  pub device : List ℕ
  pub wanted : Outcome

abbrev pub figure : Lent → (device : List ℕ) → Outcome → Figure
figure command device wanted = record { command = command; device = device; wanted = wanted }

abbrev pub given : Figure → Outcome
given f = let o = uncut host (fresh f.command) f.device in outcome o.replies o.taken o.final.reason o.final.lent.answer

-- 02 01 00 03, and a greeting with other middle bytes
abbrev greeting : List ℕ
greeting = 0x02 ∷ 0x01 ∷ 0x00 ∷ 0x03 ∷ []

abbrev other_greeting : List ℕ
other_greeting = 0x02 ∷ 0xFF ∷ 0x15 ∷ 0x03 ∷ []

-- Version, with a buffer of 8 bytes
abbrev version_command : Lent
version_command = lent 0x0B [] (replicate 8 0xEE)

-- Chip erase, without a buffer
abbrev erase_command : Lent
erase_command = lent 0x0C [] []

-- 11 22 written to RAM's first bytes; code run there; 0, 1 and 21 bytes read from there, with buffers of that length
abbrev write_payload : List ℕ
write_payload = 0x00 ∷ 0x00 ∷ 0xFC ∷ 0x07 ∷ 0x11 ∷ 0x22 ∷ []

abbrev run_payload : List ℕ
run_payload = 0x00 ∷ 0x00 ∷ 0xFC ∷ 0x07 ∷ []

abbrev read_payload : (count : ℕ) → List ℕ
read_payload count = 0x00 ∷ 0x00 ∷ 0xFC ∷ 0x07 ∷ count ∷ 0x00 ∷ []

abbrev read_command : (count : ℕ) → Lent
read_command count = lent 0x02 (read_payload count) (replicate count 0xEE)

-- what the host sends up to an answer's length: header, payload, 06
abbrev read_said : (count : ℕ) → List ℕ
read_said count = 0x01 ∷ 0x02 ∷ 0x06 ∷ 0x00 ∷ (read_payload count ++ (0x06 ∷ []))

abbrev pub figures : List Figure
figures =
    -- the version is in the buffer, and the next greeting is left
    figure version_command (greeting ++ (0x06 ∷ 0x07 ∷ 0x00 ∷ 0x30 ∷ 0x2E ∷ 0x30 ∷ 0x2E ∷ 0x30 ∷ 0x2E ∷ 0x33 ∷ 0x06 ∷ greeting))
    (outcome (0x01 ∷ 0x0B ∷ 0x00 ∷ 0x00 ∷ 0x06 ∷ 0x6E ∷ 0x62 ∷ []) 15 0 (0x30 ∷ 0x2E ∷ 0x30 ∷ 0x2E ∷ 0x30 ∷ 0x2E ∷ 0x33 ∷ 0xEE ∷ []))
    -- a write is done at the next greeting's 02, which is left
    ∷ figure (lent 0x01 write_payload []) (other_greeting ++ (0x06 ∷ 0x06 ∷ 0x9D ∷ 0x6F ∷ greeting))
    (outcome (0x01 ∷ 0x01 ∷ 0x06 ∷ 0x00 ∷ (write_payload ++ (0x06 ∷ []))) 8 0 [])
    -- the device's CRC differs: 15 is sent
    ∷ figure (lent 0x01 write_payload []) (greeting ++ (0x06 ∷ 0x06 ∷ 0x9D ∷ 0x6E ∷ []))
    (outcome (0x01 ∷ 0x01 ∷ 0x06 ∷ 0x00 ∷ (write_payload ++ (0x15 ∷ []))) 8 device_crc [])
    -- a run is done at the host's own 06
    ∷ figure (lent 0x05 run_payload []) (greeting ++ (0x06 ∷ 0x06 ∷ 0x8B ∷ 0xA2 ∷ []))
    (outcome (0x01 ∷ 0x05 ∷ 0x04 ∷ 0x00 ∷ (run_payload ++ (0x06 ∷ []))) 8 0 [])
    -- 15 for the greeting's 02, for the header's 06, for the next greeting's 02; another byte in place of each
    ∷ figure erase_command (0x15 ∷ []) (outcome [] 1 device_refused [])
    ∷ figure erase_command (0x99 ∷ greeting) (outcome [] 1 out_of_flow [])
    ∷ figure erase_command (greeting ++ (0x15 ∷ greeting)) (outcome (0x01 ∷ 0x0C ∷ 0x00 ∷ 0x00 ∷ []) 5 device_refused [])
    ∷ figure erase_command (greeting ++ (0x02 ∷ [])) (outcome (0x01 ∷ 0x0C ∷ 0x00 ∷ 0x00 ∷ []) 5 out_of_flow [])
    ∷ figure erase_command (greeting ++ (0x06 ∷ 0x15 ∷ greeting)) (outcome (0x01 ∷ 0x0C ∷ 0x00 ∷ 0x00 ∷ []) 6 device_refused [])
    ∷ figure erase_command (greeting ++ (0x06 ∷ 0x03 ∷ [])) (outcome (0x01 ∷ 0x0C ∷ 0x00 ∷ 0x00 ∷ []) 6 out_of_flow [])
    -- a low length byte 15 that is awaited, and one that is not
    ∷ figure (read_command 0x15) (greeting ++ (0x06 ∷ 0x06 ∷ 0x79 ∷ 0xA7 ∷ 0x15 ∷ 0x00 ∷ 0xAB ∷ []))
    (outcome (read_said 0x15 ++ (0x06 ∷ [])) 11 0 (0xAB ∷ replicate 20 0xEE))
    ∷ figure (read_command 0x01) (greeting ++ (0x06 ∷ 0x06 ∷ 0xCE ∷ 0x68 ∷ 0x15 ∷ [])) (outcome (read_said 0x01) 9 device_refused (0xEE ∷ []))
    -- an answer length that is not the awaited one, and 0
    ∷ figure (read_command 0x01) (greeting ++ (0x06 ∷ 0x06 ∷ 0xCE ∷ 0x68 ∷ 0x01 ∷ 0x01 ∷ [])) (outcome (read_said 0x01) 10 out_of_flow (0xEE ∷ []))
    ∷ figure (read_command 0x00) (greeting ++ (0x06 ∷ 0x06 ∷ 0xFF ∷ 0x5B ∷ 0x00 ∷ 0x00 ∷ [])) (outcome (read_said 0x00) 10 out_of_flow [])
    -- 15 for the 06 after an answer: the answer stays
    ∷ figure (read_command 0x01) (greeting ++ (0x06 ∷ 0x06 ∷ 0xCE ∷ 0x68 ∷ 0x01 ∷ 0x00 ∷ 0xAB ∷ 0x15 ∷ []))
    (outcome (read_said 0x01 ++ (0x06 ∷ 0x71 ∷ 0xE5 ∷ [])) 12 device_refused (0xAB ∷ []))
    ∷ []
