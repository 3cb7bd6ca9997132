-- The receiver's flow (rules, 4.2 to 4.4). Each line says what a step does: it takes a byte, and the byte says where the flow goes, or it
-- sends a byte and goes on.
-- Assumes nothing.
use Rattle.std.specs.Prelude.{ℕ, ◌+◌, cond, List, [], ◌∷◌, eqb, leb, ltb, length, take, set}
use Rattle.std.specs.Int.Bits.{bit_xor}
use Rattle.wire.specs.Line.{stx, soh, ack, nak}
use Rattle.numbers.specs.Number.{paired}
use Rattle.wire.specs.Unit.{first_address}
use Rattle.machine.specs.Does.{Does, takes, sends, runs, took_of}
use Rattle.rom_flow.specs.declared.kind.Kind.{Kind}
use Rattle.rom_flow.specs.declared.kind.Kind.TheVariants.{P, E}
use Rattle.rom_flow.specs.declared.step.HeaderStep.{HeaderStep}
use Rattle.rom_flow.specs.declared.step.HeaderStep.TheVariants.{TakeSoh, TakeLow, TakeHigh, TakeExtendedLow, TakeExtendedHigh}
use Rattle.rom_flow.specs.declared.step.Step.{Step}
use Rattle.rom_flow.specs.declared.step.Step.TheVariants.{SendStx, Header, SendAck, TakeCode, SendXor, TakeAck, SendNak, Running}
use Rattle.rom_flow.specs.State.{State, state}

-- the first length of kind E that is extended
abbrev pub first_extended : ℕ
first_extended = 65536

-- the reasons (rules, 2.2): the first byte is not 01, kind P with length 0, a length above the RAM, a last byte other than 06
abbrev pub not_soh : ℕ
not_soh = 31

abbrev pub empty_code : ℕ
empty_code = 32

abbrev pub long_code : ℕ
long_code = 33

abbrev pub not_acked : ℕ
not_acked = 34

-- the XOR of bytes, starting from x
abbrev pub xor_from : (x : ℕ) → List ℕ → ℕ
xor_from x [] = x
xor_from x (b ∷ bs) = xor_from (bit_xor x b) bs

-- the XOR of bytes, starting from 00
unfoldable pub xor_of : List ℕ → ℕ
xor_of bytes = xor_from 0 bytes

-- both length bytes zero: kind P refuses, kind E takes two more
abbrev pub zero_length : Kind → (reason : ℕ) (ram : List ℕ) → State
zero_length P reason ram = state P SendNak empty_code ram
zero_length E reason ram = state E (Header TakeExtendedLow) reason ram

-- the step once `count` of the code's bytes are in
abbrev pub code_step : (total count : ℕ) → Step
code_step total count = cond (ltb count total) (TakeCode total count) (SendXor total)

module _ (kind : Kind) (reason : ℕ) (ram : List ℕ) where
  -- the flow goes on; the last reason and the RAM stay (rules, 3.1)
  abbrev pub goes : Step → State
  goes step = state kind step reason ram

  -- a reason is noted; its 15 is sent, and then the flow begins again
  abbrev pub refuses : (why : ℕ) → State
  refuses why = state kind SendNak why ram

  -- a length that is not zero
  abbrev pub judged : (total : ℕ) → State
  judged total = cond (leb total (length ram)) (goes (SendAck total)) (refuses long_code)

  -- a length of two bytes
  abbrev pub headed : (total : ℕ) → State
  headed total = cond (eqb total 0) (zero_length kind reason ram) (judged total)

  abbrev pub header : HeaderStep → Does ℕ State
  header TakeSoh = takes (λ byte. cond (eqb byte soh) (goes (Header TakeLow)) (refuses not_soh))
  header TakeLow = takes (λ byte. goes (Header (TakeHigh byte)))
  header (TakeHigh low) = takes (λ byte. headed (paired low byte))
  header TakeExtendedLow = takes (λ byte. goes (Header (TakeExtendedHigh byte)))
  header (TakeExtendedHigh low) = takes (λ byte. judged (first_extended + paired low byte))

  -- the byte after the XOR: after 06 the code runs; after any other nothing is sent, and the flow begins again
  abbrev pub acked : (byte : ℕ) → State
  acked byte = cond (eqb byte ack) (goes (Running first_address)) (state kind SendStx not_acked ram)

  -- code byte i is stored at RAM byte i
  abbrev pub does_at : Step → Does ℕ State
  does_at SendStx = sends stx (goes (Header TakeSoh))
  does_at (Header step) = header step
  does_at (SendAck total) = sends ack (goes (TakeCode total 0))
  does_at (TakeCode total place) = takes (λ byte. state kind (code_step total (place + 1)) reason (set ram place byte))
  does_at (SendXor total) = sends (xor_of (take total ram)) (goes (TakeAck total))
  does_at (TakeAck total) = takes acked
  does_at SendNak = sends nak (goes SendStx)
  does_at (Running address) = runs

abbrev pub does : State → Does ℕ State
does s = does_at s.kind s.reason s.ram s.step

-- the state once a byte is taken
abbrev pub took : State → (byte : ℕ) → State
took s byte = took_of (does s) s byte
