-- A line's machine from one table: what each state does (rules, 3.2).
-- Assumes nothing.
use Rattle.std.specs.Prelude.{ℕ}
use Rattle.machine.specs.Machine as machine
use Rattle.machine.specs.Machine.{Need, Machine, line}

-- take a symbol, and the symbol says what state follows; send a byte, and go on to another state; nothing, since code runs
pub data Does (A S : Type 0) : Type 0 where
  takes : (A → S) → Does A S
  sends : (byte : ℕ) → S → Does A S
  runs : Does A S

module _ {A S : Type 0} where
  abbrev pub need_of : Does A S → Need
  need_of (takes next) = machine.take_one
  need_of (sends byte next) = machine.send_one
  need_of runs = machine.runs

  -- a state that doesn't take, or send, stays
  abbrev pub took_of : Does A S → S → A → S
  took_of (takes next) s a = next a
  took_of (sends byte next) s a = s
  took_of runs s a = s

  abbrev pub sent_of : Does A S → S → S
  sent_of (takes next) s = s
  sent_of (sends byte next) s = next
  sent_of runs s = s

  abbrev pub byte_of : Does A S → ℕ
  byte_of (takes next) = 0
  byte_of (sends byte next) = byte
  byte_of runs = 0

  abbrev pub line_of : (does : S → Does A S) (due : S → ℕ) → Machine A S
  line_of does due = line (λ s. need_of (does s)) (λ s a. took_of (does s) s a) (λ s. byte_of (does s)) (λ s. sent_of (does s) s) due
