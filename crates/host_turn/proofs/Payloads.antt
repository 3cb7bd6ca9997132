-- Payload bytes sent one by one are one copy into the output.
-- Assumes nothing.
use Prim.Native.Nat.{ℕ, ◌+◌, ◌-◌, ◌<◌, ◌≤◌, min}
use native.Mathlib.Omega.{arith}
use mathlib.Core.Path.{◌≡◌, refl}
use mathlib.Core.List.{List}
use lib.ListN.{length, get_or, take}
use lib.Seq.{take-length}
use borrow.Author.Tests.{lt-ltb}
use Rattle.memory.specs.Copy.{Copied}
use Rattle.machine.specs.Does.{sends}
use Rattle.machine.specs.Steps.{Sent}
use Rattle.machine.proofs.Bulks.{all-sent}
use Rattle.host_command.specs.Exchange.{lent, exchange_of}
use Rattle.host_flow.specs.declared.step.Step.{Step}
use Rattle.host_flow.specs.declared.step.Step.TheVariants.{SendPayload}
use Rattle.host_flow.specs.State.{State, state}
use Rattle.host_flow.specs.Flow.{paid, does}
use Rattle.host_flow.specs.Due.{due}
use Rattle.host_flow.specs.Host.{host}
use Rattle.host_turn.proofs.Ones.{taken}

-- no more bytes of a payload are sent than it has
pub sent-few : (payload : List ℕ) (place : ℕ) (old : List ℕ) (j end count : ℕ) (output : List ℕ) → Copied payload place old j end output count → count ≤ length payload - place
sent-few payload place old j end count output c =
    let x : count ≡ min (end - j) (length payload - place) = c.count_is in
    omega arith

module _ (opcode reason : ℕ) (payload answer : List ℕ) where
  -- with `count` of the payload's bytes sent
  abbrev at : (count : ℕ) → State
  at count = state (paid (length payload) count) reason (lent opcode payload answer)

  sends-next : (k : ℕ) → k < length payload → does (at k) ≡ sends (get_or payload k 0) (at (k + 1))
  unfolding exchange_of
  sends-next k h = rw (lt-ltb k (length payload) h) refl

  pub payload-sent : (size : ℕ) → size ≡ length payload → (old : List ℕ) (j place count : ℕ) (output : List ℕ) → place < size → j < length old →
      Copied payload place old j (length old) output count → (next : Step) → next ≡ paid size (place + count) →
      Sent host (state (SendPayload place) reason (lent opcode payload answer)) j old count (state next reason (lent opcode payload answer)) output
  payload-sent size is old j place count output inside h c next e =
      let inside' : place < length payload = omega arith in
      let whole : Copied (take (length payload) payload) place old j (length old) output count = rw (take-length payload) c in
      rw (e, is) (rw (lt-ltb place (length payload) inside') at (all-sent does due taken at (length payload) payload sends-next old j place (omega arith) count output inside' h whole))
