-- The turns of the session's loop, by what was asked.
-- Assumes nothing.
use Prim.Native.Nat.{ℕ, ◌≤◌}
use native.Mathlib.Omega.{arith}
use mathlib.Core.Path.{◌≡◌, refl, ap}
use mathlib.Core.List.{List}
use lib.ListN.{length}
use Rattle.machine.specs.Does.{Does, need_of}
use Rattle.machine.specs.Lawful.{Any}
use Rattle.machine.specs.Loop.{Acted}
use Rattle.machine.specs.Steps.{Taken, Sent}
use Rattle.machine.proofs.Turns.{Turn, turn-begins, turn-hungry, turn-choked, turn-halts}
use Rattle.memory.specs.Memories.{Memories}
use Rattle.uartboot_flow.specs.declared.step.Step.{Step}
use Rattle.machine.specs.declared.step.Moved.{Moved}
use Rattle.uartboot_flow.specs.declared.ask.Taking.{Taking}
use Rattle.uartboot_flow.specs.declared.ask.Sending.{Sending}
use Rattle.machine.specs.declared.ask.Ask.{Ask}
use Rattle.machine.specs.declared.ask.Ask.TheVariants.{Take, Send, Halt}
use Rattle.uartboot_flow.specs.State.{State, state}
use Rattle.uartboot_flow.specs.Device.{device}
use Rattle.uartboot_flow.specs.Sound.{Ready}
use Rattle.uartboot_flow.specs.Ask.{step_of, SendsSo, ReadyTo, Asked, SentSo}
use Rattle.uartboot_flow.proofs.Asks.{taking-takes, sending-sends, ready-to}
use Rattle.uartboot_flow.proofs.Sounds.{Held}
use Rattle.uartboot_flow.proofs.Laws.{same-lengths, held}

-- a call at `first`, reason₀, m₀ has come to s, last, m
abbrev pub At : (first : Step) (reason₀ : ℕ) (m₀ : Memories) (input old : List ℕ) (s : Step) (last : ℕ) (m : Memories) (reply : List ℕ) (i j : ℕ) → Type 0
At first reason₀ m₀ input old s last m reply i j = Turn device (Held m₀) (state first reason₀ m₀) input old (state s last m) reply i j

module _ {first : Step} {reason₀ : ℕ} {m₀ : Memories} {input old : List ℕ} where
  pub begins : Ready first m₀ → At first reason₀ m₀ input old first reason₀ m₀ old 0 0
  begins h = turn-begins (λ s a. refl) (held m₀ Any) (record { ready = h; same = same-lengths m₀ })

  module _ {s : Step} {last : ℕ} {m : Memories} {reply : List ℕ} {i j : ℕ} (t : At first reason₀ m₀ input old s last m reply i j) where
    module _ (a : Ask Taking Sending) (asked : Asked a s) where
      module _ (x : Taking) (e : a ≡ Take x) where
        step_is : s ≡ step_of x
        step_is = rw e at asked

        pub ready-to-take : Ready (step_of x) m
        ready-to-take = rw step_is at t.keeps.ready

        pub taken : {count : ℕ} {next : State} → Taken device input i (state (step_of x) last m) count next → Taken device input i (state s last m) count next
        taken h = rw step_is h

        pub hungry : length input ≤ i → Acted device (state first reason₀ m₀) input old i j 1 (state s last m) reply
        hungry h = turn-hungry t (rw step_is (taking-takes last m x)) h

      module _ (x : Sending) (e : a ≡ Send x) where
        sends-so : SendsSo x s
        sends-so = rw e at asked

        pub ready-to-send : ReadyTo x m
        ready-to-send = ready-to m x s sends-so t.keeps.ready

        pub sent : {r : Moved Step} {m' : Memories} {reply' : List ℕ} → SentSo x last m j reply r m' reply' →
            Sent device (state s last m) j reply r.count (state r.step r.reason m') reply'
        sent h = h.is s sends-so

        pub choked : length reply ≤ j → Acted device (state first reason₀ m₀) input old i j 2 (state s last m) reply
        choked h = turn-choked t (sending-sends last m x s sends-so) (omega arith) h

      pub halts : a ≡ Halt → Acted device (state first reason₀ m₀) input old i j 3 (state s last m) reply
      halts e = turn-halts t (ap (λ (d : Does ℕ State). need_of d) ((rw e at asked).is last m))
