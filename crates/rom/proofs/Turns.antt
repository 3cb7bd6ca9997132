-- The turns of the receiver's loop, by what was asked.
-- Assumes nothing.
use Prim.Native.Nat.{ℕ, ◌≤◌}
use native.Mathlib.Omega.{arith}
use mathlib.Core.Path.{◌≡◌, refl, ap}
use mathlib.Core.List.{List}
use lib.ListN.{length}
use Rattle.machine.specs.Does.{Does, need_of}
use Rattle.machine.specs.Lawful.{Any}
use Rattle.machine.specs.Loop.{Acted}
use Rattle.machine.specs.Steps.{Taken, Sent}
use Rattle.machine.proofs.Turns.{Turn, turn-begins, turn-hungry, turn-choked, turn-halts}
use Rattle.rom_flow.specs.declared.kind.Kind.{Kind}
use Rattle.rom_flow.specs.declared.step.Step.{Step}
use Rattle.machine.specs.declared.step.Moved.{Moved}
use Rattle.rom_flow.specs.declared.ask.Taking.{Taking}
use Rattle.rom_flow.specs.declared.ask.Sending.{Sending}
use Rattle.rom_flow.specs.declared.ask.Sending.TheVariants.{Byte, Xor}
use Rattle.machine.specs.declared.ask.Ask.{Ask}
use Rattle.machine.specs.declared.ask.Ask.TheVariants.{Take, Send, Halt}
use Rattle.rom_flow.specs.State.{State, state}
use Rattle.rom_flow.specs.Receiver.{receiver}
use Rattle.rom_flow.specs.Sound.{Ready}
use Rattle.rom_flow.specs.Ask.{step_of, SendsSo, InRam, Asked, SentSo}
use Rattle.rom_flow.proofs.Asks.{taking-takes, sending-sends}
use Rattle.rom_flow.proofs.Sounds.{Held}
use Rattle.rom_flow.proofs.Laws.{held}

-- a call at `first`, reason₀, ram₀ has come to s, last, ram
abbrev pub At : Kind → (first : Step) (reason₀ : ℕ) (ram₀ input old : List ℕ) (s : Step) (last : ℕ) (ram reply : List ℕ) (i j : ℕ) → Type 0
At kind first reason₀ ram₀ input old s last ram reply i j =
    Turn receiver (Held ram₀) (state kind first reason₀ ram₀) input old (state kind s last ram) reply i j

module _ {kind : Kind} {first : Step} {reason₀ : ℕ} {ram₀ input old : List ℕ} where
  pub begins : Ready kind first ram₀ → At kind first reason₀ ram₀ input old first reason₀ ram₀ old 0 0
  begins h = turn-begins (λ s a. refl) (held ram₀ Any) (record { ready = h; same = refl })

  module _ {s : Step} {last : ℕ} {ram reply : List ℕ} {i j : ℕ} (t : At kind first reason₀ ram₀ input old s last ram reply i j) (a : Ask Taking Sending) (asked : Asked a s) where
    module _ (x : Taking) (e : a ≡ Take x) where
      step_is : s ≡ step_of x
      step_is = rw e at asked

      pub ready-to-take : Ready kind (step_of x) ram
      ready-to-take = rw step_is at t.keeps.ready

      pub taken : {count : ℕ} {next : State} → Taken receiver input i (state kind (step_of x) last ram) count next → Taken receiver input i (state kind s last ram) count next
      taken h = rw step_is h

      pub hungry : length input ≤ i → Acted receiver (state kind first reason₀ ram₀) input old i j 1 (state kind s last ram) reply
      hungry h = turn-hungry t (rw step_is (taking-takes kind last ram x)) h

    module _ (x : Sending) (e : a ≡ Send x) where
      sends-so : SendsSo x s
      sends-so = rw e at asked

      pub ready-to-send : InRam x (length ram)
      ready-to-send = go x sends-so
        where
          go : (x : Sending) → SendsSo x s → InRam x (length ram)
          go (Byte byte next) so = tt
          go (Xor total) so = (rw so at t.keeps.ready.step_sound).1

      pub sent : {r : Moved Step} {reply' : List ℕ} → SentSo x last ram j reply r reply' →
          Sent receiver (state kind s last ram) j reply r.count (state kind r.step r.reason ram) reply'
      sent h = h.is kind s sends-so

      pub choked : length reply ≤ j → Acted receiver (state kind first reason₀ ram₀) input old i j 2 (state kind s last ram) reply
      choked h = turn-choked t (sending-sends kind last ram x s sends-so) (omega arith) h

    pub halts : a ≡ Halt → Acted receiver (state kind first reason₀ ram₀) input old i j 3 (state kind s last ram) reply
    halts e = turn-halts t (ap (λ (d : Does ℕ State). need_of d) ((rw e at asked).is kind last ram))
