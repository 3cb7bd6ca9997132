-- The turns of the host's loop, by what was asked.
-- Assumes nothing.
use Prim.Native.Nat.{ℕ, ◌+◌, ◌-◌, ◌≤◌, ◌<◌}
use native.Mathlib.Omega.{arith}
use mathlib.Core.Path.{◌≡◌, refl, subst}
use mathlib.Core.List.{List}
use lib.Dec.{eqb}
use lib.ListN.{length, get_or}
use Rattle.wire.specs.Line.{stx}
use Rattle.wire.proofs.Tests.{in-cond}
use Rattle.machine.specs.Machine as machine
use Rattle.machine.specs.Lawful.{Any}
use Rattle.machine.specs.Loop.{Acted}
use Rattle.machine.specs.Steps.{Taken, Sent}
use Rattle.machine.proofs.Turns.{Turn, turn-begins, turn-took, turn-sent, turn-took-fits, turn-took-less, turn-sent-fits, turn-sent-less, turn-hungry, turn-choked, turn-halts, turn-looked}
use Rattle.host_command.specs.declared.Exchange.{Exchange}
use Rattle.host_command.specs.Exchange.{Lent, lent, exchange_of}
use Rattle.host_flow.specs.declared.step.Step.{Step}
use Rattle.host_flow.specs.declared.step.Step.TheVariants as step
use Rattle.machine.specs.declared.step.Moved.{Moved}
use Rattle.host_flow.specs.declared.ask.Taking.{Taking}
use Rattle.host_flow.specs.declared.ask.Sending.{Sending}
use Rattle.host_flow.specs.declared.ask.Ask.{Ask}
use Rattle.host_flow.specs.declared.ask.Ask.TheVariants.{Take, Send, Look, Halt}
use Rattle.host_flow.specs.State.{state}
use Rattle.host_flow.specs.Flow.{expected}
use Rattle.host_flow.specs.Host.{host}
use Rattle.host_flow.specs.Sound.{Ready}
use Rattle.host_flow.specs.Gives.{Looked}
use Rattle.host_flow.specs.Ask.{TakesSo, SendsSo, Asked, FitsTaking, FitsSending, TakenSo, SentSo}
use Rattle.host_flow.proofs.Asks.{taking-takes, sending-sends, fits-taking, fits-sending}
use Rattle.host_flow.proofs.Sounds.{Held, same-lent}
use Rattle.host_flow.proofs.Laws.{held}

-- what is lent, from which x is known
abbrev pub lent_to : Exchange → (payload answer : List ℕ) → Lent
lent_to x payload answer = lent x.opcode payload answer

-- a call at `first`, reason₀, answer₀ has come to s, last, answer
pub record At (x : Exchange) (first : Step) (reason₀ : ℕ) (payload answer₀ input old : List ℕ) (s : Step) (last : ℕ) (answer output : List ℕ) (i j : ℕ) : Type 0 where
  pub known : exchange_of x.opcode payload ≡ x
  pub turn : Turn host (Held (lent_to x payload answer₀)) (state first reason₀ (lent_to x payload answer₀)) input old (state s last (lent_to x payload answer)) output i j

-- a look takes a byte at most
look-few : (reason byte : ℕ) (r : Moved Step) → Looked reason byte r → r.count ≤ 1
look-few reason byte r l = rw l.count_is (in-cond (λ (k : ℕ). k ≤ 1) (eqb byte stx) 0 1 (λ t. omega arith) (λ t. omega arith))

module _ {x : Exchange} {first : Step} {reason₀ : ℕ} {payload answer₀ input old : List ℕ} where
  pub begins : exchange_of x.opcode payload ≡ x → Ready first (lent_to x payload answer₀) → At x first reason₀ payload answer₀ input old first reason₀ answer₀ old 0 0
  begins e h = record { known = e; turn = turn-begins (λ s a. refl) (held (lent_to x payload answer₀) Any) (record { ready = h; same = same-lent (lent_to x payload answer₀) }) }

  -- a look at the next byte, after which the command is over
  look-acted : {last : ℕ} {answer output : List ℕ} {i j : ℕ} → At x first reason₀ payload answer₀ input old step.Look last answer output i j → i < length input →
      (r : Moved Step) → Looked last (get_or input i 0) r →
      Acted host (state first reason₀ (lent_to x payload answer₀)) input old (i + r.count) j 3 (state r.step r.reason (lent_to x payload answer)) output
  look-acted {last} {answer} {i = i} t h r l =
      let c = lent_to x payload answer in
      let is = l.is c in
      let ended : host.need (expected last c stx (get_or input i 0) step.Over) ≡ machine.runs = rw (← is, l.over) refl in
      rw (l.count_is, is) (turn-looked t.turn refl h ended)

  module _ {s : Step} {last : ℕ} {answer output : List ℕ} {i j : ℕ} (t : At x first reason₀ payload answer₀ input old s last answer output i j) where
    module _ (a : Ask) (asked : Asked a x s) where
      module _ (y : Taking) (e : a ≡ Take y) where
        takes-so : TakesSo y x s
        takes-so = rw e at asked

        pub ready-to-take : FitsTaking y x (length answer)
        ready-to-take = fits-taking last (lent_to x payload answer) x t.known s t.turn.keeps.ready y takes-so

        module _ {r : Moved Step} {answer' : List ℕ} (h : TakenSo y x last payload input i answer r answer') where
          taken : Taken host input i (state s last (lent_to x payload answer)) r.count (state r.step r.reason (lent_to x payload answer'))
          taken = h.is x.opcode s t.known takes-so

          pub took : At x first reason₀ payload answer₀ input old r.step r.reason answer' output (i + r.count) j
          took = record { known = t.known; turn = turn-took t.turn taken }

          pub took-fits : i + r.count ≤ length input
          took-fits = turn-took-fits t.turn taken

          pub took-less : length input - (i + r.count) + (length output - j) < length input - i + (length output - j)
          took-less = turn-took-less t.turn taken

        pub hungry : length input ≤ i →
            Acted host (state first reason₀ (lent_to x payload answer₀)) input old i j 1 (state s last (lent_to x payload answer)) output
        hungry h = turn-hungry t.turn (taking-takes last (lent_to x payload answer) x t.known s y takes-so) h

      module _ (y : Sending) (e : a ≡ Send y) where
        sends-so : SendsSo y x s
        sends-so = rw e at asked

        pub ready-to-send : FitsSending y x (length payload) (length answer)
        ready-to-send = fits-sending last (lent_to x payload answer) x t.known s t.turn.keeps.ready y sends-so

        module _ {r : Moved Step} {output' : List ℕ} (h : SentSo y x last payload answer j output r output') where
          sent-all : Sent host (state s last (lent_to x payload answer)) j output r.count (state r.step r.reason (lent_to x payload answer)) output'
          sent-all = h.is x.opcode s t.known sends-so

          pub sent : At x first reason₀ payload answer₀ input old r.step r.reason answer output' i (j + r.count)
          sent = record { known = t.known; turn = turn-sent t.turn sent-all }

          pub sent-fits : j + r.count ≤ length output'
          sent-fits = turn-sent-fits t.turn sent-all

          pub sent-less : length input - i + (length output' - (j + r.count)) < length input - i + (length output - j)
          sent-less = turn-sent-less t.turn sent-all

        pub choked : length output ≤ j →
            Acted host (state first reason₀ (lent_to x payload answer₀)) input old i j 2 (state s last (lent_to x payload answer)) output
        choked h = turn-choked t.turn (sending-sends last (lent_to x payload answer) x t.known s y sends-so) (omega arith) h

      module _ (e : a ≡ Look) where
        is-look : s ≡ step.Look
        is-look = rw e at asked

        pub look-hungry : length input ≤ i →
            Acted host (state first reason₀ (lent_to x payload answer₀)) input old i j 1 (state s last (lent_to x payload answer)) output
        look-hungry h = turn-hungry t.turn (rw is-look refl) h

        pub look-fits : i < length input → (r : Moved Step) → Looked last (get_or input i 0) r → i + r.count ≤ length input
        look-fits h r l = omega (arith, look-few last (get_or input i 0) r l)

        pub looked : i < length input → (r : Moved Step) → Looked last (get_or input i 0) r →
            Acted host (state first reason₀ (lent_to x payload answer₀)) input old (i + r.count) j 3 (state r.step r.reason (lent_to x payload answer)) output
        looked h r l = look-acted (subst (λ (y : Step). At x first reason₀ payload answer₀ input old y last answer output i j) is-look t) h r l

      pub halts : a ≡ Halt →
          Acted host (state first reason₀ (lent_to x payload answer₀)) input old i j 3 (state s last (lent_to x payload answer)) output
      halts e = turn-halts t.turn (let over : s ≡ step.Over = rw e at asked in rw over refl)
