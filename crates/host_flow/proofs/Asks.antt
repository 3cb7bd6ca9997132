-- What the step of a taking, or of a sending, needs, and what it may rely on.
-- Assumes nothing.
use Prim.Native.Nat.{ℕ}
use mathlib.Core.Path.{◌≡◌, refl, ap}
use mathlib.Core.Bool.{false}
use lib.ListN.{length}
use Rattle.machine.specs.Machine as machine
use Rattle.machine.specs.Does.{Does, need_of}
use Rattle.host_command.specs.declared.Exchange.{Exchange}
use Rattle.host_command.specs.Exchange.{Lent, exchange_of, exchange}
use Rattle.host_command.proofs.Commands.{fits}
use Rattle.host_flow.specs.declared.step.Step.{Step}
use Rattle.host_flow.specs.declared.ask.Taking.{Taking}
use Rattle.host_flow.specs.declared.ask.Taking.TheVariants.{Awaited, Any, CrcLow, CrcHigh, LengthLow, LengthHigh, Answer}
use Rattle.host_flow.specs.declared.ask.Sending.{Sending}
use Rattle.host_flow.specs.declared.ask.Sending.TheVariants as sending
use Rattle.host_flow.specs.State.{State}
use Rattle.host_flow.specs.Flow.{does_at}
use Rattle.host_flow.specs.Host.{is_look}
use Rattle.host_flow.specs.Sound.{Ready}
use Rattle.host_flow.specs.Ask.{TakesSo, SendsSo, FitsTaking, FitsSending}

same_size : (c : Lent) → (exchange c).size ≡ length c.payload
unfolding exchange_of
same_size c = refl

module _ (reason : ℕ) (c : Lent) (x : Exchange) (known : exchange c ≡ x) (s : Step) where
  pub taking-takes : (t : Taking) → TakesSo t x s → need_of (does_at reason c s) ≡ machine.take_one
  taking-takes (Awaited byte next) so = ap (λ (d : Does ℕ State). need_of d) (so.is reason c known)
  taking-takes (Any next) so = ap (λ (d : Does ℕ State). need_of d) (so.is reason c known)
  taking-takes CrcLow so = rw so refl
  taking-takes (CrcHigh low) so = rw so refl
  taking-takes LengthLow so = rw so refl
  taking-takes (LengthHigh low) so = rw so refl
  taking-takes (Answer place) so = rw so refl

  pub sending-sends : (t : Sending) → SendsSo t x s → need_of (does_at reason c s) ≡ machine.send_one
  sending-sends (sending.Byte byte next) so = ap (λ (d : Does ℕ State). need_of d) (so.is reason c known)
  sending-sends (sending.Payload place) so = rw so refl
  sending-sends sending.Crc so = rw so refl
  sending-sends sending.CrcHigh so = rw so refl

  module _ (ready : Ready s c) where
    pub fits-taking : (t : Taking) → TakesSo t x s → FitsTaking t x (length c.answer)
    fits-taking (Awaited byte next) so = tt
    fits-taking (Any next) so = tt
    fits-taking CrcLow so = tt
    fits-taking (CrcHigh low) so = tt
    fits-taking LengthLow so = tt
    fits-taking (LengthHigh low) so = tt
    fits-taking (Answer place) so = (rw (so, known) at ready.step_sound, rw known at (fits c ready.accepted).has_room)

    pub fits-sending : (t : Sending) → SendsSo t x s → FitsSending t x (length c.payload) (length c.answer)
    fits-sending (sending.Byte byte next) so = tt
    fits-sending (sending.Payload place) so = (rw (so, known) at ready.step_sound, rw known at (same_size c))
    fits-sending sending.Crc so = rw known at (fits c ready.accepted).has_room
    fits-sending sending.CrcHigh so = rw known at (fits c ready.accepted).has_room

-- only a look leaves a byte
pub taking-stays : (x : Exchange) (s : Step) (t : Taking) → TakesSo t x s → is_look s ≡ false
taking-stays x s (Awaited byte next) so = so.never_leaves
taking-stays x s (Any next) so = so.never_leaves
taking-stays x s CrcLow so = rw so refl
taking-stays x s (CrcHigh low) so = rw so refl
taking-stays x s LengthLow so = rw so refl
taking-stays x s (LengthHigh low) so = rw so refl
taking-stays x s (Answer place) so = rw so refl
