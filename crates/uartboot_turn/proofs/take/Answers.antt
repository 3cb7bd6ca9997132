-- `uartboot_turn::take`: each taking by the part that takes it.
-- Assumes nothing.
use Rattle.uartboot_turn.proofs.Ones.{takes_one}
use Rattle.uartboot_turn.proofs.take.Goals as goal

pub take_payload-requires : goal.take_payload-requires
take_payload-requires c = let h = rw c.in-Payload.is at c.requires.ready.step_sound in record { carried = h.0; place_lt_size = (h.1, c.requires.i_in_bounds) }

pub take_go-requires : goal.take_go-requires
take_go-requires c =
    record {
      carried = (rw c.in-Go.is at c.requires.ready.step_sound).0;
      fitting = c.requires.ready.fitting;
    }

pub took_crc_high-requires : goal.took_crc_high-requires
took_crc_high-requires c = (rw c.in-HostCrcHigh.is at c.requires.ready.step_sound).0.in_work

pub returns-in-Header : goal.returns-in-Header
returns-in-Header c = takes_one _ _ _ _ _ c.in-Header.is _ _ c.requires.i_in_bounds _ (c.took_header.ensures.is _ _) _ c.by_one.ensures

pub returns-in-Payload : goal.returns-in-Payload
returns-in-Payload c = rw c.in-Payload.is c.take_payload.ensures

pub returns-in-Go : goal.returns-in-Go
returns-in-Go c = takes_one _ _ _ _ _ c.in-Go.is _ _ c.requires.i_in_bounds _ c.take_go.ensures _ c.by_one-in-Go.ensures

pub returns-in-AnswerGo : goal.returns-in-AnswerGo
returns-in-AnswerGo c = takes_one _ _ _ _ _ c.in-AnswerGo.is _ _ c.requires.i_in_bounds _ (c.took_answer_go.ensures.is _) _ c.by_one-in-AnswerGo.ensures

pub returns-in-HostCrcLow : goal.returns-in-HostCrcLow
returns-in-HostCrcLow c = takes_one _ _ _ _ _ c.in-HostCrcLow.is _ _ c.requires.i_in_bounds _ (c.took_crc_low.ensures.is _) _ c.by_one-in-HostCrcLow.ensures

pub returns-in-HostCrcHigh : goal.returns-in-HostCrcHigh
returns-in-HostCrcHigh c = takes_one _ _ _ _ _ c.in-HostCrcHigh.is _ _ c.requires.i_in_bounds _ (c.took_crc_high.ensures.is _ _) _ c.by_one-in-HostCrcHigh.ensures
