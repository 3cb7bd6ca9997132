-- `capi::und_order`: the order that the call gives.
-- Assumes nothing.
use Rattle.capi.proofs.und_order.Goals as goal

pub returns : goal.returns
returns c = c.order.ensures
