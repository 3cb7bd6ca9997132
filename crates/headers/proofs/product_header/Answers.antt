-- `headers::product_header`: the bytes, all of which are known.
-- Assumes nothing.
use Rattle.headers.proofs.product_header.Goals as goal

pub returns : goal.returns
returns c = rw (c.put-2.ensures, c.put.ensures)
