-- `headers::header_bytes`: the version is laid last, between bytes that are all known.
-- Assumes nothing.
use Rattle.headers.proofs.Fields.{version-laid}
use Rattle.headers.proofs.header_bytes.Goals as goal

pub returns : goal.returns
returns c =
    rw (c.lay.ensures, c.put-3.ensures, c.put-2.ensures, c.put.ensures)
    (version-laid c.args.id c.args.size c.args.crc c.args.time c.args.version.now c.requires)
