use Rattle.ofx_header.proofs.Written.{pieces}
use Rattle.ofx_header.proofs.writing.write_header.Goals as goal

pub returns-clause-written : goal.returns-clause-written
returns-clause-written c =
    pieces _ _ _ _ _ _ _ _ c.args.header.now.version c.args.header.now.older c.args.header.now.newer
    c.in_ok-extend_from_slice.ensures.items c.in_ok-number.ensures.ok c.in_ok-extend_from_slice-2.ensures.items c.in_ok-uid.ensures.ok
    c.in_ok-extend_from_slice-3.ensures.items c.in_ok-uid-2.ensures.ok c.in_ok-extend_from_slice-4.ensures.items
