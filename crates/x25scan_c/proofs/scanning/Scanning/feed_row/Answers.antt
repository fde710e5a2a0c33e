use Rattle.std.proofs.Common.{◌≡◌, rules}
use Rattle.x25scan_c.proofs.scanning.Scanning.feed_row.Goals as goal
use Rattle.x25scan_c.specs.Sound.{packet_line}

pub returns-in-Ok-clause-read : goal.returns-in-Ok-clause-read
returns-in-Ok-clause-read c text was ok =
    let line : c.as_slice.result.now ≡ packet_line c.args.number c.args.side c.args.octets.now = search rules in
    let read = c.feed-answer.ensures.read text was ok in
    rw line at read
