use Rattle.std.proofs.Common.{[]}
use Rattle.descriptions.proofs.finding_lines.write_line.Goals as goal

pub returns : goal.returns
returns g c i earlier r h =
    let added = c.put_finding.ensures i earlier r h in
    record { bytes = added.bytes; put = added.put [] c.clear.ensures; formed = added.formed }
