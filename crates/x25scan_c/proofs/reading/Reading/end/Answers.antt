use Rattle.std.proofs.Common.{◌≡◌, rules}
use Rattle.x25scan_c.proofs.reading.Reading.end.Goals as goal
use Rattle.x25scan_c.specs.declared.reading.Reading.TheVariants.{Rows}

pub returns-in-Rows-clause-rows : goal.returns-in-Rows-clause-rows
returns-in-Rows-clause-rows g c text was prints =
    let same : c.args.self.now ≡ Rows c.in-Rows.printed = search rules in
    c.end-in-Rows.ensures.rows text (rw same at was)

pub returns-in-Rows-clause-stopped : goal.returns-in-Rows-clause-stopped
returns-in-Rows-clause-stopped g c text was prints =
    let same : c.args.self.now ≡ Rows c.in-Rows.printed = search rules in
    c.end-in-Rows.ensures.refused text (rw same at was)
