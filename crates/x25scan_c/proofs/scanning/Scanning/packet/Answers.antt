use Rattle.std.proofs.Common.{◌≡◌, ◌∙◌, Ok, ap}
use Rattle.x25scan_c.proofs.ScanLemmas.{same_side}
use Rattle.x25scan_c.proofs.scanning.Scanning.packet.Goals as goal
use Rattle.x25scan_c.specs.Waits.{waiting}

pub returns-in-Ok-true-clause-read : goal.returns-in-Ok-true-clause-read
returns-in-Ok-true-clause-read c text s letter was ok =
    let same : c.in-Some.sender ≡ s = same_side _ _ _ c.in-Some.is (c.side_of.ensures s letter) in
    let fed = c.packet.ensures.taken text (waiting c.args.self.now.text) was (c.in-Ok-true.is ∙ ap Ok c.in-Ok-true.field-0-test) in
    let read = rw same at fed in
    (read.0, c.packet.ensures.form, read.1)

pub returns-in-Ok-false-clause-read : goal.returns-in-Ok-false-clause-read
returns-in-Ok-false-clause-read c text s letter was ok =
    let none = c.in-Ok-false.is ∙ ap Ok c.in-Ok-false.field-0-test in
    let same : c.in-Some.sender ≡ s = same_side _ _ _ c.in-Some.is (c.side_of.ensures s letter) in
    let read = c.feed_row.ensures.read text (c.packet.ensures.passed text was none) ok in
    let fed = read.0 in
    let brings = read.2 in
    let formed = rw c.packet.ensures.form at brings in
    let found = rw (c.packet.ensures.unfound none) at formed in
    (rw same at fed, read.1 ∙ c.packet.ensures.form, rw same at found)
