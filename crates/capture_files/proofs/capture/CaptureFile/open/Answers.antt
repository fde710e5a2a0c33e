-- A file of blocks has another magic number than those of pcap.
use Rattle.std.proofs.Common.{◌∙◌, ap, arith, length, sym, true}
use Rattle.capture_files.specs.Numbers.{number}
use Rattle.capture_files.specs.PcapngFiles.{block_records, pcapng_left}
use Rattle.capture_files.proofs.FileLemmas.{begun_section, front_shown}
use Rattle.capture_files.proofs.PcapngLemmas.{left_is}
use Rattle.capture_files.proofs.capture.CaptureFile.open.Goals as goal

pub returns-then-branch-clause-records : goal.returns-then-branch-clause-records
returns-then-branch-clause-records g c = λ octets shown.
    let ahead = c.fill.new.self.ahead in
    let reader = c.new.result in
    let section = c.in_ok-is_pcapng.ensures.section c.if-branch.true in
    let read = c.fill.ensures.passes octets shown in
    let front = front_shown _ (g.S.Source.left c.fill.new.source) ahead octets c.fill.ensures.passes shown in
    ap (pcapng_left reader) read.1
    ∙ left_is reader read.0 c.new.ensures.free c.new.ensures.sound
    ∙ ap (λ s. block_records s read.0) c.new.ensures.section
    ∙ ap (block_records _) (sym read.2)
    ∙ sym (begun_section c.args.may_wait c.args.number ahead front.0 octets front.2 (omega (arith, section.0, ap length c.ahead.ensures)) (sym (ap (number true) c.ahead.ensures) ∙ section.1))
