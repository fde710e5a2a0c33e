-- The header and the form of the records behind it were read.
use Rattle.std.proofs.Common.{◌≡◌, ◌∙◌, ap, ◌++◌, None, Option, Some, refl, rules, sym}
use Rattle.capture_files.specs.PcapFiles.{pcap_left}
use Rattle.capture_files.specs.PcapHeaders.{form_in}
use Rattle.capture_files.specs.declared.pcap.PcapForm.{PcapForm}
use Rattle.capture_files.specs.declared.pcap_reader.Pcap.{Pcap}
use Rattle.capture_files.proofs.FileLemmas.{opened}
use Rattle.capture_files.proofs.pcap_header.open_pcap.Goals as goal

pub returns-clause-opened : goal.returns-clause-opened
returns-clause-opened g c =
    let header = c.take_header.new.window.last in
    let read : form_in header ≡ Some c.in-Some.form = search rules in
    let own : PcapForm → Option PcapForm = λ f. Some (record f { header = c.in-Some.form.header }) in (
      header,
      record { records = c.in-Some.form.header; form = read ∙ ap own (sym c.in_ok-fit.ensures.form.1) },
      c.in_ok-take_header.ensures.length,
      λ file shown.
          let one = c.in_ok-take_header.ensures.passes file shown in
          let two = c.fit.ensures.passes one.0 one.1 in
          (two.0, two.1, one.2 ∙ ap (λ xs. header ++ xs) two.2),
    )

pub returns-clause-records : goal.returns-clause-records
returns-clause-records g c = λ file shown.
    let header = c.take_header.new.window.last in
    let read : form_in header ≡ Some c.in-Some.form = search rules in
    let p : Pcap = record { form = c.in_ok-fit.field-0; number = c.args.number; offset = 24; seconds = None; search = None } in
    let one = c.in_ok-take_header.ensures.passes file shown in
    let two = c.fit.ensures.passes one.0 one.1 in
    ap (pcap_left p) (two.1 ∙ ap Some (sym two.2))
    ∙ opened c.args.may_wait c.args.number p c.in-Some.form header one.0 file one.2 c.in_ok-take_header.ensures.length read (c.in_ok-fit.ensures.fitted one.0 one.1) refl refl
