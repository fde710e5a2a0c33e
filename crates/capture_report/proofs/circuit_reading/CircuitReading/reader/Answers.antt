-- The reader gives the text of the circuits.
use Rattle.std.proofs.Common.{◌≡◌, ◌∙◌, ap, sym, Some}
use Rattle.std.specs.Option.{option_map}
use Rattle.line_model.specs.text.Header.{interface_with}
use Rattle.capture_report.specs.Circuits.{given_with}
use Rattle.capture_report.specs.HeaderTexts.{head_text}
use Rattle.capture_report.specs.Headers.{numbers_with}
use Rattle.capture_report.specs.CircuitChannels.{channel_of}
use Rattle.capture_report.specs.Reasons.{with_channels, without_channel}
use Rattle.capture_report.specs.declared.halves.Halves.TheVariants.{Connections}
use Rattle.capture_report.proofs.CircuitReadingLemmas.{reader_made}
use Rattle.capture_report.proofs.circuit_reading.CircuitReading.reader.Goals as goal

pub returns-clause-reader : goal.returns-clause-reader
returns-clause-reader c =
    let o = c.args.self.now.options in
    let found = c.args.self.now.circuits in
    let i = c.in_ok-head.head.header in
    let head = c.in_ok-head.head.text.items in
    let header : interface_with (numbers_with (given_with o.header found.circuits) found.seen) ≡ Some i =
    ap (λ v. interface_with (numbers_with (given_with o.header found.circuits) v)) (sym c.seen.ensures) ∙ ap (λ g. interface_with (numbers_with g c.seen.result.now)) (sym c.given-known.ensures) ∙ c.in_ok-head.ensures.header
    in
    let text : head ≡ head_text i found.seen o.header = c.in_ok-head.ensures.text ∙ ap (λ v. head_text i v o.header) c.seen.ensures in
    record {
      reader = reader_made o found i (record { frames = c.new-frames.result; batch = c.new-batch.result; page = c.in-Ok-page.page }) c.of_circuits.result head c.of_circuits.ensures c.new-frames.ensures
          c.in-Ok-page.ensures.rule (ap channel_of c.in-Ok-page.ensures.channels ∙ c.in-Ok.ensures) c.in-Ok-page.ensures.page text header;
      counts = ap (option_map (with_channels c.args.self.now.counts found.circuits)) header
          ∙ ap (λ n. Some (record c.args.self.now.counts { without_channel = n })) (sym (c.without_channel-without.ensures ∙ ap (λ f. without_channel f found.circuits) c.in-Ok.ensures)) ∙ ap (λ r. Some r) (sym c.with_channels.ensures);
      halves = ap (λ h. Connections h) c.in-Ok-halves.ensures;
    }
