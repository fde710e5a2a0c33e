use Rattle.std.proofs.Common.{◌+◌, ◌∙◌, ap, length, None}
use Rattle.line_model.specs.packets.Classes.{packet_of}
use Rattle.line_model.specs.packets.Says.{said_octets}
use Rattle.tests_reports.proofs.channels.push.Goals as goal

pub push-requires-clause-said : goal.push-requires-clause-said
push-requires-clause-said g c =
    let octets = c.in_ok-to_vec.field-0.items in
    record {
      row = record { number = c.last-last.result + 1; side = c.args.side; octets = octets; gap = None };
      lawful = tt;
      says = c.item.ensures
          ∙ ap (λ p. record { number = c.last-last.result + 1; side = c.args.side; packet = p; length = length octets; octets = said_octets octets })
          (c.decode-packet.ensures ∙ (λ j. packet_of (c.interface.ensures j) (c.as_slice.ensures.value j)));
    }
