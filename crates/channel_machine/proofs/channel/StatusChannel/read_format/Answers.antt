use Rattle.std.proofs.Common.{◌∙◌, ap, sym}
use Rattle.line_model.specs.packets.Formats.{format_fault}
use Rattle.channel_machine.specs.Contents.{is_call}
use Rattle.channel_machine.proofs.CallFaults.{no_call}
use Rattle.channel_machine.proofs.channel.StatusChannel.read_format.Goals as goal

pub returns-in-Some : goal.returns-in-Some
returns-in-Some g c = record {
  fault = λ k s.
      sym c.in-Some.is
      ∙ c.length_fault.ensures.fault k c.args.item.now.octets s (no_call c.args.class c.in_default.not-Call c.in_default.not-Accepted)
      ∙ (λ j. format_fault c.args.self.now.terms.interface k (c.item.view_is j).side c.args.class (c.item.view_is j).length c.args.item.now.octets);
  contents = tt;
  usable = tt;
}

pub returns-in-None : goal.returns-in-None
returns-in-None g c = record {
  fault = λ k s.
      sym c.in-None.is
      ∙ c.length_fault.ensures.fault k c.args.item.now.octets s (no_call c.args.class c.in_default.not-Call c.in_default.not-Accepted)
      ∙ (λ j. format_fault c.args.self.now.terms.interface k (c.item.view_is j).side c.args.class (c.item.view_is j).length c.args.item.now.octets);
  contents = ap is_call (sym c.requires.class) ∙ no_call c.args.class c.in_default.not-Call c.in_default.not-Accepted;
  usable = tt;
}
