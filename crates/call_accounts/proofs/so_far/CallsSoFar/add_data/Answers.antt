use Rattle.std.proofs.Common.{◌∙◌, sym, refl}
use Rattle.call_accounts.specs.SoFar.{IsOf}
use Rattle.call_accounts.proofs.SoFarLemmas.{all_more, counted_within, data_lengths, data_within, stays_none, within_opens_none}
use Rattle.call_accounts.proofs.so_far.CallsSoFar.add_data.Goals as goal

pub returns-in-Some : goal.returns-in-Some
returns-in-Some g c epoch channel es e s of is segments few = record {
  of_channel = all_more (IsOf epoch channel) es e s.of_channel of;
  holds =
      counted_within c.args.self.now.closed.items c.args.self.now.call c.in-Some.call _ es e c.in-Some.is s.holds
      (data_within e c.args.side c.args.octets is) refl (c.add_data.ensures e is (segments ∙ sym (data_lengths e c.args.side c.args.octets is))) few;
}

pub returns-in_default : goal.returns-in_default
returns-in_default g c epoch channel es e s of is segments few = record {
  of_channel = all_more (IsOf epoch channel) es e s.of_channel of;
  holds =
      stays_none c.args.self.now.closed.items c.args.self.now.call epoch channel es e c.in_default.is s.of_channel of s.holds
      (within_opens_none e (data_within e c.args.side c.args.octets is));
}
