use Rattle.std.proofs.Common.{refl}
use Rattle.call_accounts.specs.SoFar.{IsOf}
use Rattle.call_accounts.proofs.SoFarLemmas.{all_more, stays_none, other_within, within_opens_none, counted_within}
use Rattle.call_accounts.proofs.so_far.CallsSoFar.add_event.Goals as goal

pub returns-in-Some : goal.returns-in-Some
returns-in-Some g c = record {
  added = λ epoch channel es s of few.
      let e = c.args.event.now in
      record {
        of_channel = all_more (IsOf epoch channel) es e s.of_channel of;
        holds =
            counted_within c.args.self.now.closed.items c.args.self.now.call c.in-Some.call _ es e c.in-Some.is s.holds
            (other_within e c.in_default.not-Open c.in_default.not-End) refl c.add_event.ensures few;
      };
}

pub returns-in_default-call : goal.returns-in_default-call
returns-in_default-call g c = record {
  added = λ epoch channel es s of few.
      let e = c.args.event.now in
      record {
        of_channel = all_more (IsOf epoch channel) es e s.of_channel of;
        holds =
            stays_none c.args.self.now.closed.items c.args.self.now.call epoch channel es e c.in_default-call.is s.of_channel of s.holds
            (within_opens_none e (other_within e c.in_default.not-Open c.in_default.not-End));
      };
}
