use Rattle.std.proofs.Common.{subst}
use Rattle.call_accounts.specs.SoFar.{HoldsFor, IsOf}
use Rattle.call_accounts.proofs.SoFarLemmas.{all_more, stays_none, end_opens_none, ends_open_at}
use Rattle.call_accounts.proofs.so_far.CallsSoFar.end.Goals as goal

pub returns-in_default : goal.returns-in_default
returns-in_default g c = λ epoch channel es e s of packet what. record {
  of_channel = all_more (IsOf epoch channel) es e s.of_channel of;
  holds =
      stays_none c.args.self.now.closed.items c.args.self.now.call epoch channel es e c.in_default.is s.of_channel of s.holds (end_opens_none e c.args.how what);
}

pub returns : goal.returns
returns g c = λ epoch channel es e s of packet what.
    let closed = c.args.self.now.closed.items in
    record {
      of_channel = all_more (IsOf epoch channel) es e s.of_channel of;
      holds =
          ends_open_at closed c.end_last.new.calls.items c.push_record.new.calls.items c.in-Some.call epoch channel es e c.args.packet c.args.how s.of_channel of packet what
          (subst (λ o. HoldsFor closed o es) c.in-Some.is s.holds) c.end_last.ensures c.in_ok-record.record c.in_ok-record.ensures c.in_ok-push_record.ensures;
    }
