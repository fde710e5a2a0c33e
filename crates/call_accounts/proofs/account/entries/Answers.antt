use Rattle.std.proofs.Common.{◌≡◌, ◌∙◌, ap, map}
use Rattle.std.proofs.lemmas.List.{take_all}
use Rattle.std.proofs.lemmas.Result.{IfOk-from_err}
use Rattle.call_accounts.specs.declared.account.AccountEntry.{AccountEntry}
use Rattle.call_accounts.specs.Entries.{IsRanked, account_of_call, account_of_entry}
use Rattle.call_accounts.proofs.EntryLemmas.{all_more, entries_more}
use Rattle.call_accounts.proofs.account.entries.Goals as goal

pub returns-in_err-entries-clause-entries : goal.returns-in_err-entries-clause-entries
returns-in_err-entries-clause-entries g c = IfOk-from_err _ _ c.from_residual.ensures.0

pub returns-in_err-entries-clause-ranked : goal.returns-in_err-entries-clause-ranked
returns-in_err-entries-clause-ranked g c = IfOk-from_err _ _ c.from_residual.ensures.0

pub loop-call-init : goal.loop-call-init
loop-call-init g c = record {
  entries = ap (map account_of_entry) c.in_ok-entries.ensures.items;
  ranked = rw c.in_ok-entries.ensures.items tt;
}

pub returns-in_err-push-clause-entries : goal.returns-in_err-push-clause-entries
returns-in_err-push-clause-entries g c = IfOk-from_err _ _ c.from_residual-in_err-push.ensures.0

pub returns-in_err-push-clause-ranked : goal.returns-in_err-push-clause-ranked
returns-in_err-push-clause-ranked g c = IfOk-from_err _ _ c.from_residual-in_err-push.ensures.0

pub loop-call-preserved : goal.loop-call-preserved
loop-call-preserved g c =
    let call = c.call-item.result in
    let own : AccountEntry = record { rank = c.rank.result; address = c.copied.result; segments = c.call.inside.segments } in
    let paid = c.copied.ensures ∙ c.payer-address.ensures in
    let same : account_of_entry own ≡ account_of_call call = λ j. record { address = paid j; calls = 1; segments = ap (λ r. r.segments) c.call.view_is j } in
    record {
      entries = entries_more c.loop-call.entries.items c.push.new.self.items own c.args.calls.now c.loop-call.call-index call c.loop-call-test.true c.call-item.is c.in_ok-push.ensures.items same
          c.loop-call.invariant.entries;
      ranked = rw c.in_ok-push.ensures.items
          (all_more IsRanked c.loop-call.entries.items own c.loop-call.invariant.ranked (rw c.copied.ensures c.rank.ensures));
    }

pub returns-clause-entries : goal.returns-clause-entries
returns-clause-entries g c = c.loop-call.invariant.entries ∙ ap (map account_of_call) (take_all c.loop-call.call-index c.args.calls.now c.loop-call-test.false)

pub returns-clause-ranked : goal.returns-clause-ranked
returns-clause-ranked g c = c.loop-call.invariant.ranked
