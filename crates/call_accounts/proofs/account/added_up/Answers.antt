use Rattle.std.proofs.Common.{◌≡◌, ◌∙◌, ap, sym, ◌+◌, List, ◌++◌, ◌∷◌, drop, sum_by, arith}
use Rattle.std.proofs.lemmas.List.{at_drop_all}
use Rattle.std.proofs.lemmas.List.Sums.{sum_by-cons}
use Rattle.std.proofs.lemmas.Result.{IfOk-from_err}
use Rattle.line_model.specs.declared.call.Account.{Account}
use Rattle.call_accounts.specs.declared.account.AccountEntry.{AccountEntry}
use Rattle.call_accounts.specs.Entries.{summed, summed_from}
use Rattle.call_accounts.proofs.EntryLemmas.{next_entry, other_rank, same_rank}
use Rattle.call_accounts.proofs.account.added_up.Goals.{then-entry-rank, else-entry-rank+in_ok-push}
use Rattle.call_accounts.proofs.account.added_up.Goals as goal

pub loop-entry-init : goal.loop-entry-init
loop-entry-init g c =
    let first = c.in-Some.first.now in
    let rest = c.in-Some.rest.now in
    let account = c.account-last.ensures in
    let whole = c.in-Some.ensures.cases.0 in
    record {
      accounts = ap (λ l. l ++ summed_from c.account-last.result first.rank rest) c.new-accounts.ensures.items ∙ ap (λ k. summed_from k first.rank rest) account ∙ ap summed (sym whole);
      calls = omega (arith, ap (λ (k : Account). k.calls) account);
      segments = omega (arith, ap (λ (k : Account). k.segments) account, ap (sum_by (λ (e : AccountEntry). e.segments)) whole, sum_by-cons (λ (e : AccountEntry). e.segments) first rest);
    }

pub overflow_add-last-then-entry-rank : goal.overflow_add-last-then-entry-rank
overflow_add-last-then-entry-rank g c =
    let rest = c.in-Some.rest.now in
    let i = c.loop-entry.entry-index in
    let entry = c.entry-item.result in
    let next = next_entry rest i entry c.loop-entry-test.true c.entry-item.is in
    omega (arith, c.loop-entry.invariant.segments, c.requires.few_segments, ap (sum_by (λ (e : AccountEntry). e.segments)) next, sum_by-cons (λ (e : AccountEntry). e.segments) entry (drop (i + 1) rest))

pub returns-in_err-push : goal.returns-in_err-push
returns-in_err-push g c = IfOk-from_err _ _ c.from_residual.ensures.0

pub returns-in_err-push-2 : goal.returns-in_err-push-2
returns-in_err-push-2 g c = IfOk-from_err _ _ c.from_residual-in_err-push-2.ensures.0

pub loop-entry-preserved : goal.loop-entry-preserved
loop-entry-preserved g c =
    let rest = c.in-Some.rest.now in
    let i = c.loop-entry.entry-index in
    let entry = c.entry-item.result in
    let last = c.loop-entry.last in
    let inv = c.loop-entry.invariant in
    let next = next_entry rest i entry c.loop-entry-test.true c.entry-item.is in
    let left = ap (sum_by (λ (e : AccountEntry). e.segments)) next in
    let first = sum_by-cons (λ (e : AccountEntry). e.segments) entry (drop (i + 1) rest) in
    let accounts : c.loop-entry.accounts.items ++ summed_from last c.loop-entry.rank (entry ∷ drop (i + 1) rest) ≡ summed c.args.entries.now = rw next at inv.accounts in
    record {
      accounts = elim c.if-entry-rank.branch [
        | then-entry-rank w ↦ rw (w.accounts-is, w.rank-is, w.last-is) (same_rank c.loop-entry.accounts.items last c.loop-entry.rank entry (drop (i + 1) rest) (summed c.args.entries.now) w.if-entry-rank.true accounts)
        | else-entry-rank+in_ok-push w ↦ rw (w.accounts-is, w.rank-is, w.last-is, w.account-last-else-entry-rank.ensures)
            (other_rank c.loop-entry.accounts.items w.push.new.self.items last c.loop-entry.rank entry (drop (i + 1) rest) (summed c.args.entries.now) w.if-entry-rank.false w.in_ok-push.ensures.items accounts)
      ];
      calls = elim c.if-entry-rank.branch [
        | then-entry-rank w ↦ omega (arith, inv.calls, ap (λ (k : Account). k.calls) w.last-is)
        | else-entry-rank+in_ok-push w ↦ omega (arith, ap (λ (k : Account). k.calls) (w.last-is ∙ w.account-last-else-entry-rank.ensures))
      ];
      segments = elim c.if-entry-rank.branch [
        | then-entry-rank w ↦ omega (arith, inv.segments, left, first, ap (λ (k : Account). k.segments) w.last-is)
        | else-entry-rank+in_ok-push w ↦ omega (arith, inv.segments, left, first, ap (λ (k : Account). k.segments) (w.last-is ∙ w.account-last-else-entry-rank.ensures))
      ];
    }

pub returns : goal.returns
returns g c =
    c.in_ok-push-2.ensures.items
    ∙ sym (at_drop_all (λ (es : List AccountEntry). c.loop-entry.accounts.items ++ summed_from c.loop-entry.last c.loop-entry.rank es) c.in-Some.rest.now c.loop-entry.entry-index c.loop-entry-test.false)
    ∙ c.loop-entry.invariant.accounts
