use Rattle.line_model.specs.declared.fault.Fault.TheVariants.{Memory}
use Rattle.std.specs.Prelude.{IfErr}
use Rattle.std.proofs.lemmas.Result.{IfOk-from_err, err_from_is_err_and}
use Rattle.std.proofs.Common.{◌∙◌, ap, sum_by, arith, ◌≡◌, sym, subst}
use Rattle.std.proofs.lemmas.List.Sorted.{sum_by-IsPermutation}
use Rattle.call_accounts.specs.declared.account.AccountEntry.{AccountEntry}
use Rattle.call_accounts.specs.Entries.{summed}
use Rattle.call_accounts.proofs.AccountLemmas.{summed-accounts, segments-entries}
use Rattle.call_accounts.proofs.account.accounts_of.Goals as goal

pub added_up-requires : goal.added_up-requires
added_up-requires g c =
    let own = c.in_ok-entries.ensures in
    let segments =
    ap (sum_by (λ (e : AccountEntry). e.segments)) c.deref.ensures.value
    ∙ sum_by-IsPermutation (λ (e : AccountEntry). e.segments) _ _ c.by_address-entries.ensures.permutation
    ∙ segments-entries c.args.calls.now c.in_ok-entries.field-0.items own.entries in
    record { few_segments = omega (arith, segments, c.requires.few_segments) }

pub returns-clause-accounts : goal.returns-clause-accounts
returns-clause-accounts g c =
    let own = c.in_ok-entries.ensures in
    let sorted = c.by_address-entries.ensures in
    c.in_ok-added_up.ensures ∙ ap summed c.deref.ensures.value
    ∙ summed-accounts c.args.calls.now c.in_ok-entries.field-0.items _ own.entries own.ranked sorted.permutation sorted.sorted

pub returns-in_err-clone-clause-accounts : goal.returns-in_err-clone-clause-accounts
returns-in_err-clone-clause-accounts g c = IfOk-from_err _ _ c.from_residual.ensures.0

pub returns-in_err-entries-clause-accounts : goal.returns-in_err-entries-clause-accounts
returns-in_err-entries-clause-accounts g c = IfOk-from_err _ _ c.from_residual-in_err-entries.ensures.0

pub returns-in_err-added_up-clause-accounts : goal.returns-in_err-added_up-clause-accounts
returns-in_err-added_up-clause-accounts g c = IfOk-from_err _ _ c.from_residual-in_err-added_up.ensures.0

pub returns-in_err-clone-clause-memory : goal.returns-in_err-clone-clause-memory
returns-in_err-clone-clause-memory g c =
    let p = err_from_is_err_and c.from_residual.result c.from_residual.ensures.1 in
    subst (λ r. IfErr r (λ f. f ≡ Memory)) (sym p.1) p.2

pub returns-in_err-entries-clause-memory : goal.returns-in_err-entries-clause-memory
returns-in_err-entries-clause-memory g c =
    let p = err_from_is_err_and c.from_residual-in_err-entries.result c.from_residual-in_err-entries.ensures.1 in
    subst (λ r. IfErr r (λ f. f ≡ Memory)) (sym p.1) p.2

pub returns-in_err-added_up-clause-memory : goal.returns-in_err-added_up-clause-memory
returns-in_err-added_up-clause-memory g c =
    let p = err_from_is_err_and c.from_residual-in_err-added_up.result c.from_residual-in_err-added_up.ensures.1 in
    subst (λ r. IfErr r (λ f. f ≡ Memory)) (sym p.1) p.2
