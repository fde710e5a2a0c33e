use Rattle.std.proofs.Common.{◌-◌, ◌∙◌, slice_index_or, unwrap_or, ◌≡◌, [], arith, ap, sym}
use Rattle.line_model.specs.declared.event.Entry.TheVariants.{Unknown}
use Rattle.call_accounts.specs.Counted.{entry_at}
use Rattle.call_accounts.proofs.CountedLemmas.{known_pushed, known_skipped}
use Rattle.call_accounts.proofs.pad_table.PadTable.push_known.Goals as goal
use Rattle.call_accounts.proofs.pad_table.PadTable.push_known.Goals.{then-is_known+in_ok-push, else-is_known}

pub loop-parameter-preserved : goal.loop-parameter-preserved
loop-parameter-preserved g c =
    let t = c.args.self.now in
    let p = c.loop-parameter.parameter in
    let e : slice_index_or c.in-Some.entries (c.from.result - 1) Unknown ≡ entry_at t p =
    ap (λ k. slice_index_or c.in-Some.entries (k - 1) Unknown) c.from.ensures
    ∙ ap (λ o. slice_index_or (unwrap_or o []) (p - 1) Unknown) (sym c.in-Some.is) in
    elim c.if-is_known.branch [
      | then-is_known+in_ok-push w ↦
          known_pushed c.args.pad t p _ c.loop-parameter.settings.items _ _ (omega arith) e (sym c.is_known.ensures ∙ w.if-is_known.true) c.loop-parameter.invariant (ap (λ v. v.items) w.settings-is ∙ w.in_ok-push.ensures.items)
      | else-is_known w ↦
          known_skipped c.args.pad t p _ c.loop-parameter.settings.items _ _ (omega arith) e (sym c.is_known.ensures ∙ w.if-is_known.false) c.loop-parameter.invariant (ap (λ v. v.items) w.settings-is)
    ]
