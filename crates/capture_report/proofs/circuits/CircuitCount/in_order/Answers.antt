-- Connection by connection.
use Rattle.std.proofs.Common.{◌≡◌, ◌∙◌, sym, ap, ◌++◌, Option, append-nil, get_or}
use Rattle.std.specs.Option.{option_copied, option_to_list}
use Rattle.capture_report.specs.Circuits.{Counted, circuit_at}
use Rattle.capture_report.specs.declared.circuits.SeenCircuit.{SeenCircuit}
use Rattle.capture_report.proofs.CircuitChannelLemmas.{one_more}
use Rattle.capture_report.proofs.circuits.CircuitCount.in_order.Goals as goal
use Rattle.capture_report.proofs.circuits.CircuitCount.in_order.Goals.{in-Some+in_ok-push, in_default}

pub loop-connection-preserved : goal.loop-connection-preserved
loop-connection-preserved c =
    let s : Counted = c.args.self.now in
    let order = c.deref-connection-items.result.now in
    let i = c.loop-connection.connection-index in
    let n = get_or order i 0 in
    let kept = c.loop-connection.circuits.items in
    let found : circuit_at n s ≡ option_copied c.get.result = ap (λ (r : Counted). circuit_at n r) (sym c.self.view_is) ∙ sym c.get.ensures.value in
    one_more (λ m. circuit_at m s) order i kept c.match-get.circuits.items _ c.loop-connection-test.true
    (elim c.match-get.branch [
      | in-Some+in_ok-push w ↦ ap (λ v. v.items) w.circuits-is ∙ (w.in_ok-push.ensures.items
          ∙ ap (λ (o : Option SeenCircuit). kept ++ option_to_list o) (sym (found ∙ ap option_copied w.in-Some.is)))
      | in_default w ↦ ap (λ v. v.items) w.circuits-is ∙ (sym (append-nil kept)
          ∙ ap (λ (o : Option SeenCircuit). kept ++ option_to_list o) (sym (found ∙ ap option_copied w.in_default.is)))
    ])
    c.loop-connection.invariant
