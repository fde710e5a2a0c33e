use Rattle.std.proofs.lemmas.Result.{IfOk-from_err}
use Rattle.std.proofs.Common.{◌≡◌, ◌∙◌, ◌==◌, ◌&&◌, ℕ, false, [], ap, cond, subst, sym, Some, if◌then◌else◌}
use Rattle.std.specs.BTreeMap.{get, is_at}
use Rattle.call_accounts.specs.Places.{IsFound, place_order}
use Rattle.call_accounts.specs.SoFar.{Represents}
use Rattle.call_accounts.specs.declared.so_far.CallsSoFar.{CallsSoFar}
use Rattle.call_accounts.proofs.PlaceLemmas.{current, apart_from}
use Rattle.call_accounts.proofs.call.Places.select.Goals as goal
use Rattle.call_accounts.proofs.call.Places.select.Goals.{else-self-epoch-via-then-self-epoch+else-self-channel, else-self-epoch-via-else-self-epoch, in-Some, in-None+in_ok-clone-in-None}

pub returns-clause-here : goal.returns-clause-here
returns-clause-here g c =
    let t = c.args.self.now in
    let apart : (t.epoch == c.args.epoch && t.channel == c.args.channel) ≡ false = apart_from t.epoch t.channel c.args.epoch c.args.channel (λ w.
    let epochs = w.0 in
    let channels = w.1 in
    elim c.else-self-epoch.branch [
      | else-self-epoch-via-then-self-epoch+else-self-channel v ↦ v.if-self-channel.false channels
      | else-self-epoch-via-else-self-epoch v ↦ v.if-self-epoch.false epochs
    ]) in
    subst (λ b. IsFound (if b then Some t.here else get place_order t.others (c.args.epoch, c.args.channel)) c.replace-here.new.dest) (sym apart)
    (subst (λ o. IsFound o c.replace-here.new.dest) c.remove.ensures.value
    (subst (IsFound c.remove.result) (sym c.replace-here.ensures.after)
    (elim c.match-remove.branch [
      | in-Some w ↦ subst (λ o. IsFound o c.match-remove.next) (sym w.in-Some.is) w.next-is
      | in-None+in_ok-clone-in-None w ↦ subst (λ o. IsFound o c.match-remove.next) (sym w.in-None.is) (subst (λ (x : CallsSoFar g.row.A.Denot). (e k : ℕ) → Represents x e k []) (sym w.next-is) w.new-next.ensures)
    ])))

pub returns-clause-others : goal.returns-clause-others
returns-clause-others g c e k other =
    let t = c.args.self.now in
    ap (λ b. if b then Some c.replace-here.new.dest else get place_order c.insert.new.self (e, k)) other
    ∙ current t.epoch t.channel c.args.epoch c.args.channel t.here t.others c.remove.new.self c.insert.new.self c.remove.ensures.updates.0
    (λ q. c.in_ok-insert.ensures.updates.0 q ∙ ap (λ h. cond (is_at (place_order (t.epoch, t.channel)) q) (Some h) (get place_order c.remove.new.self q)) c.replace-here.ensures.value) e k other

pub returns-in_err-clone-in-None-clause-current : goal.returns-in_err-clone-in-None-clause-current
returns-in_err-clone-in-None-clause-current g c = IfOk-from_err _ _ c.from_residual.ensures.0

pub returns-in_err-clone-in-None-clause-here : goal.returns-in_err-clone-in-None-clause-here
returns-in_err-clone-in-None-clause-here g c = IfOk-from_err _ _ c.from_residual.ensures.0

pub returns-in_err-clone-in-None-clause-others : goal.returns-in_err-clone-in-None-clause-others
returns-in_err-clone-in-None-clause-others g c = IfOk-from_err _ _ c.from_residual.ensures.0

pub returns-in_err-insert-clause-current : goal.returns-in_err-insert-clause-current
returns-in_err-insert-clause-current g c = IfOk-from_err _ _ c.from_residual-in_err-insert.ensures.0

pub returns-in_err-insert-clause-here : goal.returns-in_err-insert-clause-here
returns-in_err-insert-clause-here g c = IfOk-from_err _ _ c.from_residual-in_err-insert.ensures.0

pub returns-in_err-insert-clause-others : goal.returns-in_err-insert-clause-others
returns-in_err-insert-clause-others g c = IfOk-from_err _ _ c.from_residual-in_err-insert.ensures.0
