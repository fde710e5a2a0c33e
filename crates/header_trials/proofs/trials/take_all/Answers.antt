use Rattle.std.proofs.Common.{◌≡◌, ◌+◌, ℕ, suc, ap, sym, subst, arith, length, set}
use Rattle.std.proofs.lemmas.Result.{IfOk-from_err}
use Rattle.header_trials.specs.Trials.{AreTrials, with_row}
use Rattle.header_trials.proofs.TrialsLemmas.{AreOnWay, all_on_way, next_on_way, one_on_way, written}
use Rattle.header_trials.proofs.trials.take_all.Goals as goal

pub take-requires : goal.take-requires
take-requires g c =
    let room = c.requires.next in
    let next = next_on_way g.C.Channel c.loop-trial.trial-index room.0 room.2 (with_row room.2 c.args.row.now) room.1 c.loop-trial.trial-items c.trial-item.result (omega (arith, c.loop-trial-test.true, c.loop-trial.auto.trial-items)) (c.loop-trial.invariant room.0 room.1 room.2 room.3 room.4) in
    record { next = (next.header, room.2 next.header, next.walked, room.4 next.header next.like) }

pub loop-trial-preserved : goal.loop-trial-preserved
loop-trial-preserved g c = λ own headers items all sound.
    let i : ℕ = c.loop-trial.trial-index in
    let more : suc i ≡ i + 1 = omega arith in
    subst (λ n. AreOnWay g.C.Channel n own items (with_row items c.args.row.now) headers (set c.loop-trial.trial-items i c.take.new.self)) more
    (one_on_way g.C.Channel i own items (with_row items c.args.row.now) headers c.loop-trial.trial-items c.trial-item.result c.take.new.self (omega (arith, c.loop-trial-test.true, c.loop-trial.auto.trial-items)) (c.loop-trial.invariant own headers items all sound) (λ h like w. c.in_ok-take.ensures.walked h (items h) w (sound h like)))

pub returns-clause-trials : goal.returns-clause-trials
returns-clause-trials g c = λ own headers items all sound.
    let whole : length c.deref_mut-trial-items.result.now ≡ length c.args.trials.now.items = ap (λ ts. length ts) c.deref_mut-trial-items.ensures.value in
    let len : c.args.trials.now.len ≡ length c.args.trials.now.items = omega (arith, c.deref_mut-trial-items.ensures.len, whole) in
    let same : length c.loop-trial.trial-items ≡ length c.args.trials.now.items = omega (arith, c.loop-trial.auto.trial-items, whole) in
    subst (λ ts. AreTrials g.C.Channel own (with_row items c.args.row.now) headers ts) (sym (written c.loop-trial.trial-items c.args.trials.now.items c.args.trials.now.len len same))
    (all_on_way g.C.Channel c.loop-trial.trial-index own items (with_row items c.args.row.now) headers c.loop-trial.trial-items (omega (arith, c.loop-trial-test.false, same, whole)) (c.loop-trial.invariant own headers items all sound))

pub returns-in_err-take-clause-trials : goal.returns-in_err-take-clause-trials
returns-in_err-take-clause-trials g c = λ own headers items all sound. IfOk-from_err _ _ c.from_residual.ensures.0
