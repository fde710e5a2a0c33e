use Rattle.std.proofs.Common.{◌∙◌, ◌++◌, ◌∷◌, [], ap, refl, subst, sym}
use Rattle.std.specs.Option.{option_to_list}
use Rattle.line_model.specs.observer.Machine.{after}
use Rattle.line_model.specs.observer.Observer.{x25}
use Rattle.restart_epochs.specs.Cutting.{observer}
use Rattle.live_report.specs.JudgedRows.{taker}
use Rattle.descriptions.specs.Follows.{after_row}
use Rattle.descriptions.specs.RowCalls.{KeepsCalls}
use Rattle.descriptions.proofs.OriginLemmas.{judged_channel, kept_off, kept_on, routed_off}
use Rattle.descriptions.proofs.origins.Origins.take.Goals as goal

pub returns-in_default-clause-kept : goal.returns-in_default-clause-kept
returns-in_default-clause-kept g c i earlier r h l epoch =
    kept_off i earlier r c.args.self.now _ (routed_off i earlier r c.args.row.now c.args.events.now l (ap taker c.in_default.is)) h (λ k. refl) epoch (c.in_ok-calls.ensures.kept i earlier r h.calls l h.epoch epoch)

pub returns-clause-kept : goal.returns-clause-kept
returns-clause-kept g c i earlier r h l epoch =
    let row = c.args.row.now in
    let k = c.in-Channel.channel in
    let on = judged_channel i earlier r row c.args.events.now k c.in-Channel.before c.in-Channel.after c.in-Channel.accepted l c.in-Channel.is in
    let channel = ((after (x25 i) (observer i earlier) r).states k).channel in
    kept_on i earlier r row c.args.events.now k c.args.self.now c.put.new.self l on.0 h
    (c.in_ok-put.ensures.value
    ∙ c.after_row-next.ensures r channel l.number l.side l.packet (ap (λ v. v.state) c.view_in.ensures ∙ on.1) (ap (λ v. v.owed) c.view_in.ensures ∙ on.2)
    ∙ (λ t. after_row (h.epoch t) r channel (option_to_list row.finding) (c.of-origin.ensures t)))
    c.in_ok-put.ensures.others (c.in_ok-put.ensures.epoch ∙ epoch)
    (subst (KeepsCalls i (earlier ++ r ∷ [])) (sym c.in_ok-put.ensures.calls) (c.in_ok-calls.ensures.kept i earlier r h.calls l h.epoch epoch))

pub returns-in_default-clause-follows : goal.returns-in_default-clause-follows
returns-in_default-clause-follows g c i earlier r h l = c.follows-follows.ensures i earlier r c.args.events.now h l

pub returns-clause-follows : goal.returns-clause-follows
returns-clause-follows g c i earlier r h l = c.follows-follows.ensures i earlier r c.args.events.now h l
