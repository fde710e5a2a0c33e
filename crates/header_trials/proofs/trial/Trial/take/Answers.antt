use Rattle.std.proofs.Common.{◌≡◌, ◌∙◌, arith, ap, subst, sym, ◌+◌, ◌++◌, ◌∷◌, [], option_to_list}
use Rattle.std.specs.Prelude.{IfSome}
use Rattle.line_model.specs.basics.Bounds.{IsItem, IsSaid}
use Rattle.line_model.specs.packets.Says.{item_read}
use Rattle.line_model.proofs.Saying.{last_said}
use Rattle.restart_epochs.specs.Cutting.{observer}
use Rattle.restart_epochs.specs.Walks.{channel_in, start_after}
use Rattle.header_trials.specs.Reactions.{reaction_on, watched_after}
use Rattle.header_trials.specs.Tried.{HasWalked, events_after}
use Rattle.header_trials.proofs.ReactionLemmas.{roomy}
use Rattle.header_trials.proofs.TrialLemmas.{gap_recorded, item_of_effect, none_found, one_gap, steps}
use Rattle.header_trials.proofs.WalkedLemmas.{channels_under, counts_under, few_next, few_octets, one_after, affected_under, walked_after}
use Rattle.header_trials.proofs.trial.Trial.take.Goals as goal

pub step-requires : goal.step-requires
step-requires g c =
    let next = c.requires.next in
    record { epochs = omega (arith, next.2.few.epochs, few_next next.0 next.1 (item_read next.0 c.args.row.now) next.3) }

pub apply-requires-clause-item : goal.apply-requires-clause-item
apply-requires-clause-item g c =
    let next = c.requires.next in
    let i = c.args.self.now.walk.interface in
    let one = c.item_of_row-item.result in
    let said : IsSaid i one = subst (IsSaid i) (sym c.item_of_row-item.ensures.item) (subst (λ j. IsSaid j (item_read j c.args.row.now)) (sym next.2.interface) (last_said next.0 next.1 (item_read next.0 c.args.row.now) next.3.said)) in
    subst (λ j. IfSome (channel_in c.in_ok-step.step.effect) (λ k. IsItem j k one)) (sym c.in_ok-step.ensures.same.interface)
    (item_of_effect i one _ _ c.in_ok-step.step said c.in_ok-step.ensures.step)

pub apply-requires-clause-gap : goal.apply-requires-clause-gap
apply-requires-clause-gap g c = λ to.
    let next = c.requires.next in
    let i = c.args.self.now.walk.interface in
    let one = c.item_of_row-item.result in
    let said : IsSaid i one = subst (IsSaid i) (sym c.item_of_row-item.ensures.item) (subst (λ j. IsSaid j (item_read j c.args.row.now)) (sym next.2.interface) (last_said next.0 next.1 (item_read next.0 c.args.row.now) next.3.said)) in
    ap (λ j. j.gaps) c.in_ok-step.ensures.same.interface ∙ gap_recorded i one _ _ c.in_ok-step.step said c.in_ok-step.ensures.step to

pub apply-requires-clause-gaps : goal.apply-requires-clause-gaps
apply-requires-clause-gaps g c =
    let next = c.requires.next in
    omega (arith, next.2.few.gaps_of_all, few_next next.0 next.1 (item_read next.0 c.args.row.now) next.3)

pub apply-requires-clause-channels : goal.apply-requires-clause-channels
apply-requires-clause-channels g c =
    let next = c.requires.next in
    let same = c.in_ok-step.ensures.same in
    ((observer next.0 next.1).states, channels_under g.C.Channel next.0 next.1 c.args.self.now c.step.new.self next.2 same.interface same.start same.epoch)

pub count-requires-clause-findings : goal.count-requires-clause-findings
count-requires-clause-findings g c =
    let next = c.requires.next in
    omega (arith, ap (λ t. t.findings) c.in_ok-reaction.ensures.tally, next.2.few.findings, few_next next.0 next.1 (item_read next.0 c.args.row.now) next.3)

pub count-requires-clause-packets : goal.count-requires-clause-packets
count-requires-clause-packets g c =
    let next = c.requires.next in
    omega (arith, ap (λ t. t.packets) c.in_ok-reaction.ensures.tally, next.2.few.uncounted, few_next next.0 next.1 (item_read next.0 c.args.row.now) next.3)

pub count-requires-clause-octets : goal.count-requires-clause-octets
count-requires-clause-octets g c =
    let next = c.requires.next in
    omega (arith, ap (λ t. t.octets) c.in_ok-reaction.ensures.tally, next.2.few.octets, few_octets next.0 next.1 (item_read next.0 c.args.row.now) next.3, ap (λ x. x.length) c.item_of_row-item.ensures.item)

pub take-requires : goal.take-requires
take-requires g c =
    let next = c.requires.next in
    roomy next.0 next.1 c.apply.new.self.watch (c.in_ok-reaction.ensures.watch ∙ next.2.watch) (few_next next.0 next.1 (item_read next.0 c.args.row.now) next.3)

pub advance-requires-clause-packets : goal.advance-requires-clause-packets
advance-requires-clause-packets g c =
    let next = c.requires.next in
    let same = ap (λ w. w.packets) (c.renew.ensures.walk ∙ c.in_ok-reaction.ensures.walk) ∙ c.in_ok-step.ensures.same.packets in
    omega (arith, same, next.2.few.rows, few_next next.0 next.1 (item_read next.0 c.args.row.now) next.3)

pub advance-requires-clause-gaps : goal.advance-requires-clause-gaps
advance-requires-clause-gaps g c =
    let next = c.requires.next in
    let same = ap (λ w. w.gaps) (c.renew.ensures.walk ∙ c.in_ok-reaction.ensures.walk) ∙ c.in_ok-step.ensures.same.gaps in
    omega (arith, same, next.2.few.gaps, few_next next.0 next.1 (item_read next.0 c.args.row.now) next.3)

pub returns-clause-walked : goal.returns-clause-walked
returns-clause-walked g c i rows w sound =
    let one = c.item_of_row-item.result in
    let step = c.in_ok-step.step in
    let same = c.in_ok-step.ensures.same in
    let affected = c.in_ok-reaction.ensures in
    let o = observer i rows in
    let row_is : one ≡ item_read i c.args.row.now = c.item_of_row-item.ensures.item ∙ (λ j. item_read (w.interface j) c.args.row.now) in
    let next = item_read i c.args.row.now in
    let stepped = steps i rows one _ _ step w.level w.epoch c.in_ok-step.ensures.step in
    let one_found = one_after i rows one step (none_found one _ _ step c.in_ok-step.ensures.step) in
    let channels = channels_under g.C.Channel i rows c.args.self.now c.step.new.self w same.interface same.start same.epoch in
    let walk = c.renew.ensures.walk ∙ affected.walk in
    subst (λ r. HasWalked g.C.Channel i (rows ++ r ∷ []) (record {
      walk = record { interface = c.advance.new.self.interface; machine = c.advance.new.self.machine; epoch = c.advance.new.self.epoch; start = c.advance.new.self.start; packets = c.advance.new.self.packets; gaps = c.advance.new.self.gaps; findings = c.clear.new.self };
      channels = c.renew.new.self.channels;
      tally = c.renew.new.self.tally;
      watch = c.renew.new.self.watch;
    })) row_is
    (walked_after g.C.Channel i rows one step c.args.self.now _ c.apply.new.self.channels w stepped one_found
    (record {
      interface = c.advance.ensures.interface ∙ ap (λ v. v.interface) walk ∙ same.interface;
      level = c.advance.ensures.machine;
      epoch = c.advance.ensures.epoch;
      start = c.advance.ensures.start ∙ (λ j. start_after (ap (λ v. v.epoch) walk j) (ap (λ v. v.start) walk j) step.epoch step.machine) ∙ (λ j. start_after (same.epoch j) (same.start j) step.epoch step.machine);
      packets = c.advance.ensures.packets ∙ ap (λ v. v.packets + 1) walk ∙ ap (λ n. n + 1) same.packets;
      gaps = omega (arith, c.advance.ensures.gaps, ap (λ v. v.gaps) walk, same.gaps, one_gap step.gap);
      channels = affected_under g.C.Channel c.step.new.self.interface c.args.self.now.walk.interface c.step.new.self.start c.args.self.now.walk.start c.step.new.self.epoch c.args.self.now.walk.epoch step.effect o.states one c.apply.new.self.channels same.interface same.start same.epoch
          (affected.channels o.states channels);
      few = affected.gaps;
      same = λ e. c.renew.ensures.same (e ∙ sym (ap (λ v. v.epoch) affected.walk ∙ same.epoch));
      renewed = λ ne. c.renew.ensures.renewed (λ e. ne (e ∙ ap (λ v. v.epoch) affected.walk ∙ same.epoch));
      watch = λ k e. c.renew.ensures.watch ∙ c.in_ok-take.ensures.taken
          ∙ (λ j. watched_after step.effect ((affected.reaction o.states channels ∙ (λ h. reaction_on step.effect ((same.interface ∙ e) h) (same.machine h) step.machine o.states one)) j) (affected.watch j));
    })
    (counts_under i c.apply.new.self.walk.interface one (option_to_list step.finding) (events_after step.effect i o.epoch o.states one) c.as_slice.result.now c.args.self.now.tally c.apply.new.self.tally c.count.new.self c.renew.new.self.tally
    (ap (λ v. v.interface) affected.walk ∙ same.interface ∙ w.interface)
    (c.as_slice.ensures.value ∙ affected.events o.states channels ∙ (λ j. events_after step.effect ((same.interface ∙ w.interface) j) ((same.epoch ∙ w.epoch) j) o.states one))
    affected.tally c.renew.ensures.tally one_found c.count.ensures.findings c.count.ensures.packets c.count.ensures.octets) c.in_ok-step.ensures.step)
