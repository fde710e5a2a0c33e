use Rattle.std.proofs.Common.{◌≡◌, ◌∙◌, ◌++◌, sym, subst, ap, ℕ, arith}
use Rattle.line_model.specs.observer.Observer.{row_step}
use Rattle.channel_run.specs.Run.{row_events}
use Rattle.header_trials.specs.Tried.{IsCaughtUp, IsChannel}
use Rattle.header_trials.proofs.ChannelLemmas.{put_back}
use Rattle.header_trials.proofs.tried_channels.TriedChannels.step.Goals as goal

pub catch_up-requires : goal.catch_up-requires
catch_up-requires g c =
    let i = c.args.walk.now.interface in
    let k : ℕ = c.args.channel in
    let room = c.requires.channels in
    let same : c.take_out.new.self.gaps ≡ c.args.self.now.gaps = c.in_ok-taken.ensures.gaps in
    let own = subst (λ n. IsChannel g.C.Channel i n k (room.0 k) c.deref_mut.result.now) (sym same)
    (subst (IsChannel g.C.Channel i c.args.self.now.gaps k (room.0 k)) (sym c.deref_mut.ensures.value) (c.in_ok-taken.ensures.out room.0 room.1)) in
    (i, k, room.0 k, own, λ some. room.1.recorded (omega (arith, some, same)))

pub take_row-requires : goal.take_row-requires
take_row-requires g c =
    let i = c.args.walk.now.interface in
    let k : ℕ = c.args.channel in
    let gaps : ℕ = c.take_out.new.self.gaps in
    let room = c.requires.channels in
    let same : gaps ≡ c.args.self.now.gaps = c.in_ok-taken.ensures.gaps in
    let own = subst (λ n. IsChannel g.C.Channel i n k (room.0 k) c.deref_mut.result.now) (sym same)
    (subst (IsChannel g.C.Channel i c.args.self.now.gaps k (room.0 k)) (sym c.deref_mut.ensures.value) (c.in_ok-taken.ensures.out room.0 room.1)) in
    (i, gaps, room.0 k, subst (IsCaughtUp g.C.Channel i gaps k (room.0 k)) (sym c.deref_mut-2.ensures.value) (c.in_ok-catch_up.ensures.represented i k (room.0 k) own), c.requires.item)

pub returns-clause-channels : goal.returns-clause-channels
returns-clause-channels g c = λ states h.
    let walk = c.args.walk.now in
    let i = walk.interface in
    let k : ℕ = c.args.channel in
    let gaps : ℕ = c.take_out.new.self.gaps in
    let same : gaps ≡ c.args.self.now.gaps = c.in_ok-taken.ensures.gaps in
    let own = subst (λ n. IsChannel g.C.Channel i n k (states k) c.deref_mut.result.now) (sym same)
    (subst (IsChannel g.C.Channel i c.args.self.now.gaps k (states k)) (sym c.deref_mut.ensures.value) (c.in_ok-taken.ensures.out states h)) in
    let caught = subst (IsCaughtUp g.C.Channel i gaps k (states k)) (sym c.deref_mut-2.ensures.value) (c.in_ok-catch_up.ensures.represented i k (states k) own) in
    let next = (row_step i k (states k) c.args.item.now).after in
    let taken = subst (λ n. IsCaughtUp g.C.Channel i n k next c.take_row.new.tried) same (c.in_ok-reaction.ensures.represented i gaps (states k) caught) in
    put_back g.C.Channel i walk.start walk.epoch k states next c.args.self.now c.take_out.new.self _ c.take_row.new.tried h (c.in_ok-taken.ensures.others states h) taken c.put.ensures same

pub returns-clause-events : goal.returns-clause-events
returns-clause-events g c = λ states h.
    let walk = c.args.walk.now in
    let i = walk.interface in
    let k : ℕ = c.args.channel in
    let gaps : ℕ = c.take_out.new.self.gaps in
    let same : gaps ≡ c.args.self.now.gaps = c.in_ok-taken.ensures.gaps in
    let own = subst (λ n. IsChannel g.C.Channel i n k (states k) c.deref_mut.result.now) (sym same)
    (subst (IsChannel g.C.Channel i c.args.self.now.gaps k (states k)) (sym c.deref_mut.ensures.value) (c.in_ok-taken.ensures.out states h)) in
    let caught = subst (IsCaughtUp g.C.Channel i gaps k (states k)) (sym c.deref_mut-2.ensures.value) (c.in_ok-catch_up.ensures.represented i k (states k) own) in
    c.in_ok-reaction.ensures.events i gaps (states k) caught
    ∙ ap (λ events. events ++ row_events i walk.epoch k (states k) c.args.item.now) (c.in_ok-catch_up.ensures.events i k (states k) own)

pub returns-clause-reaction : goal.returns-clause-reaction
returns-clause-reaction g c = λ states h.
    let i = c.args.walk.now.interface in
    let k : ℕ = c.args.channel in
    let gaps : ℕ = c.take_out.new.self.gaps in
    let same : gaps ≡ c.args.self.now.gaps = c.in_ok-taken.ensures.gaps in
    let own = subst (λ n. IsChannel g.C.Channel i n k (states k) c.deref_mut.result.now) (sym same)
    (subst (IsChannel g.C.Channel i c.args.self.now.gaps k (states k)) (sym c.deref_mut.ensures.value) (c.in_ok-taken.ensures.out states h)) in
    let caught = subst (IsCaughtUp g.C.Channel i gaps k (states k)) (sym c.deref_mut-2.ensures.value) (c.in_ok-catch_up.ensures.represented i k (states k) own) in
    c.in_ok-reaction.ensures.reaction i gaps (states k) caught
