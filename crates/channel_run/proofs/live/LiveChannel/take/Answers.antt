use Rattle.std.proofs.Common.{◌≡◌, ◌∙◌, ◌++◌, ◌∷◌, ℕ, List, [], Option, Some, refl, sym, ap, subst, append-nil}
use Rattle.std.specs.Prelude.{OnSome}
use Rattle.std.specs.List.{AllByRecursion}
use Rattle.line_model.specs.declared.event.Event.{Event}
use Rattle.line_model.specs.declared.event.What.TheVariants as what
use Rattle.line_model.specs.basics.Records.{Item}
use Rattle.line_model.specs.basics.Bounds.{IsItem}
use Rattle.line_model.specs.channels.Gaps.{GapChannel, fresh_at}
use Rattle.line_model.specs.observer.Observer.{row_step}
use Rattle.line_model.specs.observer.Report.{findings_of}
use Rattle.line_model.specs.pieces.Plans.{piece_events}
use Rattle.call_accounts.specs.Counted.{IsCountable}
use Rattle.call_accounts.specs.SoFar.{IsOf}
use Rattle.channel_run.specs.Tally.{Counts}
use Rattle.channel_run.specs.Live.{channel_so_far, so_far, with_item}
use Rattle.channel_run.specs.Run.{data_events, row_events}
use Rattle.channel_run.proofs.LiveLemmas.{events_are, last_item, piece_more, channel_more, row_of_channel, one_finding, piece_countable}
use Rattle.channel_run.proofs.live.LiveChannel.take.Goals as goal

pub advance-requires : goal.advance-requires
advance-requires g c =
    let p = c.requires.room.0 in
    let s = c.requires.room.1 in
    let item : Item = c.args.item.now in
    record {
      item = subst (λ i. IsItem i (g.C.Channel.number_of c.args.self.now.machine) item) (sym s.interface)
          (subst (λ k. IsItem p.interface k item) (sym s.number) (last_item p.interface p.channel p.items item c.requires.room.2));
    }

-- the list is empty where the row's one event is data
data_alone : {A : Type 0} (n : ℕ) (o : Option ℕ) (items_of : A → List Event) (old new : A) → OnSome o (new ≡ old) → o ≡ Some n → items_of old ≡ [] → items_of new ≡ []
data_alone n o items_of old new apart is none = ap items_of (subst (λ x. OnSome x (new ≡ old)) is apart) ∙ none

pub returns-in-Some-clause-apart : goal.returns-in-Some-clause-apart
returns-in-Some-clause-apart g c = data_alone c.in-Some.octets c.in_ok-octets.field-0 (λ v. v.items) c.clear.new.self c.advance.new.events c.in_ok-octets.ensures.apart c.in-Some.is c.clear.ensures.items

pub returns-in-Some-clause-events : goal.returns-in-Some-clause-events
returns-in-Some-clause-events g c = λ p s.
    let before : GapChannel = channel_so_far p in
    sym (ap (λ o. c.advance.new.events.items ++ data_events p.epoch p.channel c.args.item.now o) c.in-Some.is)
    ∙ events_are c.clear.new.self.items c.advance.new.events.items before c.args.item.now c.in_ok-octets.field-0 (c.in_ok-octets.ensures.events before s.machine) c.clear.ensures.items s.interface s.epoch s.number

pub returns-in-Some-clause-finding : goal.returns-in-Some-clause-finding
returns-in-Some-clause-finding g c = λ p s.
    sym (ap (λ l. findings_of (l ++ data_events p.epoch p.channel c.args.item.now (Some c.in-Some.octets))) (returns-in-Some-clause-apart g c))
    ∙ ap findings_of (returns-in-Some-clause-events g c p s)

pub returns-in-Some-clause-represented : goal.returns-in-Some-clause-represented
returns-in-Some-clause-represented g c = λ p s small.
    let item : Item = c.args.item.now in
    let before : GapChannel = channel_so_far p in
    let n = c.in-Some.octets in
    let step = c.in_ok-octets.ensures in
    let es : List Event = piece_events (so_far p) in
    let e : Event = record { epoch = p.epoch; channel = p.channel; packet = item.number; what = what.Data item.side n } in
    let events : row_events p.interface p.epoch p.channel before item ≡ e ∷ [] =
    sym (returns-in-Some-clause-events g c p s) ∙ ap (λ l. l ++ e ∷ []) (returns-in-Some-clause-apart g c) in
    let few : IsCountable (es ++ e ∷ []) =
    subst (λ (l : List Event). IsCountable (es ++ l)) events (subst IsCountable (piece_more p item) (piece_countable (so_far (with_item p item)) small)) in
    let counts : List Event → Type 0 = Counts c.add_data.new.self p.epoch p.channel in
    let counted : counts (es ++ e ∷ []) =
    c.add_data.ensures p.epoch p.channel es e s.counted (refl, refl) (ap (λ (x : Item). what.Data x.side n) (sym c.item.view_is)) few in
    record {
      small = small;
      interface = step.interface before s.machine ∙ s.interface;
      number = step.number before s.machine ∙ s.number;
      channel = s.channel;
      epoch = s.epoch;
      machine =
          subst (g.C.Channel.represents c.advance.new.self)
          ((λ j. (row_step (s.interface j) (s.number j) before item).after) ∙ sym (channel_more p.interface p.channel (fresh_at p.interface p.start p.epoch p.channel) p.items item)) (step.represented before s.machine);
      counted = subst counts (sym (piece_more p item)) (subst (λ (l : List Event). counts (es ++ l)) (sym events) counted);
    }

pub returns-in_ok-finding-in-None-clause-events : goal.returns-in_ok-finding-in-None-clause-events
returns-in_ok-finding-in-None-clause-events g c = λ p s.
    let before : GapChannel = channel_so_far p in
    sym (ap (λ o. c.advance.new.events.items ++ data_events p.epoch p.channel c.args.item.now o) c.in-None.is)
    ∙ events_are c.clear.new.self.items c.advance.new.events.items before c.args.item.now c.in_ok-octets.field-0 (c.in_ok-octets.ensures.events before s.machine) c.clear.ensures.items s.interface s.epoch s.number

pub returns-in_ok-finding-in-None-clause-finding : goal.returns-in_ok-finding-in-None-clause-finding
returns-in_ok-finding-in-None-clause-finding g c = λ p s.
    let before : GapChannel = channel_so_far p in
    let listed : c.as_slice.result.now ≡ row_events p.interface p.epoch p.channel before c.args.item.now =
    c.as_slice.ensures.value ∙ sym (append-nil c.advance.new.events.items) ∙ returns-in_ok-finding-in-None-clause-events g c p s in
    one_finding p.interface p.epoch p.channel before c.args.item.now c.as_slice.result.now c.in_ok-finding-in-None.finding listed c.in_ok-finding-in-None.ensures.found

pub returns-in_ok-finding-in-None-clause-represented : goal.returns-in_ok-finding-in-None-clause-represented
returns-in_ok-finding-in-None-clause-represented g c = λ p s small.
    let item : Item = c.args.item.now in
    let before : GapChannel = channel_so_far p in
    let step = c.in_ok-octets.ensures in
    let es : List Event = piece_events (so_far p) in
    let events : List Event = row_events p.interface p.epoch p.channel before item in
    let listed : c.as_slice.result.now ≡ events = c.as_slice.ensures.value ∙ sym (append-nil c.advance.new.events.items) ∙ returns-in_ok-finding-in-None-clause-events g c p s in
    let counts : List Event → Type 0 = Counts c.record_all.new.self p.epoch p.channel in
    let all = subst (AllByRecursion (IsOf p.epoch p.channel)) (sym listed) (row_of_channel p.interface p.epoch p.channel before item) in
    let few = subst (λ (l : List Event). IsCountable (es ++ l)) (sym listed) (subst IsCountable (piece_more p item) (piece_countable (so_far (with_item p item)) small)) in
    let counted : counts (es ++ events) = subst (λ (l : List Event). counts (es ++ l)) listed (c.in_ok-finding-in-None.ensures.recorded p.epoch p.channel es s.counted all few) in
    record {
      small = small;
      interface = step.interface before s.machine ∙ s.interface;
      number = step.number before s.machine ∙ s.number;
      channel = s.channel;
      epoch = s.epoch;
      machine =
          subst (g.C.Channel.represents c.advance.new.self)
          ((λ j. (row_step (s.interface j) (s.number j) before item).after) ∙ sym (channel_more p.interface p.channel (fresh_at p.interface p.start p.epoch p.channel) p.items item)) (step.represented before s.machine);
      counted = subst counts (sym (piece_more p item)) counted;
    }
