-- A row on a channel of a recording with gaps, by what is certain of it.
use Rattle.std.proofs.Common.{◌≡◌, ℕ, Bool, true, false, true≢false, refl, sym, ◌∙◌, ap, subst, append-nil, map, List, ◌++◌, Option, Some, None, Result, Ok, Err}
use Rattle.std.specs.Prelude.{IfOk, ◌||◌, is_none, option_map}
use Rattle.line_model.specs.declared.event.Event.{Event}
use Rattle.line_model.specs.declared.fault.Fault.{Fault}
use Rattle.line_model.specs.declared.interface.Interface.{Interface}
use Rattle.line_model.specs.declared.state.Side.{Side}
use Rattle.line_model.specs.basics.Records.{Item}
use Rattle.line_model.specs.packets.Says.{gap_of}
use Rattle.line_model.specs.observer.Observer.{row_step, step_by}
use Rattle.line_model.specs.channels.Channels.{Channel, is_open}
use Rattle.line_model.specs.channels.ChannelStep.{Outcome, channel_step}
use Rattle.line_model.specs.channels.Gaps as gaps
use Rattle.line_model.specs.channels.Gaps.{Doubts, WhileAdrift}
use Rattle.line_model.specs.channels.GapStep.{GapOutcome, SettledOutcome, adrift_step, certainty_with, doubts_in, gap_channel_step, is_in_d1, packet_step, with_certainty}
use Rattle.channel_machine.specs.declared.events.EventOrigin.{EventOrigin}
use Rattle.channel_machine.specs.Channels.{DoesApart, StatusRepresents, RepresentsReached, listed}
use Rattle.channel_machine.specs.Events.{data_of, event_at, origin_at}
use Rattle.channel_machine.specs.GapChannels.{ComesAdrift, GapDoes, GapDoesApart, GapKnown, IsKnownBy, Represents, RepresentsAdrift, RepresentsSettled, adrift_at, at_rest, certainty_of, interface_of, number_of}
use Rattle.channel_machine.specs.GapView.{InDoubt}
use Rattle.channel_machine.specs.GapView.KnownCertainty.{Certain, Adrift, Settled}
use Rattle.channel_machine.specs.Reached.{IsReached}
use Rattle.channel_machine.specs.SettledSteps.{SettledDoes, settled_row}
use Rattle.channel_machine.proofs.Reached.{reached_step}

-- a row that is no gap
pub packet_row : (i : Interface) (n : ℕ) (g : gaps.GapChannel) (r : Item) → gap_of r.packet ≡ None → gap_channel_step i n g r ≡ row_step i n g r
packet_row i n g r none = ap (λ o. step_by o i n g r) (sym none)

-- a packet of which nothing says that it is a gap
pub no_gap : (gap : Option (Option ℕ)) → None ≡ option_map (λ c. is_none c) gap → gap ≡ None
no_gap None e = refl
no_gap (Some c) e = cc

-- a row whose events are all listed
listed_apart : {U : Type 0} (q : Result U Fault) (s : EventOrigin) (x : Side) (old new : GapKnown) (before after : List Event) (o : GapOutcome) → IfOk q (λ _. GapDoes s old new before after o) →
    IfOk (listed q) (λ k. GapDoesApart s x old new before after k o)
listed_apart (Ok u) s x old new before after o d = record { interface = d.interface; number = d.number; represents = d.represents; reports = append-nil after ∙ d.reports }
listed_apart (Err e) s x old new before after o d = tt

pub row_listed : {U : Type 0} (q : Result U Fault) (l : Result (Option ℕ) Fault) (s t : EventOrigin) (x : Side) (old new : GapKnown) (before after : List Event) (r : Item) (g : gaps.GapChannel) → gap_of r.packet ≡ None → s ≡ t → l ≡ listed q →
    IfOk q (λ _. GapDoes s old new before after (gap_channel_step (interface_of old) (number_of old) g r)) → IfOk l (λ k. GapDoesApart t x old new before after k (row_step (interface_of old) (number_of old) g r))
row_listed q l s t x old new before after r g none origin is d =
    let o : GapOutcome = row_step (interface_of old) (number_of old) g r in
    let does : IfOk q (λ _. GapDoes s old new before after o) = subst (λ v. IfOk q (λ _. GapDoes s old new before after v)) (packet_row (interface_of old) (number_of old) g r none) d in
    subst (λ v. IfOk v (λ k. GapDoesApart t x old new before after k o)) (sym is)
    (listed_apart q t x old new before after o (subst (λ v. IfOk q (λ _. GapDoes v old new before after o)) origin does))

-- a row whose data packet may be kept out of the list
pub kept_apart : (k : Option ℕ) (s : EventOrigin) (x : Side) (old new : GapKnown) (before after : List Event) (o : GapOutcome) → GapDoes s old new before (after ++ map (event_at s) (data_of x k)) o → GapDoesApart s x old new before after k o
kept_apart k s x old new before after o d = record { interface = d.interface; number = d.number; represents = d.represents; reports = d.reports }

pub row_apart : (q : Result (Option ℕ) Fault) (s t : EventOrigin) (x : Side) (old new : GapKnown) (before after : List Event) (r : Item) (g : gaps.GapChannel) → gap_of r.packet ≡ None → s ≡ t →
    IfOk q (λ k. GapDoesApart s x old new before after k (gap_channel_step (interface_of old) (number_of old) g r)) → IfOk q (λ k. GapDoesApart t x old new before after k (row_step (interface_of old) (number_of old) g r))
row_apart q s t x old new before after r g none origin d =
    subst (λ v. IfOk q (λ k. GapDoesApart v x old new before after k (row_step (interface_of old) (number_of old) g r))) origin
    (subst (λ v. IfOk q (λ k. GapDoesApart s x old new before after k v)) (packet_row (interface_of old) (number_of old) g r none) d)

-- a channel of which all is certain
certain_after : (q : Result (Option ℕ) Fault) (s : EventOrigin) (x : Side) (old new : GapKnown) (before after : List Event) (o : Outcome) (g : gaps.GapChannel) → old.restarting ≡ g.restarting → new.certainty ≡ Certain → new.restarting ≡ old.restarting → IsReached o.after →
    IfOk q (λ k. DoesApart s x old.channel new.channel before after k o) → IfOk q (λ k. GapDoesApart s x old new before after k (with_certainty g gaps.Certain o))
certain_after (Ok k) s x old new before after o g restarting certain same reached d = record {
  interface = d.interface;
  number = d.channel;
  represents = record {
    restarting = same ∙ restarting;
    certainty = ap (λ t. certainty_of t) certain;
    channel = subst (λ t. IsKnownBy t new.channel o.after) (sym certain) (record { represented = d.represented; reached = reached });
  };
  reports = d.reports;
}
certain_after (Err e) s x old new before after o g restarting certain same reached d = tt

-- the channel that is represented, by what is certain
certainty_same : (i : Interface) (n : ℕ) (r : Item) (g : gaps.GapChannel) (t : gaps.Certainty) → t ≡ g.certainty → packet_step t i n r g ≡ gap_channel_step i n g r
certainty_same i n r g t e = ap (λ u. packet_step u i n r g) e

certain_at : (q : Result (Option ℕ) Fault) (s : EventOrigin) (old new : GapKnown) (before after : List Event) (r : Item) (g : gaps.GapChannel) → Represents old g → old.certainty ≡ Certain → new.certainty ≡ old.certainty → new.restarting ≡ old.restarting →
    ((c : Channel) → IsReached c → StatusRepresents old.channel c → IfOk q (λ k. DoesApart s r.side old.channel new.channel before after k (channel_step (interface_of old) (number_of old) c r))) →
    IfOk q (λ k. GapDoesApart s r.side old new before after k (gap_channel_step (interface_of old) (number_of old) g r))
certain_at q s old new before after r g rep is kept same does =
    let i = interface_of old in
    let n = number_of old in
    let st : RepresentsReached old.channel g.channel = subst (λ t. IsKnownBy t old.channel g.channel) is rep.channel in
    let here : gaps.Certain ≡ g.certainty = ap (λ t. certainty_of t) (sym is) ∙ rep.certainty in
    subst (λ o. IfOk q (λ k. GapDoesApart s r.side old new before after k o)) (certainty_same i n r g gaps.Certain here)
    (certain_after q s r.side old new before after (channel_step i n g.channel r) g rep.restarting (kept ∙ is) same (reached_step i n g.channel r st.reached) (does g.channel st.reached st.represented))

pub certain_row : (q : Result (Option ℕ) Fault) (e : ℕ) (p old new : GapKnown) (before after : List Event) (r : Item) (g : gaps.GapChannel) → gap_of r.packet ≡ None → p ≡ old → Represents old g → p.certainty ≡ Certain → new.certainty ≡ p.certainty → new.restarting ≡ p.restarting →
    ((c : Channel) → IsReached c → StatusRepresents p.channel c → IfOk q (λ k. DoesApart (origin_at e (number_of p) r) r.side p.channel new.channel before after k (channel_step (interface_of p) (number_of p) c r))) →
    IfOk q (λ k. GapDoesApart (origin_at e (number_of old) r) r.side old new before after k (row_step (interface_of old) (number_of old) g r))
certain_row q e p old new before after r g none same rep is kept restarting does =
    subst (λ o. IfOk q (λ k. GapDoesApart (origin_at e (number_of old) r) r.side old new before after k o)) (packet_row (interface_of old) (number_of old) g r none)
    (subst (λ (v : GapKnown). IfOk q (λ k. GapDoesApart (origin_at e (number_of v) r) r.side v new before after k (gap_channel_step (interface_of v) (number_of v) g r))) same
    (certain_at q (origin_at e (number_of p) r) p new before after r g (subst (λ (v : GapKnown). Represents v g) (sym same) rep) is kept restarting does))

-- a channel adrift
pub adrift_row : {U : Type 0} (q : Result U Fault) (s : EventOrigin) (old new : GapKnown) (before after : List Event) (a : WhileAdrift) (r : Item) (g : gaps.GapChannel) → Represents old g → old.certainty ≡ Adrift a →
    ComesAdrift q s old new before after a (adrift_step (interface_of old) (number_of old) r a) → IfOk q (λ _. GapDoes s old new before after (gap_channel_step (interface_of old) (number_of old) g r))
adrift_row q s old new before after a r g rep is does =
    let st : RepresentsAdrift old.channel a g.channel = subst (λ t. IsKnownBy t old.channel g.channel) is rep.channel in
    let same : adrift_at old a g.channel ≡ g = λ j. record { channel = g.channel; restarting = rep.restarting j; certainty = (ap (λ t. certainty_of t) (sym is) ∙ rep.certainty) j } in
    subst (λ (h : gaps.GapChannel). IfOk q (λ _. GapDoes s old new before after (gap_channel_step (interface_of old) (number_of old) h r))) same (does g.channel st)

-- a settled channel
settled_with : (d : Doubts) (c : Channel) (b : Bool) → b ≡ (is_open c || is_in_d1 c.state) → elim b as (λ _. gaps.Certainty) [ true ↦ gaps.Settled d | false ↦ gaps.Certain ] ≡ certainty_with d c
settled_with d c b e = ap (λ v. elim v as (λ _. gaps.Certainty) [ true ↦ gaps.Settled d | false ↦ gaps.Certain ]) e

either_second : (a b : Bool) → (a || b) ≡ false → b ≡ false
either_second true b e = absurd (true≢false e)
either_second false b e = e

stays_settled_at : (s : EventOrigin) (old new : GapKnown) (left : InDoubt) (before after : List Event) (r : Item) (held : InDoubt) (g : gaps.GapChannel) → Represents old g → old.certainty ≡ Settled held → new.restarting ≡ old.restarting → new.certainty ≡ Settled left →
    ((c : Channel) → RepresentsSettled old.channel held c → SettledDoes s old.channel new.channel left before after (settled_row (interface_of old) (number_of old) r held.doubts c)) →
    ((c : Channel) → StatusRepresents new.channel (at_rest c) → true ≡ (is_open c || is_in_d1 c.state)) →
    GapDoes s old new before after (gap_channel_step (interface_of old) (number_of old) g r)
stays_settled_at s old new left before after r held g rep is same certainty does settled =
    let i = interface_of old in
    let n = number_of old in
    let st : RepresentsSettled old.channel held g.channel = subst (λ t. IsKnownBy t old.channel g.channel) is rep.channel in
    let here : gaps.Settled held.doubts ≡ g.certainty = ap (λ t. certainty_of t) (sym is) ∙ rep.certainty in
    let o : SettledOutcome = settled_row i n r held.doubts g.channel in
    let d : SettledDoes s old.channel new.channel left before after o = does g.channel st in
    subst (λ v. GapDoes s old new before after v) (certainty_same i n r g (gaps.Settled held.doubts) here) (record {
      interface = d.interface;
      number = d.channel;
      represents = record {
        restarting = same ∙ rep.restarting;
        certainty = ap (λ t. certainty_of t) certainty ∙ ap (λ b. gaps.Settled b) d.doubts
            ∙ settled_with (doubts_in o.outcome.after.state o.doubts) o.outcome.after true (settled o.outcome.after d.represented.rest);
        channel = subst (λ t. IsKnownBy t new.channel o.outcome.after) (sym certainty) d.represented;
      };
      reports = d.reports;
    })

pub stays_settled : (s : EventOrigin) (p old new : GapKnown) (left : InDoubt) (before after : List Event) (r : Item) (held : InDoubt) (g : gaps.GapChannel) → p ≡ old → Represents old g → p.certainty ≡ Settled held → new.restarting ≡ p.restarting → new.certainty ≡ Settled left →
    ((c : Channel) → RepresentsSettled p.channel held c → SettledDoes s p.channel new.channel left before after (settled_row (interface_of p) (number_of p) r held.doubts c)) →
    ((c : Channel) → StatusRepresents new.channel (at_rest c) → true ≡ (is_open c || is_in_d1 c.state)) →
    GapDoes s old new before after (gap_channel_step (interface_of old) (number_of old) g r)
stays_settled s p old new left before after r held g same rep is restarting certainty does settled =
    subst (λ (q : GapKnown). GapDoes s q new before after (gap_channel_step (interface_of q) (number_of q) g r)) same
    (stays_settled_at s p new left before after r held g (subst (λ (q : GapKnown). Represents q g) (sym same) rep) is restarting certainty does settled)

becomes_certain_at : (s : EventOrigin) (old new : GapKnown) (left : InDoubt) (before after : List Event) (r : Item) (held : InDoubt) (g : gaps.GapChannel) → Represents old g → old.certainty ≡ Settled held → new.restarting ≡ old.restarting → new.certainty ≡ Certain →
    ((c : Channel) → RepresentsSettled old.channel held c → SettledDoes s old.channel new.channel left before after (settled_row (interface_of old) (number_of old) r held.doubts c)) →
    ((c : Channel) → StatusRepresents new.channel (at_rest c) → false ≡ (is_open c || is_in_d1 c.state)) →
    GapDoes s old new before after (gap_channel_step (interface_of old) (number_of old) g r)
becomes_certain_at s old new left before after r held g rep is same certainty does settled =
    let i = interface_of old in
    let n = number_of old in
    let st : RepresentsSettled old.channel held g.channel = subst (λ t. IsKnownBy t old.channel g.channel) is rep.channel in
    let here : gaps.Settled held.doubts ≡ g.certainty = ap (λ t. certainty_of t) (sym is) ∙ rep.certainty in
    let o : SettledOutcome = settled_row i n r held.doubts g.channel in
    let d : SettledDoes s old.channel new.channel left before after o = does g.channel st in
    let e : Channel = o.outcome.after in
    let none : false ≡ (is_open e || is_in_d1 e.state) = settled e d.represented.rest in
    let outside : is_in_d1 e.state ≡ false = either_second (is_open e) (is_in_d1 e.state) (sym none) in
    subst (λ v. GapDoes s old new before after v) (certainty_same i n r g (gaps.Settled held.doubts) here) (record {
      interface = d.interface;
      number = d.channel;
      represents = record {
        restarting = same ∙ rep.restarting;
        certainty = ap (λ t. certainty_of t) certainty ∙ settled_with (doubts_in e.state o.doubts) e false none;
        channel = subst (λ t. IsKnownBy t new.channel e) (sym certainty) (record { represented = subst (λ c. StatusRepresents new.channel c) (d.represented.outside outside).1 d.represented.rest; reached = d.represented.reached });
      };
      reports = d.reports;
    })

pub becomes_certain : (s : EventOrigin) (p old new : GapKnown) (left : InDoubt) (before after : List Event) (r : Item) (held : InDoubt) (g : gaps.GapChannel) → p ≡ old → Represents old g → p.certainty ≡ Settled held → new.restarting ≡ p.restarting → new.certainty ≡ Certain →
    ((c : Channel) → RepresentsSettled p.channel held c → SettledDoes s p.channel new.channel left before after (settled_row (interface_of p) (number_of p) r held.doubts c)) →
    ((c : Channel) → StatusRepresents new.channel (at_rest c) → false ≡ (is_open c || is_in_d1 c.state)) →
    GapDoes s old new before after (gap_channel_step (interface_of old) (number_of old) g r)
becomes_certain s p old new left before after r held g same rep is restarting certainty does settled =
    subst (λ (q : GapKnown). GapDoes s q new before after (gap_channel_step (interface_of q) (number_of q) g r)) same
    (becomes_certain_at s p new left before after r held g (subst (λ (q : GapKnown). Represents q g) (sym same) rep) is restarting certainty does settled)
