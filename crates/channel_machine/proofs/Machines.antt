-- A row of a piece on a channel, and what is known of the channel at a moment.
use Rattle.std.proofs.Common.{◌≡◌, ℕ, Bool, false, true≢false, refl, sym, ◌∙◌, ap, subst, Option, None, List, [], ◌∷◌, ◌++◌, Some, map, Result, Ok, Err}
use Rattle.std.specs.Prelude.{IfOk}
use Rattle.line_model.specs.declared.event.Event.{Event}
use Rattle.line_model.specs.declared.event.What.{What}
use Rattle.line_model.specs.declared.fault.Fault.{Fault}
use Rattle.line_model.specs.declared.interface.Interface.{Interface}
use Rattle.line_model.specs.declared.state.Side.{Side}
use Rattle.line_model.specs.basics.Records.{Item}
use Rattle.line_model.specs.channels.Channels.{Channel}
use Rattle.line_model.specs.channels.ChannelStep.{counts_of}
use Rattle.line_model.specs.channels.Gaps as gaps
use Rattle.line_model.specs.channels.GapStep.{GapOutcome}
use Rattle.line_model.specs.observer.MachineEvents.{stamp}
use Rattle.line_model.specs.observer.Observer.{event_of, row_step}
use Rattle.data_transfer.specs.FlowResidues as windows
use Rattle.channel_run.specs.declared.run.View.{View}
use Rattle.channel_run.specs.Run.{data_events, row_events}
use Rattle.channel_run.specs.Views.{IsViewOf, is_adrift, is_settled}
use Rattle.channel_machine.specs.declared.events.EventOrigin.{EventOrigin}
use Rattle.channel_machine.specs.Channels.{Known}
use Rattle.channel_machine.specs.Events.{data_of, event_at}
use Rattle.channel_machine.specs.GapChannels.{GapDoesApart, GapKnown, IsKnownBy, Represents, certainty_of, interface_of, number_of}
use Rattle.channel_machine.specs.GapView.{KnownCertainty}
use Rattle.channel_machine.specs.GapView.KnownCertainty.{Certain, Adrift, Settled}
use Rattle.channel_machine.specs.TermsRepresent.{TermsRepresent, is_fast, is_pad}
use Rattle.line_model.specs.declared.event.What.TheVariants as what
use Rattle.channel_machine.proofs.InForce.{fast_represents, pad_represents}

-- contents with the stamp of a row are events of the row
events_are : (s : EventOrigin) (r : Item) (ws : List What) → s.packet ≡ r.number → map (event_at s) ws ≡ map event_of (stamp s.epoch (Some s.channel) r ws)
events_are s r [] e = refl
events_are s r (w ∷ ws) e =
    let first : event_at s w ≡ event_of (record { epoch = s.epoch; channel = Some s.channel; row = r; what = w }) =
    (λ j. record { epoch = s.epoch; channel = s.channel; packet = e j; what = w }) in
    λ j. first j ∷ events_are s r ws e j

pub represents_after : (q : Result (Option ℕ) Fault) (s : EventOrigin) (x : Side) (old new : GapKnown) (before after : List Event) (o : GapOutcome) →
    IfOk q (λ k. GapDoesApart s x old new before after k o) → IfOk q (λ _. Represents new o.after)
represents_after (Ok k) s x old new before after o d = d.represents
represents_after (Err e) s x old new before after o d = tt

pub same_interface : (q : Result (Option ℕ) Fault) (s : EventOrigin) (x : Side) (old new : GapKnown) (before after : List Event) (o : GapOutcome) →
    IfOk q (λ k. GapDoesApart s x old new before after k o) → IfOk q (λ _. interface_of new ≡ interface_of old)
same_interface (Ok k) s x old new before after o d = d.interface
same_interface (Err e) s x old new before after o d = tt

pub same_number : (q : Result (Option ℕ) Fault) (s : EventOrigin) (x : Side) (old new : GapKnown) (before after : List Event) (o : GapOutcome) →
    IfOk q (λ k. GapDoesApart s x old new before after k o) → IfOk q (λ _. number_of new ≡ number_of old)
same_number (Ok k) s x old new before after o d = d.number
same_number (Err e) s x old new before after o d = tt

-- the event that is kept apart is one of the row
data_are : (s : EventOrigin) (r : Item) (k : Option ℕ) → s.packet ≡ r.number → map (event_at s) (data_of r.side k) ≡ data_events s.epoch s.channel r k
data_are s r (Some n) e = λ j. record { epoch = s.epoch; channel = s.channel; packet = e j; what = what.Data r.side n } ∷ []
data_are s r None e = refl

pub adds_events : (q : Result (Option ℕ) Fault) (s : EventOrigin) (old new : GapKnown) (before after : List Event) (i : Interface) (g : gaps.GapChannel) (r : Item) → s.packet ≡ r.number →
    IfOk q (λ k. GapDoesApart s r.side old new before after k (row_step i s.channel g r)) → IfOk q (λ k. after ++ data_events s.epoch s.channel r k ≡ before ++ row_events i s.epoch s.channel g r)
adds_events (Ok k) s old new before after i g r e d =
    ap (λ l. after ++ l) (sym (data_are s r k e)) ∙ d.reports ∙ ap (λ es. before ++ es) (events_are s r (row_step i s.channel g r).reported e)
adds_events (Err f) s old new before after i g r e d = tt

-- what is known of a channel beside its numbers, whatever is certain of it
record Seen (p : Known) (c : Channel) : Type 0 where
  state : p.state ≡ c.state
  owed : p.owed ≡ c.owed
  terms : TermsRepresent p.terms c

seen : (t : KnownCertainty) (p : Known) (c : Channel) → IsKnownBy t p c → Seen p c
seen Certain p c s = record { state = s.represented.state; owed = s.represented.owed; terms = s.represented.terms }
seen (Adrift a) p c s = record { state = s.represented.state; owed = s.represented.owed; terms = s.represented.terms }
seen (Settled b) p c s = record { state = s.rest.state; owed = s.rest.owed; terms = record { call = s.rest.terms.call; values = s.rest.terms.values } }

counts_known : (t : KnownCertainty) (p : Known) (c : Channel) → IsKnownBy t p c → is_settled (certainty_of t) ≡ false → windows.ResiduesRepresent p.transfer.flow (counts_of c)
counts_known Certain p c s h = s.represented.transfer.flow
counts_known (Adrift a) p c s h = s.represented.transfer.flow
counts_known (Settled b) p c s h = absurd (true≢false h)

-- the view of what is kept of a channel
abbrev pub view_known : Known → (adrift : Bool) → View
view_known p b = record {
  state = p.state;
  adrift = b;
  owed = p.owed;
  pad_call = is_pad p.terms.call;
  fast = is_fast p.terms.call;
  size_t = p.terms.values.size_t;
  size_n = p.terms.values.size_n;
  flow = p.transfer.flow;
}

pub viewed : (p : GapKnown) (g : gaps.GapChannel) (b : Bool) (v : View) → Represents p g → b ≡ is_adrift (certainty_of p.certainty) → v ≡ view_known p.channel b → IsViewOf (interface_of p) g v
viewed p g b v r adrift is =
    let s : Seen p.channel g.channel = seen p.certainty p.channel g.channel r.channel in
    subst (IsViewOf (interface_of p) g) (sym is) (record {
      state = s.state;
      adrift = adrift ∙ ap is_adrift r.certainty;
      owed = s.owed;
      pad_call = pad_represents p.channel.terms g.channel s.terms;
      fast = fast_represents p.channel.terms g.channel s.terms;
      size_t = ap (λ v. v.size_t) s.terms.values;
      size_n = ap (λ v. v.size_n) s.terms.values;
      flow = λ h. counts_known p.certainty p.channel g.channel r.channel (ap is_settled r.certainty ∙ h);
    })
