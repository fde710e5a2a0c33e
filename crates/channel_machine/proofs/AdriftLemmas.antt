-- Channels adrift, and what packets leave of them.
use Rattle.std.proofs.Common.{◌≡◌, ℕ, Bool, true, false, true≢false, refl, sym, ◌∙◌, ap, subst, List, [], ◌∷◌, Option, Some, None}
use Rattle.std.specs.Prelude.{IfNone, is_some, ◌||◌}
use Rattle.line_model.specs.declared.event.Event.{Event}
use Rattle.line_model.specs.declared.interface.Interface.{Interface}
use Rattle.line_model.specs.declared.packet.DataHeader.{DataHeader}
use Rattle.line_model.specs.basics.Records.{Item}
use Rattle.line_model.specs.packets.Classes.{header_length, packet_class}
use Rattle.line_model.specs.packets.Says.{header_in}
use Rattle.line_model.specs.declared.packet.Packet.{Packet}
use Rattle.line_model.specs.declared.packet.Packet as packet
use Rattle.line_model.specs.declared.packet.PacketKind as kind
use Rattle.line_model.specs.declared.packet.Class.TheVariants.{Data}
use Rattle.line_model.specs.declared.event.What.TheVariants.{Data as DataAccepted}
use Rattle.std.specs.Prelude.{◌-◌}
use Rattle.line_model.specs.channels.Channels.{Channel, is_in_transfer, is_open, is_permanent}
use Rattle.line_model.specs.channels.ChannelStep.{Outcome, report_nothing}
use Rattle.line_model.specs.channels.Gaps as gaps
use Rattle.line_model.specs.channels.Gaps.{WhileAdrift, largest_terms}
use Rattle.line_model.specs.channels.GapStep.{brought_up, coming_up, is_in_use, with_certainty, data_reported}
use Rattle.channel_machine.specs.declared.events.EventOrigin.{EventOrigin}
use Rattle.channel_machine.specs.Channels.{Known, StatusRepresents, Does}
use Rattle.channel_machine.specs.GapChannels.{GapDoes, GapKnown, IsKnownBy, Represents, RepresentsAdrift, adrift_at, certainty_of, interface_of, number_of}
use Rattle.channel_machine.specs.GapSteps.{IsBare}
use Rattle.channel_machine.specs.GapView.KnownCertainty.{Adrift}

pub if_none : {A : Type 0} (o : Option A) (P : Type 0) → P → IfNone o P
if_none None P p = p
if_none (Some x) P p = tt

pub if_open : {A : Type 0} (o : Option A) (P : Type 0) → is_some o ≡ true → IfNone o P
if_open None P e = absurd (true≢false (sym e))
if_open (Some x) P e = tt

-- a channel adrift whose call was not answered
pub unanswered_represents : (p : Known) (a : WhileAdrift) (c : Channel) → is_permanent p.terms.interface p.channel ≡ false → StatusRepresents p c → c.accepting ≡ None → RepresentsAdrift p a c
unanswered_represents p a c virtual represented unanswered = record {
  represented = represented;
  bare = if_none c.opening (c.accepting ≡ None) unanswered;
  circuit = λ e. absurd (true≢false (sym e ∙ virtual));
  unanswered = λ h o t. unanswered;
}

-- one that is up
pub up_represents : (p : Known) (a : WhileAdrift) (c : Channel) → StatusRepresents p c → is_in_transfer c ≡ true → IsBare c → RepresentsAdrift p a c
up_represents p a c represented up bare = record {
  represented = represented;
  bare = bare;
  circuit = λ e. up;
  unanswered = λ h o t. absurd (true≢false (sym up ∙ t));
}

-- a packet that brings a call up leaves a channel with one
pub brought_bare : (i : Interface) (n : ℕ) (c : Channel) → (is_permanent i n ≡ true → is_in_transfer c ≡ true) → IsBare c → is_in_use i n c ≡ true → IsBare (brought_up i c).after
brought_bare i n c circuit bare used = at (is_in_transfer c) refl
  where
    open_by : (p : Bool) → is_permanent i n ≡ p → is_in_transfer c ≡ false → (p || is_open c) ≡ true → is_open c ≡ true
    open_by true e t u = absurd (true≢false (sym (circuit e) ∙ t))
    open_by false e t u = u

    at : (b : Bool) → is_in_transfer c ≡ b → IsBare (elim b as (λ v. Outcome) [ true ↦ report_nothing c | false ↦ coming_up (largest_terms i) c ]).after
    at true e = bare
    at false e = if_open c.opening (Some (largest_terms i) ≡ None) (open_by (is_permanent i n) refl e used)

pub not_up : (i : Interface) (c : Channel) → is_in_transfer c ≡ false → coming_up (largest_terms i) c ≡ brought_up i c
not_up i c e = ap (λ b. elim b as (λ v. Outcome) [ true ↦ report_nothing c | false ↦ coming_up (largest_terms i) c ]) (sym e)

-- only data has a header
pub header_class : (p : Packet) → is_some (header_in p) ≡ true → packet_class p ≡ Data
header_class (packet.TheVariants.Channel n (kind.TheVariants.Data h)) e = refl
header_class p e = absurd (true≢false (sym e))

pub reported_data : (i : Interface) (r : Item) (o : Option DataHeader) → is_some o ≡ true → DataAccepted r.side (r.length - header_length i) ∷ [] ≡ data_reported i r o
reported_data i r None e = absurd (true≢false (sym e))
reported_data i r (Some h) e = refl

pub reported_none : (i : Interface) (r : Item) (o : Option DataHeader) → is_some o ≡ false → data_reported i r o ≡ []
reported_none i r None e = refl
reported_none i r (Some h) e = absurd (true≢false e)

-- what the code keeps represents the channel adrift
pub adrift_represents : (p : GapKnown) (a : WhileAdrift) (c : Channel) (r : Bool) → p.restarting ≡ r → p.certainty ≡ Adrift a → RepresentsAdrift p.channel a c →
    Represents p (record { channel = c; restarting = r; certainty = gaps.Adrift a })
adrift_represents p a c r same is s = record {
  restarting = same;
  certainty = ap (λ k. certainty_of k) is;
  channel = subst (λ k. IsKnownBy k p.channel c) (sym is) s;
}

-- what a function of the channel did, with the channel adrift after it
pub drifts : (s : EventOrigin) (old new : GapKnown) (before after : List Event) (a : WhileAdrift) (o : Outcome) →
    Does s old.channel new.channel before after o → new.restarting ≡ old.restarting → new.certainty ≡ Adrift a → RepresentsAdrift new.channel a o.after →
    GapDoes s old new before after (record { reported = o.reported; after = record { channel = o.after; restarting = old.restarting; certainty = gaps.Adrift a } })
drifts s old new before after a o d restarting certainty represented = record {
  interface = d.interface;
  number = d.channel;
  represents = adrift_represents new a o.after old.restarting restarting certainty represented;
  reports = d.reports;
}

-- the same of what the code keeps, which is the channel that a function was called on
became : (s : EventOrigin) (p old new : GapKnown) (before after : List Event) (a b : WhileAdrift) (o : Outcome) (c : Channel) → p ≡ old → Does s p.channel new.channel before after o →
    new.restarting ≡ p.restarting → new.certainty ≡ Adrift b → RepresentsAdrift new.channel b o.after → GapDoes s old new before after (with_certainty (adrift_at old a c) (gaps.Adrift b) o)
became s p old new before after a b o c same d restarting certainty represented =
    subst (λ q. GapDoes s q new before after (with_certainty (adrift_at q a c) (gaps.Adrift b) o)) same
    (drifts s p new before after b o d restarting certainty represented)

-- a channel whose call was not answered
pub became_unanswered : (s : EventOrigin) (p old new : GapKnown) (before after : List Event) (a b : WhileAdrift) (o : Outcome) (c : Channel) → p ≡ old →
    is_permanent (interface_of old) (number_of old) ≡ false → Does s p.channel new.channel before after o →
    new.restarting ≡ p.restarting → new.certainty ≡ Adrift b → o.after.accepting ≡ None → GapDoes s old new before after (with_certainty (adrift_at old a c) (gaps.Adrift b) o)
became_unanswered s p old new before after a b o c same virtual d restarting certainty unanswered =
    became s p old new before after a b o c same d restarting certainty
    (unanswered_represents new.channel b o.after
    ((λ j. is_permanent ((d.interface ∙ ap (λ q. interface_of q) same) j) ((d.channel ∙ ap (λ q. number_of q) same) j)) ∙ virtual)
    d.represented unanswered)

-- one that is up
pub became_up : (s : EventOrigin) (p old new : GapKnown) (before after : List Event) (a b : WhileAdrift) (o : Outcome) (c : Channel) → p ≡ old → Does s p.channel new.channel before after o →
    new.restarting ≡ p.restarting → new.certainty ≡ Adrift b → is_in_transfer o.after ≡ true → IsBare o.after → GapDoes s old new before after (with_certainty (adrift_at old a c) (gaps.Adrift b) o)
became_up s p old new before after a b o c same d restarting certainty up bare =
    became s p old new before after a b o c same d restarting certainty (up_represents new.channel b o.after d.represented up bare)

-- what represents the channel on which a function was called
pub at_entry : (p old : GapKnown) (a : WhileAdrift) (c : Channel) → p ≡ old → RepresentsAdrift old.channel a c → RepresentsAdrift p.channel a c
at_entry p old a c same s = subst (λ (q : GapKnown). RepresentsAdrift q.channel a c) (sym same) s
