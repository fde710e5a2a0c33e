-- What packets do to a channel adrift, as the code does it.
use Rattle.std.proofs.Common.{◌≡◌, ℕ, Bool, true, false, true≢false, refl, sym, ◌∙◌, ap, subst, append-nil, List, [], ◌++◌, Option, Some, None}
use Rattle.std.specs.Prelude.{IfNone, is_some, not, ◌&&◌, ◌||◌, option_and_then}
use Rattle.line_model.specs.declared.event.Event.{Event}
use Rattle.line_model.specs.declared.gap.AdriftEntry.{AdriftEntry}
use Rattle.line_model.specs.declared.gap.AdriftEntry.TheVariants.{OpensCall, Accepts, Clears, ConfirmsClear, Resets, ConfirmsReset, Carries, DoesNothing}
use Rattle.line_model.specs.declared.packet.Class.{Class}
use Rattle.line_model.specs.declared.packet.Class.TheVariants.{Call, Accepted}
use Rattle.line_model.specs.declared.state.ChannelState.{ChannelState}
use Rattle.line_model.specs.declared.state.ChannelState.TheVariants.{Transfer}
use Rattle.line_model.specs.declared.state.DState as transfer
use Rattle.channel_machine.specs.Contents.{is_call}
use Rattle.line_model.specs.packets.Classes.{packet_class}
use Rattle.line_model.specs.declared.gap.LastData.{LastData}
use Rattle.line_model.specs.declared.gap.Owed.{Owed}
use Rattle.line_model.specs.declared.interface.Interface.{Interface}
use Rattle.line_model.specs.declared.packet.DataHeader.{DataHeader}
use Rattle.line_model.specs.declared.state.Side.{Side}
use Rattle.line_model.specs.declared.state.Side.TheVariants.{T, N}
use Rattle.line_model.specs.declared.state.StateName.{StateName}
use Rattle.line_model.specs.declared.state.StateName.TheVariants.{D1, P4}
use Rattle.line_model.specs.basics.Records.{Item}
use Rattle.line_model.specs.packets.Says.{header_in}
use Rattle.line_model.specs.channels.Channels.{Channel, Opening, is_in_transfer, is_open, is_permanent, is_transfer, other}
use Rattle.line_model.specs.channels.ChannelStep.{Outcome, and_then, entering, report_nothing, state_named}
use Rattle.line_model.specs.channels.Gaps as gaps
use Rattle.line_model.specs.channels.Gaps.{WhileAdrift, idle_name, is_hidden_by_gap, largest_terms, left_by_gap, of_both, owed_by, with_largest_terms}
use Rattle.line_model.specs.channels.GapStep.{GapOutcome, adrift_entry, adrift_fault, adrift_step, adrift_step_by, acknowledged_data, adrift_acceptance, adrift_carried, adrift_received, adrift_reset, adrift_transfer, brought_up, coming_up, data_reported, hidden_when_up, in_state, is_in_use, is_own_acceptance, is_resetting, last_after, passing, receive_of, settled_channel, settled_doubts, terms_of_acceptance, with_certainty}
use Rattle.data_transfer.specs.Assembler.{begun_on}
use Rattle.data_transfer.specs.Assembly.{Holds}
use Rattle.channel_machine.specs.declared.events.EventOrigin.{EventOrigin}
use Rattle.channel_machine.specs.declared.gaps.settled.Settling.{Settling}
use Rattle.channel_machine.specs.Channels.{Known, StatusRepresents, Does}
use Rattle.channel_machine.specs.GapChannels.{GapDoes, GapKnown, IsKnownBy, Represents, RepresentsAdrift, RepresentsSettled, adrift_at, at_rest, certainty_of, interface_of, number_of}
use Rattle.channel_machine.specs.GapSteps.{IsBare, carried_on, received_after}
use Rattle.channel_machine.specs.GapView.{InDoubt, KnownCertainty}
use Rattle.channel_machine.specs.GapView.KnownCertainty.{Certain, Adrift, Settled}
use Rattle.channel_machine.specs.Reached.{IsUnanswered}
use Rattle.channel_machine.specs.SettledNumbers.{NumbersRepresent, kept_begun}
use Rattle.channel_machine.specs.Settling.{settled_after, settling_by}
use Rattle.channel_machine.proofs.AdriftLemmas.{became_up, brought_bare, if_open}

-- a gap

abbrev pub NotAdrift : KnownCertainty → Type 0
NotAdrift (Adrift a) = ⊥
NotAdrift k = Unit {0}

owed_of : (k : KnownCertainty) (t : gaps.Certainty) (p : Known) (c : Channel) (o : Owed) → NotAdrift k → certainty_of k ≡ t → IsKnownBy k p c → ((d : Channel) → StatusRepresents p d → o ≡ owed_by d) → o ≡ gaps.owed_at_gap t c
owed_of Certain t p c o n e s h = h c s.represented ∙ ap (λ u. gaps.owed_at_gap u c) e
owed_of (Settled d) t p c o n e s h = h (at_rest c) s.rest ∙ ap (λ u. gaps.owed_at_gap u c) e
owed_of (Adrift a) t p c o n e s h = absurd n

-- what a channel owes that is not adrift
pub owed_known : (p old : GapKnown) (k : KnownCertainty) (g : gaps.GapChannel) (o : Owed) → p ≡ old → p.certainty ≡ k → NotAdrift k → Represents old g → ((d : Channel) → StatusRepresents p.channel d → o ≡ owed_by d) →
    o ≡ gaps.owed_at_gap g.certainty g.channel
owed_known p old k g o same is n r h =
    let here : Represents p g = subst (λ (q : GapKnown). Represents q g) (sym same) r in
    owed_of k g.certainty p.channel g.channel o n (ap (λ t. certainty_of t) (sym is) ∙ here.certainty) (subst (λ t. IsKnownBy t p.channel g.channel) is here.channel) h

-- the channel without its numbers, whatever is certain of it
rest_by : (k : KnownCertainty) (p : Known) (c : Channel) → IsKnownBy k p c → (d : Channel) × StatusRepresents p d × (at_rest d ≡ at_rest c)
rest_by Certain p c s = (c, s.represented, refl)
rest_by (Adrift a) p c s = (c, s.represented, refl)
rest_by (Settled d) p c s = (at_rest c, s.rest, refl)

bare_by : (k : KnownCertainty) (p : Known) (c : Channel) → IsKnownBy k p c → IsBare c
bare_by Certain p c s = s.reached.bare
bare_by (Adrift a) p c s = s.bare
bare_by (Settled d) p c s = s.reached.bare

record LeftRepresents (i : Interface) (permanent hidden : Bool) (c : Channel) : Type 0 where
  bare : IsBare c
  circuit : permanent ≡ true → is_in_transfer c ≡ true
  unanswered : hidden ≡ false → is_open c ≡ true → is_in_transfer c ≡ false → c.accepting ≡ None

left_at : (i : Interface) (p t : Bool) (o : Option Opening) (c : Channel) → IfNone o (c.accepting ≡ None) →
    LeftRepresents i p (not p && is_some o) (with_largest_terms (not p && is_some o) i (entering (idle_name (p || t) o) false (record c { opening = o })))
left_at i true t None c bare = record { bare = bare; circuit = λ e. refl; unanswered = λ h o u. absurd (true≢false u) }
left_at i true t (Some v) c bare = record { bare = tt; circuit = λ e. refl; unanswered = λ h o u. absurd (true≢false u) }
left_at i false t None c bare = record { bare = bare; circuit = λ e. absurd (true≢false (sym e)); unanswered = λ h o u. absurd (true≢false (sym o)) }
left_at i false t (Some v) c bare = record { bare = tt; circuit = λ e. absurd (true≢false (sym e)); unanswered = λ h o u. absurd (true≢false h) }

left_of : (i : Interface) (n : ℕ) (c : Channel) → IsBare c → LeftRepresents i (is_permanent i n) (is_hidden_by_gap i n c) (left_by_gap i n c)
left_of i n c bare = left_at i (is_permanent i n) (is_in_transfer c) c.opening c bare

pub left_adrift : (p : Known) (i : Interface) (n : ℕ) (w : Owed) (c : Channel) → p.terms.interface ≡ i → p.channel ≡ n → StatusRepresents p (left_by_gap i n c) → IsBare c →
    RepresentsAdrift p (record { owed = w; hidden = is_hidden_by_gap i n c; last = of_both None }) (left_by_gap i n c)
left_adrift p i n w c interface number represented bare =
    let l : LeftRepresents i (is_permanent i n) (is_hidden_by_gap i n c) (left_by_gap i n c) = left_of i n c bare in
    record {
      represented = represented;
      bare = l.bare;
      circuit = λ e. l.circuit ((λ j. is_permanent (sym interface j) (sym number j)) ∙ e);
      unanswered = l.unanswered;
    }

-- what a gap leaves of a channel
gapped_at : (p new : GapKnown) (all_channels : Bool) (g : gaps.GapChannel) (w : Owed) (h : Bool) → Represents p g → new.restarting ≡ (p.restarting || all_channels) →
    new.certainty ≡ Adrift (record { owed = w; hidden = h; last = of_both None }) → w ≡ gaps.owed_at_gap g.certainty g.channel →
    ((d : Channel) → StatusRepresents p.channel d → h ≡ is_hidden_by_gap (interface_of p) (number_of p) d) → interface_of new ≡ interface_of p → number_of new ≡ number_of p →
    ((d : Channel) → StatusRepresents p.channel d → StatusRepresents new.channel (left_by_gap (interface_of p) (number_of p) d)) →
    Represents new (gaps.gap_step (interface_of p) (number_of p) all_channels g)
gapped_at p new all_channels g w h r restarting certainty owed hidden interface number left =
    let i : Interface = interface_of p in
    let n : ℕ = number_of p in
    let (d, represented, same) = rest_by p.certainty p.channel g.channel r.channel in
    let b : WhileAdrift = record { owed = w; hidden = h; last = of_both None } in
    let e : WhileAdrift = record { owed = gaps.owed_at_gap g.certainty g.channel; hidden = is_hidden_by_gap i n g.channel; last = of_both None } in
    let hidden_is : h ≡ is_hidden_by_gap i n g.channel = hidden d represented ∙ ap (λ c. is_hidden_by_gap i n c) same in
    let is : new.certainty ≡ Adrift e = certainty ∙ (λ j. Adrift (record { owed = owed j; hidden = hidden_is j; last = of_both None })) in
    let there : StatusRepresents new.channel (left_by_gap i n g.channel) = subst (λ c. StatusRepresents new.channel (left_by_gap i n c)) same (left d represented) in
    record {
      restarting = restarting ∙ ap (λ v. v || all_channels) r.restarting;
      certainty = ap (λ k. certainty_of k) is;
      channel = subst (λ k. IsKnownBy k new.channel (left_by_gap i n g.channel)) (sym is)
          (left_adrift new.channel i n (gaps.owed_at_gap g.certainty g.channel) g.channel interface number there (bare_by p.certainty p.channel g.channel r.channel));
    }

pub gapped : (p old new : GapKnown) (all_channels : Bool) (g : gaps.GapChannel) (w : Owed) (h : Bool) → p ≡ old → Represents old g → new.restarting ≡ (p.restarting || all_channels) →
    new.certainty ≡ Adrift (record { owed = w; hidden = h; last = of_both None }) → w ≡ gaps.owed_at_gap g.certainty g.channel →
    ((d : Channel) → StatusRepresents p.channel d → h ≡ is_hidden_by_gap (interface_of p) (number_of p) d) → interface_of new ≡ interface_of p → number_of new ≡ number_of p →
    ((d : Channel) → StatusRepresents p.channel d → StatusRepresents new.channel (left_by_gap (interface_of p) (number_of p) d)) →
    Represents new (gaps.gap_step (interface_of old) (number_of old) all_channels g)
gapped p old new all_channels g w h same r restarting certainty owed hidden interface number left =
    subst (λ (q : GapKnown). Represents new (gaps.gap_step (interface_of q) (number_of q) all_channels g)) same
    (gapped_at p new all_channels g w h (subst (λ (q : GapKnown). Represents q g) (sym same) r) restarting certainty owed hidden interface number left)

-- an acceptance

both_first : (a b : Bool) → (a && b) ≡ true → a ≡ true
both_first true b e = refl
both_first false b e = absurd (true≢false (sym e))

both_second : (a b : Bool) → (a && not b) ≡ true → b ≡ false
both_second true true e = absurd (true≢false (sym e))
both_second true false e = refl
both_second false b e = absurd (true≢false (sym e))

either_first : (a b : Bool) → (a || b) ≡ false → a ≡ false
either_first true b e = absurd (true≢false e)
either_first false b e = refl

acceptance_is : (i : Interface) (x : Side) (xs : List ℕ) (a : WhileAdrift) (g : gaps.GapChannel) → (is_open g.channel && not (is_in_transfer g.channel)) ≡ true →
    (let h : Bool = a.hidden || is_own_acceptance x g.channel.opening in
    with_certainty g (gaps.Adrift (record a { hidden = h })) (coming_up (terms_of_acceptance h i xs) g.channel) ≡ adrift_acceptance i x xs a g)
acceptance_is i x xs a g e =
    let h : Bool = a.hidden || is_own_acceptance x g.channel.opening in
    ap (λ b. elim b as (λ v. GapOutcome) [
      | true ↦ with_certainty g (gaps.Adrift (record a { hidden = h })) (coming_up (terms_of_acceptance h i xs) g.channel)
      | false ↦ passing g
    ]) (sym e)

pub accepted_adrift : (s : EventOrigin) (p old new : GapKnown) (before after : List Event) (a : WhileAdrift) (h : Bool) (x : Side) (xs : List ℕ) (c : Channel) → p ≡ old → RepresentsAdrift p.channel a c →
    (is_open c && not (is_in_transfer c)) ≡ true → h ≡ (a.hidden || is_own_acceptance x c.opening) →
    ((h ≡ false → IsUnanswered c) → StatusRepresents p.channel c → Does s p.channel new.channel before after (coming_up (terms_of_acceptance h (interface_of p) xs) c)) →
    new.restarting ≡ p.restarting → new.certainty ≡ Adrift (record a { hidden = h }) → GapDoes s old new before after (adrift_acceptance (interface_of old) x xs a (adrift_at old a c))
accepted_adrift s p old new before after a h x xs c same st called hidden does restarting certainty =
    let opened : is_open c ≡ true = both_first (is_open c) (not (is_in_transfer c)) called in
    let waits : is_in_transfer c ≡ false = both_second (is_open c) (is_in_transfer c) called in
    let i : Interface = interface_of p in
    let done : GapDoes s p new before after (with_certainty (adrift_at p a c) (gaps.Adrift (record a { hidden = h })) (coming_up (terms_of_acceptance h i xs) c)) =
    became_up s p p new before after a (record a { hidden = h }) (coming_up (terms_of_acceptance h i xs) c) c refl
    (does (λ none. record { opened = opened; unanswered = st.unanswered (either_first a.hidden (is_own_acceptance x c.opening) (sym hidden ∙ none)) opened waits }) st.represented)
    restarting certainty refl (if_open c.opening (Some (terms_of_acceptance h i xs) ≡ None) opened) in
    subst (λ q. GapDoes s q new before after (adrift_acceptance (interface_of q) x xs a (adrift_at q a c))) same
    (subst (λ o. GapDoes s p new before after o)
    (ap (λ b. with_certainty (adrift_at p a c) (gaps.Adrift (record a { hidden = b })) (coming_up (terms_of_acceptance b i xs) c)) hidden ∙ acceptance_is i x xs a (adrift_at p a c) called) done)

-- a reset

reset_is : (i : Interface) (n : ℕ) (a : WhileAdrift) (to : StateName) (g : gaps.GapChannel) → is_in_use i n g.channel ≡ true →
    with_certainty g (gaps.drifting a.owed (hidden_when_up a g.channel)) (and_then (brought_up i g.channel) (in_state to)) ≡ adrift_reset i n a.owed a to g
reset_is i n a to g e =
    ap (λ b. elim b as (λ v. GapOutcome) [
      | true ↦ with_certainty g (gaps.drifting a.owed (hidden_when_up a g.channel)) (and_then (brought_up i g.channel) (in_state to))
      | false ↦ with_certainty g (gaps.Adrift (record a { owed = a.owed })) (report_nothing g.channel)
    ]) (sym e)

pub reset_adrift : (s : EventOrigin) (p old new : GapKnown) (before after : List Event) (a b : WhileAdrift) (to : StateName) (c : Channel) → p ≡ old → RepresentsAdrift p.channel a c →
    is_transfer (state_named to) ≡ true → is_in_use (interface_of p) (number_of p) c ≡ true → b ≡ record { owed = a.owed; hidden = hidden_when_up a c; last = of_both None } →
    Does s p.channel new.channel before after (and_then (brought_up (interface_of p) c) (in_state to)) → new.restarting ≡ p.restarting → new.certainty ≡ Adrift b →
    GapDoes s old new before after (adrift_reset (interface_of old) (number_of old) a.owed a to (adrift_at old a c))
reset_adrift s p old new before after a b to c same st up used is does restarting certainty =
    let i : Interface = interface_of p in
    let done : GapDoes s p new before after (with_certainty (adrift_at p a c) (gaps.Adrift b) (and_then (brought_up i c) (in_state to))) =
    became_up s p p new before after a b (and_then (brought_up i c) (in_state to)) c refl does restarting certainty up
    (brought_bare i (number_of p) c st.circuit st.bare used) in
    subst (λ q. GapDoes s q new before after (adrift_reset (interface_of q) (number_of q) a.owed a to (adrift_at q a c))) same
    (subst (λ o. GapDoes s p new before after o)
    (ap (λ v. with_certainty (adrift_at p a c) (gaps.Adrift v) (and_then (brought_up i c) (in_state to))) is ∙ reset_is i (number_of p) a to (adrift_at p a c) used) done)

-- a packet of data transfer

some_is : {A : Type 0} (a b : A) → Some a ≡ Some b → a ≡ b
some_is a b e = cc

pub settling_some : (x : Side) (h : Option DataHeader) (o : Option ℕ) (l : Option LastData) (g : Settling) → Some g ≡ settling_by x h o l → (o ≡ Some g.receive) × (l ≡ Some g.last) × (g.side ≡ x) × (g.header ≡ h)
settling_some x h (Some n) (Some l) g e =
    let is : g ≡ record { side = x; header = h; receive = n; last = l } = some_is g (record { side = x; header = h; receive = n; last = l }) e in
    (ap (λ v. Some v.receive) (sym is), ap (λ v. Some v.last) (sym is), ap (λ v. v.side) is, ap (λ v. v.header) is)
settling_some x h (Some n) None g e = absurd (true≢false (ap (λ v. is_some v) e))
settling_some x h None l g e = absurd (true≢false (ap (λ v. is_some v) e))

unsettled : (i : Interface) (r : Item) (a : WhileAdrift) (g : gaps.GapChannel) (x : Side) (h : Option DataHeader) (o : Option ℕ) (l : Option LastData) → settling_by x h o l ≡ None →
    record {
      reported = data_reported i r (header_in r.packet);
      after = record g {
        channel = entering D1 false g.channel;
        certainty = gaps.Adrift (record a { last = last_after i.modulus r.side (header_in r.packet) (receive_of r) a.last });
      };
    } ≡ adrift_received i r a g o l
unsettled i r a g x h (Some n) (Some l) e = absurd (true≢false (ap (λ v. is_some v) e))
unsettled i r a g x h (Some n) None e = refl
unsettled i r a g x h None l e = refl

pub stayed : (s : EventOrigin) (p old new : GapKnown) (before after : List Event) (r : Item) (a b d : WhileAdrift) (x : Side) (h : Option DataHeader) (o : Option ℕ) (l : Option LastData) (c : Channel) →
    p ≡ old → settling_by x h o l ≡ None → IsBare (brought_up (interface_of p) c).after →
    d ≡ record a { last = last_after (interface_of p).modulus r.side (header_in r.packet) (receive_of r) a.last } →
    Does s p.channel new.channel before after (carried_on (interface_of p) r c) → new.restarting ≡ p.restarting → new.certainty ≡ Adrift d →
    GapDoes s old new before after (received_after (interface_of old) r a (adrift_at old b c) o l)
stayed s p old new before after r a b d x h o l c same none bare is does restarting certainty =
    let i : Interface = interface_of p in
    let up : Outcome = brought_up i c in
    let e : WhileAdrift = record a { last = last_after i.modulus r.side (header_in r.packet) (receive_of r) a.last } in
    let done : GapDoes s p new before after (with_certainty (adrift_at p b c) (gaps.Adrift e) (carried_on i r c)) =
    became_up s p p new before after b e (carried_on i r c) c refl does restarting (certainty ∙ ap (λ v. Adrift v) is) refl bare in
    subst (λ q. GapDoes s q new before after (received_after (interface_of q) r a (adrift_at q b c) o l)) same
    (subst (λ (v : GapOutcome). GapDoes s p new before after (record { reported = up.reported ++ v.reported; after = v.after }))
    (unsettled i r a (record (adrift_at p b c) { channel = up.after }) x h o l none) done)

kept_none : (x : Side) (i : Interface) (hidden : Bool) (y : Side) (h : Option DataHeader) (c : Channel) → kept_begun i (settled_doubts hidden y h) x c ≡ []
kept_none T i hidden y h c = refl
kept_none N i hidden y h c = refl

-- the packet settles the channel
pub settles : (s : EventOrigin) (p old new : GapKnown) (before after : List Event) (r : Item) (a b : WhileAdrift) (g : Settling) (k : InDoubt) (c : Channel) →
    p ≡ old → g.side ≡ r.side → g.header ≡ header_in r.packet → IsBare (brought_up (interface_of p) c).after → k.doubts ≡ settled_doubts a.hidden g.side g.header →
    ((d : Channel) → NumbersRepresent (interface_of p).modulus k (settled_after (interface_of p).modulus g d)) → ((x : Side) → Holds (begun_on k.assembler x) []) →
    Does s p.channel new.channel before after (carried_on (interface_of p) r c) → new.restarting ≡ p.restarting → new.certainty ≡ Settled k →
    GapDoes s old new before after (received_after (interface_of old) r a (adrift_at old b c) (Some g.receive) (Some g.last))
settles s p old new before after r a b g k c same side header bare doubts numbers begun does restarting certainty =
    let i : Interface = interface_of p in
    let up : Outcome = brought_up i c in
    let d : Channel = settled_after i.modulus g up.after in
    let there : interface_of new ≡ i = does.interface in
    let settled : RepresentsSettled new.channel k d = record {
      rest = does.represented;
      reached = record { bare = bare; waiting = λ e. absurd (true≢false (sym e)) };
      numbers = subst (λ m. NumbersRepresent m k d) (ap (λ v. v.modulus) (sym there)) (numbers up.after);
      sequences = λ x. subst (λ l. Holds (begun_on k.assembler x) l) (sym (ap (λ t. kept_begun (interface_of new) t x d) doubts ∙ kept_none x (interface_of new) a.hidden g.side g.header d)) (begun x);
      outside = λ e. absurd (true≢false e);
    } in
    let done : GapDoes s p new before after (record {
      reported = up.reported ++ data_reported i r (header_in r.packet);
      after = record { channel = d; restarting = p.restarting; certainty = gaps.Settled (settled_doubts a.hidden g.side g.header) };
    }) = record {
      interface = does.interface;
      number = does.channel;
      represents = record {
        restarting = restarting;
        certainty = ap (λ t. certainty_of t) certainty ∙ ap (λ t. gaps.Settled t) doubts;
        channel = subst (λ t. IsKnownBy t new.channel d) (sym certainty) settled;
      };
      reports = does.reports;
    } in
    subst (λ q. GapDoes s q new before after (received_after (interface_of q) r a (adrift_at q b c) (Some g.receive) (Some g.last))) same
    (subst (λ (v : Side × Option DataHeader). GapDoes s p new before after (record {
      reported = up.reported ++ data_reported i r (header_in r.packet);
      after = record {
        channel = settled_channel i.modulus v.0 g.receive g.last v.1 up.after;
        restarting = p.restarting;
        certainty = gaps.Settled (settled_doubts a.hidden v.0 v.1);
      };
    })) (λ j. (side j, header j)) done)

-- all packets of data transfer

none_resets : (x : Side) → is_resetting x (state_named P4) ≡ false
none_resets T = refl
none_resets N = refl

not_resetting : (x : Side) (i : Interface) (c : Channel) → is_resetting x c.state ≡ false → is_resetting x (brought_up i c).after.state ≡ false
not_resetting x i c e = at (is_in_transfer c)
  where
    at : (b : Bool) → is_resetting x (elim b as (λ v. Outcome) [ true ↦ report_nothing c | false ↦ coming_up (largest_terms i) c ]).after.state ≡ false
    at true = e
    at false = none_resets x

-- while the other side does not reset
pub transfer_is : (i : Interface) (n : ℕ) (r : Item) (a : WhileAdrift) (g : gaps.GapChannel) → is_in_use i n g.channel ≡ true → is_resetting (other r.side) g.channel.state ≡ false →
    (let b : WhileAdrift = record a { hidden = hidden_when_up a g.channel } in
    received_after i r b g (receive_of r) (option_and_then (acknowledged_data b r.side) (receive_of r)) ≡ adrift_transfer i n r a g)
transfer_is i n r a g used free =
    let up : Outcome = brought_up i g.channel in
    let b : WhileAdrift = record a { hidden = hidden_when_up a g.channel } in
    let h : gaps.GapChannel = record g { channel = up.after } in
    let carried : GapOutcome → GapOutcome = λ o. record { reported = up.reported ++ o.reported; after = o.after } in
    ap (λ v. carried (elim v as (λ v. GapOutcome) [
      | true ↦ with_certainty h (gaps.Adrift b) (report_nothing h.channel)
      | false ↦ adrift_received i r b h (receive_of r) (option_and_then (acknowledged_data b r.side) (receive_of r))
    ])) (sym (not_resetting (other r.side) i g.channel free))
    ∙ ap (λ v. elim v as (λ v. GapOutcome) [ true ↦ carried (adrift_carried i r b h) | false ↦ passing g ]) (sym used)

pub transfer_settles : (i : Interface) (n : ℕ) (r : Item) (a b d : WhileAdrift) (p : GapKnown) (g : Settling) (c : Channel) → b ≡ record a { hidden = hidden_when_up a c } →
    Some g ≡ settling_by r.side (header_in r.packet) (receive_of r) (option_and_then (acknowledged_data b r.side) (receive_of r)) →
    is_in_use i n c ≡ true → is_resetting (other r.side) c.state ≡ false →
    received_after i r b (adrift_at p d c) (Some g.receive) (Some g.last) ≡ adrift_transfer i n r a (adrift_at p a c)
transfer_settles i n r a b d p g c is settling used free =
    let e : WhileAdrift = record a { hidden = hidden_when_up a c } in
    let (o, l, side, header) = settling_some r.side (header_in r.packet) (receive_of r) (option_and_then (acknowledged_data b r.side) (receive_of r)) g settling in
    (λ j. received_after i r b (adrift_at p a c) (sym o j) (sym l j))
    ∙ (λ j. received_after i r (is j) (adrift_at p a c) (receive_of r) (option_and_then (acknowledged_data (is j) r.side) (receive_of r)))
    ∙ transfer_is i n r a (adrift_at p a c) used free

pub transfer_stays : (i : Interface) (n : ℕ) (r : Item) (a b : WhileAdrift) (p : GapKnown) (c : Channel) → b ≡ record a { hidden = hidden_when_up a c } →
    is_in_use i n c ≡ true → is_resetting (other r.side) c.state ≡ false →
    received_after i r b (adrift_at p a c) (receive_of r) (option_and_then (acknowledged_data b r.side) (receive_of r)) ≡ adrift_transfer i n r a (adrift_at p a c)
transfer_stays i n r a b p c is used free =
    (λ j. received_after i r (is j) (adrift_at p a c) (receive_of r) (option_and_then (acknowledged_data (is j) r.side) (receive_of r)))
    ∙ transfer_is i n r a (adrift_at p a c) used free

-- without a call, or while the other side resets

or_false : (b : Bool) → (b || false) ≡ b
or_false true = refl
or_false false = refl

resetting_up : (x : Side) (s : ChannelState) → is_resetting x s ≡ true → is_transfer s ≡ true
resetting_up T (Transfer transfer.TheVariants.D2) e = refl
resetting_up N (Transfer transfer.TheVariants.D3) e = refl
resetting_up x (Transfer d) e = refl
resetting_up x s e = absurd (true≢false (sym e))

rests : (i : Interface) (r : Item) (a : WhileAdrift) (p : GapKnown) (c : Channel) → is_resetting (other r.side) c.state ≡ true →
    (let up : Outcome = brought_up i c in
    let o : GapOutcome = adrift_carried i r (record a { hidden = hidden_when_up a c }) (record (adrift_at p a c) { channel = up.after }) in
    record { reported = up.reported ++ o.reported; after = o.after } ≡ passing (adrift_at p a c))
rests i r a p c resets =
    let g : gaps.GapChannel = adrift_at p a c in
    let up : Bool → Outcome = λ v. elim v as (λ v. Outcome) [ true ↦ report_nothing c | false ↦ coming_up (largest_terms i) c ] in
    let carried : Bool → GapOutcome = λ v. adrift_carried i r (record a { hidden = a.hidden || not v }) (record g { channel = (up v).after }) in
    ap (λ v. record { reported = (up v).reported ++ (carried v).reported; after = (carried v).after }) (resetting_up (other r.side) c.state resets)
    ∙ ap (λ h. adrift_carried i r (record a { hidden = h }) g) (or_false a.hidden)
    ∙ ap (λ v. elim v as (λ v. GapOutcome) [
      | true ↦ with_certainty g (gaps.Adrift a) (report_nothing c)
      | false ↦ adrift_received i r a g (receive_of r) (option_and_then (acknowledged_data a r.side) (receive_of r))
    ]) resets

pub transfer_ignored : (i : Interface) (n : ℕ) (r : Item) (a : WhileAdrift) (p : GapKnown) (c : Channel) → true ≡ (not (is_in_use i n c) || is_resetting (other r.side) c.state) →
    passing (adrift_at p a c) ≡ adrift_transfer i n r a (adrift_at p a c)
transfer_ignored i n r a p c e = by (is_in_use i n c) e
  where
    by : (b : Bool) → true ≡ (not b || is_resetting (other r.side) c.state) → passing (adrift_at p a c) ≡ elim b as (λ v. GapOutcome) [
      | true ↦
          let up : Outcome = brought_up i c in
          let o : GapOutcome = adrift_carried i r (record a { hidden = hidden_when_up a c }) (record (adrift_at p a c) { channel = up.after }) in
          record { reported = up.reported ++ o.reported; after = o.after }
      | false ↦ passing (adrift_at p a c)
    ]
    by true e = sym (rests i r a p c (sym e))
    by false e = refl

pub in_use_of : (u r : Bool) → false ≡ (not u || r) → (u ≡ true) × (r ≡ false)
in_use_of true false e = (refl, refl)
in_use_of true true e = absurd (true≢false (sym e))
in_use_of false r e = absurd (true≢false (sym e))

-- a row that does nothing to a channel adrift
pub passed : (s : EventOrigin) (p : GapKnown) (es : List Event) (a : WhileAdrift) (c : Channel) → p.certainty ≡ Adrift a → RepresentsAdrift p.channel a c →
    GapDoes s p p es es (passing (adrift_at p a c))
passed s p es a c is st = record {
  interface = refl;
  number = refl;
  represents = record { restarting = refl; certainty = ap (λ k. certainty_of k) is; channel = subst (λ k. IsKnownBy k p.channel c) (sym is) st };
  reports = sym (append-nil es);
}

-- an acceptance where no call waits for it
pub not_accepted : (i : Interface) (x : Side) (xs : List ℕ) (a : WhileAdrift) (p : GapKnown) (c : Channel) → false ≡ (is_open c && not (is_in_transfer c)) →
    passing (adrift_at p a c) ≡ adrift_acceptance i x xs a (adrift_at p a c)
not_accepted i x xs a p c e =
    let g : gaps.GapChannel = adrift_at p a c in
    let hidden : Bool = a.hidden || is_own_acceptance x c.opening in
    ap (λ b. elim b as (λ v. GapOutcome) [ true ↦ with_certainty g (gaps.Adrift (record a { hidden = hidden })) (coming_up (terms_of_acceptance hidden i xs) c) | false ↦ passing g ]) e

-- what a packet does by its entry

abbrev needs_call : AdriftEntry → Bool
needs_call OpensCall = true
needs_call Accepts = true
needs_call Clears = true
needs_call ConfirmsClear = true
needs_call e = false

none_on_circuit : (k : Class) → needs_call (adrift_entry true k) ≡ false
none_on_circuit Call = refl
none_on_circuit k = refl

virtual_by : (p : Bool) (k : Class) (e : AdriftEntry) → e ≡ adrift_entry p k → needs_call e ≡ true → p ≡ false
virtual_by false k e is n = refl
virtual_by true k e is n = absurd (true≢false (sym n ∙ ap (λ v. needs_call v) is ∙ none_on_circuit k))

pub virtual_clears : (p : Bool) (k : Class) (e : AdriftEntry) → e ≡ adrift_entry p k → e ≡ Clears → p ≡ false
virtual_clears p k e is clears = virtual_by p k e is (ap (λ v. needs_call v) clears)

pub virtual_confirms : (p : Bool) (k : Class) (e : AdriftEntry) → e ≡ adrift_entry p k → e ≡ ConfirmsClear → p ≡ false
virtual_confirms p k e is confirms = virtual_by p k e is (ap (λ v. needs_call v) confirms)

abbrev begins_call : AdriftEntry → Bool
begins_call OpensCall = true
begins_call Accepts = true
begins_call e = false

begins_none : (p : Bool) (k : Class) → is_call k ≡ false → begins_call (adrift_entry p k) ≡ false
begins_none p Call e = absurd (true≢false e)
begins_none p Accepted e = absurd (true≢false e)
begins_none true k e = refl
begins_none false k e = refl

pub nothing_by : (e : AdriftEntry) (p : Bool) (k : Class) (i : Interface) (n : ℕ) (r : Item) (a : WhileAdrift) (g : gaps.GapChannel) → e ≡ adrift_entry p k → is_call k ≡ false →
    (e ≡ Clears → ⊥) → (e ≡ ConfirmsClear → ⊥) → (e ≡ Resets → ⊥) → (e ≡ ConfirmsReset → ⊥) → (e ≡ Carries → ⊥) → passing g ≡ adrift_step_by e i n r a g
nothing_by OpensCall p k i n r a g is other b c d f h = absurd (true≢false (ap (λ v. begins_call v) is ∙ begins_none p k other))
nothing_by Accepts p k i n r a g is other b c d f h = absurd (true≢false (ap (λ v. begins_call v) is ∙ begins_none p k other))
nothing_by Clears p k i n r a g is other b c d f h = absurd (b refl)
nothing_by ConfirmsClear p k i n r a g is other b c d f h = absurd (c refl)
nothing_by Resets p k i n r a g is other b c d f h = absurd (d refl)
nothing_by ConfirmsReset p k i n r a g is other b c d f h = absurd (f refl)
nothing_by Carries p k i n r a g is other b c d f h = absurd (h refl)
nothing_by DoesNothing p k i n r a g is other b c d f h = refl

pub faulty_step : (i : Interface) (n : ℕ) (r : Item) (a : WhileAdrift) (g : gaps.GapChannel) (code : ℕ) → Some code ≡ adrift_fault i n g.channel r → passing g ≡ adrift_step i n r a g
faulty_step i n r a g code fault =
    ap (λ (f : Option ℕ). elim (is_some f) as (λ v. GapOutcome) [
      | true ↦ passing g
      | false ↦ adrift_step_by (adrift_entry (is_permanent i n) (packet_class r.packet)) i n r a g
    ]) fault

pub step_by : (e : AdriftEntry) (i : Interface) (n : ℕ) (r : Item) (a : WhileAdrift) (g : gaps.GapChannel) → None ≡ adrift_fault i n g.channel r →
    e ≡ adrift_entry (is_permanent i n) (packet_class r.packet) → adrift_step_by e i n r a g ≡ adrift_step i n r a g
step_by e i n r a g fault entry =
    ap (λ v. adrift_step_by v i n r a g) entry
    ∙ ap (λ (f : Option ℕ). elim (is_some f) as (λ v. GapOutcome) [
      | true ↦ passing g
      | false ↦ adrift_step_by (adrift_entry (is_permanent i n) (packet_class r.packet)) i n r a g
    ]) fault

-- what is owed is no part of what represents a channel adrift
pub owing_represents : (p : Known) (a b : WhileAdrift) (c : Channel) → b.hidden ≡ a.hidden → RepresentsAdrift p a c → RepresentsAdrift p b c
owing_represents p a b c same s = record {
  represented = s.represented;
  bare = s.bare;
  circuit = s.circuit;
  unanswered = λ h. s.unanswered (sym same ∙ h);
}
