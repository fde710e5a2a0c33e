-- A channel for calls of the whole walk, and the same channel of a recording with gaps: what is certain there is true. A channel adrift stays so, or it settles.
use Rattle.std.proofs.Common.{◌≡◌, ◌⊎◌, inl, inr, ℕ, Bool, true, false, refl, sym, ◌∙◌, ap, subst, List, [], ◌++◌, Option, Some, None}
use Rattle.std.specs.Prelude.{◌||◌, is_some, option_and_then}
use Rattle.std.proofs.lemmas.Bool.{false≢true}
use Rattle.line_model.specs.declared.event.How.{How}
use Rattle.line_model.specs.declared.gap.AdriftEntry.TheVariants.{Accepts}
use Rattle.line_model.specs.declared.gap.LastData.{LastData}
use Rattle.line_model.specs.declared.gap.Owed.TheVariants.{NoIndication}
use Rattle.line_model.specs.declared.interface.Interface.{Interface}
use Rattle.line_model.specs.declared.packet.DataHeader.{DataHeader}
use Rattle.line_model.specs.declared.packet.PacketKind.{PacketKind}
use Rattle.line_model.specs.declared.state.Side.{Side}
use Rattle.line_model.specs.declared.state.Side.TheVariants.{T, N}
use Rattle.line_model.specs.declared.state.DState.{DState}
use Rattle.line_model.specs.declared.state.DState as transfer
use Rattle.line_model.specs.declared.state.PState as setup
use Rattle.line_model.specs.declared.state.ChannelState.{ChannelState}
use Rattle.line_model.specs.declared.state.ChannelState.TheVariants.{Setup, Transfer, Unknown}
use Rattle.line_model.specs.declared.state.StateName.TheVariants.{D1, D2, D3, P1, P4}
use Rattle.line_model.specs.basics.Records.{Item}
use Rattle.line_model.specs.packets.Classes.{kind_class}
use Rattle.line_model.specs.packets.Says.{header_in}
use Rattle.line_model.specs.channels.Channels.{Channel, Opening, Sides, is_in_transfer, is_open, is_permanent, of_side, other}
use Rattle.line_model.specs.channels.ChannelStep.{ending, entering, transfer_name}
use Rattle.line_model.specs.channels.FlowControl.{is_side}
use Rattle.line_model.specs.channels.Gaps.{Certainty, Doubts, GapChannel, WhileAdrift, drifting, largest_terms, no_doubts, of_both}
use Rattle.line_model.specs.channels.Gaps.Certainty.{Adrift}
use Rattle.line_model.specs.channels.GapStep.{GapOutcome, acknowledged_data, adrift_call, adrift_carried, adrift_entry, adrift_fault, adrift_received, adrift_reset, adrift_step_by, adrift_transfer, brought_up, gap_channel_step, hidden_when_up, in_state, is_own_acceptance, is_resetting, last_after, passing, receive_of, settled_doubts, terms_of_acceptance, with_certainty}
use Rattle.gap_laws.proofs.Circuits.{Circuit, IsOrdered, Terms, circuit, idle, silent, size_of}
use Rattle.gap_laws.proofs.Settled.{SideFits}
use Rattle.gap_laws.proofs.Fits.{IsResting, LastFits, settled_with}
use Rattle.gap_laws.proofs.Settling.{settled_circuit}
use Rattle.gap_laws.proofs.Entries.{row_at}
use Rattle.gap_laws.proofs.DataSteps.{by_last, none_seen, resting_none}
use Rattle.gap_laws.proofs.QuietSteps.{data_silent}
use Rattle.gap_laws.proofs.Granted.{Agrees, HasGranted}

-- ---- the order

-- nothing is left of a call that is over
abbrev pub IsTidy : Channel → Type 0
IsTidy c = is_open c ≡ false → (c.accepting ≡ None) × (c.pad_messages ≡ [])

abbrev pub terms_of : Channel → Terms
terms_of c = record { opening = c.opening; accepting = c.accepting; pad_messages = c.pad_messages }

abbrev pub circuit_in : DState → Channel → Circuit
circuit_in d c = circuit d c.accepted c.acknowledged c.unconfirmed

-- a state of a channel that is known
abbrev pub is_usual : ChannelState → Bool
is_usual (Setup setup.TheVariants.P4) = false
is_usual Unknown = false
is_usual s = true

-- a channel in a walk without a finding
pub record IsCalm (i : Interface) (c : Channel) : Type 0 where
  pub owes : c.owed ≡ false
  pub usual : is_usual c.state ≡ true
  pub tidy : IsTidy c
  pub granted : HasGranted i c.opening c.accepting
  pub ordered : (y : Side) → IsOrdered i.modulus (circuit_in transfer.TheVariants.D1 c) y

-- the last data packets of a channel adrift: there are none before a call is up, and a side that clears sends none
abbrev pub Seen : (modulus : ℕ) → Channel → ChannelState → Sides (Option LastData) → Type 0
Seen m c (Transfer d) ls = (y : Side) → LastFits m (circuit_in d c) y (of_side y ls)
Seen m c (Setup setup.TheVariants.P6) ls = (y : Side) → LastFits m (idle transfer.TheVariants.D2) y (of_side y ls)
Seen m c (Setup setup.TheVariants.P7) ls = (y : Side) → LastFits m (idle transfer.TheVariants.D3) y (of_side y ls)
Seen m c s ls = ls ≡ of_both None

abbrev pub Rests : ChannelState → Sides (Option LastData) → Type 0
Rests (Transfer d) ls = IsResting d ls
Rests s ls = Unit {0}

-- a call that was seen after the last gap and is not up: it is that of the whole walk, or one that the whole walk ignores, which only the side that called may accept
abbrev pub Awaits : ChannelState → Option Opening → Opening → Type 0
Awaits (Setup setup.TheVariants.P1) w o = ⊥
Awaits (Setup setup.TheVariants.P2) w o = w ≡ Some o
Awaits (Setup setup.TheVariants.P3) w o = w ≡ Some o
Awaits (Setup setup.TheVariants.P5) w o = o.out ≡ true → w ≡ Some o
Awaits (Setup setup.TheVariants.P6) w o = o.out ≡ false
Awaits (Setup setup.TheVariants.P7) w o = o.out ≡ true
Awaits s w o = Unit {0}

abbrev pub KnownBy : Channel → Option Opening → ChannelState → Option (List ℕ) → Type 0
KnownBy c None s a = Unit {0}
KnownBy c (Some o) (Transfer d) a = (is_in_transfer c ≡ true) × (c.opening ≡ Some o) × (c.accepting ≡ a)
KnownBy c (Some o) s a = Awaits c.state c.opening o

-- what is known of a call: where another one may be hidden, the largest terms
abbrev pub Known : Interface → (hidden : Bool) → Channel → Option Opening → ChannelState → Option (List ℕ) → Type 0
Known i true c o s a = a ≡ Some (largest_terms i)
Known i false c o s a = KnownBy c o s a

abbrev pub adrift_call_at : (restarting hidden : Bool) → Sides (Option LastData) → Channel → GapChannel
adrift_call_at b h ls d = record { channel = d; restarting = b; certainty = Adrift (record { owed = NoIndication; hidden = h; last = ls }) }

abbrev pub drifts_with : (hidden : Bool) → Sides (Option LastData) → WhileAdrift
drifts_with h ls = record { owed = NoIndication; hidden = h; last = ls }

-- a channel adrift that fits one of the whole walk
pub record Drifts (i : Interface) (c : Channel) (b : Bool) (g : GapChannel) : Type 0 where
  pub channel : Channel
  pub hidden : Bool
  pub last : Sides (Option LastData)
  pub is : g ≡ adrift_call_at b hidden last channel
  pub tidy : IsTidy channel
  pub seen : Seen i.modulus c c.state last
  pub rests : Rests channel.state last
  pub empty : is_open channel ≡ false → last ≡ of_both None
  pub known : Known i hidden c channel.opening channel.state channel.accepting

-- after a reset all but the terms is certain
abbrev pub SettledIn : DState → Interface → Channel → Doubts → Circuit → Type 0
SettledIn transfer.TheVariants.D1 i c b g = (y : Side) → SideFits i (size_of i (terms_of c)) b (circuit_in transfer.TheVariants.D1 c) g y
SettledIn d i c b g = (g ≡ circuit_in d c) × (b ≡ no_doubts b.hidden)

-- a settled one
pub record SettledFits (i : Interface) (c : Channel) (b : Bool) (g : GapChannel) : Type 0 where
  pub terms : Terms
  pub doubts : Doubts
  pub settled : Circuit
  pub is : g ≡ settled_with terms b doubts settled
  pub state : c.state ≡ Transfer settled.state
  pub held : is_some terms.opening ≡ true
  pub agrees : Agrees i doubts.hidden (terms_of c) terms
  pub sides : SettledIn settled.state i c doubts settled

-- or one of which all is certain
pub data FitsCall (i : Interface) (c : Channel) (b : Bool) (g : GapChannel) : Type 0 where
  SameCall : g ≡ record { channel = c; restarting = b; certainty = Certainty.Certain } → FitsCall i c b g
  AnyCall : Drifts i c b g → FitsCall i c b g
  SettledCall : SettledFits i c b g → FitsCall i c b g

abbrev pub FollowsCall : Interface → Channel → (restarting : Bool) → GapOutcome → Type 0
FollowsCall i w b o = (silent o.reported ≡ true) × FitsCall i w b o.after

abbrev pub DriftsBy : Interface → Channel → (restarting : Bool) → GapOutcome → Type 0
DriftsBy i w b o = (silent o.reported ≡ true) × Drifts i w b o.after

-- an outcome that stays adrift, or settles
abbrev pub AdriftBy : Interface → Channel → (restarting : Bool) → GapOutcome → Type 0
AdriftBy i w b o = (silent o.reported ≡ true) × (Drifts i w b o.after ⊎ SettledFits i w b o.after)

pub followed : (i : Interface) (w : Channel) (b : Bool) (o : GapOutcome) → AdriftBy i w b o → FollowsCall i w b o
followed i w b o (h, inl f) = (h, AnyCall f)
followed i w b o (h, inr f) = (h, SettledCall f)

pub drifted : (i : Interface) (w : Channel) (b : Bool) (o : GapOutcome) → DriftsBy i w b o → FollowsCall i w b o
drifted i w b o h = (h.0, AnyCall h.1)

-- ---- channels adrift

pub nothing_seen : (m : ℕ) (c : Channel) (s : ChannelState) → Seen m c s (of_both None)
nothing_seen m c (Transfer d) = none_seen m (circuit_in d c) (of_both None) refl
nothing_seen m c (Setup setup.TheVariants.P6) = none_seen m (idle transfer.TheVariants.D2) (of_both None) refl
nothing_seen m c (Setup setup.TheVariants.P7) = none_seen m (idle transfer.TheVariants.D3) (of_both None) refl
nothing_seen m c s = refl

rests_none : (s : ChannelState) → Rests s (of_both None)
rests_none (Transfer transfer.TheVariants.D1) = tt
rests_none (Transfer transfer.TheVariants.D2) = refl
rests_none (Transfer transfer.TheVariants.D3) = refl
rests_none s = tt

-- one on which no data was seen
pub drifts_none : (i : Interface) (c : Channel) (b h : Bool) (d : Channel) → IsTidy d → Known i h c d.opening d.state d.accepting → Drifts i c b (adrift_call_at b h (of_both None) d)
drifts_none i c b h d t k = record { channel = d; hidden = h; last = of_both None; is = refl; tidy = t; seen = nothing_seen i.modulus c c.state; rests = rests_none d.state; empty = λ e. refl; known = k }

never_closed : {A : Type 0} (d : Channel) → is_open d ≡ true → is_open d ≡ false → A
never_closed d h e = absurd (false≢true (sym e ∙ h))

open_tidy : (d : Channel) → is_open d ≡ true → IsTidy d
open_tidy d h e = never_closed d h e

drifts_open : (i : Interface) (c : Channel) (b h : Bool) (ls : Sides (Option LastData)) (d : Channel) → is_open d ≡ true → Seen i.modulus c c.state ls → Rests d.state ls → Known i h c d.opening d.state d.accepting → Drifts i c b (adrift_call_at b h ls d)
drifts_open i c b h ls d o s r k = record { channel = d; hidden = h; last = ls; is = refl; tidy = open_tidy d o; seen = s; rests = r; empty = never_closed d o; known = k }

-- by its parts
pub by_drifts : (P : GapOutcome → Type 0) (i : Interface) (n : ℕ) (r : Item) (c : Channel) (b : Bool) (g : GapChannel) (f : Drifts i c b g) → P (gap_channel_step i n (adrift_call_at b f.hidden f.last f.channel) r) → P (gap_channel_step i n g r)
by_drifts P i n r c b g f h = subst (λ g. P (gap_channel_step i n g r)) (sym f.is) h

pub again : (i : Interface) (c : Channel) (b : Bool) (g : GapChannel) (f : Drifts i c b g) → Drifts i c b (adrift_call_at b f.hidden f.last f.channel)
again i c b g f = subst (Drifts i c b) f.is f

-- a packet has a fault, or does what its entry says
pub adrift_is : (P : GapOutcome → Type 0) (i : Interface) (n nr : ℕ) (x : Side) (k : ℕ) (p : PacketKind) (len : ℕ) (os : List ℕ) → is_permanent i n ≡ false → (b h : Bool) (ls : Sides (Option LastData)) (d : Channel)
    → ((f : ℕ) → adrift_fault i n d (row_at nr x k p len os) ≡ Some f → P (passing (adrift_call_at b h ls d)))
    → P (adrift_step_by (adrift_entry false (kind_class p)) i n (row_at nr x k p len os) (drifts_with h ls) (adrift_call_at b h ls d))
    → P (gap_channel_step i n (adrift_call_at b h ls d) (row_at nr x k p len os))
adrift_is P i n nr x k p len os perm b h ls d faulty entry =
    subst (λ q. P (elim (is_some (adrift_fault i n d r)) as (λ _. GapOutcome) [ true ↦ passing g | false ↦ adrift_step_by (adrift_entry q (kind_class p)) i n r (drifts_with h ls) g ])) (sym perm)
    (at (adrift_fault i n d r) refl)
  where
    r : Item
    r = row_at nr x k p len os

    g : GapChannel
    g = adrift_call_at b h ls d

    at : (f : Option ℕ) → adrift_fault i n d r ≡ f → P (elim (is_some f) as (λ _. GapOutcome) [ true ↦ passing g | false ↦ adrift_step_by (adrift_entry false (kind_class p)) i n r (drifts_with h ls) g ])
    at (Some f) e = faulty f e
    at None e = entry

-- ---- call set-up and clearing

-- a call, whatever was before
pub opens : (i : Interface) (w : Channel) (b h : Bool) (ls : Sides (Option LastData)) (x : Side) (xs : List ℕ) (d : Channel) (o : Option Opening) → Awaits w.state w.opening (record { out = is_side T x; packet = xs })
    → DriftsBy i w b (with_certainty (adrift_call_at b h ls (record d { opening = o })) (drifting NoIndication false) (adrift_call x xs (record d { opening = o })))
opens i w b h ls T xs d None k = (refl, drifts_none i w b false (adrift_call T xs (record d { opening = None })).after (λ e. absurd (false≢true (sym e))) k)
opens i w b h ls T xs d (Some o) k = (refl, drifts_none i w b false (adrift_call T xs (record d { opening = Some o })).after (λ e. absurd (false≢true (sym e))) k)
opens i w b h ls N xs d None k = (refl, drifts_none i w b false (adrift_call N xs (record d { opening = None })).after (λ e. absurd (false≢true (sym e))) k)
opens i w b h ls N xs d (Some o) k = (refl, drifts_none i w b false (adrift_call N xs (record d { opening = Some o })).after (λ e. absurd (false≢true (sym e))) k)

-- an acceptance brings up a call that is not up
pub accepts : (i : Interface) (n : ℕ) (r : Item) (c w : Channel) (b h : Bool) (ls : Sides (Option LastData)) (d : Channel) (o : Option Opening) (s : ChannelState)
    → ((o : Opening) → is_own_acceptance r.side (Some o) ≡ false → Awaits c.state c.opening o → KnownBy w (Some o) (Transfer transfer.TheVariants.D1) (Some r.octets))
    → Seen i.modulus w w.state ls → Known i h c o s d.accepting
    → Drifts i w b (adrift_call_at b h ls (record d { opening = o; state = s }))
    → DriftsBy i w b (adrift_step_by Accepts i n r (drifts_with h ls) (adrift_call_at b h ls (record d { opening = o; state = s })))
accepts i n r c w b h ls d o s comes seen known same = at o s known same
  where
    risen : (o : Opening) (h own : Bool) → is_own_acceptance r.side (Some o) ≡ own → (h ≡ false → Awaits c.state c.opening o)
        → Known i (h || own) w (Some o) (Transfer transfer.TheVariants.D1) (Some (terms_of_acceptance (h || own) i r.octets))
    risen o true own e k = refl
    risen o false true e k = refl
    risen o false false e k = comes o e (k refl)

    comes_up : (o : Opening) (s : ChannelState) → (h ≡ false → Awaits c.state c.opening o)
        → Drifts i w b (adrift_call_at b (h || is_own_acceptance r.side (Some o)) ls (record (entering P4 false (record d { opening = Some o; state = s })) { accepting = Some (terms_of_acceptance (h || is_own_acceptance r.side (Some o)) i r.octets) }))
    comes_up o s k = drifts_open i w b (h || is_own_acceptance r.side (Some o)) ls (record (entering P4 false (record d { opening = Some o; state = s })) { accepting = Some (terms_of_acceptance (h || is_own_acceptance r.side (Some o)) i r.octets) }) refl seen tt (risen o h (is_own_acceptance r.side (Some o)) refl k)

    at : (o : Option Opening) (s : ChannelState) → Known i h c o s d.accepting → Drifts i w b (adrift_call_at b h ls (record d { opening = o; state = s }))
        → DriftsBy i w b (adrift_step_by Accepts i n r (drifts_with h ls) (adrift_call_at b h ls (record d { opening = o; state = s })))
    at None s k same = (refl, same)
    at (Some o) (Transfer e) k same = (refl, same)
    at (Some o) (Setup q) k same = (refl, comes_up o (Setup q) (λ e. subst (λ h. Known i h c (Some o) (Setup q) d.accepting) e k))
    at (Some o) Unknown k same = (refl, comes_up o Unknown (λ e. subst (λ h. Known i h c (Some o) Unknown d.accepting) e k))

-- a clear leaves no call, nor does a clear confirmation where the interface may restart
pub clears : (i : Interface) (w : Channel) (b h : Bool) (ls : Sides (Option LastData)) (end : How) (d : Channel) (o : Option Opening) → IsTidy (record d { opening = o })
    → DriftsBy i w b (with_certainty (adrift_call_at b h ls (record d { opening = o })) (drifting NoIndication false) (ending end (entering P1 false (record d { opening = o }))))
clears i w b h ls end d None t = (refl, drifts_none i w b false (entering P1 false (record d { opening = None })) (λ e. t refl) tt)
clears i w b h ls end d (Some o) t = (refl, drifts_none i w b false (ending end (entering P1 false (record d { opening = Some o }))).after (λ e. (refl, refl)) tt)

-- ---- data transfer

-- what the whole walk keeps of a call
pub record Keeps (c w : Channel) : Type 0 where
  pub transfer : is_in_transfer c ≡ true → is_in_transfer w ≡ true
  pub opening : w.opening ≡ c.opening
  pub accepting : w.accepting ≡ c.accepting

pub keeps_all : (c : Channel) → Keeps c c
keeps_all c = record { transfer = λ e. e; opening = refl; accepting = refl }

known_none : (i : Interface) (h : Bool) (c w : Channel) (s : ChannelState) (a : Option (List ℕ)) → Known i h c None s a → Known i h w None s a
known_none i true c w s a k = k
known_none i false c w s a k = tt

known_stays : (i : Interface) (h : Bool) (c w : Channel) → Keeps c w → (o : Opening) (e f : DState) (a : Option (List ℕ)) → Known i h c (Some o) (Transfer e) a → Known i (h || false) w (Some o) (Transfer f) a
known_stays i true c w s o e f a k = k
known_stays i false c w s o e f a k = (s.transfer k.0, s.opening ∙ k.1, s.accepting ∙ k.2)

known_largest : (i : Interface) (h : Bool) (w : Channel) (o : Option Opening) (s : ChannelState) → Known i (h || true) w o s (Some (largest_terms i))
known_largest i true w o s = refl
known_largest i false w o s = refl

-- nothing happens on a channel without a call
idles : (i : Interface) (c w : Channel) (b h : Bool) (ls : Sides (Option LastData)) (d : Channel) → IsTidy d → d.opening ≡ None → ls ≡ of_both None → Rests d.state ls → Known i h c d.opening d.state d.accepting → Drifts i w b (adrift_call_at b h ls d)
idles i c w b h ls d t o none r k = subst (λ ls. Drifts i w b (adrift_call_at b h ls d)) (sym none)
    (drifts_none i w b h d t (subst (λ o. Known i h w o d.state d.accepting) (sym o) (known_none i h c w d.state d.accepting (subst (λ o. Known i h c o d.state d.accepting) o k))))

-- a reset or its confirmation
pub resets : (i : Interface) (n : ℕ) (c w : Channel) → Keeps c w → (b h : Bool) (ls : Sides (Option LastData)) (e : DState) → is_permanent i n ≡ false → (d : Channel) (o : Option Opening) (t : ChannelState) → IsTidy (record d { opening = o; state = t })
    → (is_some o ≡ false → ls ≡ of_both None) → Rests t ls → Known i h c o t d.accepting
    → DriftsBy i w b (adrift_reset i n NoIndication (drifts_with h ls) (transfer_name e) (adrift_call_at b h ls (record d { opening = o; state = t })))
resets i n c w keeps b h ls e perm d o t tidy empty rests known = subst (λ q. DriftsBy i w b (reset_if q o t)) (sym perm) (at o t tidy empty rests known)
  where
    reset_if : Bool → Option Opening → ChannelState → GapOutcome
    reset_if q o t = elim (q || is_open (record d { opening = o; state = t })) [
      | true ↦ record {
        reported = (brought_up i (record d { opening = o; state = t })).reported ++ (in_state (transfer_name e) (brought_up i (record d { opening = o; state = t })).after).reported;
        after = adrift_call_at b (hidden_when_up (drifts_with h ls) (record d { opening = o; state = t })) (of_both None) (in_state (transfer_name e) (brought_up i (record d { opening = o; state = t })).after).after;
      }
      | false ↦ passing (adrift_call_at b h ls (record d { opening = o; state = t }))
    ]

    up : (o : Opening) (h : Bool) (a : Option (List ℕ)) (t : ChannelState) → ((f : DState) → Known i h w (Some o) (Transfer f) a)
        → Drifts i w b (adrift_call_at b h (of_both None) (entering (transfer_name e) false (record d { opening = Some o; state = t; accepting = a })))
    up o h a t k = named e
      where
        named : (e : DState) → Drifts i w b (adrift_call_at b h (of_both None) (entering (transfer_name e) false (record d { opening = Some o; state = t; accepting = a })))
        named transfer.TheVariants.D1 = drifts_none i w b h (entering D1 false (record d { opening = Some o; state = t; accepting = a })) (λ e. absurd (false≢true (sym e))) (k transfer.TheVariants.D1)
        named transfer.TheVariants.D2 = drifts_none i w b h (entering D2 false (record d { opening = Some o; state = t; accepting = a })) (λ e. absurd (false≢true (sym e))) (k transfer.TheVariants.D2)
        named transfer.TheVariants.D3 = drifts_none i w b h (entering D3 false (record d { opening = Some o; state = t; accepting = a })) (λ e. absurd (false≢true (sym e))) (k transfer.TheVariants.D3)

    at : (o : Option Opening) (t : ChannelState) → IsTidy (record d { opening = o; state = t }) → (is_some o ≡ false → ls ≡ of_both None) → Rests t ls → Known i h c o t d.accepting → DriftsBy i w b (reset_if false o t)
    at None t tidy empty rests known = (refl, idles i c w b h ls (record d { opening = None; state = t }) tidy refl (empty refl) rests known)
    at (Some o) (Transfer f) tidy empty rests known = (refl, up o (h || false) d.accepting (Transfer f) (λ e. known_stays i h c w keeps o f e d.accepting known))
    at (Some o) (Setup q) tidy empty rests known = (refl, up o (h || true) (Some (largest_terms i)) (Transfer transfer.TheVariants.D1) (λ e. known_largest i h w (Some o) (Transfer e)))
    at (Some o) Unknown tidy empty rests known = (refl, up o (h || true) (Some (largest_terms i)) (Transfer transfer.TheVariants.D1) (λ e. known_largest i h w (Some o) (Transfer e)))

-- a P(R) settles the channel, where the whole walk is in d1
abbrev pub Settles : Interface → Side → Option DataHeader → (whole : Channel) → Sides (Option LastData) → (receive : Option ℕ) → Type 0
Settles i x h w ls None = Unit {0}
Settles i x h w ls (Some n) = (l : LastData) → of_side (other x) ls ≡ Some l → l.next ≡ n → (w.state ≡ Transfer transfer.TheVariants.D1)
    × ((u : Bool) (y : Side) → SideFits i (size_of i (terms_of w)) (settled_doubts u x h) (circuit_in transfer.TheVariants.D1 w) (settled_circuit i.modulus x n l h) y)

-- what the whole walk makes of a packet of data transfer, by its header and its P(R)
pub record Carried (i : Interface) (x : Side) (h : Option DataHeader) (n : Option ℕ) (c w : Channel) : Type 0 where
  pub keeps : Keeps c w
  pub seen : (ls : Sides (Option LastData)) → Seen i.modulus c c.state ls → Seen i.modulus w w.state (last_after i.modulus x h n ls)
  pub settles : (ls : Sides (Option LastData)) → Seen i.modulus c c.state ls → Settles i x h w ls n

-- the same of a row
abbrev pub CarriedRow : Interface → Item → (c w : Channel) → Type 0
CarriedRow i r c w = Carried i r.side (header_in r.packet) (receive_of r) c w

agrees_so : (i : Interface) (h : Bool) (w : Channel) (o : Opening) (t : Terms) → t.opening ≡ Some o → Known i h w (Some o) (Transfer transfer.TheVariants.D1) t.accepting → Agrees i h (terms_of w) t
agrees_so i true w o t e k = k
agrees_so i false w o t e k = (e ∙ sym k.1, sym k.2)

-- it is received
received : (i : Interface) (r : Item) (c w : Channel) → CarriedRow i r c w → (b u h : Bool) (ls : Sides (Option LastData)) (d : Channel) (o : Opening) → d.opening ≡ Some o → Seen i.modulus c c.state ls → Known i h w (Some o) (Transfer transfer.TheVariants.D1) d.accepting
    → AdriftBy i w b (adrift_received i r (drifts_with h ls) (adrift_call_at b u ls d) (receive_of r) (option_and_then (acknowledged_data (drifts_with h ls) r.side) (receive_of r)))
received i r c w t b u h ls d o held seen known = at (receive_of r) (t.settles ls seen)
  where
    quiet : silent (adrift_received i r (drifts_with h ls) (adrift_call_at b u ls d) None None).reported ≡ true
    quiet = data_silent i r (header_in r.packet)

    stays : Drifts i w b (adrift_call_at b h (last_after i.modulus r.side (header_in r.packet) (receive_of r) ls) (entering D1 false d))
    stays = drifts_open i w b h (last_after i.modulus r.side (header_in r.packet) (receive_of r) ls) (entering D1 false d) (ap is_some held) (t.seen ls seen) tt (subst (λ o. Known i h w o (Transfer transfer.TheVariants.D1) d.accepting) (sym held) known)

    at : (n : Option ℕ) → Settles i r.side (header_in r.packet) w ls n → AdriftBy i w b (adrift_received i r (drifts_with h ls) (adrift_call_at b u ls d) n (option_and_then (acknowledged_data (drifts_with h ls) r.side) n))
    at None s = (quiet, inl stays)
    at (Some n) s =
        by_last (λ l. AdriftBy i w b (adrift_received i r (drifts_with h ls) (adrift_call_at b u ls d) (Some n) l)) n (of_side (other r.side) ls)
        (quiet, inl stays)
        (λ l is same. let so = s l is same in (
          quiet,
          inr (record {
            terms = terms_of d;
            doubts = settled_doubts h r.side (header_in r.packet);
            settled = settled_circuit i.modulus r.side n l (header_in r.packet);
            is = refl;
            state = so.0;
            held = ap is_some held;
            agrees = agrees_so i h w o (terms_of d) held known;
            sides = so.1 h;
          }),
        ))

pub carries : (i : Interface) (n : ℕ) (r : Item) (c w : Channel) → CarriedRow i r c w → (b h : Bool) (ls : Sides (Option LastData)) → is_permanent i n ≡ false → (d : Channel) (o : Option Opening) (t : ChannelState) → IsTidy (record d { opening = o; state = t })
    → Seen i.modulus c c.state ls → (is_some o ≡ false → ls ≡ of_both None) → Rests t ls → Known i h c o t d.accepting
    → AdriftBy i w b (adrift_transfer i n r (drifts_with h ls) (adrift_call_at b h ls (record d { opening = o; state = t })))
carries i n r c w whole b h ls perm d o t tidy seen empty rests known = subst (λ q. AdriftBy i w b (carried_if q o t)) (sym perm) (at o t tidy empty rests known)
  where
    carried_if : Bool → Option Opening → ChannelState → GapOutcome
    carried_if q o t = elim (q || is_open (record d { opening = o; state = t })) [
      | true ↦ record {
        reported = (brought_up i (record d { opening = o; state = t })).reported
            ++ (adrift_carried i r (drifts_with (hidden_when_up (drifts_with h ls) (record d { opening = o; state = t })) ls) (adrift_call_at b h ls (brought_up i (record d { opening = o; state = t })).after)).reported;
        after = (adrift_carried i r (drifts_with (hidden_when_up (drifts_with h ls) (record d { opening = o; state = t })) ls) (adrift_call_at b h ls (brought_up i (record d { opening = o; state = t })).after)).after;
      }
      | false ↦ passing (adrift_call_at b h ls (record d { opening = o; state = t }))
    ]

    -- the other side may reset
    carried : (h' : Bool) (e : DState) (o : Opening) (d : Channel) → d.opening ≡ Some o → Rests (Transfer e) ls → ((f : DState) → Known i h' w (Some o) (Transfer f) d.accepting) → (u : Bool) → is_resetting (other r.side) (Transfer e) ≡ u
        → AdriftBy i w b (elim u as (λ _. GapOutcome) [
          | true ↦ passing (adrift_call_at b h' ls (record d { state = Transfer e }))
          | false ↦ adrift_received i r (drifts_with h' ls) (adrift_call_at b h ls (record d { state = Transfer e })) (receive_of r) (option_and_then (acknowledged_data (drifts_with h' ls) r.side) (receive_of r))
        ])
    carried h' e o d held rests known true u =
        let none : ls ≡ of_both None = resting_none (other r.side) e ls u rests in (
          refl,
          inl (subst (λ ls. Drifts i w b (adrift_call_at b h' ls (record d { state = Transfer e }))) (sym none)
              (drifts_none i w b h' (record d { state = Transfer e }) (open_tidy (record d { state = Transfer e }) (ap is_some held)) (subst (λ o. Known i h' w o (Transfer e) d.accepting) (sym held) (known e)))),
        )
    carried h' e o d held rests known false u = received i r c w whole b h h' ls (record d { state = Transfer e }) o held seen (known transfer.TheVariants.D1)

    at : (o : Option Opening) (t : ChannelState) → IsTidy (record d { opening = o; state = t }) → (is_some o ≡ false → ls ≡ of_both None) → Rests t ls → Known i h c o t d.accepting → AdriftBy i w b (carried_if false o t)
    at None t tidy empty rests known = (refl, inl (idles i c w b h ls (record d { opening = None; state = t }) tidy refl (empty refl) rests known))
    at (Some o) (Transfer e) tidy empty rests known =
        carried (h || false) e o (record d { opening = Some o; state = Transfer e }) refl rests (λ f. known_stays i h c w whole.keeps o e f d.accepting known) (is_resetting (other r.side) (Transfer e)) refl
    at (Some o) (Setup q) tidy empty rests known =
        carried (h || true) transfer.TheVariants.D1 o (record (entering P4 false (record d { opening = Some o; state = Setup q })) { accepting = Some (largest_terms i) }) refl tt (λ f. known_largest i h w (Some o) (Transfer f)) (is_resetting (other r.side) (Transfer transfer.TheVariants.D1)) refl
    at (Some o) Unknown tidy empty rests known =
        carried (h || true) transfer.TheVariants.D1 o (record (entering P4 false (record d { opening = Some o; state = Unknown })) { accepting = Some (largest_terms i) }) refl tt (λ f. known_largest i h w (Some o) (Transfer f)) (is_resetting (other r.side) (Transfer transfer.TheVariants.D1)) refl
