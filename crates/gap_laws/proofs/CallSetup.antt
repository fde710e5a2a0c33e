-- What a packet does to a channel for calls before its call is up, or after it, and to each channel that fits it.
use Rattle.std.proofs.Common.{◌≡◌, inl, inr, ℕ, Bool, true, false, refl, sym, ◌∙◌, ap, subst, List, Option, Some, None}
use Rattle.std.specs.Prelude.{not, ◌&&◌, ◌||◌, is_some}
use Rattle.std.proofs.lemmas.Bool.{false≢true}
use Rattle.line_model.specs.declared.event.How.{How}
use Rattle.line_model.specs.declared.event.How as how
use Rattle.line_model.specs.declared.gap.LastData.{LastData}
use Rattle.line_model.specs.declared.gap.Owed.TheVariants.{NoIndication}
use Rattle.line_model.specs.declared.interface.Interface.{Interface}
use Rattle.line_model.specs.declared.packet.Class.{Class}
use Rattle.line_model.specs.declared.packet.Class.TheVariants.{Accepted, Call, Clear}
use Rattle.line_model.specs.declared.packet.DataHeader.{DataHeader}
use Rattle.line_model.specs.declared.packet.Packet as packet
use Rattle.line_model.specs.declared.packet.PacketKind.{PacketKind}
use Rattle.line_model.specs.declared.packet.PacketKind as kind
use Rattle.line_model.specs.declared.state.Side.{Side}
use Rattle.line_model.specs.declared.state.Side.TheVariants.{T, N}
use Rattle.line_model.specs.declared.state.DState.{DState}
use Rattle.line_model.specs.declared.state.DState as transfer
use Rattle.line_model.specs.declared.state.PState.{PState}
use Rattle.line_model.specs.declared.state.PState as setup
use Rattle.line_model.specs.declared.state.ChannelState.{ChannelState}
use Rattle.line_model.specs.declared.state.ChannelState.TheVariants.{Setup, Transfer, Unknown}
use Rattle.line_model.specs.declared.state.StateName.{StateName}
use Rattle.line_model.specs.declared.state.StateName.TheVariants.{P1, P2, P3, P4, P5, P6, P7}
use Rattle.line_model.specs.declared.table.Action.{Action}
use Rattle.line_model.specs.declared.table.Action.TheVariants.{Move}
use Rattle.line_model.specs.basics.Records.{Item}
use Rattle.line_model.specs.packets.Classes.{kind_class, packet_class}
use Rattle.line_model.specs.packets.Formats.{packet_fault, was_fast}
use Rattle.line_model.specs.packets.Facilities.{call_fault}
use Rattle.line_model.specs.packets.Says.{header_in}
use Rattle.line_model.specs.channels.Channels.{Channel, Opening, Sides, channel_in, is_in_transfer, is_open, is_permanent, of_side, other}
use Rattle.line_model.specs.channels.ChannelStep.{Judged, Outcome, call_change, changing, channel_step, ending, ending_open, entering, judged, moving, setup_name, state_named, verdict, verdict_step}
use Rattle.line_model.specs.channels.FlowControl.{is_side}
use Rattle.line_model.specs.channels.Gaps.{GapChannel, drifting, of_both}
use Rattle.line_model.specs.channels.Gaps.Certainty.{Certain}
use Rattle.line_model.specs.channels.GapStep.{GapOutcome, confirmed_clear, gap_channel_step, owed_after, passing, receive_of, with_certainty}
use Rattle.line_model.specs.channels.Sequences.{eq_bool}
use Rattle.line_model.specs.channels.Tables.{action}
use Rattle.line_model.specs.channels.Verdicts.CallChange.{Opens, GoesUp}
use Rattle.line_model.proofs.Effects.{IsSound}
use Rattle.line_model.proofs.Every.{classes, every, every_class}
use Rattle.gap_laws.proofs.Read.{is_read}
use Rattle.gap_laws.proofs.Circuits.{some_none, Circuit, failing_loud, idle, silent}
use Rattle.gap_laws.proofs.Fits.{LastFits}
use Rattle.gap_laws.proofs.Entries.{is_below, judged_at, quiet, quiet_whole, row_at}
use Rattle.gap_laws.proofs.QuietSteps.{Waits, none_of_other, waiting_seen}
use Rattle.gap_laws.proofs.ResetSteps.{idle_ordered}
use Rattle.gap_laws.proofs.Granted.{accepted_granted, call_granted}
use Rattle.line_model.specs.declared.gap.AdriftEntry.TheVariants.{Carries, Clears, ConfirmsClear}
use Rattle.line_model.specs.packets.Formats.{or_other}
use Rattle.line_model.proofs.Effects.{ending_state}
use Rattle.line_model.specs.channels.GapStep.{adrift_entry, adrift_step_by, adrift_transfer}
use Rattle.gap_laws.proofs.QuietSteps.{error_loud, is_error}
use Rattle.gap_laws.proofs.Calls.{AdriftBy, drifts_with, Awaits, Carried, Drifts, DriftsBy, FollowsCall, IsCalm, IsTidy, Known, SameCall, Seen, SettledFits, Settles, accepts, adrift_call_at, adrift_is, again, by_drifts, carries, clears, drifted, drifts_none, is_usual, keeps_all, nothing_seen, opens, resets}

-- ---- what a row does

-- to a channel of the whole walk, and to each that fits it
pub record CallStep (i : Interface) (n : ℕ) (r : Item) (c : Channel) : Type 0 where
  pub whole : Channel
  pub after : (channel_step i n c r).after ≡ whole
  pub calm : IsCalm i whole
  pub drifts : (b : Bool) (g : GapChannel) → Drifts i c b g → FollowsCall i whole b (gap_channel_step i n g r)
  pub settled : (b : Bool) (g : GapChannel) → SettledFits i c b g → FollowsCall i whole b (gap_channel_step i n g r)

-- a channel before a call is up, or after it
abbrev pub waiting : Channel → PState → Channel
waiting ch p = record ch { state = Setup p; owed = false }

never_settled : {A : Type 0} (i : Interface) (ch : Channel) (p : PState) (b : Bool) (g : GapChannel) → SettledFits i (waiting ch p) b g → A
never_settled i ch p b g f = absurd (apart f.state)
  where
    apart : {d : DState} → Setup p ≡ Transfer d → ⊥
    apart e = cc

-- the tables judge a channel for calls
pub plain_is : (i : Interface) (n : ℕ) (r : Item) (c : Channel) → is_permanent i n ≡ false
    → channel_step i n c r ≡ (let j : Judged = judged false r.side c.state c.owed (packet_class r.packet) in verdict_step i j.state r (verdict j (packet_fault i n c r)) c)
plain_is i n r c p = ap (λ q. let j : Judged = judged q r.side c.state c.owed (packet_class r.packet) in verdict_step i j.state r (verdict j (packet_fault i n c r)) c) p

-- ---- the side that clears waits for the other one

abbrev pub WaitsOut : PState → Side → Type 0
WaitsOut setup.TheVariants.P6 x = x ≡ N
WaitsOut setup.TheVariants.P7 x = x ≡ T
WaitsOut p x = ⊥

-- packets of data transfer that are ignored
pub waits_carried : (i : Interface) (x : Side) (h : Option DataHeader) (n : Option ℕ) (c : Channel) (q : Circuit) → Waits q.state x → ((ls : Sides (Option LastData)) → Seen i.modulus c c.state ls → (y : Side) → LastFits i.modulus q y (of_side y ls))
    → ((ls : Sides (Option LastData)) → ((y : Side) → LastFits i.modulus q y (of_side y ls)) → Seen i.modulus c c.state ls) → Carried i x h n c c
waits_carried i x h n c q w to from = record {
  keeps = keeps_all c;
  seen = λ ls s. from _ (waiting_seen i.modulus q x h n ls w (to ls s));
  settles = λ ls s. settles ls (to ls s) n;
}
  where
    settles : (ls : Sides (Option LastData)) → ((y : Side) → LastFits i.modulus q y (of_side y ls)) → (n : Option ℕ) → Settles i x h c ls n
    settles ls s None = tt
    settles ls s (Some n) = λ l is same. absurd (none_of_other i.modulus q x l w (subst (LastFits i.modulus q (other x)) is (s (other x))))

cleared_carried : (i : Interface) (x : Side) (h : Option DataHeader) (n : Option ℕ) (ch : Channel) (p : PState) → WaitsOut p x → Carried i x h n (waiting ch p) (waiting ch p)
cleared_carried i x h n ch setup.TheVariants.P6 w = waits_carried i x h n (waiting ch setup.TheVariants.P6) (idle transfer.TheVariants.D2) w (λ ls s. s) (λ ls s. s)
cleared_carried i x h n ch setup.TheVariants.P7 w = waits_carried i x h n (waiting ch setup.TheVariants.P7) (idle transfer.TheVariants.D3) w (λ ls s. s) (λ ls s. s)
cleared_carried i x h n ch p w = absurd w

-- a call is ignored, and so is the acceptance of any but one of the side that called
awaits_cleared : (ch : Channel) (p : PState) (x : Side) (xs : List ℕ) → WaitsOut p x → Awaits (Setup p) ch.opening (record { out = is_side T x; packet = xs })
awaits_cleared ch setup.TheVariants.P6 x xs w = ap (λ x. is_side T x) w
awaits_cleared ch setup.TheVariants.P7 x xs w = ap (λ x. is_side T x) w
awaits_cleared ch p x xs w = absurd w

none_accepted : {A : Type 0} (ch : Channel) (p : PState) (x : Side) (o : Opening) → WaitsOut p x → eq_bool (is_side T x) o.out ≡ false → Awaits (Setup p) ch.opening o → A
none_accepted ch setup.TheVariants.P6 x o w e k = absurd (false≢true (sym e ∙ ap (λ x. eq_bool (is_side T x) o.out) w ∙ ap (λ b. not b) k))
none_accepted ch setup.TheVariants.P7 x o w e k = absurd (false≢true (sym e ∙ ap (λ x. eq_bool (is_side T x) o.out) w ∙ k))
none_accepted ch p x o w e k = absurd w

abbrev pub is_clear_confirm : PacketKind → Bool
is_clear_confirm kind.TheVariants.ClearConfirm = true
is_clear_confirm k = false

confirm_owes : (x : Side) → owed_after x ConfirmsClear NoIndication ≡ NoIndication
confirm_owes T = refl
confirm_owes N = refl

drift_only : (i : Interface) (ch : Channel) (p : PState) (b : Bool) (o : GapOutcome) → AdriftBy i (waiting ch p) b o → DriftsBy i (waiting ch p) b o
drift_only i ch p b o (q, inl h) = (q, h)
drift_only i ch p b o (q, inr h) = never_settled i ch p b o.after h

-- no packet but a clear confirmation ends the wait, nor does that one where the interface may restart
pub waits : (i : Interface) (n nr : ℕ) (x : Side) (k : ℕ) (p : PacketKind) (len : ℕ) (os : List ℕ) → is_permanent i n ≡ false → is_read i (packet.TheVariants.Channel k p) len ≡ true → (ch : Channel) (s : PState) → WaitsOut s x
    → (b : Bool) → (not (is_clear_confirm p) || b) ≡ true → (g : GapChannel) → Drifts i (waiting ch s) b g → DriftsBy i (waiting ch s) b (gap_channel_step i n g (row_at nr x k p len os))
waits i n nr x k p len os perm whole ch s w b still g f = by_drifts (DriftsBy i c b) i n (row_at nr x k p len os) c b g f (at x p w whole still)
  where
    c : Channel
    c = waiting ch s

    d : Channel
    d = f.channel

    Goal : Side → PacketKind → Type 0
    Goal x p = DriftsBy i (waiting ch s) b (gap_channel_step i n (adrift_call_at b f.hidden f.last f.channel) (row_at nr x k p len os))

    same : DriftsBy i (waiting ch s) b (passing (adrift_call_at b f.hidden f.last f.channel))
    same = (refl, again i c b g f)

    by : (x : Side) (p : PacketKind) → DriftsBy i (waiting ch s) b (adrift_step_by (adrift_entry false (kind_class p)) i n (row_at nr x k p len os) (drifts_with f.hidden f.last) (adrift_call_at b f.hidden f.last f.channel)) → Goal x p
    by x p h = adrift_is (DriftsBy i c b) i n nr x k p len os perm b f.hidden f.last d (λ u e. same) h

    flows : (x : Side) (p : PacketKind) → WaitsOut s x → adrift_entry false (kind_class p) ≡ Carries → Goal x p
    flows x p w entry = by x p (subst (λ e. DriftsBy i (waiting ch s) b (adrift_step_by e i n (row_at nr x k p len os) (drifts_with f.hidden f.last) (adrift_call_at b f.hidden f.last f.channel))) (sym entry) (drift_only i ch s b (adrift_transfer i n (row_at nr x k p len os) (drifts_with f.hidden f.last) (adrift_call_at b f.hidden f.last f.channel)) (carries i n (row_at nr x k p len os) c c (cleared_carried i x (header_in (packet.TheVariants.Channel k p)) (receive_of (row_at nr x k p len os)) ch s w) b f.hidden f.last perm d d.opening d.state f.tidy f.seen f.empty f.rests f.known)))

    confirms : (x : Side) → b ≡ true → DriftsBy i (waiting ch s) b (with_certainty (adrift_call_at b f.hidden f.last f.channel) (confirmed_clear b (owed_after x ConfirmsClear NoIndication)) (ending how.TheVariants.Gap (entering P1 false f.channel)))
    confirms x e = subst (λ b. DriftsBy i (waiting ch s) b (with_certainty (adrift_call_at b f.hidden f.last f.channel) (confirmed_clear b (owed_after x ConfirmsClear NoIndication)) (ending how.TheVariants.Gap (entering P1 false f.channel)))) (sym e)
        (subst (λ o. DriftsBy i (waiting ch s) true (with_certainty (adrift_call_at true f.hidden f.last f.channel) (drifting o false) (ending how.TheVariants.Gap (entering P1 false f.channel)))) (sym (confirm_owes x))
        (clears i c true f.hidden f.last how.TheVariants.Gap d d.opening f.tidy))

    at : (x : Side) (p : PacketKind) → WaitsOut s x → is_read i (packet.TheVariants.Channel k p) len ≡ true → (not (is_clear_confirm p) || b) ≡ true → Goal x p
    at x kind.TheVariants.Call w e h = by x kind.TheVariants.Call (opens i c b f.hidden f.last x os d d.opening (awaits_cleared ch s x os w))
    at x kind.TheVariants.Accepted w e h =
        by x kind.TheVariants.Accepted (accepts i n (row_at nr x k kind.TheVariants.Accepted len os) c c b f.hidden f.last d d.opening d.state (λ o own a. none_accepted ch s x o w own a) f.seen f.known same.1)
    at T kind.TheVariants.Clear w e h = by T kind.TheVariants.Clear (clears i c b f.hidden f.last how.TheVariants.T d d.opening f.tidy)
    at N kind.TheVariants.Clear w e h = by N kind.TheVariants.Clear (clears i c b f.hidden f.last how.TheVariants.N d d.opening f.tidy)
    at x kind.TheVariants.ClearConfirm w e h = by x kind.TheVariants.ClearConfirm (confirms x h)
    at T kind.TheVariants.Reset w e h = by T kind.TheVariants.Reset (resets i n c c (keeps_all c) b f.hidden f.last transfer.TheVariants.D2 perm d d.opening d.state f.tidy f.empty f.rests f.known)
    at N kind.TheVariants.Reset w e h = by N kind.TheVariants.Reset (resets i n c c (keeps_all c) b f.hidden f.last transfer.TheVariants.D3 perm d d.opening d.state f.tidy f.empty f.rests f.known)
    at T kind.TheVariants.ResetConfirm w e h = by T kind.TheVariants.ResetConfirm (resets i n c c (keeps_all c) b f.hidden f.last transfer.TheVariants.D1 perm d d.opening d.state f.tidy f.empty f.rests f.known)
    at N kind.TheVariants.ResetConfirm w e h = by N kind.TheVariants.ResetConfirm (resets i n c c (keeps_all c) b f.hidden f.last transfer.TheVariants.D1 perm d d.opening d.state f.tidy f.empty f.rests f.known)
    at x kind.TheVariants.Interrupt w e h = flows x kind.TheVariants.Interrupt w refl
    at x kind.TheVariants.InterruptConfirm w e h = flows x kind.TheVariants.InterruptConfirm w refl
    at x (kind.TheVariants.Data o) w e h = flows x (kind.TheVariants.Data o) w refl
    at x (kind.TheVariants.Rr o) w e h = flows x (kind.TheVariants.Rr o) w refl
    at x (kind.TheVariants.Rnr o) w e h = flows x (kind.TheVariants.Rnr o) w refl
    at x kind.TheVariants.TwoOctets w e h = by x kind.TheVariants.TwoOctets same
    at x kind.TheVariants.RestartHere w e h = by x kind.TheVariants.RestartHere same
    at x kind.TheVariants.Rej w e h = by x kind.TheVariants.Rej same
    at x kind.TheVariants.Undefined w e h = by x kind.TheVariants.Undefined same
    at x kind.TheVariants.Gap w e h = absurd (false≢true e)

-- ---- before a call is up

abbrev pub plain_step : Interface → ℕ → Item → Channel → Outcome
plain_step i n r c = let j : Judged = judged false r.side c.state c.owed (packet_class r.packet) in verdict_step i j.state r (verdict j (packet_fault i n c r)) c

ignored : (i : Interface) (n nr : ℕ) (x : Side) (k : ℕ) (p : PacketKind) (len : ℕ) (os : List ℕ) → is_permanent i n ≡ false → is_read i (packet.TheVariants.Channel k p) len ≡ true → is_clear_confirm p ≡ false → (ch : Channel) (s : PState) → WaitsOut s x
    → IsCalm i (waiting ch s) → (plain_step i n (row_at nr x k p len os) (waiting ch s)).after ≡ waiting ch s → CallStep i n (row_at nr x k p len os) (waiting ch s)
ignored i n nr x k p len os perm whole apart ch s w calm e = record {
  whole = waiting ch s;
  after = ap (λ (o : Outcome). o.after) (plain_is i n (row_at nr x k p len os) (waiting ch s) perm) ∙ e;
  calm = calm;
  drifts = λ b g f. drifted i (waiting ch s) b (gap_channel_step i n g (row_at nr x k p len os)) (waits i n nr x k p len os perm whole ch s w b (ap (λ c. not c || b) apart) g f);
  settled = λ b g f. never_settled i ch s b g f;
}

abbrev passes_out : PState → Side → Bool
passes_out setup.TheVariants.P4 x = true
passes_out setup.TheVariants.P6 N = true
passes_out setup.TheVariants.P7 T = true
passes_out p x = false

waits_out : (p : PState) (x : Side) → is_usual (Setup p) ≡ true → passes_out p x ≡ true → WaitsOut p x
waits_out setup.TheVariants.P4 x u e = absurd (false≢true u)
waits_out setup.TheVariants.P6 N u e = refl
waits_out setup.TheVariants.P7 T u e = refl
waits_out p x u e = absurd (false≢true e)

abbrev rest_test : Side → PState → Class → Bool
rest_test x p k = not (is_below k) || (is_error (action x (setup_name p) false k) || (quiet (action x (setup_name p) false k) && passes_out p x))

rest_all : (x : Side) (p : PState) → every (rest_test x p) classes ≡ true
rest_all T setup.TheVariants.P1 = refl
rest_all T setup.TheVariants.P2 = refl
rest_all T setup.TheVariants.P3 = refl
rest_all T setup.TheVariants.P4 = refl
rest_all T setup.TheVariants.P5 = refl
rest_all T setup.TheVariants.P6 = refl
rest_all T setup.TheVariants.P7 = refl
rest_all N setup.TheVariants.P1 = refl
rest_all N setup.TheVariants.P2 = refl
rest_all N setup.TheVariants.P3 = refl
rest_all N setup.TheVariants.P4 = refl
rest_all N setup.TheVariants.P5 = refl
rest_all N setup.TheVariants.P6 = refl
rest_all N setup.TheVariants.P7 = refl

-- packets of data transfer and of no use
below_ignored : (i : Interface) (n nr : ℕ) (x : Side) (k : ℕ) (p : PacketKind) (len : ℕ) (os : List ℕ) → is_permanent i n ≡ false → is_read i (packet.TheVariants.Channel k p) len ≡ true → is_clear_confirm p ≡ false → is_below (kind_class p) ≡ true → (ch : Channel) (s : PState)
    → IsCalm i (waiting ch s) → silent (plain_step i n (row_at nr x k p len os) (waiting ch s)).reported ≡ true → CallStep i n (row_at nr x k p len os) (waiting ch s)
below_ignored i n nr x k p len os perm whole apart below ch s calm q =
    at (is_below (kind_class p)) (is_error a) refl (quiet a) refl (passes_out s x) refl below (every_class (rest_test x s) (rest_all x s) (kind_class p))
  where
    r : Item
    r = row_at nr x k p len os

    a : Action
    a = action x (setup_name s) false (kind_class p)

    at : (c e : Bool) → is_error a ≡ e → (u : Bool) → quiet a ≡ u → (v : Bool) → passes_out s x ≡ v → c ≡ true → (not c || (e || (u && v))) ≡ true → CallStep i n (row_at nr x k p len os) (waiting ch s)
    at false e d u f v g c h = absurd (false≢true c)
    at true true d u f v g c h = error_loud i (setup_name s) r a (packet_fault i n (waiting ch s) r) (waiting ch s) d q
    at true false d false f v g c h = absurd (false≢true h)
    at true false d true f false g c h = absurd (false≢true h)
    at true false d true f true g c h = ignored i n nr x k p len os perm whole apart ch s (waits_out s x calm.usual g) calm (ap (λ (o : Outcome). o.after) (quiet_whole i (setup_name s) r a (packet_fault i n (waiting ch s) r) (waiting ch s) f q))

-- a move that is no finding
pub moved : (i : Interface) (r : Item) (s t : StateName) (f : Option ℕ) (c : Channel) → silent (verdict_step i s r (verdict (judged_at s (Move t)) f) c).reported ≡ true
    → (f ≡ None) × (verdict_step i s r (verdict (judged_at s (Move t)) f) c ≡ moving r.side (packet_class r.packet) r.octets t c)
moved i r s t None c q = (refl, refl)
moved i r s t (Some n) c q = failing_loud r.side s n c q

ending_calm : (i : Interface) (h : How) (c : Channel) (o : Option Opening) → IsCalm i (record c { opening = o }) → IsCalm i (ending_open h o (record c { opening = o })).after
ending_calm i h c None s = s
ending_calm i h c (Some o) s = record { owes = s.owes; usual = s.usual; tidy = λ e. (refl, refl); granted = record { opened = tt; accepted = tt }; ordered = s.ordered }

pub entered : (i : Interface) (c : Channel) (t : StateName) → is_usual (state_named t) ≡ true → IsCalm i c → IsCalm i (entering t false c)
entered i c t u s = record { owes = refl; usual = u; tidy = s.tidy; granted = s.granted; ordered = idle_ordered i transfer.TheVariants.D1 }

opened_calm : (i : Interface) (out : Bool) (xs : List ℕ) (d : Channel) → IsCalm i d → call_fault i xs ≡ None → IsCalm i (changing xs (Opens out) d).after
opened_calm i out xs d s f =
    let ended = ending_calm i how.TheVariants.Collision d d.opening s in
    record { owes = ended.owes; usual = ended.usual; tidy = λ e. absurd (false≢true (sym e)); granted = record { opened = call_granted i xs f; accepted = ended.granted.accepted }; ordered = ended.ordered }

no_other : (a b : Option ℕ) → or_other a b ≡ None → b ≡ None
no_other None b e = e
no_other (Some a) b e = cc

-- a call opens, or collides with another
opens_call : (i : Interface) (n nr : ℕ) (x : Side) (k len : ℕ) (os : List ℕ) → is_permanent i n ≡ false → (ch : Channel) (s : PState) (t : StateName) (w : Channel)
    → plain_step i n (row_at nr x k kind.TheVariants.Call len os) (waiting ch s) ≡ verdict_step i (setup_name s) (row_at nr x k kind.TheVariants.Call len os) (verdict (judged_at (setup_name s) (Move t)) (packet_fault i n (waiting ch s) (row_at nr x k kind.TheVariants.Call len os))) (waiting ch s)
    → silent (plain_step i n (row_at nr x k kind.TheVariants.Call len os) (waiting ch s)).reported ≡ true
    → (moving x Call os t (waiting ch s)).after ≡ w → (call_fault i os ≡ None → IsCalm i w) → Awaits w.state w.opening (record { out = is_side T x; packet = os })
    → CallStep i n (row_at nr x k kind.TheVariants.Call len os) (waiting ch s)
opens_call i n nr x k len os perm ch s t w e q is calm awaits =
    let m = moved i r (setup_name s) t (packet_fault i n c r) c (ap (λ (o : Outcome). silent o.reported) (sym e) ∙ q) in
    record {
      whole = w;
      after = ap (λ (o : Outcome). o.after) (plain_is i n r c perm ∙ e ∙ m.1) ∙ is;
      calm = calm (no_other _ (call_fault i os) m.0);
      drifts = λ b g f. drifted i w b (gap_channel_step i n g r)
          (by_drifts (DriftsBy i w b) i n r c b g f (adrift_is (DriftsBy i w b) i n nr x k kind.TheVariants.Call len os perm b f.hidden f.last f.channel (λ u h. some_none (sym h ∙ m.0)) (opens i w b f.hidden f.last x os f.channel f.channel.opening awaits)));
      settled = λ b g f. never_settled i ch s b g f;
    }
  where
    r : Item
    r = row_at nr x k kind.TheVariants.Call len os

    c : Channel
    c = waiting ch s

call_row : (i : Interface) (n nr : ℕ) (x : Side) (k len : ℕ) (os : List ℕ) → is_permanent i n ≡ false → (ch : Channel) (s : PState) → IsCalm i (waiting ch s)
    → silent (plain_step i n (row_at nr x k kind.TheVariants.Call len os) (waiting ch s)).reported ≡ true → CallStep i n (row_at nr x k kind.TheVariants.Call len os) (waiting ch s)
call_row i n nr x k len os perm ch s calm q = at x s calm q
  where
    to : (x : Side) (s : PState) (t : StateName) (out : Bool) → IsCalm i (waiting ch s) → is_usual (state_named t) ≡ true
        → plain_step i n (row_at nr x k kind.TheVariants.Call len os) (waiting ch s) ≡ verdict_step i (setup_name s) (row_at nr x k kind.TheVariants.Call len os) (verdict (judged_at (setup_name s) (Move t)) (packet_fault i n (waiting ch s) (row_at nr x k kind.TheVariants.Call len os))) (waiting ch s)
        → silent (plain_step i n (row_at nr x k kind.TheVariants.Call len os) (waiting ch s)).reported ≡ true
        → call_change x Call t ≡ Opens out → Awaits (state_named t) (Some (record { out = out; packet = os })) (record { out = is_side T x; packet = os })
        → CallStep i n (row_at nr x k kind.TheVariants.Call len os) (waiting ch s)
    to x s t out calm u e q change awaits =
        let d : Channel = entering t false (waiting ch s) in
        opens_call i n nr x k len os perm ch s t (changing os (Opens out) d).after e q (ap (λ c. (changing os c d).after) change) (opened_calm i out os d (entered i (waiting ch s) t u calm))
        (subst (λ s. Awaits s (Some (record { out = out; packet = os })) (record { out = is_side T x; packet = os })) (sym (ending_state how.TheVariants.Collision d)) awaits)

    at : (x : Side) (s : PState) → IsCalm i (waiting ch s) → silent (plain_step i n (row_at nr x k kind.TheVariants.Call len os) (waiting ch s)).reported ≡ true → CallStep i n (row_at nr x k kind.TheVariants.Call len os) (waiting ch s)
    at T setup.TheVariants.P1 calm q = to T setup.TheVariants.P1 P2 true calm refl refl q refl refl
    at T setup.TheVariants.P3 calm q = to T setup.TheVariants.P3 P5 true calm refl refl q refl (λ e. refl)
    at N setup.TheVariants.P1 calm q = to N setup.TheVariants.P1 P3 false calm refl refl q refl refl
    at N setup.TheVariants.P2 calm q =
        opens_call i n nr N k len os perm ch setup.TheVariants.P2 P5 (entering P5 false (waiting ch setup.TheVariants.P2)) refl q refl (λ f. entered i (waiting ch setup.TheVariants.P2) P5 refl calm) (λ e. absurd (false≢true e))
    at T setup.TheVariants.P7 calm q = ignored i n nr T k kind.TheVariants.Call len os perm refl refl ch setup.TheVariants.P7 refl calm refl
    at N setup.TheVariants.P6 calm q = ignored i n nr N k kind.TheVariants.Call len os perm refl refl ch setup.TheVariants.P6 refl calm refl
    at x s calm q = absurd (false≢true q)

-- a call that came up is not one that the channel adrift had up before
known_risen : (i : Interface) (h : Bool) (c w : Channel) → is_in_transfer c ≡ false → w.state ≡ Transfer transfer.TheVariants.D1 → (o : Option Opening) (s : ChannelState) (a : Option (List ℕ)) → Known i h c o s a → Known i h w o s a
known_risen i true c w apart up o s a k = k
known_risen i false c w apart up None s a k = tt
known_risen i false c w apart up (Some o) (Transfer d) a k = absurd (false≢true (sym apart ∙ k.0))
known_risen i false c w apart up (Some o) (Setup q) a k = subst (λ s. Awaits s w.opening o) (sym up) tt
known_risen i false c w apart up (Some o) Unknown a k = subst (λ s. Awaits s w.opening o) (sym up) tt

accept_row : (i : Interface) (n nr : ℕ) (x : Side) (k len : ℕ) (os : List ℕ) → is_permanent i n ≡ false → (ch : Channel) (s : PState) → IsCalm i (waiting ch s) → IsSound false (waiting ch s)
    → silent (plain_step i n (row_at nr x k kind.TheVariants.Accepted len os) (waiting ch s)).reported ≡ true → CallStep i n (row_at nr x k kind.TheVariants.Accepted len os) (waiting ch s)
accept_row i n nr x k len os perm ch s calm sound q = at x s calm sound q
  where
    rises : (x : Side) (s : PState) → IsCalm i (waiting ch s) → is_open ch ≡ true
        → plain_step i n (row_at nr x k kind.TheVariants.Accepted len os) (waiting ch s) ≡ verdict_step i (setup_name s) (row_at nr x k kind.TheVariants.Accepted len os) (verdict (judged_at (setup_name s) (Move P4)) (packet_fault i n (waiting ch s) (row_at nr x k kind.TheVariants.Accepted len os))) (waiting ch s)
        → silent (plain_step i n (row_at nr x k kind.TheVariants.Accepted len os) (waiting ch s)).reported ≡ true
        → ((ls : Sides (Option LastData)) → Seen i.modulus (waiting ch s) (Setup s) ls → ls ≡ of_both None)
        → ((o : Opening) → eq_bool (is_side T x) o.out ≡ false → Awaits (Setup s) ch.opening o → ch.opening ≡ Some o)
        → moving x Accepted os P4 (waiting ch s) ≡ changing os GoesUp (entering P4 false (waiting ch s))
        → CallStep i n (row_at nr x k kind.TheVariants.Accepted len os) (waiting ch s)
    rises x s calm held e q none comes change =
        let m = moved i r (setup_name s) P4 (packet_fault i n c r) c (ap (λ (o : Outcome). silent o.reported) (sym e) ∙ q) in
        record {
          whole = w;
          after = ap (λ (o : Outcome). o.after) (plain_is i n r c perm ∙ e ∙ m.1 ∙ change);
          calm = record { owes = refl; usual = refl; tidy = λ d. absurd (false≢true (sym d ∙ held)); granted = record { opened = calm.granted.opened; accepted = accepted_granted i (was_fast c) os m.0 }; ordered = idle_ordered i transfer.TheVariants.D1 };
          drifts = λ b g f. drifted i w b (gap_channel_step i n g r) (by_drifts (DriftsBy i w b) i n r c b g f (drift b g f));
          settled = λ b g f. never_settled i ch s b g f;
        }
      where
        r : Item
        r = row_at nr x k kind.TheVariants.Accepted len os

        c : Channel
        c = waiting ch s

        w : Channel
        w = record (entering P4 false (waiting ch s)) { accepting = Some os }

        drift : (b : Bool) (g : GapChannel) (f : Drifts i (waiting ch s) b g) → DriftsBy i (record (entering P4 false (waiting ch s)) { accepting = Some os }) b (gap_channel_step i n (adrift_call_at b f.hidden f.last f.channel) (row_at nr x k kind.TheVariants.Accepted len os))
        drift b g f = adrift_is (DriftsBy i w b) i n nr x k kind.TheVariants.Accepted len os perm b f.hidden f.last d (λ u h. (refl, same))
            (accepts i n r c w b f.hidden f.last d d.opening d.state (λ o own a. (refl, comes o own a, refl)) (subst (λ ls. Seen i.modulus w w.state ls) (sym (none f.last f.seen)) (nothing_seen i.modulus w w.state)) f.known same)
          where
            d : Channel
            d = f.channel

            same : Drifts i (record (entering P4 false (waiting ch s)) { accepting = Some os }) b (adrift_call_at b f.hidden f.last f.channel)
            same = subst (λ ls. Drifts i w b (adrift_call_at b f.hidden ls d)) (sym (none f.last f.seen)) (drifts_none i w b f.hidden d f.tidy (known_risen i f.hidden c w refl refl d.opening d.state d.accepting f.known))

    outgoing : (b : Bool) → eq_bool false b ≡ false → b ≡ true
    outgoing true e = refl
    outgoing false e = sym e

    at : (x : Side) (s : PState) → IsCalm i (waiting ch s) → IsSound false (waiting ch s) → silent (plain_step i n (row_at nr x k kind.TheVariants.Accepted len os) (waiting ch s)).reported ≡ true → CallStep i n (row_at nr x k kind.TheVariants.Accepted len os) (waiting ch s)
    at T setup.TheVariants.P3 calm sound q = rises T setup.TheVariants.P3 calm sound.held refl q (λ ls h. h) (λ o own a. a) refl
    at N setup.TheVariants.P2 calm sound q = rises N setup.TheVariants.P2 calm sound.held refl q (λ ls h. h) (λ o own a. a) refl
    at N setup.TheVariants.P5 calm sound q = rises N setup.TheVariants.P5 calm sound.held refl q (λ ls h. h) (λ o own a. a (outgoing o.out own)) refl
    at T setup.TheVariants.P7 calm sound q = ignored i n nr T k kind.TheVariants.Accepted len os perm refl refl ch setup.TheVariants.P7 refl calm refl
    at N setup.TheVariants.P6 calm sound q = ignored i n nr N k kind.TheVariants.Accepted len os perm refl refl ch setup.TheVariants.P6 refl calm refl
    at x s calm sound q = absurd (false≢true q)

-- ---- clearing

-- a clear leaves no call on a channel adrift, whatever it does to the whole walk
pub clear_drifts : (i : Interface) (n nr : ℕ) (x : Side) (k len : ℕ) (os : List ℕ) → is_permanent i n ≡ false → (c w : Channel) (b : Bool) (g : GapChannel) (f : Drifts i c b g)
    → ((d : Channel) (u : ℕ) → packet_fault i n d (row_at nr x k kind.TheVariants.Clear len os) ≡ Some u → Drifts i w b (adrift_call_at b f.hidden f.last f.channel)) → FollowsCall i w b (gap_channel_step i n g (row_at nr x k kind.TheVariants.Clear len os))
clear_drifts i n nr x k len os perm c w b g f faulty =
    drifted i w b (gap_channel_step i n g (row_at nr x k kind.TheVariants.Clear len os))
    (by_drifts (DriftsBy i w b) i n (row_at nr x k kind.TheVariants.Clear len os) c b g f (adrift_is (DriftsBy i w b) i n nr x k kind.TheVariants.Clear len os perm b f.hidden f.last d (λ u e. (refl, faulty d u e)) (at x)))
  where
    d : Channel
    d = f.channel

    at : (x : Side) → DriftsBy i w b (adrift_step_by Clears i n (row_at nr x k kind.TheVariants.Clear len os) (drifts_with f.hidden f.last) (adrift_call_at b f.hidden f.last f.channel))
    at T = clears i w b f.hidden f.last how.TheVariants.T d d.opening f.tidy
    at N = clears i w b f.hidden f.last how.TheVariants.N d d.opening f.tidy

clear_row : (i : Interface) (n nr : ℕ) (x : Side) (k len : ℕ) (os : List ℕ) → is_permanent i n ≡ false → (ch : Channel) (s : PState) → IsCalm i (waiting ch s)
    → silent (plain_step i n (row_at nr x k kind.TheVariants.Clear len os) (waiting ch s)).reported ≡ true → CallStep i n (row_at nr x k kind.TheVariants.Clear len os) (waiting ch s)
clear_row i n nr x k len os perm ch s calm q = at x s calm q
  where
    to : (x : Side) (s : PState) (t : StateName) (w : Channel) → (IsCalm i (entering t false (waiting ch s)) → IsCalm i w) → is_usual (state_named t) ≡ true → IsCalm i (waiting ch s)
        → plain_step i n (row_at nr x k kind.TheVariants.Clear len os) (waiting ch s) ≡ verdict_step i (setup_name s) (row_at nr x k kind.TheVariants.Clear len os) (verdict (judged_at (setup_name s) (Move t)) (packet_fault i n (waiting ch s) (row_at nr x k kind.TheVariants.Clear len os))) (waiting ch s)
        → silent (plain_step i n (row_at nr x k kind.TheVariants.Clear len os) (waiting ch s)).reported ≡ true
        → (moving x Clear os t (waiting ch s)).after ≡ w → CallStep i n (row_at nr x k kind.TheVariants.Clear len os) (waiting ch s)
    to x s t w then u calm e q is =
        let m = moved i (row_at nr x k kind.TheVariants.Clear len os) (setup_name s) t (packet_fault i n (waiting ch s) (row_at nr x k kind.TheVariants.Clear len os)) (waiting ch s) (ap (λ (o : Outcome). silent o.reported) (sym e) ∙ q) in
        record {
          whole = w;
          after = ap (λ (o : Outcome). o.after) (plain_is i n (row_at nr x k kind.TheVariants.Clear len os) (waiting ch s) perm ∙ e ∙ m.1) ∙ is;
          calm = then (entered i (waiting ch s) t u calm);
          drifts = λ b g f. clear_drifts i n nr x k len os perm (waiting ch s) w b g f (λ d u h. some_none (sym h ∙ m.0));
          settled = λ b g f. never_settled i ch s b g f;
        }

    cleared : (x : Side) (s : PState) (t : StateName) (h : How) → is_usual (state_named t) ≡ true → IsCalm i (waiting ch s)
        → plain_step i n (row_at nr x k kind.TheVariants.Clear len os) (waiting ch s) ≡ verdict_step i (setup_name s) (row_at nr x k kind.TheVariants.Clear len os) (verdict (judged_at (setup_name s) (Move t)) (packet_fault i n (waiting ch s) (row_at nr x k kind.TheVariants.Clear len os))) (waiting ch s)
        → silent (plain_step i n (row_at nr x k kind.TheVariants.Clear len os) (waiting ch s)).reported ≡ true
        → (moving x Clear os t (waiting ch s)).after ≡ (ending h (entering t false (waiting ch s))).after → CallStep i n (row_at nr x k kind.TheVariants.Clear len os) (waiting ch s)
    cleared x s t h u calm e q is = to x s t (ending h (entering t false (waiting ch s))).after (λ c. ending_calm i h (entering t false (waiting ch s)) ch.opening c) u calm e q is

    stays : (x : Side) (s : PState) → IsCalm i (waiting ch s) → (plain_step i n (row_at nr x k kind.TheVariants.Clear len os) (waiting ch s)).after ≡ waiting ch s → CallStep i n (row_at nr x k kind.TheVariants.Clear len os) (waiting ch s)
    stays x s calm e = record {
      whole = waiting ch s;
      after = ap (λ (o : Outcome). o.after) (plain_is i n (row_at nr x k kind.TheVariants.Clear len os) (waiting ch s) perm) ∙ e;
      calm = calm;
      drifts = λ b g f. clear_drifts i n nr x k len os perm (waiting ch s) (waiting ch s) b g f (λ d u h. again i (waiting ch s) b g f);
      settled = λ b g f. never_settled i ch s b g f;
    }

    at : (x : Side) (s : PState) → IsCalm i (waiting ch s) → silent (plain_step i n (row_at nr x k kind.TheVariants.Clear len os) (waiting ch s)).reported ≡ true → CallStep i n (row_at nr x k kind.TheVariants.Clear len os) (waiting ch s)
    at T setup.TheVariants.P1 calm q = cleared T setup.TheVariants.P1 P6 how.TheVariants.T refl calm refl q refl
    at T setup.TheVariants.P2 calm q = cleared T setup.TheVariants.P2 P6 how.TheVariants.T refl calm refl q refl
    at T setup.TheVariants.P3 calm q = cleared T setup.TheVariants.P3 P6 how.TheVariants.T refl calm refl q refl
    at T setup.TheVariants.P5 calm q = cleared T setup.TheVariants.P5 P6 how.TheVariants.T refl calm refl q refl
    at T setup.TheVariants.P6 calm q = stays T setup.TheVariants.P6 calm refl
    at T setup.TheVariants.P7 calm q = to T setup.TheVariants.P7 P1 (entering P1 false (waiting ch setup.TheVariants.P7)) (λ c. c) refl calm refl q refl
    at N setup.TheVariants.P1 calm q = cleared N setup.TheVariants.P1 P7 how.TheVariants.N refl calm refl q refl
    at N setup.TheVariants.P2 calm q = cleared N setup.TheVariants.P2 P7 how.TheVariants.N refl calm refl q refl
    at N setup.TheVariants.P3 calm q = cleared N setup.TheVariants.P3 P7 how.TheVariants.N refl calm refl q refl
    at N setup.TheVariants.P5 calm q = cleared N setup.TheVariants.P5 P7 how.TheVariants.N refl calm refl q refl
    at N setup.TheVariants.P6 calm q = to N setup.TheVariants.P6 P1 (entering P1 false (waiting ch setup.TheVariants.P6)) (λ c. c) refl calm refl q refl
    at N setup.TheVariants.P7 calm q = stays N setup.TheVariants.P7 calm refl
    at x setup.TheVariants.P4 calm q = absurd (false≢true calm.usual)

-- a clear confirmation leaves no call, in both walks
confirm_row : (i : Interface) (n nr : ℕ) (x : Side) (k len : ℕ) (os : List ℕ) → is_permanent i n ≡ false → (ch : Channel) (s : PState) → IsCalm i (waiting ch s) → IsSound false (waiting ch s)
    → silent (plain_step i n (row_at nr x k kind.TheVariants.ClearConfirm len os) (waiting ch s)).reported ≡ true → CallStep i n (row_at nr x k kind.TheVariants.ClearConfirm len os) (waiting ch s)
confirm_row i n nr x k len os perm ch s calm sound q = at x s calm sound q
  where
    none : Channel
    none = channel_in (Setup setup.TheVariants.P1)

    leaves : (d : Channel) (o : Option Opening) → IsTidy (record d { opening = o }) → is_some o ≡ false → entering P1 false (record d { opening = o }) ≡ channel_in (Setup setup.TheVariants.P1)
    leaves d None t e = (λ j. record (channel_in (Setup setup.TheVariants.P1)) { accepting = (t refl).0 j; pad_messages = (t refl).1 j })
    leaves d (Some o) t e = absurd (false≢true (sym e))

    confirms : (b h : Bool) (ls : Sides (Option LastData)) (d : Channel) (o : Option Opening) → IsTidy (record d { opening = o })
        → FollowsCall i (channel_in (Setup setup.TheVariants.P1)) b (with_certainty (adrift_call_at b h ls (record d { opening = o })) (confirmed_clear b NoIndication) (ending how.TheVariants.Gap (entering P1 false (record d { opening = o }))))
    confirms true h ls d o t = drifted i none true (with_certainty (adrift_call_at true h ls (record d { opening = o })) (drifting NoIndication false) (ending how.TheVariants.Gap (entering P1 false (record d { opening = o })))) (clears i none true h ls how.TheVariants.Gap d o t)
    confirms false h ls d None t = (refl, SameCall (ap (λ c. record { channel = c; restarting = false; certainty = Certain }) (leaves d None t refl)))
    confirms false h ls d (Some o) t = (refl, SameCall refl)

    row : (x : Side) (s : PState) → (plain_step i n (row_at nr x k kind.TheVariants.ClearConfirm len os) (waiting ch s)).after ≡ channel_in (Setup setup.TheVariants.P1) → CallStep i n (row_at nr x k kind.TheVariants.ClearConfirm len os) (waiting ch s)
    row x s e = record {
      whole = none;
      after = ap (λ (o : Outcome). o.after) (plain_is i n (row_at nr x k kind.TheVariants.ClearConfirm len os) (waiting ch s) perm) ∙ e;
      calm = record { owes = refl; usual = refl; tidy = λ e. (refl, refl); granted = record { opened = tt; accepted = tt }; ordered = idle_ordered i transfer.TheVariants.D1 };
      drifts = λ b g f. by_drifts (FollowsCall i none b) i n (row_at nr x k kind.TheVariants.ClearConfirm len os) (waiting ch s) b g f
          (adrift_is (FollowsCall i none b) i n nr x k kind.TheVariants.ClearConfirm len os perm b f.hidden f.last f.channel (λ u h. some_none (sym h))
          (subst (λ w. FollowsCall i none b (with_certainty (adrift_call_at b f.hidden f.last f.channel) (confirmed_clear b w) (ending how.TheVariants.Gap (entering P1 false f.channel)))) (sym (confirm_owes x)) (confirms b f.hidden f.last f.channel f.channel.opening f.tidy)));
      settled = λ b g f. never_settled i ch s b g f;
    }

    at : (x : Side) (s : PState) → IsCalm i (waiting ch s) → IsSound false (waiting ch s) → silent (plain_step i n (row_at nr x k kind.TheVariants.ClearConfirm len os) (waiting ch s)).reported ≡ true → CallStep i n (row_at nr x k kind.TheVariants.ClearConfirm len os) (waiting ch s)
    at T setup.TheVariants.P7 calm sound q = row T setup.TheVariants.P7 (leaves ch ch.opening calm.tidy sound.held)
    at N setup.TheVariants.P6 calm sound q = row N setup.TheVariants.P6 (leaves ch ch.opening calm.tidy sound.held)
    at x s calm sound q = absurd (false≢true q)

pub waiting_row : (i : Interface) (n nr : ℕ) (x : Side) (k : ℕ) (p : PacketKind) (len : ℕ) (os : List ℕ) → is_permanent i n ≡ false → is_read i (packet.TheVariants.Channel k p) len ≡ true → (ch : Channel) (s : PState) → IsCalm i (waiting ch s) → IsSound false (waiting ch s)
    → silent (plain_step i n (row_at nr x k p len os) (waiting ch s)).reported ≡ true → CallStep i n (row_at nr x k p len os) (waiting ch s)
waiting_row i n nr x k p len os perm whole ch s calm sound q = at p whole q
  where
    Goal : PacketKind → Type 0
    Goal p = is_read i (packet.TheVariants.Channel k p) len ≡ true → silent (plain_step i n (row_at nr x k p len os) (waiting ch s)).reported ≡ true → CallStep i n (row_at nr x k p len os) (waiting ch s)

    below : (p : PacketKind) → is_clear_confirm p ≡ false → is_below (kind_class p) ≡ true → Goal p
    below p a b w q = below_ignored i n nr x k p len os perm w a b ch s calm q

    at : (p : PacketKind) → Goal p
    at kind.TheVariants.Call w q = call_row i n nr x k len os perm ch s calm q
    at kind.TheVariants.Accepted w q = accept_row i n nr x k len os perm ch s calm sound q
    at kind.TheVariants.Clear w q = clear_row i n nr x k len os perm ch s calm q
    at kind.TheVariants.ClearConfirm w q = confirm_row i n nr x k len os perm ch s calm sound q
    at kind.TheVariants.TwoOctets w q = below kind.TheVariants.TwoOctets refl refl w q
    at kind.TheVariants.RestartHere w q = below kind.TheVariants.RestartHere refl refl w q
    at kind.TheVariants.Interrupt w q = below kind.TheVariants.Interrupt refl refl w q
    at kind.TheVariants.InterruptConfirm w q = below kind.TheVariants.InterruptConfirm refl refl w q
    at kind.TheVariants.Reset w q = below kind.TheVariants.Reset refl refl w q
    at kind.TheVariants.ResetConfirm w q = below kind.TheVariants.ResetConfirm refl refl w q
    at (kind.TheVariants.Data o) w q = below (kind.TheVariants.Data o) refl refl w q
    at (kind.TheVariants.Rr o) w q = below (kind.TheVariants.Rr o) refl refl w q
    at (kind.TheVariants.Rnr o) w q = below (kind.TheVariants.Rnr o) refl refl w q
    at kind.TheVariants.Rej w q = below kind.TheVariants.Rej refl refl w q
    at kind.TheVariants.Undefined w q = below kind.TheVariants.Undefined refl refl w q
    at kind.TheVariants.Gap w q = absurd (false≢true w)
