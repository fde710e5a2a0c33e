-- What a packet does to a channel for calls while its call is up, and to each channel that fits it.
use Rattle.std.proofs.Common.{◌≡◌, ◌⊎◌, inl, inr, ◌<◌, ◌==◌, ℕ, Bool, true, false, refl, sym, ◌∙◌, ap, subst, List, [], ◌∷◌, Option, Some, None}
use Rattle.std.specs.Prelude.{not, ◌&&◌, ◌||◌, is_some}
use Rattle.std.proofs.lemmas.Bool.{false≢true}
use Rattle.line_model.specs.declared.event.How.{How}
use Rattle.line_model.specs.declared.event.How as how
use Rattle.line_model.specs.declared.event.What.{What}
use Rattle.line_model.specs.declared.gap.Owed.TheVariants.{NoIndication}
use Rattle.line_model.specs.declared.interface.Interface.{Interface}
use Rattle.line_model.specs.declared.diagnostic.TheConstants.{PACKET_TOO_SHORT}
use Rattle.line_model.specs.declared.packet.Class.TheVariants.{Clear, Data, Rr, Rnr}
use Rattle.line_model.specs.declared.packet.DataHeader.{DataHeader}
use Rattle.line_model.specs.declared.packet.Packet as packet
use Rattle.line_model.specs.declared.packet.PacketKind.{PacketKind}
use Rattle.line_model.specs.declared.packet.PacketKind as kind
use Rattle.line_model.specs.declared.state.Side.{Side}
use Rattle.line_model.specs.declared.state.Side.TheVariants.{T, N}
use Rattle.line_model.specs.declared.state.DState.{DState}
use Rattle.line_model.specs.declared.state.DState as transfer
use Rattle.line_model.specs.declared.state.ChannelState.TheVariants.{Transfer}
use Rattle.line_model.specs.declared.state.StateName.{StateName}
use Rattle.line_model.specs.declared.state.StateName.TheVariants.{P4, P6, P7}
use Rattle.line_model.specs.declared.table.Action.TheVariants.{Move}
use Rattle.line_model.specs.basics.Records.{Item}
use Rattle.line_model.specs.packets.Classes.{kind_class}
use Rattle.line_model.specs.packets.Formats.{packet_fault}
use Rattle.line_model.specs.packets.Says.{header_in}
use Rattle.line_model.specs.channels.Channels.{AcceptedData, Channel, Opening, PadMessage, Sides, channel_in, is_permanent, of_side, other}
use Rattle.line_model.specs.channels.ChannelStep.{Judged, Outcome, channel_step, ending, entering, judged, moving, report_nothing, state_named, transfer_name, verdict, verdict_step}
use Rattle.line_model.specs.channels.FlowControl.{sent}
use Rattle.line_model.specs.channels.Gaps.{Certainty, Doubts, GapChannel, of_both}
use Rattle.line_model.specs.channels.Gaps.Certainty.{Certain, Settled}
use Rattle.line_model.specs.channels.GapStep.{doubts_in, gap_channel_step, is_in_d1, largest_size, receive_of, settled_outcome, settled_verdict}
use Rattle.gap_laws.proofs.Read.{is_read}
use Rattle.gap_laws.proofs.Circuits.{some_none, Circuit, IsOrdered, Terms, channel_with, circuit, idle, silent, size_of, with_message, with_data, with_receive}
use Rattle.line_model.specs.channels.ChannelStep.{accepted_of}
use Rattle.line_model.specs.channels.GapStep.{may_be_begun, message_in_doubt}
use Rattle.gap_laws.proofs.Settled.{SideFits, completed_circuit, after_data, data_settled, doubts_then, said_in_doubt, receive_settled, taken_with}
use Rattle.gap_laws.proofs.Fits.{LastFits, Takes, settled_with}
use Rattle.gap_laws.proofs.Settling.{settles_by_data, settles_by_receive}
use Rattle.gap_laws.proofs.Entries.{cut_data, cut_loud, cut_rnr, cut_rr, flow_class, is_below, is_flow, is_moving, judged_at, lawful_is, on_both, quiet, quiet_entry, row_at}
use Rattle.gap_laws.proofs.DataSteps.{DataStep, data_seen, data_settles, data_whole, size_allows}
use Rattle.gap_laws.proofs.ReceiveSteps.{IsReceive, ReceiveStep, receive_seen, receive_settles, receive_whole, rnr_receives, rr_receives}
use Rattle.gap_laws.proofs.InterruptSteps.{IsTurn, TurnStep, confirmation_turns, interrupt_turns, turn_seen, turn_settles, turn_whole}
use Rattle.gap_laws.proofs.QuietSteps.{Waiting, quiet_settles, quiet_takes, waiting_whole}
use Rattle.gap_laws.proofs.ResetSteps.{IsReset, ResetStep, confirmation_resets, idle_ordered, reset_resets, reset_settles, reset_whole}
use Rattle.gap_laws.proofs.CircuitRows.{d2_apart, d3_apart}
use Rattle.gap_laws.proofs.Granted.{Agrees, allows, size_below, window_below}
use Rattle.gap_laws.proofs.Calls.{Carried, Keeps, Drifts, DriftsBy, FollowsCall, IsCalm, SameCall, SettledCall, SettledFits, SettledIn, adrift_call_at, adrift_is, again, by_drifts, carries, circuit_in, drifted, is_usual, resets, terms_of}
use Rattle.std.proofs.Common.{arith}
use Rattle.std.specs.Prelude.{map, filter, length}
use Rattle.line_model.specs.declared.gap.AdriftEntry.TheVariants.{Carries, ConfirmsReset, DoesNothing, Resets}
use Rattle.line_model.specs.basics.Octets.{bits}
use Rattle.line_model.specs.observer.Report.{is_finding}
use Rattle.line_model.specs.channels.Channels.{with_side}
use Rattle.line_model.specs.channels.Pad.{Pair, asked, events_of_set, events_of_settings, form_fault, indicated, indicated_by, is_indication, is_parameter, is_set, standard_pairs}
use Rattle.line_model.specs.channels.GapStep.{adrift_entry, adrift_fault, adrift_reset, adrift_step_by, settings_by_form, settings_in_doubt}
use Rattle.gap_laws.proofs.Circuits.{window_of}
use Rattle.gap_laws.proofs.Numbers.{FitsDirection}
use Rattle.gap_laws.proofs.Settled.{doubts_with}
use Rattle.gap_laws.proofs.Granted.{GrantedBy, packet_in}
use Rattle.gap_laws.proofs.Calls.{AdriftBy, CarriedRow, drifts_with, followed}
use Rattle.gap_laws.proofs.CallSetup.{CallStep, clear_drifts, moved, plain_is, plain_step, waits_carried}

-- ---- settled channels

-- settings are no findings
settings_silent : (x : Side) (m : Option (List ℕ)) → silent (settings_in_doubt x m) ≡ true
settings_silent x None = refl
settings_silent x (Some m) = by (is_some (form_fault m))
  where
    all : (f : Pair → What) → ((p : Pair) → is_finding (f p) ≡ false) → (ps : List Pair) → silent (map f ps) ≡ true
    all f h [] = refl
    all f h (p ∷ ps) = ap (λ b. not b && silent (map f ps)) (h p) ∙ all f h ps

    said : (b : Bool) (p : Pair) → is_finding (indicated_by b x p) ≡ false
    said true p = refl
    said false p = refl

    of_set : (b : Bool) → silent (events_of_set b x m) ≡ true
    of_set true = refl
    of_set false = all (asked (other x)) (λ p. refl) (filter (λ (p : Pair). is_parameter p.reference) (standard_pairs m))

    of_settings : (a b : Bool) → silent (events_of_settings a b x m) ≡ true
    of_settings true b = all (indicated x) (λ p. said (bits 8 8 p.reference == 1) p) (filter (λ (p : Pair). is_parameter (bits 7 1 p.reference)) (standard_pairs m))
    of_settings false true = of_set (length m == 1)
    of_settings false false = refl

    by : (b : Bool) → silent (settings_by_form b x m) ≡ true
    by true = refl
    by false = of_settings (is_indication m) (is_set m)

said_silent : (i : Interface) (t : Terms) (b : Doubts) (r : Item) (h : DataHeader) (g : Circuit) → silent (said_in_doubt i t b r h g) ≡ true
said_silent i t b r h g =
    let d : Circuit = completed_circuit i.modulus b r.side h g in
    settings_silent r.side (message_in_doubt b.hidden (of_side r.side b.sequences) (size_of i t r.side) (accepted_of i r h) (may_be_begun b.hidden (size_of i t r.side) r.side d.accepted) (channel_with t d))

outcome_is : (t : Terms) → is_some t.opening ≡ true → (b : Bool) (d e : Doubts) (g z : Circuit) (ws : List What)
    → settled_outcome (settled_with t b d g) (taken_with t ws e z) ≡ record { reported = ws; after = settled_with t b (doubts_in (Transfer z.state) e) z }
outcome_is t held b d e g z ws =
    ap (λ o. record { reported = ws; after = record { channel = channel_with t z; restarting = b; certainty = elim (o || is_in_d1 (Transfer z.state)) as (λ _. Certainty) [ true ↦ Settled (doubts_in (Transfer z.state) e) | false ↦ Certain ] } }) held

hidden_in : (d : DState) (e : Doubts) → e.hidden ≡ (doubts_in (Transfer d) e).hidden
hidden_in transfer.TheVariants.D1 e = refl
hidden_in transfer.TheVariants.D2 e = refl
hidden_in transfer.TheVariants.D3 e = refl

-- a settled channel stays so
still_settled : (i : Interface) (w : Channel) (t : Terms) (b : Bool) (d e : Doubts) (g z : Circuit) (ws : List What) → silent ws ≡ true → w.state ≡ Transfer z.state → is_some t.opening ≡ true → Agrees i e.hidden (terms_of w) t
    → SettledIn z.state i w (doubts_in (Transfer z.state) e) z → FollowsCall i w b (settled_outcome (settled_with t b d g) (taken_with t ws e z))
still_settled i w t b d e g z ws quiet state held agrees sides =
    subst (FollowsCall i w b) (sym (outcome_is t held b d e g z ws))
    (quiet, SettledCall (record { terms = t; doubts = doubts_in (Transfer z.state) e; settled = z; is = refl; state = state; held = held; agrees = subst (λ u. Agrees i u (terms_of w) t) (hidden_in z.state e) agrees; sides = sides }))

-- by its parts
by_settled : (i : Interface) (n : ℕ) (r : Item) (c w : Channel) (b : Bool) (g : GapChannel) (f : SettledFits i c b g) (e : DState) → c.state ≡ Transfer e
    → (SettledIn e i c f.doubts (circuit e f.settled.accepted f.settled.acknowledged f.settled.unconfirmed)
    → FollowsCall i w b (gap_channel_step i n (settled_with f.terms b f.doubts (circuit e f.settled.accepted f.settled.acknowledged f.settled.unconfirmed)) r))
    → FollowsCall i w b (gap_channel_step i n g r)
by_settled i n r c w b g f e h k =
    subst (λ g. FollowsCall i w b (gap_channel_step i n g r)) (sym f.is)
    (subst (λ d. SettledIn d i c f.doubts (circuit d f.settled.accepted f.settled.acknowledged f.settled.unconfirmed) → FollowsCall i w b (gap_channel_step i n (settled_with f.terms b f.doubts (circuit d f.settled.accepted f.settled.acknowledged f.settled.unconfirmed)) r))
    (state_of (sym h ∙ f.state)) k f.sides)
  where
    state_of : {d e : DState} → Transfer d ≡ Transfer e → d ≡ e
    state_of e = cc

keeps_sides : (i : Interface) (c : Channel) (d : DState) (b : Doubts) (z : Circuit) → SettledIn d i c b z → SettledIn d i c (doubts_in (Transfer d) b) z
keeps_sides i c transfer.TheVariants.D1 b z s = s
keeps_sides i c transfer.TheVariants.D2 b z s = (s.0, refl)
keeps_sides i c transfer.TheVariants.D3 b z s = (s.0, refl)

neither : (y : Side) → of_side y (of_both false) ≡ false
neither T = refl
neither N = refl

-- what stays in doubt of a channel that enters a state
in_order : (i : Interface) (c : Channel) (d : DState) (b : Doubts) (z : Circuit) → SettledIn d i c b z → (y : Side) → of_side y b.sequences ≡ false → of_side y b.numbers ≡ false
in_order i c transfer.TheVariants.D1 b z s y = (s y).in_order
in_order i c transfer.TheVariants.D2 b z s y = λ e. ap (λ (b : Doubts). of_side y b.numbers) s.1 ∙ neither y
in_order i c transfer.TheVariants.D3 b z s y = λ e. ap (λ (b : Doubts). of_side y b.numbers) s.1 ∙ neither y

-- the sides of a channel that enters a state
entered_sides : (i : Interface) (k : Terms) (b : Doubts) → ((y : Side) → of_side y b.sequences ≡ false → of_side y b.numbers ≡ false) → (d : DState) → SettledIn d i (channel_with k (idle d)) (doubts_in (Transfer d) b) (idle d)
entered_sides i k b o transfer.TheVariants.D1 = λ y. record { numbers = numbers y; interrupts = λ e. refl; sequences = λ u e. refl; in_order = o y }
  where
    numbers : (y : Side) → FitsDirection i.modulus (of_side y b.numbers) (sent y []) (of_side y (record { of_t = 0; of_n = 0 })) (sent y []) (of_side y (record { of_t = 0; of_n = 0 }))
    numbers T = record { edge = refl; ordered = omega arith; within = (idle_ordered i transfer.TheVariants.D1 T).within; ordered_too = omega arith; known = λ e. refl; unknown = λ e. refl }
    numbers N = record { edge = refl; ordered = omega arith; within = (idle_ordered i transfer.TheVariants.D1 N).within; ordered_too = omega arith; known = λ e. refl; unknown = λ e. refl }
entered_sides i k b o transfer.TheVariants.D2 = (refl, refl)
entered_sides i k b o transfer.TheVariants.D3 = (refl, refl)

agrees_with_message : (i : Interface) (u : Bool) (k t : Terms) (m : List PadMessage) → Agrees i u k t → Agrees i u (record k { pad_messages = m }) t
agrees_with_message i true k t m e = e
agrees_with_message i false k t m e = e

-- ---- packets while a call is up

-- the packets of call set-up that no call in data transfer has
abbrev is_set_up : PacketKind → Bool
is_set_up kind.TheVariants.Call = true
is_set_up kind.TheVariants.Accepted = true
is_set_up kind.TheVariants.ClearConfirm = true
is_set_up p = false

up_calm : (i : Interface) (k t : Terms) (q w : Circuit) → IsCalm i (channel_with k q) → is_some k.opening ≡ true → t.opening ≡ k.opening → t.accepting ≡ k.accepting → ((y : Side) → IsOrdered i.modulus w y) → IsCalm i (channel_with t w)
up_calm i k t q w s held o a ordered = record {
  owes = refl;
  usual = usual w.state;
  tidy = λ e. absurd (false≢true (sym e ∙ ap is_some o ∙ held));
  granted = record { opened = subst (λ o. GrantedBy i (packet_in o)) (sym o) s.granted.opened; accepted = subst (GrantedBy i) (sym a) s.granted.accepted };
  ordered = λ y. record { ordered = (ordered y).ordered; within = (ordered y).within };
}
  where
    usual : (d : DState) → is_usual (Transfer d) ≡ true
    usual d = refl

call_silent : (i : Interface) (n : ℕ) (r : Item) (c : Channel) → is_permanent i n ≡ false → silent (plain_step i n r c).reported ≡ true → silent (channel_step i n c r).reported ≡ true
call_silent i n r c perm q = ap (λ (o : Outcome). silent o.reported) (plain_is i n r c perm) ∙ q

-- packets that do nothing
quiet_row : (i : Interface) (n nr : ℕ) (x : Side) (j : ℕ) (p : PacketKind) (len : ℕ) (os : List ℕ) → is_permanent i n ≡ false → is_below (kind_class p) ≡ true → is_moving (kind_class p) ≡ false → is_flow (kind_class p) ≡ false → adrift_entry false (kind_class p) ≡ DoesNothing
    → (k : Terms) (q : Circuit) → IsCalm i (channel_with k q) → silent (plain_step i n (row_at nr x j p len os) (channel_with k q)).reported ≡ true → CallStep i n (row_at nr x j p len os) (channel_with k q)
quiet_row i n nr x j p len os perm below moving flow entry k q calm s =
    let t : Takes i k n r q q = quiet_takes i k n r q second (quiet_entry q.state x (kind_class p) moving flow) (λ y. record { ordered = (calm.ordered y).ordered; within = (calm.ordered y).within }) (call_silent i n r c perm s) in
    record {
      whole = c;
      after = t.after;
      calm = calm;
      drifts = λ b g f. drifted i c b (gap_channel_step i n g r) (by_drifts (DriftsBy i c b) i n r c b g f
          (adrift_is (DriftsBy i c b) i n nr x j p len os perm b f.hidden f.last f.channel (λ u e. (refl, again i c b g f))
          (subst (λ e. DriftsBy i c b (adrift_step_by e i n r (drifts_with f.hidden f.last) (adrift_call_at b f.hidden f.last f.channel))) (sym entry) (refl, again i c b g f))));
      settled = λ b g f. by_settled i n r c c b g f q.state refl (λ sides.
          let z : Circuit = circuit q.state f.settled.accepted f.settled.acknowledged f.settled.unconfirmed in
          subst (FollowsCall i c b) (sym (quiet_settles i k f.terms n r q z second (quiet_entry q.state x (kind_class p) moving flow) (call_silent i n r c perm s) b f.doubts refl))
          (still_settled i c f.terms b f.doubts f.doubts z z [] refl refl f.held f.agrees (keeps_sides i c q.state f.doubts z sides)));
    }
  where
    r : Item
    r = row_at nr x j p len os

    c : Channel
    c = channel_with k q

    second : (is_below (kind_class p) || is_permanent i n) ≡ true
    second = on_both (kind_class p) (is_permanent i n) below

-- packets of data transfer that a side waits out while it resets
waited_row : (i : Interface) (n nr : ℕ) (x : Side) (j : ℕ) (p : PacketKind) (len : ℕ) (os : List ℕ) → is_permanent i n ≡ false → is_below (kind_class p) ≡ true → is_flow (kind_class p) ≡ true → adrift_entry false (kind_class p) ≡ Carries
    → (k : Terms) (d : DState) (hs : List AcceptedData) (v : Sides ℕ) (u : Sides Bool) → (d ≡ transfer.TheVariants.D1 → ⊥) → IsCalm i (channel_with k (circuit d hs v u))
    → silent (plain_step i n (row_at nr x j p len os) (channel_with k (circuit d hs v u))).reported ≡ true → CallStep i n (row_at nr x j p len os) (channel_with k (circuit d hs v u))
waited_row i n nr x j p len os perm below flow entry k d hs v u apart calm s =
    let t : Waiting i k n r q = waiting_whole i k n r d hs v u second flow (λ y. record { ordered = (calm.ordered y).ordered; within = (calm.ordered y).within }) (call_silent i n r c perm s) apart in
    record {
      whole = c;
      after = t.takes.after;
      calm = calm;
      drifts = λ b g f. followed i c b (gap_channel_step i n g r) (by_drifts (AdriftBy i c b) i n r c b g f
          (adrift_is (AdriftBy i c b) i n nr x j p len os perm b f.hidden f.last f.channel (λ u e. (refl, inl (again i c b g f)))
          (subst (λ e. AdriftBy i c b (adrift_step_by e i n r (drifts_with f.hidden f.last) (adrift_call_at b f.hidden f.last f.channel))) (sym entry)
          (carries i n r c c (waits_carried i x (header_in r.packet) (receive_of r) c q t.waits (λ ls s. s) (λ ls s. s)) b f.hidden f.last perm f.channel f.channel.opening f.channel.state f.tidy f.seen f.empty f.rests f.known))));
      settled = λ b g f. by_settled i n r c c b g f d refl (λ sides.
          let z : Circuit = circuit d f.settled.accepted f.settled.acknowledged f.settled.unconfirmed in
          subst (FollowsCall i c b) (sym (quiet_settles i k f.terms n r q z second t.still (call_silent i n r c perm s) b f.doubts refl))
          (still_settled i c f.terms b f.doubts f.doubts z z [] refl refl f.held f.agrees (keeps_sides i c d f.doubts z sides)));
    }
  where
    r : Item
    r = row_at nr x j p len os

    q : Circuit
    q = circuit d hs v u

    c : Channel
    c = channel_with k (circuit d hs v u)

    second : (is_below (kind_class p) || is_permanent i n) ≡ true
    second = on_both (kind_class p) (is_permanent i n) below

-- a packet of data transfer in d1, on a channel adrift
carried_row : (i : Interface) (n nr : ℕ) (x : Side) (j : ℕ) (p : PacketKind) (len : ℕ) (os : List ℕ) → is_permanent i n ≡ false → adrift_entry false (kind_class p) ≡ Carries
    → (c w : Channel) → CarriedRow i (row_at nr x j p len os) c w → ((d : Channel) (u : ℕ) → adrift_fault i n d (row_at nr x j p len os) ≡ Some u → ⊥)
    → (b : Bool) (g : GapChannel) → Drifts i c b g → FollowsCall i w b (gap_channel_step i n g (row_at nr x j p len os))
carried_row i n nr x j p len os perm entry c w t sound b g f =
    followed i w b (gap_channel_step i n g r) (by_drifts (AdriftBy i w b) i n r c b g f
    (adrift_is (AdriftBy i w b) i n nr x j p len os perm b f.hidden f.last f.channel (λ u e. absurd (sound f.channel u e))
    (subst (λ e. AdriftBy i w b (adrift_step_by e i n r (drifts_with f.hidden f.last) (adrift_call_at b f.hidden f.last f.channel))) (sym entry)
    (carries i n r c w t b f.hidden f.last perm f.channel f.channel.opening f.channel.state f.tidy f.seen f.empty f.rests f.known))))
  where
    r : Item
    r = row_at nr x j p len os

data_row : (i : Interface) (n nr : ℕ) (x : Side) (j : ℕ) (h : DataHeader) (len : ℕ) (os : List ℕ) → is_permanent i n ≡ false → (k : Terms) (hs : List AcceptedData) (v : Sides ℕ) (u : Sides Bool) → IsCalm i (channel_with k (circuit transfer.TheVariants.D1 hs v u)) → is_some k.opening ≡ true
    → silent (plain_step i n (row_at nr x j (kind.TheVariants.Data (Some h)) len os) (channel_with k (circuit transfer.TheVariants.D1 hs v u))).reported ≡ true → CallStep i n (row_at nr x j (kind.TheVariants.Data (Some h)) len os) (channel_with k (circuit transfer.TheVariants.D1 hs v u))
data_row i n nr x j h len os perm k hs v u calm held s = record {
  whole = w;
  after = t.after;
  calm = up_calm i k (with_message i k r h q) q (with_data i r h t.taken.upto q) calm held refl refl t.ordered;
  drifts = carried_row i n nr x j (kind.TheVariants.Data (Some h)) len os perm refl c w
      (record {
        keeps = record { transfer = λ e. refl; opening = refl; accepting = refl };
        seen = λ ls seen. data_seen i k r h (Some h.receive) hs v u ls seen t.taken;
        settles = λ ls seen l is same.
            let last : LastFits i.modulus q (other x) (Some l) = subst (λ l. LastFits i.modulus q (other x) l) is (seen (other x)) in
            (refl, λ u. settles_by_data i k u r h q l (lawful_is i).eight below calm.ordered last same t.taken);
      })
      (λ d u e. some_none (sym e ∙ size_allows i (size_of i k x) largest_size len (size_below i k calm.granted x) t.no_fault));
  settled = λ b g f. by_settled i n r c w b g f transfer.TheVariants.D1 refl (λ sides.
      let allow = allows i f.doubts.hidden k f.terms calm.granted f.agrees x in
      let z : Circuit = circuit transfer.TheVariants.D1 f.settled.accepted f.settled.acknowledged f.settled.unconfirmed in
      let ds = data_settled i k f.terms f.doubts.hidden f.doubts.numbers f.doubts.interrupts f.doubts.sequences r h q z (lawful_is i).eight allow sides t.taken in
      subst (FollowsCall i w b)
      (sym (data_settles i k f.terms n nr x j h len os hs v u t b f.doubts.hidden f.doubts.numbers f.doubts.interrupts f.doubts.sequences f.settled.accepted f.settled.acknowledged f.settled.unconfirmed allow ds))
      (still_settled i w f.terms b f.doubts (doubts_then i f.terms f.doubts r h) z (after_data i f.doubts r h ds.upto z) (said_in_doubt i f.terms f.doubts r h z) (said_silent i f.terms f.doubts r h z) refl f.held
      (agrees_with_message i f.doubts.hidden k f.terms (with_message i k r h q).pad_messages f.agrees) ds.fits));
}
  where
    r : Item
    r = row_at nr x j (kind.TheVariants.Data (Some h)) len os

    q : Circuit
    q = circuit transfer.TheVariants.D1 hs v u

    c : Channel
    c = channel_with k (circuit transfer.TheVariants.D1 hs v u)

    below : window_of i k x < i.modulus
    below = window_below i k calm.granted x

    t : DataStep i k n (row_at nr x j (kind.TheVariants.Data (Some h)) len os) h (circuit transfer.TheVariants.D1 hs v u)
    t = data_whole i k n nr x j h len os hs v u below calm.ordered (call_silent i n r c perm s)

    w : Channel
    w = channel_with (with_message i k r h q) (with_data i r h t.taken.upto q)

receive_row : (i : Interface) (n nr : ℕ) (x : Side) (j : ℕ) (p : PacketKind) (m len : ℕ) (os : List ℕ) → is_permanent i n ≡ false → IsReceive i n (row_at nr x j p len os) m → adrift_entry false (kind_class p) ≡ Carries
    → ((c w : Channel) → Carried i x None (Some m) c w → CarriedRow i (row_at nr x j p len os) c w) → ((d e : Channel) → adrift_fault i n d (row_at nr x j p len os) ≡ packet_fault i n e (row_at nr x j p len os))
    → (k : Terms) (hs : List AcceptedData) (v : Sides ℕ) (u : Sides Bool) → IsCalm i (channel_with k (circuit transfer.TheVariants.D1 hs v u)) → is_some k.opening ≡ true
    → silent (plain_step i n (row_at nr x j p len os) (channel_with k (circuit transfer.TheVariants.D1 hs v u))).reported ≡ true → CallStep i n (row_at nr x j p len os) (channel_with k (circuit transfer.TheVariants.D1 hs v u))
receive_row i n nr x j p m len os perm is entry carried fault k hs v u calm held s = record {
  whole = w;
  after = t.takes.after;
  calm = up_calm i k k q (with_receive x t.taken.upto q) calm held refl refl t.takes.ordered;
  drifts = carried_row i n nr x j p len os perm entry c w
      (carried c w (record {
        keeps = record { transfer = λ e. refl; opening = refl; accepting = refl };
        seen = λ ls seen. receive_seen k i.modulus x m hs v u ls seen t.taken;
        settles = λ ls seen l is same.
            let last : LastFits i.modulus q (other x) (Some l) = subst (λ l. LastFits i.modulus q (other x) l) is (seen (other x)) in
            (refl, λ u. settles_by_receive i k u x m q l (lawful_is i).eight calm.ordered last same t.taken);
      }))
      (λ d u e. some_none (sym e ∙ fault d c ∙ t.no_fault));
  settled = λ b g f. by_settled i n r c w b g f transfer.TheVariants.D1 refl (λ sides.
      let z : Circuit = circuit transfer.TheVariants.D1 f.settled.accepted f.settled.acknowledged f.settled.unconfirmed in
      let rs = receive_settled i k f.terms f.doubts.hidden f.doubts.numbers f.doubts.interrupts f.doubts.sequences x m q z (lawful_is i).eight sides t.taken in
      let y : Circuit = circuit transfer.TheVariants.D1 rs.settled.accepted rs.settled.acknowledged rs.settled.unconfirmed in
      let as_d1 : rs.settled ≡ y = ap (λ d. circuit d rs.settled.accepted rs.settled.acknowledged rs.settled.unconfirmed) rs.in_d1 in
      subst (FollowsCall i w b) (sym (receive_settles i k f.terms n r m is q t b f.doubts.hidden f.doubts.numbers f.doubts.interrupts f.doubts.sequences f.settled.accepted f.settled.acknowledged f.settled.unconfirmed rs))
      (subst (λ y. FollowsCall i w b (settled_outcome (settled_with f.terms b f.doubts z) (taken_with f.terms [] f.doubts y))) (sym as_d1)
      (still_settled i w f.terms b f.doubts f.doubts z y [] refl refl f.held f.agrees (subst (λ y. (x : Side) → SideFits i (size_of i k) f.doubts (circuit_in transfer.TheVariants.D1 w) y x) as_d1 rs.fits))));
}
  where
    r : Item
    r = row_at nr x j p len os

    q : Circuit
    q = circuit transfer.TheVariants.D1 hs v u

    c : Channel
    c = channel_with k (circuit transfer.TheVariants.D1 hs v u)

    t : ReceiveStep i k n (row_at nr x j p len os) m (circuit transfer.TheVariants.D1 hs v u)
    t = receive_whole i k n r m is hs v u calm.ordered (call_silent i n r c perm s)

    w : Channel
    w = channel_with k (with_receive x t.taken.upto q)

turn_row : (i : Interface) (n nr : ℕ) (x : Side) (j : ℕ) (p : PacketKind) (len : ℕ) (os : List ℕ) (y : Side) (d : Bool) → is_permanent i n ≡ false → IsTurn i n (row_at nr x j p len os) y d → adrift_entry false (kind_class p) ≡ Carries
    → ((c w : Channel) → Carried i x None None c w → CarriedRow i (row_at nr x j p len os) c w) → ((d e : Channel) → adrift_fault i n d (row_at nr x j p len os) ≡ packet_fault i n e (row_at nr x j p len os))
    → (k : Terms) (hs : List AcceptedData) (v : Sides ℕ) (u : Sides Bool) → IsCalm i (channel_with k (circuit transfer.TheVariants.D1 hs v u)) → is_some k.opening ≡ true
    → silent (plain_step i n (row_at nr x j p len os) (channel_with k (circuit transfer.TheVariants.D1 hs v u))).reported ≡ true → CallStep i n (row_at nr x j p len os) (channel_with k (circuit transfer.TheVariants.D1 hs v u))
turn_row i n nr x j p len os y d perm is entry carried fault k hs v u calm held s =
    let t : TurnStep i k n r y d q = turn_whole i k n r y d is hs v u calm.ordered (call_silent i n r c perm s) in
    record {
      whole = w;
      after = t.takes.after;
      calm = up_calm i k k q (circuit transfer.TheVariants.D1 hs v (with_side y d u)) calm held refl refl t.takes.ordered;
      drifts = carried_row i n nr x j p len os perm entry c w
          (carried c w (record { keeps = record { transfer = λ e. refl; opening = refl; accepting = refl }; seen = λ ls seen z. turn_seen i.modulus y d hs v u z (of_side z ls) (seen z); settles = λ ls seen. tt }))
          (λ e u h. some_none (sym h ∙ fault e c ∙ t.no_fault));
      settled = λ b g f. by_settled i n r c w b g f transfer.TheVariants.D1 refl (λ sides.
          let z : Circuit = circuit transfer.TheVariants.D1 f.settled.accepted f.settled.acknowledged f.settled.unconfirmed in
          let ts = turn_settles i k f.terms n r y d is hs v u t b f.doubts.hidden f.doubts.numbers f.doubts.interrupts f.doubts.sequences f.settled.accepted f.settled.acknowledged f.settled.unconfirmed sides in
          subst (FollowsCall i w b) (sym ts.is)
          (still_settled i w f.terms b f.doubts (doubts_with f.doubts.hidden f.doubts.numbers (with_side y false f.doubts.interrupts) f.doubts.sequences) z (circuit transfer.TheVariants.D1 ts.accepted ts.acknowledged ts.unconfirmed) [] refl refl f.held f.agrees ts.fits));
    }
  where
    r : Item
    r = row_at nr x j p len os

    q : Circuit
    q = circuit transfer.TheVariants.D1 hs v u

    c : Channel
    c = channel_with k (circuit transfer.TheVariants.D1 hs v u)

    w : Channel
    w = channel_with k (circuit transfer.TheVariants.D1 hs v (with_side y d u))

reset_row : (i : Interface) (n nr : ℕ) (x : Side) (j : ℕ) (p : PacketKind) (len : ℕ) (os : List ℕ) → is_permanent i n ≡ false → IsReset i n (row_at nr x j p len os)
    → ((d e : Channel) → adrift_fault i n d (row_at nr x j p len os) ≡ packet_fault i n e (row_at nr x j p len os))
    → ((c w : Channel) → Keeps c w → (b : Bool) (g : GapChannel) (f : Drifts i c b g) → DriftsBy i w b (adrift_step_by (adrift_entry false (kind_class p)) i n (row_at nr x j p len os) (drifts_with f.hidden f.last) (adrift_call_at b f.hidden f.last f.channel)))
    → (k : Terms) (q : Circuit) → IsCalm i (channel_with k q) → is_some k.opening ≡ true
    → silent (plain_step i n (row_at nr x j p len os) (channel_with k q)).reported ≡ true → CallStep i n (row_at nr x j p len os) (channel_with k q)
reset_row i n nr x j p len os perm is fault entry k q calm held s = record {
  whole = w;
  after = t.takes.after;
  calm = up_calm i k k q t.whole calm held refl refl t.takes.ordered;
  drifts = λ b g f. drifted i w b (gap_channel_step i n g r) (by_drifts (DriftsBy i w b) i n r c b g f
      (adrift_is (DriftsBy i w b) i n nr x j p len os perm b f.hidden f.last f.channel (λ u e. (refl, faulty b g f u e)) (entry c w (record { transfer = λ e. refl; opening = refl; accepting = refl }) b g f)));
  settled = λ b g f. by_settled i n r c w b g f q.state refl (λ sides.
      let z : Circuit = circuit q.state f.settled.accepted f.settled.acknowledged f.settled.unconfirmed in
      let rs = reset_settles i k f.terms n r is q t b f.doubts z refl in
      subst (FollowsCall i w b) (sym rs.is) (settles b f.doubts z f.terms f.held f.agrees sides rs.settled rs.turned));
}
  where
    r : Item
    r = row_at nr x j p len os

    c : Channel
    c = channel_with k q

    t : ResetStep i k n (row_at nr x j p len os) q
    t = reset_whole i k n r is q (λ y. record { ordered = (calm.ordered y).ordered; within = (calm.ordered y).within }) (call_silent i n r c perm s)

    w : Channel
    w = channel_with k t.whole

    faulty : (b : Bool) (g : GapChannel) (f : Drifts i (channel_with k q) b g) (u : ℕ) → adrift_fault i n f.channel (row_at nr x j p len os) ≡ Some u → Drifts i (channel_with k t.whole) b (adrift_call_at b f.hidden f.last f.channel)
    faulty b g f u e = elim t.turned [
      | inl same ↦ subst (λ w. Drifts i (channel_with k w) b (adrift_call_at b f.hidden f.last f.channel)) (sym same.0) (again i c b g f)
      | inr moves ↦ some_none (sym e ∙ fault f.channel c ∙ moves.3)
    ]

    settles : (b : Bool) (d : Doubts) (z : Circuit) (terms : Terms) → is_some terms.opening ≡ true → Agrees i d.hidden k terms → SettledIn q.state i (channel_with k q) d (circuit q.state z.accepted z.acknowledged z.unconfirmed) → (y : Circuit)
        → ((y ≡ circuit q.state z.accepted z.acknowledged z.unconfirmed) × (t.whole ≡ q)) ⊎ ((e : DState) × (y ≡ idle e) × (t.whole ≡ idle e))
        → FollowsCall i (channel_with k t.whole) b (settled_outcome (settled_with terms b d (circuit q.state z.accepted z.acknowledged z.unconfirmed)) (record { outcome = report_nothing (channel_with terms y); doubts = d }))
    settles b d z terms held agrees sides y (inl same) =
        let g : Circuit = circuit q.state z.accepted z.acknowledged z.unconfirmed in
        subst (λ y. FollowsCall i w b (settled_outcome (settled_with terms b d g) (taken_with terms [] d y))) (sym same.0)
        (subst (λ w. FollowsCall i (channel_with k w) b (settled_outcome (settled_with terms b d g) (taken_with terms [] d g))) (sym same.1)
        (still_settled i c terms b d d g g [] refl refl held agrees (keeps_sides i c q.state d g sides)))
    settles b d z terms held agrees sides y (inr same) =
        let g : Circuit = circuit q.state z.accepted z.acknowledged z.unconfirmed in
        subst (λ y. FollowsCall i w b (settled_outcome (settled_with terms b d g) (taken_with terms [] d y))) (sym same.1)
        (subst (λ w. FollowsCall i (channel_with k w) b (settled_outcome (settled_with terms b d g) (taken_with terms [] d (idle same.0)))) (sym same.2)
        (still_settled i (channel_with k (idle same.0)) terms b d d g (idle same.0) [] refl refl held agrees (entered_sides i k d (in_order i c q.state d g sides) same.0)))

-- a clear ends the call in both walks
cleared_whole : (h : How) (t : StateName) (k : Terms) (q : Circuit) → is_some k.opening ≡ true → (ending h (entering t false (channel_with k q))).after ≡ channel_in (state_named t)
cleared_whole h t k q e = at k.opening e
  where
    at : (o : Option Opening) → is_some o ≡ true → (ending h (entering t false (channel_with (record k { opening = o }) q))).after ≡ channel_in (state_named t)
    at None e = absurd (false≢true e)
    at (Some o) e = refl

clear_up : (i : Interface) (n nr : ℕ) (x : Side) (j len : ℕ) (os : List ℕ) → is_permanent i n ≡ false → (k : Terms) (q : Circuit) → is_some k.opening ≡ true
    → silent (plain_step i n (row_at nr x j kind.TheVariants.Clear len os) (channel_with k q)).reported ≡ true → CallStep i n (row_at nr x j kind.TheVariants.Clear len os) (channel_with k q)
clear_up i n nr x j len os perm k q held s = at x s
  where
    to : (x : Side) (t : StateName) (h : How) → is_usual (state_named t) ≡ true
        → ((d : DState) → judged false x (Transfer d) false Clear ≡ judged_at P4 (Move t))
        → ((c : Channel) → moving x Clear os t c ≡ ending h (entering t false c))
        → ((o : Opening) (e : Option (List ℕ)) (m : List PadMessage) (b : Bool) (d : Doubts) (g z : Circuit) → FollowsCall i (channel_in (state_named t)) b (settled_outcome (settled_with (record { opening = Some o; accepting = e; pad_messages = m }) b d g)
        (record { outcome = ending h (entering t false (channel_with (record { opening = Some o; accepting = e; pad_messages = m }) z)); doubts = d })))
        → silent (plain_step i n (row_at nr x j kind.TheVariants.Clear len os) (channel_with k q)).reported ≡ true → CallStep i n (row_at nr x j kind.TheVariants.Clear len os) (channel_with k q)
    to x t h usual judge move settles s =
        let e = ap (λ (j : Judged). verdict_step i j.state r (verdict j (packet_fault i n c r)) c) (judge q.state) in
        let m = moved i r P4 t (packet_fault i n c r) c (ap (λ (o : Outcome). silent o.reported) (sym e) ∙ s) in
        record {
          whole = channel_in (state_named t);
          after = ap (λ (o : Outcome). o.after) (plain_is i n r c perm ∙ e ∙ m.1 ∙ move c) ∙ cleared_whole h t k q held;
          calm = record { owes = refl; usual = usual; tidy = λ e. (refl, refl); granted = record { opened = tt; accepted = tt }; ordered = idle_ordered i transfer.TheVariants.D1 };
          drifts = λ b g f. clear_drifts i n nr x j len os perm c (channel_in (state_named t)) b g f (λ d u h. some_none (sym h ∙ m.0));
          settled = λ b g f. subst (λ g. FollowsCall i (channel_in (state_named t)) b (gap_channel_step i n g r)) (sym f.is)
              (subst (FollowsCall i (channel_in (state_named t)) b)
              (sym (
              ap (λ p. let j : Judged = judged p x (Transfer f.settled.state) false Clear in settled_outcome (settled_with f.terms b f.doubts f.settled) (settled_verdict i j.state r (verdict j (packet_fault i n (channel_with f.terms f.settled) r)) f.doubts (channel_with f.terms f.settled))) perm
              ∙ ap (λ (j : Judged). settled_outcome (settled_with f.terms b f.doubts f.settled) (settled_verdict i j.state r (verdict j (packet_fault i n (channel_with f.terms f.settled) r)) f.doubts (channel_with f.terms f.settled))) (judge f.settled.state)
              ∙ ap (λ u. settled_outcome (settled_with f.terms b f.doubts f.settled) (settled_verdict i P4 r (verdict (judged_at P4 (Move t)) u) f.doubts (channel_with f.terms f.settled))) m.0
              ∙ ap (λ o. settled_outcome (settled_with f.terms b f.doubts f.settled) (record { outcome = o; doubts = f.doubts })) (move (channel_with f.terms f.settled))
              ))
              (ended settles b f.doubts f.settled f.terms.opening f.terms.accepting f.terms.pad_messages f.held));
        }
      where
        r : Item
        r = row_at nr x j kind.TheVariants.Clear len os

        c : Channel
        c = channel_with k q

        ended : ((o : Opening) (e : Option (List ℕ)) (m : List PadMessage) (b : Bool) (d : Doubts) (g z : Circuit) → FollowsCall i (channel_in (state_named t)) b (settled_outcome (settled_with (record { opening = Some o; accepting = e; pad_messages = m }) b d g)
            (record { outcome = ending h (entering t false (channel_with (record { opening = Some o; accepting = e; pad_messages = m }) z)); doubts = d })))
            → (b : Bool) (d : Doubts) (z : Circuit) (o : Option Opening) (e : Option (List ℕ)) (m : List PadMessage) → is_some o ≡ true
            → FollowsCall i (channel_in (state_named t)) b (settled_outcome (settled_with (record { opening = o; accepting = e; pad_messages = m }) b d z) (record { outcome = ending h (entering t false (channel_with (record { opening = o; accepting = e; pad_messages = m }) z)); doubts = d }))
        ended settles b d z None e m u = absurd (false≢true u)
        ended settles b d z (Some o) e m u = settles o e m b d z z

    at : (x : Side) → silent (plain_step i n (row_at nr x j kind.TheVariants.Clear len os) (channel_with k q)).reported ≡ true → CallStep i n (row_at nr x j kind.TheVariants.Clear len os) (channel_with k q)
    at T s = to T P6 how.TheVariants.T refl (λ d. refl) (λ c. refl) (λ o e m b d g z. (refl, SameCall refl)) s
    at N s = to N P7 how.TheVariants.N refl (λ d. refl) (λ c. refl) (λ o e m b d g z. (refl, SameCall refl)) s

pub up_row : (i : Interface) (n nr : ℕ) (x : Side) (j : ℕ) (p : PacketKind) (len : ℕ) (os : List ℕ) → is_permanent i n ≡ false → is_read i (packet.TheVariants.Channel j p) len ≡ true → (k : Terms) (q : Circuit) → IsCalm i (channel_with k q) → is_some k.opening ≡ true
    → silent (plain_step i n (row_at nr x j p len os) (channel_with k q)).reported ≡ true → CallStep i n (row_at nr x j p len os) (channel_with k q)
up_row i n nr x j p len os perm whole k q calm held s = at p whole s
  where
    Goal : PacketKind → Circuit → Type 0
    Goal p q = silent (plain_step i n (row_at nr x j p len os) (channel_with k q)).reported ≡ true → CallStep i n (row_at nr x j p len os) (channel_with k q)

    -- by the state
    flow : (p : PacketKind) → is_below (kind_class p) ≡ true → is_flow (kind_class p) ≡ true → adrift_entry false (kind_class p) ≡ Carries
        → ((hs : List AcceptedData) (v : Sides ℕ) (u : Sides Bool) → IsCalm i (channel_with k (circuit transfer.TheVariants.D1 hs v u)) → Goal p (circuit transfer.TheVariants.D1 hs v u)) → Goal p q
    flow p below is entry in_d1 = by q.state calm
      where
        by : (d : DState) → IsCalm i (channel_with k (circuit d q.accepted q.acknowledged q.unconfirmed)) → Goal p (circuit d q.accepted q.acknowledged q.unconfirmed)
        by transfer.TheVariants.D1 c = in_d1 q.accepted q.acknowledged q.unconfirmed c
        by transfer.TheVariants.D2 c = waited_row i n nr x j p len os perm below is entry k transfer.TheVariants.D2 q.accepted q.acknowledged q.unconfirmed d2_apart c
        by transfer.TheVariants.D3 c = waited_row i n nr x j p len os perm below is entry k transfer.TheVariants.D3 q.accepted q.acknowledged q.unconfirmed d3_apart c

    loud : {A : Type 0} (x : Side) (p : PacketKind) → is_set_up p ≡ true → silent (plain_step i n (row_at nr x j p len os) (channel_with k q)).reported ≡ true → A
    loud T kind.TheVariants.Call e s = absurd (false≢true s)
    loud N kind.TheVariants.Call e s = absurd (false≢true s)
    loud T kind.TheVariants.Accepted e s = absurd (false≢true s)
    loud N kind.TheVariants.Accepted e s = absurd (false≢true s)
    loud T kind.TheVariants.ClearConfirm e s = absurd (false≢true s)
    loud N kind.TheVariants.ClearConfirm e s = absurd (false≢true s)
    loud x p e s = absurd (false≢true e)

    resetting : (e : DState) (c w : Channel) → Keeps c w → (b : Bool) (g : GapChannel) (f : Drifts i c b g) → DriftsBy i w b (adrift_reset i n NoIndication (drifts_with f.hidden f.last) (transfer_name e) (adrift_call_at b f.hidden f.last f.channel))
    resetting e c w keeps b g f = resets i n c w keeps b f.hidden f.last e perm f.channel f.channel.opening f.channel.state f.tidy f.empty f.rests f.known

    reset : (x : Side) (c w : Channel) → Keeps c w → (b : Bool) (g : GapChannel) (f : Drifts i c b g) → DriftsBy i w b (adrift_step_by Resets i n (row_at nr x j kind.TheVariants.Reset len os) (drifts_with f.hidden f.last) (adrift_call_at b f.hidden f.last f.channel))
    reset T = resetting transfer.TheVariants.D2
    reset N = resetting transfer.TheVariants.D3

    confirmed : (x : Side) (c w : Channel) → Keeps c w → (b : Bool) (g : GapChannel) (f : Drifts i c b g) → DriftsBy i w b (adrift_step_by ConfirmsReset i n (row_at nr x j kind.TheVariants.ResetConfirm len os) (drifts_with f.hidden f.last) (adrift_call_at b f.hidden f.last f.channel))
    confirmed T = resetting transfer.TheVariants.D1
    confirmed N = resetting transfer.TheVariants.D1

    at : (p : PacketKind) → is_read i (packet.TheVariants.Channel j p) len ≡ true → Goal p q
    at kind.TheVariants.Call w s = loud x kind.TheVariants.Call refl s
    at kind.TheVariants.Accepted w s = loud x kind.TheVariants.Accepted refl s
    at kind.TheVariants.ClearConfirm w s = loud x kind.TheVariants.ClearConfirm refl s
    at kind.TheVariants.Clear w s = clear_up i n nr x j len os perm k q held s
    at kind.TheVariants.TwoOctets w s = quiet_row i n nr x j kind.TheVariants.TwoOctets len os perm refl refl refl refl k q calm s
    at kind.TheVariants.RestartHere w s = quiet_row i n nr x j kind.TheVariants.RestartHere len os perm refl refl refl refl k q calm s
    at kind.TheVariants.Rej w s = quiet_row i n nr x j kind.TheVariants.Rej len os perm refl refl refl refl k q calm s
    at kind.TheVariants.Undefined w s = quiet_row i n nr x j kind.TheVariants.Undefined len os perm refl refl refl refl k q calm s
    at kind.TheVariants.Reset w s = reset_row i n nr x j kind.TheVariants.Reset len os perm (reset_resets i n nr x j len os) (λ d e. refl) (reset x) k q calm held s
    at kind.TheVariants.ResetConfirm w s = reset_row i n nr x j kind.TheVariants.ResetConfirm len os perm (confirmation_resets i n nr x j len os) (λ d e. refl) (confirmed x) k q calm held s
    at (kind.TheVariants.Data (Some h)) w s = flow (kind.TheVariants.Data (Some h)) refl refl refl (λ hs v u c s. data_row i n nr x j h len os perm k hs v u c held s) s
    at (kind.TheVariants.Rr (Some m)) w s =
        flow (kind.TheVariants.Rr (Some m)) refl refl refl (λ hs v u c s. receive_row i n nr x j (kind.TheVariants.Rr (Some m)) m len os perm (rr_receives i n nr x j m len os) refl (λ c w t. t) (λ d e. refl) k hs v u c held s) s
    at (kind.TheVariants.Rnr (Some m)) w s =
        flow (kind.TheVariants.Rnr (Some m)) refl refl refl (λ hs v u c s. receive_row i n nr x j (kind.TheVariants.Rnr (Some m)) m len os perm (rnr_receives i n nr x j m len os) refl (λ c w t. t) (λ d e. refl) k hs v u c held s) s
    at kind.TheVariants.Interrupt w s =
        flow kind.TheVariants.Interrupt refl refl refl (λ hs v u c s. turn_row i n nr x j kind.TheVariants.Interrupt len os x true perm (interrupt_turns i n nr x j len os) refl (λ c w t. t) (λ d e. refl) k hs v u c held s) s
    at kind.TheVariants.InterruptConfirm w s =
        flow kind.TheVariants.InterruptConfirm refl refl refl (λ hs v u c s. turn_row i n nr x j kind.TheVariants.InterruptConfirm len os (other x) false perm (confirmation_turns i n nr x j len os) refl (λ c w t. t) (λ d e. refl) k hs v u c held s) s
    at (kind.TheVariants.Data None) w s =
        flow (kind.TheVariants.Data None) refl refl refl (λ hs v u c s. cut_loud i k n (row_at nr x j (kind.TheVariants.Data None) len os) hs v u PACKET_TOO_SHORT refl (flow_class x Data refl) (cut_data i n nr x j len os (channel_with k (circuit transfer.TheVariants.D1 hs v u)) w)
        (call_silent i n (row_at nr x j (kind.TheVariants.Data None) len os) (channel_with k (circuit transfer.TheVariants.D1 hs v u)) perm s)) s
    at (kind.TheVariants.Rr None) w s =
        flow (kind.TheVariants.Rr None) refl refl refl (λ hs v u c s. cut_loud i k n (row_at nr x j (kind.TheVariants.Rr None) len os) hs v u PACKET_TOO_SHORT refl (flow_class x Rr refl) (cut_rr i n nr x j len os (channel_with k (circuit transfer.TheVariants.D1 hs v u)) w)
        (call_silent i n (row_at nr x j (kind.TheVariants.Rr None) len os) (channel_with k (circuit transfer.TheVariants.D1 hs v u)) perm s)) s
    at (kind.TheVariants.Rnr None) w s =
        flow (kind.TheVariants.Rnr None) refl refl refl (λ hs v u c s. cut_loud i k n (row_at nr x j (kind.TheVariants.Rnr None) len os) hs v u PACKET_TOO_SHORT refl (flow_class x Rnr refl) (cut_rnr i n nr x j len os (channel_with k (circuit transfer.TheVariants.D1 hs v u)) w)
        (call_silent i n (row_at nr x j (kind.TheVariants.Rnr None) len os) (channel_with k (circuit transfer.TheVariants.D1 hs v u)) perm s)) s
    at kind.TheVariants.Gap w s = absurd (false≢true w)
