-- What a packet does to a channel of a recording with gaps (profile; it follows from the rule of Gaps.antt).
use Rattle.std.specs.Prelude.{ℕ, Bool, true, false, not, nat_lt, ◌&&◌, ◌||◌, ◌==◌, ◌-◌, ◌+◌, ◌%◌, List, [], ◌∷◌, ◌++◌, replicate, reverse, take_while, Option, Some, None, is_some, option_and_then, Result, Ok, Err}
use Rattle.line_model.specs.declared.diagnostic.TheConstants.{INCONSISTENT_Q_BIT_SETTING, PACKET_TOO_SHORT, PACKET_TOO_LONG}
use Rattle.line_model.specs.declared.interface.Interface.{Interface}
use Rattle.line_model.specs.declared.packet.Class.{Class}
use Rattle.line_model.specs.declared.packet.Class.TheVariants.{Call, Accepted, Clear, ClearConfirm, Reset, ResetConfirm, Interrupt, InterruptConfirm, Data, Rr, Rnr}
use Rattle.line_model.specs.declared.packet.DataHeader.{DataHeader}
use Rattle.line_model.specs.declared.state.Side.{Side}
use Rattle.line_model.specs.declared.state.Side.TheVariants.{T, N}
use Rattle.line_model.specs.declared.state.DState as transfer
use Rattle.line_model.specs.declared.state.ChannelState.{ChannelState}
use Rattle.line_model.specs.declared.state.ChannelState.TheVariants.{Transfer}
use Rattle.line_model.specs.declared.state.StateName.{StateName}
use Rattle.line_model.specs.declared.state.StateName.TheVariants.{P1, P2, P3, P4, D1, D2, D3}
use Rattle.line_model.specs.declared.event.How.{How}
use Rattle.line_model.specs.declared.event.How as how
use Rattle.line_model.specs.declared.event.What.{What}
use Rattle.line_model.specs.declared.event.What.TheVariants.{Up, Data as DataAccepted}
use Rattle.line_model.specs.declared.gap.Owed.{Owed}
use Rattle.line_model.specs.declared.gap.Owed.TheVariants.{NoIndication, ResetIndication, RestartIndication}
use Rattle.line_model.specs.declared.gap.LastData.{LastData}
use Rattle.line_model.specs.declared.gap.AdriftEntry.{AdriftEntry}
use Rattle.line_model.specs.declared.gap.AdriftEntry.TheVariants.{OpensCall, Accepts, Clears, ConfirmsClear, Resets, ConfirmsReset, Carries, DoesNothing}
use Rattle.line_model.specs.basics.Choice.{first_fault}
use Rattle.line_model.specs.basics.Records.{Item}
use Rattle.line_model.specs.packets.Classes.{header_length, packet_class}
use Rattle.line_model.specs.packets.Says.{header_in, receive_in}
use Rattle.line_model.specs.packets.Formats.{is_pad_call, packet_fault, size_in_force, window_in_force}
use Rattle.line_model.specs.channels.Channels.{AcceptedData, Channel, Opening, Sides, is_open, is_in_transfer, is_permanent, of_side, other, with_side}
use Rattle.line_model.specs.channels.FlowControl.{Counts, count_confirm, count_data, count_interrupt, count_receive, is_side, packets_of, sent}
use Rattle.line_model.specs.channels.Sequences.{eq_bool, is_alike, is_category_a, sequence_octets}
use Rattle.line_model.specs.channels.Pad.{form_fault, settings_of}
use Rattle.line_model.specs.channels.Verdicts.{Verdict}
use Rattle.line_model.specs.channels.Verdicts.Verdict.{Transfers}
use Rattle.line_model.specs.channels.ChannelStep.{Judged, Outcome, and_then, channel_step, counts_of, ending, entering, failing, accepted_of, judged, opening, report_nothing, verdict, verdict_step}
use Rattle.line_model.specs.channels.Gaps.{Certainty, Doubts, GapChannel, WhileAdrift, drifting, is_nothing_owed, largest_terms, no_doubts, of_both}
use Rattle.line_model.specs.channels.Gaps.Certainty.{Adrift, Certain, Settled}

-- what a row reports, and the channel after it
pub record GapOutcome : Type 0 where
  pub reported : List What
  pub after : GapChannel

-- an outcome of the channel, with what is certain after it
abbrev pub with_certainty : GapChannel → Certainty → Outcome → GapOutcome
with_certainty g t o = record { reported = o.reported; after = record g { channel = o.after; certainty = t } }

-- no event, and the channel as it was
abbrev pub passing : GapChannel → GapOutcome
passing g = record { reported = []; after = g }

-- Adrift: nothing is a finding, and a packet with a fault of format does nothing.

-- packets of call set-up and clearing do nothing on a permanent circuit
abbrev pub of_call : (permanent : Bool) → AdriftEntry → AdriftEntry
of_call true e = DoesNothing
of_call false e = e

-- the entry of a class
abbrev pub adrift_entry : (permanent : Bool) → Class → AdriftEntry
adrift_entry p Call = of_call p OpensCall
adrift_entry p Accepted = of_call p Accepts
adrift_entry p Clear = of_call p Clears
adrift_entry p ClearConfirm = of_call p ConfirmsClear
adrift_entry p Reset = Resets
adrift_entry p ResetConfirm = ConfirmsReset
adrift_entry p Interrupt = Carries
adrift_entry p InterruptConfirm = Carries
adrift_entry p Data = Carries
adrift_entry p Rr = Carries
adrift_entry p Rnr = Carries
adrift_entry p k = DoesNothing

-- the largest packet that any call may agree to (7.2.2.1)
abbrev pub largest_size : ℕ
largest_size = 4096

-- the fault of a packet on a channel adrift: of data only what no packet size allows
abbrev pub adrift_fault_of : Interface → (channel : ℕ) → Channel → Item → Class → Option ℕ
adrift_fault_of i n c r Data =
    first_fault ((nat_lt r.length (header_length i), PACKET_TOO_SHORT)
    ∷ (nat_lt (header_length i + largest_size) r.length, PACKET_TOO_LONG) ∷ [])
adrift_fault_of i n c r k = packet_fault i n c r

-- the fault of a packet on a channel adrift
abbrev pub adrift_fault : Interface → (channel : ℕ) → Channel → Item → Option ℕ
adrift_fault i n c r = adrift_fault_of i n c r (packet_class r.packet)

-- what is still owed after a packet: a clear of either side or a clear confirmation of the DTE shows that no indication is
-- owed any more, and after d3 a reset of either side or a reset confirmation of the DTE does too; a restart that is owed
-- ends with the epoch
abbrev pub owed_after : Side → AdriftEntry → Owed → Owed
owed_after x e RestartIndication = RestartIndication
owed_after x Clears w = NoIndication
owed_after T ConfirmsClear w = NoIndication
owed_after x Resets ResetIndication = NoIndication
owed_after T ConfirmsReset ResetIndication = NoIndication
owed_after x e w = w

-- whether the channel has a call, or needs none
abbrev pub is_in_use : Interface → (channel : ℕ) → Channel → Bool
is_in_use i n c = is_permanent i n || is_open c

-- the state in which the calling side waits
abbrev pub calling_state : Side → StateName
calling_state T = P2
calling_state N = P3

-- the end of a call by the side that clears it
abbrev pub cleared_by : Side → How
cleared_by T = how.TheVariants.T
cleared_by N = how.TheVariants.N

-- the state in which a side resets
abbrev pub resetting_state : Side → StateName
resetting_state T = D2
resetting_state N = D3

-- whether a side resets
abbrev pub is_resetting : Side → ChannelState → Bool
is_resetting T (Transfer transfer.TheVariants.D2) = true
is_resetting N (Transfer transfer.TheVariants.D3) = true
is_resetting x s = false

-- a call, before which the end of another may be missing
abbrev pub adrift_call : Side → List ℕ → Channel → Outcome
adrift_call x xs c = and_then (ending how.TheVariants.Gap (entering (calling_state x) false c)) (opening (is_side T x) xs)

-- a clear confirmation: nothing is in doubt after it, unless an indication may still be owed or the interface may restart
abbrev pub confirmed_clear : (restarting : Bool) → Owed → Certainty
confirmed_clear restarting w = elim (restarting || not (is_nothing_owed w)) [ true ↦ drifting w false | false ↦ Certain ]

-- whether the side that called accepts: then another call may be hidden
abbrev pub is_own_acceptance : Side → Option Opening → Bool
is_own_acceptance x None = false
is_own_acceptance x (Some o) = eq_bool (is_side T x) o.out

-- the packet by whose terms a call is up
abbrev pub terms_of_acceptance : (hidden : Bool) → Interface → List ℕ → List ℕ
terms_of_acceptance true i xs = largest_terms i
terms_of_acceptance false i xs = xs

-- a call that comes up by a packet, with the terms of that packet
abbrev pub coming_up : List ℕ → Channel → Outcome
coming_up xs c = record { reported = Up ∷ []; after = record (entering P4 false c) { accepting = Some xs } }

-- an acceptance, which brings up a call that was not up
abbrev pub adrift_acceptance : Interface → Side → List ℕ → WhileAdrift → GapChannel → GapOutcome
adrift_acceptance i x xs a g = elim (is_open g.channel && not (is_in_transfer g.channel)) [
  | true ↦
      let hidden : Bool = a.hidden || is_own_acceptance x g.channel.opening in
      with_certainty g (Adrift (record a { hidden = hidden })) (coming_up (terms_of_acceptance hidden i xs) g.channel)
  | false ↦ passing g
]

-- another packet brings up a call that was not up; its acceptance, and another call before that, may be missing
abbrev pub brought_up : Interface → Channel → Outcome
brought_up i c = elim (is_in_transfer c) [ true ↦ report_nothing c | false ↦ coming_up (largest_terms i) c ]

-- whether another call may be hidden after such a packet
abbrev pub hidden_when_up : WhileAdrift → Channel → Bool
hidden_when_up a c = a.hidden || not (is_in_transfer c)

-- a state of a call that is up
abbrev pub in_state : StateName → Channel → Outcome
in_state s c = report_nothing (entering s false c)

-- a reset or its confirmation
abbrev pub adrift_reset : Interface → (channel : ℕ) → Owed → WhileAdrift → StateName → GapChannel → GapOutcome
adrift_reset i n w a s g = elim (is_in_use i n g.channel) [
  | true ↦ with_certainty g (drifting w (hidden_when_up a g.channel)) (and_then (brought_up i g.channel) (in_state s))
  | false ↦ with_certainty g (Adrift (record a { owed = w })) (report_nothing g.channel)
]

-- Settling: a P(R) of one side that is the number after the last data packet of the other side shows that this packet was
-- accepted, so the channel is in d1.

-- P(R) of a packet, if it has one
abbrev pub receive_by : Option DataHeader → Option ℕ → Option ℕ
receive_by (Some h) o = Some h.receive
receive_by None o = o

-- P(R) of a packet, if it has one
abbrev pub receive_of : Item → Option ℕ
receive_of r = receive_by (header_in r.packet) (receive_in r.packet)

-- that data packet, where nothing is owed
abbrev pub acknowledged_data : WhileAdrift → Side → (receive : ℕ) → Option LastData
acknowledged_data a x n = elim (is_nothing_owed a.owed) [
  | true ↦ option_and_then (λ l. elim (l.next == n) [ true ↦ Some l | false ↦ None ]) (of_side (other x) a.last)
  | false ↦ None
]

-- a data packet that was missed: all that is known of it is that it was sent
abbrev pub missed : Side → AcceptedData
missed x = record { side = x; qualified = false; more = false; delivery = false; length = 0; octets = [] }

-- how many packets are missing between a count and a number
abbrev pub missing : (modulus count number : ℕ) → ℕ
missing m s n = (n + (m - s % m)) % m

-- the next P(S) of the side whose packet settles the channel: certain with data, otherwise no less than its lower edge
abbrev pub count_settled : (modulus edge : ℕ) → Option DataHeader → ℕ
count_settled m e None = e
count_settled m e (Some h) = e + missing m e (h.send + 1)

-- the channel that a packet of a side settles in d1: P(R) is what the other side has sent, and all of it is acknowledged
abbrev pub settled_channel : (modulus : ℕ) → Side → (receive : ℕ) → LastData → Option DataHeader → Channel → Channel
settled_channel m x n l h c = record (entering D1 false c) {
  accepted = replicate n (missed (other x)) ++ replicate (count_settled m l.receive h) (missed x);
  acknowledged = with_side x l.receive (of_both n);
}

-- what is in doubt then
abbrev pub settled_doubts : (hidden : Bool) → Side → Option DataHeader → Doubts
settled_doubts hidden x h = record {
  hidden = hidden;
  numbers = with_side x (not (is_some h)) (of_both false);
  interrupts = of_both true;
  sequences = of_both true;
}

-- a data packet after which its side sent another P(R)
abbrev pub with_receive : (receive : ℕ) → Option LastData → Option LastData
with_receive n None = None
with_receive n (Some l) = Some (record l { receive = n })

-- the last data packets after a packet of a side that does not settle the channel
abbrev pub last_after : (modulus : ℕ) → Side → Option DataHeader → Option ℕ → Sides (Option LastData) → Sides (Option LastData)
last_after m x (Some h) o v = with_side x (Some (record { next = (h.send + 1) % m; receive = h.receive })) v
last_after m x None (Some n) v = with_side x (with_receive n (of_side x v)) v
last_after m x None None v = v

-- data counts, though nothing of it is judged
abbrev pub data_reported : Interface → Item → Option DataHeader → List What
data_reported i r None = []
data_reported i r (Some h) = DataAccepted r.side (accepted_of i r h).length ∷ []

-- a packet of data transfer that settles the channel, or not
abbrev pub adrift_received : Interface → Item → WhileAdrift → GapChannel → (receive : Option ℕ) → (acknowledged : Option LastData) → GapOutcome
adrift_received i r a g (Some n) (Some l) = record {
  reported = data_reported i r (header_in r.packet);
  after = record g {
    channel = settled_channel i.modulus r.side n l (header_in r.packet) g.channel;
    certainty = Settled (settled_doubts a.hidden r.side (header_in r.packet));
  };
}
adrift_received i r a g o l = record {
  reported = data_reported i r (header_in r.packet);
  after = record g {
    channel = entering D1 false g.channel;
    certainty = Adrift (record a { last = last_after i.modulus r.side (header_in r.packet) (receive_of r) a.last });
  };
}

-- a packet of data transfer: while the other side resets it does nothing
abbrev pub adrift_carried : Interface → Item → WhileAdrift → GapChannel → GapOutcome
adrift_carried i r a g = elim (is_resetting (other r.side) g.channel.state) [
  | true ↦ with_certainty g (Adrift a) (report_nothing g.channel)
  | false ↦ adrift_received i r a g (receive_of r) (option_and_then (acknowledged_data a r.side) (receive_of r))
]

-- a packet of data transfer, which brings up a call that was not up
abbrev pub adrift_transfer : Interface → (channel : ℕ) → Item → WhileAdrift → GapChannel → GapOutcome
adrift_transfer i n r a g = elim (is_in_use i n g.channel) [
  | true ↦
      let up : Outcome = brought_up i g.channel in
      let o : GapOutcome = adrift_carried i r (record a { hidden = hidden_when_up a g.channel }) (record g { channel = up.after }) in
      record { reported = up.reported ++ o.reported; after = o.after }
  | false ↦ passing g
]

-- a packet without a fault of format on a channel adrift
abbrev pub adrift_step_by : AdriftEntry → Interface → (channel : ℕ) → Item → WhileAdrift → GapChannel → GapOutcome
adrift_step_by OpensCall i n r a g = with_certainty g (drifting a.owed false) (adrift_call r.side r.octets g.channel)
adrift_step_by Accepts i n r a g = adrift_acceptance i r.side r.octets a g
adrift_step_by Clears i n r a g =
    with_certainty g (drifting (owed_after r.side Clears a.owed) false) (ending (cleared_by r.side) (entering P1 false g.channel))
adrift_step_by ConfirmsClear i n r a g =
    with_certainty g (confirmed_clear g.restarting (owed_after r.side ConfirmsClear a.owed)) (ending how.TheVariants.Gap (entering P1 false g.channel))
adrift_step_by Resets i n r a g =
    adrift_reset i n (owed_after r.side Resets a.owed) a (resetting_state r.side) g
adrift_step_by ConfirmsReset i n r a g =
    adrift_reset i n (owed_after r.side ConfirmsReset a.owed) a D1 g
adrift_step_by Carries i n r a g = adrift_transfer i n r a g
adrift_step_by DoesNothing i n r a g = passing g

-- a packet on a channel adrift
abbrev pub adrift_step : Interface → (channel : ℕ) → Item → WhileAdrift → GapChannel → GapOutcome
adrift_step i n r a g = elim (is_some (adrift_fault i n g.channel r)) [
  | true ↦ passing g
  | false ↦ adrift_step_by (adrift_entry (is_permanent i n) (packet_class r.packet)) i n r a g
]

-- Settled: the tables hold again, and what is in doubt is completed by the packets that may be missing, so that a packet is
-- judged as always.

-- the channel with packets of a side that were missed, up to a number; none where its next P(S) is certain
abbrev pub completed_to : (modulus : ℕ) → (doubt : Bool) → Side → (number : ℕ) → Channel → Channel
completed_to m false x n c = c
completed_to m true x n c = record c { accepted = c.accepted ++ replicate (missing m (sent x c.accepted) n) (missed x) }

-- before a data packet: those of its own side up to P(S), and those of the other side up to P(R)
abbrev pub completed_for_data : (modulus : ℕ) → Doubts → Side → DataHeader → Channel → Channel
completed_for_data m b x h c =
    completed_to m (of_side (other x) b.numbers) (other x) h.receive (completed_to m (of_side x b.numbers) x h.send c)

-- before a packet with P(R) alone
abbrev pub completed_for_receive : (modulus : ℕ) → Doubts → Side → (receive : ℕ) → Channel → Channel
completed_for_receive m b x n c = completed_to m (of_side (other x) b.numbers) (other x) n c

-- whether an interrupt of a side is unconfirmed, where that may be in doubt
abbrev pub with_interrupt : (doubt : Bool) → Side → (unconfirmed : Bool) → Channel → Channel
with_interrupt false x u c = c
with_interrupt true x u c = record c { unconfirmed = with_side x u c.unconfirmed }

-- what a packet does on a settled channel: the events, the channel, and what is in doubt
pub record SettledOutcome : Type 0 where
  pub outcome : Outcome
  pub doubts : Doubts

-- an error, which alone makes nothing certain
abbrev pub failing_in_doubt : Side → StateName → ℕ → Doubts → Channel → SettledOutcome
failing_in_doubt x s n b c = record { outcome = failing x s n c; doubts = b }

-- a packet that changes the counts alone, of a channel that was completed for it
abbrev pub counting_in_doubt : Side → StateName → Result Counts ℕ → (before after : Doubts) → (completed : Channel) → Channel → SettledOutcome
counting_in_doubt x s (Err n) b b' d c = failing_in_doubt x s n b c
counting_in_doubt x s (Ok v) b b' d c = record {
  outcome = report_nothing (record d { acknowledged = v.acknowledged; unconfirmed = v.unconfirmed });
  doubts = b';
}

-- an interrupt of a side: it says that the one before was confirmed
abbrev pub interrupt_in_doubt : Side → StateName → Doubts → Channel → SettledOutcome
interrupt_in_doubt x s b c =
    let d : Channel = with_interrupt (of_side x b.interrupts) x false c in
    counting_in_doubt x s (count_interrupt (counts_of d) x) b (record b { interrupts = with_side x false b.interrupts }) d c

-- the confirmation of an interrupt: it says that there was one
abbrev pub confirmation_in_doubt : Side → StateName → Doubts → Channel → SettledOutcome
confirmation_in_doubt x s b c =
    let d : Channel = with_interrupt (of_side (other x) b.interrupts) (other x) true c in
    counting_in_doubt x s (count_confirm (counts_of d) x) b (record b { interrupts = with_side (other x) false b.interrupts }) d c

-- RR and RNR
abbrev pub receive_in_doubt : (modulus : ℕ) → Side → StateName → Option ℕ → Doubts → Channel → SettledOutcome
receive_in_doubt m x s None b c = record { outcome = report_nothing c; doubts = b }
receive_in_doubt m x s (Some n) b c =
    let d : Channel = completed_for_receive m b x n c in
    counting_in_doubt x s (count_receive m (counts_of d) x n) b b d c

-- the window that judges a P(S): none judges the first one of a side whose next P(S) is in doubt
abbrev pub window_in_doubt : Interface → Doubts → Channel → Side → ℕ
window_in_doubt i b c x = elim (of_side x b.numbers) [ true ↦ i.modulus | false ↦ window_in_force i c x ]

-- category A, where the size of packets may not be known: then M without D may say either category, and is read as A
abbrev pub may_be_category_a : (hidden : Bool) → (size : ℕ) → AcceptedData → Bool
may_be_category_a true size h = h.more && not h.delivery
may_be_category_a false size h = is_category_a size h

-- the packets of a side that may begin a sequence which is not complete
abbrev pub may_be_begun : (hidden : Bool) → (size : ℕ) → Side → List AcceptedData → List AcceptedData
may_be_begun hidden size x hs = reverse (take_while (may_be_category_a hidden size) (reverse (packets_of x hs)))

-- those at the end of a list that have the Q bit of a packet
abbrev pub alike_at_end : AcceptedData → List AcceptedData → List AcceptedData
alike_at_end p hs = reverse (take_while (λ g. eq_bool g.qualified p.qualified) (reverse hs))

-- whether it is certain that a packet has another Q bit than the sequence that it continues
abbrev pub is_mixed : (hidden doubt : Bool) → AcceptedData → List AcceptedData → Bool
is_mixed hidden doubt p hs = not hidden && not doubt && not (is_alike p hs)

-- the message that a packet completes, if its sequence is known from its beginning
abbrev pub message_in_doubt : (hidden doubt : Bool) → (size : ℕ) → AcceptedData → List AcceptedData → Channel → Option (List ℕ)
message_in_doubt hidden doubt size p hs c =
    elim (is_pad_call c && p.qualified && not doubt && not (may_be_category_a hidden size p)) [
      | true ↦ Some (sequence_octets (alike_at_end p hs ++ p ∷ []))
      | false ↦ None
    ]

-- what a message says of settings where no message gives a finding, as if X4 did not exist
abbrev pub settings_by_form : (faulty : Bool) → Side → List ℕ → List What
settings_by_form true x m = []
settings_by_form false x m = settings_of x m

-- the same of a packet that may complete a message
abbrev pub settings_in_doubt : Side → Option (List ℕ) → List What
settings_in_doubt x None = []
settings_in_doubt x (Some m) = settings_by_form (is_some (form_fault m)) x m

-- the lower edge of a side whose next P(S) was in doubt: what is outstanding is the difference modulo m
abbrev pub edge_in_doubt : (modulus : ℕ) → (doubt : Bool) → Side → (sent : ℕ) → Sides ℕ → Sides ℕ
edge_in_doubt m false x n v = v
edge_in_doubt m true x n v = with_side x (n - (n - of_side x v) % m) v

-- what is in doubt after a data packet that was accepted
abbrev pub doubts_after_data : Side → (category_a : Bool) → Doubts → Doubts
doubts_after_data x a b = record b {
  numbers = with_side x false b.numbers;
  sequences = with_side x (of_side x b.sequences && a) b.sequences;
}

-- a data packet that is accepted on a channel that was completed for it
abbrev pub accepting_in_doubt : (modulus : ℕ) → Side → (size : ℕ) → AcceptedData → Counts → Option (List ℕ) → Doubts → Channel → SettledOutcome
accepting_in_doubt m x size p v message b d = record {
  outcome = record {
    reported = DataAccepted x p.length ∷ settings_in_doubt x message;
    after = record d {
      accepted = d.accepted ++ p ∷ [];
      acknowledged = edge_in_doubt m (of_side x b.numbers) x (sent x (d.accepted ++ p ∷ [])) v.acknowledged;
    };
  };
  doubts = doubts_after_data x (may_be_category_a b.hidden size p) b;
}

-- a data packet whose numbers are valid
abbrev pub alike_in_doubt : (modulus : ℕ) → Side → StateName → (size : ℕ) → AcceptedData → Counts → Doubts → (completed : Channel) → Channel → SettledOutcome
alike_in_doubt m x s size p v b d c =
    let hs : List AcceptedData = may_be_begun b.hidden size x d.accepted in
    elim (is_mixed b.hidden (of_side x b.sequences) p hs) [
      | true ↦ failing_in_doubt x s INCONSISTENT_Q_BIT_SETTING b c
      | false ↦ accepting_in_doubt m x size p v (message_in_doubt b.hidden (of_side x b.sequences) size p hs d) b d
    ]

-- a data packet by its numbers
abbrev pub counted_in_doubt : (modulus : ℕ) → Side → StateName → (size : ℕ) → AcceptedData → Result Counts ℕ → Doubts → (completed : Channel) → Channel → SettledOutcome
counted_in_doubt m x s size p (Err n) b d c = failing_in_doubt x s n b c
counted_in_doubt m x s size p (Ok v) b d c = alike_in_doubt m x s size p v b d c

-- a data packet by its header
abbrev pub data_in_doubt : Interface → StateName → Item → Option DataHeader → Doubts → Channel → SettledOutcome
data_in_doubt i s r None b c = record { outcome = report_nothing c; doubts = b }
data_in_doubt i s r (Some h) b c =
    let d : Channel = completed_for_data i.modulus b r.side h c in
    counted_in_doubt i.modulus r.side s (size_in_force i c r.side) (accepted_of i r h)
    (count_data i.modulus (window_in_doubt i b c r.side) (counts_of d) r.side h.send h.receive) b d c

-- a packet whose entry is `normal`, and whose format has no fault
abbrev pub transferring_in_doubt : Interface → StateName → Class → Item → Doubts → Channel → SettledOutcome
transferring_in_doubt i s Data r b c = data_in_doubt i s r (header_in r.packet) b c
transferring_in_doubt i s Interrupt r b c = interrupt_in_doubt r.side s b c
transferring_in_doubt i s InterruptConfirm r b c = confirmation_in_doubt r.side s b c
transferring_in_doubt i s k r b c = receive_in_doubt i.modulus r.side s (receive_in r.packet) b c

-- what a verdict does to a settled channel
abbrev pub settled_verdict : Interface → StateName → Item → Verdict → Doubts → Channel → SettledOutcome
settled_verdict i s r Transfers b c = transferring_in_doubt i s (packet_class r.packet) r b c
settled_verdict i s r v b c = record { outcome = verdict_step i s r v c; doubts = b }

-- a reset makes numbers, interrupts and sequences certain
abbrev pub doubts_in : ChannelState → Doubts → Doubts
doubts_in (Transfer transfer.TheVariants.D1) b = b
doubts_in s b = no_doubts b.hidden

-- whether a channel is in d1
abbrev pub is_in_d1 : ChannelState → Bool
is_in_d1 (Transfer transfer.TheVariants.D1) = true
is_in_d1 s = false

-- what is certain of a settled channel after a packet: the doubts about a call end with it, those about a permanent circuit
-- with a reset
abbrev pub certainty_with : Doubts → Channel → Certainty
certainty_with b c = elim (is_open c || is_in_d1 c.state) [ true ↦ Settled b | false ↦ Certain ]

-- a settled channel after a packet
abbrev pub settled_outcome : GapChannel → SettledOutcome → GapOutcome
settled_outcome g o = with_certainty g (certainty_with (doubts_in o.outcome.after.state o.doubts) o.outcome.after) o.outcome

-- a packet on a settled channel
abbrev pub settled_step : Interface → (channel : ℕ) → Item → Doubts → GapChannel → GapOutcome
settled_step i n r b g =
    let j : Judged = judged (is_permanent i n) r.side g.channel.state g.channel.owed (packet_class r.packet) in
    settled_outcome g (settled_verdict i j.state r (verdict j (packet_fault i n g.channel r)) b g.channel)

-- what a packet does to its channel: without a gap, what it always does
abbrev pub packet_step : Certainty → Interface → (channel : ℕ) → Item → GapChannel → GapOutcome
packet_step Certain i n r g = with_certainty g Certain (channel_step i n g.channel r)
packet_step (Adrift a) i n r g = adrift_step i n r a g
packet_step (Settled b) i n r g = settled_step i n r b g

-- what a packet does to a channel of a recording with gaps
abbrev pub gap_channel_step : Interface → (channel : ℕ) → GapChannel → Item → GapOutcome
gap_channel_step i n g r = packet_step g.certainty i n r g
