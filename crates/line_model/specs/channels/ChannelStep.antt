-- What a packet on a channel does (X.25 Annexes B and C, clauses 4 to 6).
use Rattle.std.specs.Prelude.{ℕ, ◌-◌, Bool, true, false, List, [], ◌∷◌, ◌++◌, drop, Option, Some, None, unwrap_or, option_to_list, option_map, Result, Ok, Err}
use Rattle.line_model.specs.declared.interface.Interface.{Interface}
use Rattle.line_model.specs.declared.diagnostic.TheConstants.{INCONSISTENT_Q_BIT_SETTING}
use Rattle.line_model.specs.declared.packet.Class.{Class}
use Rattle.line_model.specs.declared.packet.Class.TheVariants.{Call, Accepted, Clear, Reset, Interrupt, InterruptConfirm, Data}
use Rattle.line_model.specs.declared.packet.DataHeader.{DataHeader}
use Rattle.line_model.specs.declared.state.Side.{Side}
use Rattle.line_model.specs.declared.state.Side.TheVariants.{T, N}
use Rattle.line_model.specs.declared.state.PState.{PState}
use Rattle.line_model.specs.declared.state.PState as setup
use Rattle.line_model.specs.declared.state.DState.{DState}
use Rattle.line_model.specs.declared.state.DState as transfer
use Rattle.line_model.specs.declared.state.ChannelState.{ChannelState}
use Rattle.line_model.specs.declared.state.ChannelState.TheVariants.{Setup, Transfer, Unknown}
use Rattle.line_model.specs.declared.state.StateName.{StateName}
use Rattle.line_model.specs.declared.state.StateName.TheVariants.{P1, P2, P3, P4, P5, P6, P7, D1, D2, D3}
use Rattle.line_model.specs.declared.table.Action.{Action}
use Rattle.line_model.specs.declared.table.Action.TheVariants.{Move, Normal, Error, Pass, Ends as EndsIndication, Below}
use Rattle.line_model.specs.channels.Verdicts.{Verdict, CallChange}
use Rattle.line_model.specs.channels.Verdicts.Verdict.{Fails, Moves, Transfers, EndsOwed, Nothing}
use Rattle.line_model.specs.declared.finding.Code.TheVariants.{Number, Pad}
use Rattle.line_model.specs.declared.finding.Xcode.{Xcode}
use Rattle.line_model.specs.channels.Verdicts.CallChange.{Opens, GoesUp, Ends, Keeps}
use Rattle.line_model.specs.declared.event.How.{How}
use Rattle.line_model.specs.declared.event.How as how
use Rattle.line_model.specs.declared.event.What.{What}
use Rattle.line_model.specs.declared.event.What.TheVariants.{Found, Open, Up, End, Data as DataAccepted}
use Rattle.line_model.specs.basics.Records.{Item}
use Rattle.line_model.specs.channels.Tables.{action}
use Rattle.line_model.specs.packets.Classes.{header_length, packet_class}
use Rattle.line_model.specs.packets.Says.{header_in, receive_in}
use Rattle.line_model.specs.packets.Facilities.{fields_of}
use Rattle.line_model.specs.channels.Channels.{Channel, AcceptedData, is_permanent, Opening, PadMessage}
use Rattle.line_model.specs.channels.FlowControl.{Counts, sent_by, count_data, count_receive, count_interrupt, count_confirm}
use Rattle.line_model.specs.channels.Sequences.{begun, is_category_a, is_alike, sequence_octets}
use Rattle.line_model.specs.channels.Pad.{message_fault, settings_after}
use Rattle.line_model.specs.packets.Formats.{packet_fault, size_in_force, window_in_force, is_pad_call}

-- what a row reports, and the channel after it
pub record Outcome : Type 0 where
  pub reported : List What
  pub after : Channel

-- no event
abbrev pub report_nothing : Channel → Outcome
report_nothing c = record { reported = []; after = c }

-- one outcome after another
abbrev pub and_then : Outcome → (Channel → Outcome) → Outcome
and_then a f = record { reported = a.reported ++ (f a.after).reported; after = (f a.after).after }

-- the name of a state
abbrev pub setup_name : PState → StateName
setup_name setup.TheVariants.P1 = P1
setup_name setup.TheVariants.P2 = P2
setup_name setup.TheVariants.P3 = P3
setup_name setup.TheVariants.P4 = P4
setup_name setup.TheVariants.P5 = P5
setup_name setup.TheVariants.P6 = P6
setup_name setup.TheVariants.P7 = P7

-- the name of a state of data transfer
abbrev pub transfer_name : DState → StateName
transfer_name transfer.TheVariants.D1 = D1
transfer_name transfer.TheVariants.D2 = D2
transfer_name transfer.TheVariants.D3 = D3

-- the state of a channel by its name; entering p4 enters d1
abbrev pub state_named : StateName → ChannelState
state_named P2 = Setup setup.TheVariants.P2
state_named P3 = Setup setup.TheVariants.P3
state_named P4 = Transfer transfer.TheVariants.D1
state_named P5 = Setup setup.TheVariants.P5
state_named P6 = Setup setup.TheVariants.P6
state_named P7 = Setup setup.TheVariants.P7
state_named D1 = Transfer transfer.TheVariants.D1
state_named D2 = Transfer transfer.TheVariants.D2
state_named D3 = Transfer transfer.TheVariants.D3
state_named _ = Setup setup.TheVariants.P1

-- the state in whose column a packet is judged, and the entry there
pub record Judged : Type 0 where
  pub state : StateName
  pub entry : Action

-- the packets that show the state of an unknown channel: `Call` and `Clear` as in p1, on a permanent circuit `Reset` as in d1 (profile)
abbrev pub is_reset : Class → Bool
is_reset Reset = true
is_reset _ = false

-- whether a packet shows the state of an unknown virtual channel
abbrev pub is_call_or_clear : Class → Bool
is_call_or_clear Call = true
is_call_or_clear Clear = true
is_call_or_clear _ = false

-- the entry of such a packet, and for every other one a pass
abbrev pub joining : (taken : Bool) → StateName → Action → Judged
joining true s a = record { state = s; entry = a }
joining false s a = record { state = s; entry = Pass }

-- a virtual channel in p4 is judged by the first table, and by the second where that says so
abbrev pub judged : (permanent : Bool) → Side → ChannelState → (owed : Bool) → Class → Judged
judged permanent x (Setup p) w k = record { state = setup_name p; entry = action x (setup_name p) w k }
judged true x (Transfer d) w k = record { state = transfer_name d; entry = action x (transfer_name d) w k }
judged false x (Transfer d) w k = elim (action x P4 w k) [
  | Below ↦ record { state = transfer_name d; entry = action x (transfer_name d) w k }
  | a ↦ record { state = P4; entry = a }
]
judged true x Unknown w k = joining (is_reset k) D1 (action x D1 w k)
judged false x Unknown w k = joining (is_call_or_clear k) P1 (action x P1 w k)

-- the verdict on a packet: a finding in a state, a move, a packet of data transfer, the end of what is owed, or nothing
abbrev pub verdict : Judged → (fault : Option ℕ) → Verdict
verdict j fault = elim j.entry [
  | Move s ↦ elim fault [ Some n ↦ Fails j.state n | None ↦ Moves s ]
  | Normal ↦ elim fault [ Some n ↦ Fails j.state n | None ↦ Transfers ]
  | Error n ↦ Fails j.state n
  | EndsIndication ↦ EndsOwed
  | _ ↦ Nothing
]

-- a channel that enters a state: no packet was accepted there yet, and the indication is owed or not
abbrev pub entering : StateName → (owed : Bool) → Channel → Channel
entering s owed c = record c {
  state = state_named s;
  owed = owed;
  accepted = [];
  acknowledged = record { of_t = 0; of_n = 0 };
  unconfirmed = record { of_t = false; of_n = false };
}

-- the call ends, if one is open
abbrev pub ending_open : How → Option Opening → Channel → Outcome
ending_open h None c = report_nothing c
ending_open h (Some o) c = record { reported = End h ∷ []; after = record c { opening = None; accepting = None; pad_messages = [] } }

-- the call of a channel ends, if one is open
abbrev pub ending : How → Channel → Outcome
ending h c = ending_open h c.opening c

-- a call is opened
abbrev pub opening : (out : Bool) → List ℕ → Channel → Outcome
opening out xs c = record {
  reported = Open out (fields_of xs).called (fields_of xs).calling (fields_of xs).reverse_charging ∷ [];
  after = record c { opening = Some (record { out = out; packet = xs }) };
}

-- what a move of the tables does to the call
abbrev pub call_change : Side → Class → StateName → CallChange
call_change T Call s = Opens true
call_change N Call P3 = Opens false
call_change x Accepted P4 = GoesUp
call_change x k P6 = Ends how.TheVariants.T
call_change x k P7 = Ends how.TheVariants.N
call_change x k s = Keeps

-- a change of the call; a call request on a channel with a call cancels that call
abbrev pub changing : List ℕ → CallChange → Channel → Outcome
changing xs (Opens out) c = and_then (ending how.TheVariants.Collision c) (opening out xs)
changing xs GoesUp c = record { reported = Up ∷ []; after = record c { accepting = Some xs } }
changing xs (Ends h) c = ending h c
changing xs Keeps c = report_nothing c

-- a move of the tables
abbrev pub moving : Side → Class → List ℕ → StateName → Channel → Outcome
moving x k xs s c = changing xs (call_change x k s) (entering s false c)

-- where an error of the DTE leads: p7 from the first table, d3 from the second
abbrev pub after_error : StateName → Channel → Outcome
after_error D1 c = report_nothing (entering D3 true c)
after_error D2 c = report_nothing (entering D3 true c)
after_error D3 c = report_nothing (entering D3 true c)
after_error s c = ending how.TheVariants.N (entering P7 true c)

-- an error in a state: the DTE's has the DCE clear or reset, the DCE's changes nothing
abbrev pub failing : Side → StateName → ℕ → Channel → Outcome
failing T s n c =
    and_then (record { reported = Found T s (Number n) ∷ []; after = c }) (after_error s)
failing N s n c = record { reported = Found N s (Number n) ∷ []; after = c }

-- the data packet that a row says
abbrev pub accepted_of : Interface → Item → DataHeader → AcceptedData
accepted_of i r h = record {
  side = r.side;
  qualified = h.qualified;
  more = h.more;
  delivery = h.delivery;
  length = r.length - header_length i;
  octets = drop (header_length i) r.octets;
}

-- the counts of a channel
abbrev pub counts_of : Channel → Counts
counts_of c = record { sent = sent_by c.accepted; acknowledged = c.acknowledged; unconfirmed = c.unconfirmed }

-- the message that a packet completes, if it does: a complete sequence with Q 1 of a PAD call
abbrev pub completed_message : Interface → Side → Channel → AcceptedData → Option (List ℕ)
completed_message i x c p = elim (is_pad_call c) [
  | false ↦ None
  | true ↦ elim p.qualified [
    | false ↦ None
    | true ↦ elim (is_category_a (size_in_force i c x) p) [
      | true ↦ None
      | false ↦ Some (sequence_octets (begun (size_in_force i c x) x c.accepted ++ p ∷ []))
    ]
  ]
]

-- the finding on a message, which is judged in d1
abbrev pub option_found : Side → Option Xcode → Option What
option_found x fault = option_map (λ f. Found x D1 (Pad f)) fault

-- the events of a message: its finding, and what it says of settings
abbrev pub data_reports : Side → AcceptedData → (pad_messages : List PadMessage) → (message : Option (List ℕ)) → List What
data_reports x p pad_messages None = DataAccepted x p.length ∷ []
data_reports x p pad_messages (Some m) =
    let fault : Option Xcode = message_fault x pad_messages m in
    option_to_list (option_found x fault) ++ DataAccepted x p.length ∷ settings_after fault x m

-- the PAD messages of the call after a packet
abbrev pub messages_after : Side → (pad_messages : List PadMessage) → (message : Option (List ℕ)) → List PadMessage
messages_after x pad_messages None = pad_messages
messages_after x pad_messages (Some m) = pad_messages ++ record { from = x; message = m } ∷ []

-- a data packet without fault
abbrev pub accepting_data : Side → AcceptedData → Counts → (message : Option (List ℕ)) → Channel → Outcome
accepting_data x p v message c = record {
  reported = data_reports x p c.pad_messages message;
  after = record c { accepted = c.accepted ++ p ∷ []; acknowledged = v.acknowledged; pad_messages = messages_after x c.pad_messages message };
}

-- a data packet whose numbers are valid, by the Q bit of the sequence that was begun
abbrev pub data_alike : Interface → Side → StateName → AcceptedData → Counts → (alike : Bool) → Channel → Outcome
data_alike i x s p v false c = failing x s INCONSISTENT_Q_BIT_SETTING c
data_alike i x s p v true c = accepting_data x p v (completed_message i x c p) c

-- a data packet by its numbers
abbrev pub data_counted : Interface → Side → StateName → AcceptedData → Result Counts ℕ → Channel → Outcome
data_counted i x s p (Err n) c = failing x s n c
data_counted i x s p (Ok v) c = data_alike i x s p v (is_alike p (begun (size_in_force i c x) x c.accepted)) c

-- a data packet by its header
abbrev pub data_step : Interface → StateName → Item → Option DataHeader → Channel → Outcome
data_step i s r None c = report_nothing c
data_step i s r (Some h) c =
    data_counted i r.side s (accepted_of i r h)
    (count_data i.modulus (window_in_force i c r.side) (counts_of c) r.side h.send h.receive) c

-- a packet that changes the counts alone
abbrev pub counting : Side → StateName → Result Counts ℕ → Channel → Outcome
counting x s (Err n) c = failing x s n c
counting x s (Ok v) c = report_nothing (record c { acknowledged = v.acknowledged; unconfirmed = v.unconfirmed })

-- a packet whose entry is `normal`, and whose format has no fault
abbrev pub transferring : Interface → StateName → Class → Item → Channel → Outcome
transferring i s Data r c = data_step i s r (header_in r.packet) c
transferring i s Interrupt r c = counting r.side s (count_interrupt (counts_of c) r.side) c
transferring i s InterruptConfirm r c = counting r.side s (count_confirm (counts_of c) r.side) c
transferring i s k r c = counting r.side s (count_receive i.modulus (counts_of c) r.side (unwrap_or (receive_in r.packet) 0)) c

-- what a verdict does to the channel
abbrev pub verdict_step : Interface → StateName → Item → Verdict → Channel → Outcome
verdict_step i s r (Fails t n) c = failing r.side t n c
verdict_step i s r (Moves t) c = moving r.side (packet_class r.packet) r.octets t c
verdict_step i s r Transfers c = transferring i s (packet_class r.packet) r c
verdict_step i s r EndsOwed c = report_nothing (record c { owed = false })
verdict_step i s r Nothing c = report_nothing c

-- what a row does to its channel
abbrev pub channel_step : Interface → ℕ → Channel → Item → Outcome
channel_step i n c r =
    let j : Judged = judged (is_permanent i n) r.side c.state c.owed (packet_class r.packet) in
    verdict_step i j.state r (verdict j (packet_fault i n c r)) c
