-- The table of explanations: which words it has, in which order, and which of its rows explain a word.
use Rattle.std.specs.Prelude.{ℕ, Bool, true, false, ◌||◌, List, [], ◌∷◌, ◌++◌, filter, flat_map, map, Some, None, codes, decimal}
use Rattle.std.specs.List.{range_with_len}
use Rattle.std.specs.Borrow.{Bor}
use Rattle.std.specs.Str.{bytes_eq}
use Rattle.line_model.specs.declared.state.Side.TheVariants.{T, N}
use Rattle.line_model.specs.declared.state.StateName.TheVariants.{Dash, R1, R2, R3, P1, P2, P3, P4, P5, P6, P7, D1, D2, D3}
use Rattle.line_model.specs.declared.diagnostic.TheConstants.{INVALID_P_S, INVALID_P_R, PACKET_TYPE_INVALID_FOR_STATE_R1, PACKET_TYPE_INVALID_FOR_STATE_R2, PACKET_TYPE_INVALID_FOR_STATE_R3, PACKET_TYPE_INVALID_FOR_STATE_P1, PACKET_TYPE_INVALID_FOR_STATE_P2, PACKET_TYPE_INVALID_FOR_STATE_P3, PACKET_TYPE_INVALID_FOR_STATE_P4, PACKET_TYPE_INVALID_FOR_STATE_P5, PACKET_TYPE_INVALID_FOR_STATE_P6, PACKET_TYPE_INVALID_FOR_STATE_P7, PACKET_TYPE_INVALID_FOR_STATE_D1, PACKET_TYPE_INVALID_FOR_STATE_D2, PACKET_TYPE_INVALID_FOR_STATE_D3}
use Rattle.line_model.specs.declared.diagnostic.TheConstants.{UNIDENTIFIABLE_PACKET, CALL_ON_ONE_WAY_LOGICAL_CHANNEL, INVALID_PACKET_TYPE_ON_A_PERMANENT_VIRTUAL_CIRCUIT, PACKET_ON_UNASSIGNED_LOGICAL_CHANNEL, REJECT_NOT_SUBSCRIBED_TO, PACKET_TOO_SHORT, PACKET_TOO_LONG, INVALID_GENERAL_FORMAT_IDENTIFIER, RESTART_PACKET_WITH_NON_ZERO_LOGICAL_CHANNEL_IDENTIFIER, UNAUTHORIZED_INTERRUPT_CONFIRMATION, UNAUTHORIZED_INTERRUPT, FACILITY_PARAMETER_NOT_ALLOWED, INVALID_CALLED_DTE_ADDRESS, INVALID_CALLING_DTE_ADDRESS, INVALID_FACILITY_OR_REGISTRATION_LENGTH, INCONSISTENT_Q_BIT_SETTING}
use Rattle.line_model.specs.declared.finding.Xcode.TheVariants.{X1, X2, X3, X4, XL}
use Rattle.line_model.specs.declared.event.How as how
use Rattle.line_model.specs.declared.fault.Kind.TheVariants.{HeaderMissing, HeaderForm, HeaderRange, LineForm, Number, Side, Hex, LineLong, TextLarge}
use Rattle.line_model.specs.declared.fault.Fault.{Fault}
use Rattle.line_model.specs.declared.fault.Fault.TheVariants.{Memory, Trace, Read, Write, Start, Double, UnknownPiece, Missing}
use Rattle.line_model.specs.basics.Faults.{kind_number}
use Rattle.line_model.specs.observer.Report.{side_word, state_word, pad_word, how_word, direction_word, dash}
use Rattle.explanations.specs.declared.explanation.Explanation.{Explanation}
use Rattle.explanations.specs.declared.explanation.Topic.{Topic}
use Rattle.explanations.specs.declared.explanation.Topic as topic

-- a word with the topic that explains it
pub record Key : Type 0 where
  pub topic : Topic
  pub word : List ℕ

-- the word and the topic of a row of the table
abbrev pub key : Explanation → Key
key e = record { topic = e.topic; word = e.word.now }

-- words of one topic
abbrev pub all_of : Topic → List (List ℕ) → List Key
all_of t ws = map (λ w. record { topic = t; word = w }) ws

-- the letters of the report's lines, in their order
abbrev pub line_keys : List Key
line_keys = all_of topic.TheVariants.Line (codes "F" ∷ codes "C" ∷ codes "S" ∷ codes "A" ∷ codes "P" ∷ codes "G" ∷ codes "Z" ∷ [])

-- the sides, and the directions of a call
abbrev pub direction_keys : List Key
direction_keys = all_of topic.TheVariants.Side (map side_word (T ∷ N ∷ [])) ++ all_of topic.TheVariants.Direction (map direction_word (true ∷ false ∷ []))

-- how a call ended
abbrev pub ending_keys : List Key
ending_keys = all_of topic.TheVariants.Ending
    (map how_word (Some how.TheVariants.T ∷ Some how.TheVariants.N ∷ Some how.TheVariants.Collision ∷ Some how.TheVariants.Restart ∷ Some how.TheVariants.Gap ∷ None ∷ []))

-- the words of a setting, and that of an absent value
abbrev pub setting_keys : List Key
setting_keys = all_of topic.TheVariants.Setting (codes "asked" ∷ codes "said" ∷ codes "refused" ∷ []) ++ all_of topic.TheVariants.Absent (dash ∷ [])

-- the fields of the report's lines, in the order in which they come first: those of a finding
abbrev pub finding_field_keys : List Key
finding_field_keys = all_of topic.TheVariants.Field (codes "packet" ∷ codes "side" ∷ codes "state" ∷ codes "code" ∷ [])

-- those of a call, up to the packet from which it was up
abbrev pub call_field_keys : List Key
call_field_keys = all_of topic.TheVariants.Field
    (codes "call" ∷ codes "epoch" ∷ codes "channel" ∷ codes "direction" ∷ codes "called" ∷ codes "calling" ∷ codes "opened" ∷ codes "up" ∷ [])

-- those of its end and of its sums
abbrev pub call_sum_keys : List Key
call_sum_keys = all_of topic.TheVariants.Field
    (codes "ended" ∷ codes "how" ∷ codes "data_t" ∷ codes "octets_t" ∷ codes "data_n" ∷ codes "octets_n" ∷ codes "segments" ∷ [])

-- those of a setting, and the address of an account
abbrev pub setting_field_keys : List Key
setting_field_keys = all_of topic.TheVariants.Field (codes "parameter" ∷ codes "word" ∷ codes "value" ∷ codes "address" ∷ [])

-- those of sums
abbrev pub sum_field_keys : List Key
sum_field_keys = all_of topic.TheVariants.Field
    (codes "calls" ∷ codes "count" ∷ codes "gaps" ∷ codes "packets" ∷ codes "findings" ∷ codes "octets" ∷ [])

-- the states of the interface, of a call and of data transfer
abbrev pub interface_state_keys : List Key
interface_state_keys = all_of topic.TheVariants.State (map state_word (Dash ∷ R1 ∷ R2 ∷ R3 ∷ []))

abbrev pub call_state_keys : List Key
call_state_keys = all_of topic.TheVariants.State (map state_word (P1 ∷ P2 ∷ P3 ∷ P4 ∷ P5 ∷ P6 ∷ P7 ∷ []))

abbrev pub data_state_keys : List Key
data_state_keys = all_of topic.TheVariants.State (map state_word (D1 ∷ D2 ∷ D3 ∷ []))

-- the diagnostic codes of sequence numbers and of packets that the state does not allow
abbrev pub flow_codes : List ℕ
flow_codes =
    INVALID_P_S ∷ INVALID_P_R ∷ PACKET_TYPE_INVALID_FOR_STATE_R1 ∷ PACKET_TYPE_INVALID_FOR_STATE_R2 ∷
    PACKET_TYPE_INVALID_FOR_STATE_R3 ∷ PACKET_TYPE_INVALID_FOR_STATE_P1 ∷ PACKET_TYPE_INVALID_FOR_STATE_P2 ∷
    PACKET_TYPE_INVALID_FOR_STATE_P3 ∷ PACKET_TYPE_INVALID_FOR_STATE_P4 ∷ PACKET_TYPE_INVALID_FOR_STATE_P5 ∷
    PACKET_TYPE_INVALID_FOR_STATE_P6 ∷ PACKET_TYPE_INVALID_FOR_STATE_P7 ∷ PACKET_TYPE_INVALID_FOR_STATE_D1 ∷
    PACKET_TYPE_INVALID_FOR_STATE_D2 ∷ PACKET_TYPE_INVALID_FOR_STATE_D3 ∷ []

-- the diagnostic codes of packets that no state allows, of interrupts, of call packets and of the Q bit
abbrev pub packet_codes : List ℕ
packet_codes =
    UNIDENTIFIABLE_PACKET ∷ CALL_ON_ONE_WAY_LOGICAL_CHANNEL ∷
    INVALID_PACKET_TYPE_ON_A_PERMANENT_VIRTUAL_CIRCUIT ∷ PACKET_ON_UNASSIGNED_LOGICAL_CHANNEL ∷
    REJECT_NOT_SUBSCRIBED_TO ∷ PACKET_TOO_SHORT ∷ PACKET_TOO_LONG ∷ INVALID_GENERAL_FORMAT_IDENTIFIER ∷
    RESTART_PACKET_WITH_NON_ZERO_LOGICAL_CHANNEL_IDENTIFIER ∷ UNAUTHORIZED_INTERRUPT_CONFIRMATION ∷
    UNAUTHORIZED_INTERRUPT ∷ FACILITY_PARAMETER_NOT_ALLOWED ∷ INVALID_CALLED_DTE_ADDRESS ∷
    INVALID_CALLING_DTE_ADDRESS ∷ INVALID_FACILITY_OR_REGISTRATION_LENGTH ∷ INCONSISTENT_Q_BIT_SETTING ∷ []

-- the diagnostic codes of findings
abbrev pub flow_code_keys : List Key
flow_code_keys = all_of topic.TheVariants.Code (map decimal flow_codes)

-- the other diagnostic codes
abbrev pub packet_code_keys : List Key
packet_code_keys = all_of topic.TheVariants.Code (map decimal packet_codes)

-- the codes of findings on PAD messages
abbrev pub message_keys : List Key
message_keys = all_of topic.TheVariants.Message (map pad_word (X1 ∷ X2 ∷ X3 ∷ X4 ∷ XL ∷ []))

-- the kinds of faulty lines
abbrev pub kind_keys : List Key
kind_keys = all_of topic.TheVariants.Kind
    (map (λ k. decimal (kind_number k)) (HeaderMissing ∷ HeaderForm ∷ HeaderRange ∷ LineForm ∷ Number ∷ Side ∷ Hex ∷ LineLong ∷ TextLarge ∷ []))

-- the words of a header
abbrev pub header_word_keys : List Key
header_word_keys = all_of topic.TheVariants.Header
    (codes "X25" ∷ codes "MOD" ∷ codes "WIN" ∷ codes "SIZE" ∷ codes "PVC" ∷ codes "SVC" ∷ codes "IN" ∷ codes "TWO" ∷ codes "OUT"
    ∷ codes "JOIN" ∷ [])

-- a word of the text of each fault
abbrev pub fault_word : Fault → List ℕ
fault_word Memory = codes "memory"
fault_word (Trace line kind) = codes "kind"
fault_word Read = codes "read"
fault_word Write = codes "write"
fault_word Start = codes "thread"
fault_word (Double id) = codes "piece"
fault_word (UnknownPiece id) = codes "piece"
fault_word (Missing id) = codes "piece"

-- the refusals: the faults, arguments that are not text, a word that is not explained, and a trace that cannot be opened
abbrev pub refusal_keys : List Key
refusal_keys = all_of topic.TheVariants.Refusal
    (map fault_word (Memory ∷ Trace 1 HeaderMissing ∷ Read ∷ Write ∷ Start ∷ Double 0 ∷ UnknownPiece 0 ∷ Missing 0 ∷ [])
    ++ codes "arguments" ∷ codes "word" ∷ codes "open" ∷ [])

-- the exit statuses
abbrev pub status_keys : List Key
status_keys = all_of topic.TheVariants.Status (map decimal (0 ∷ 1 ∷ 2 ∷ 3 ∷ 64 ∷ []))

-- the parameters of X.3
abbrev pub parameter_keys : List Key
parameter_keys = all_of topic.TheVariants.Parameter (map decimal (range_with_len 1 22))

-- the causes of clears, of resets and of restarts
abbrev pub clearing_cause_keys : List Key
clearing_cause_keys = all_of topic.TheVariants.ClearingCause (map decimal (0 ∷ 1 ∷ 3 ∷ 5 ∷ 9 ∷ 11 ∷ 13 ∷ 17 ∷ 19 ∷ 21 ∷ 25 ∷ 33 ∷ 41 ∷ 57 ∷ []))

abbrev pub resetting_cause_keys : List Key
resetting_cause_keys = all_of topic.TheVariants.ResettingCause (map decimal (0 ∷ 1 ∷ 3 ∷ 5 ∷ 7 ∷ 9 ∷ 15 ∷ 17 ∷ 29 ∷ []))

abbrev pub restarting_cause_keys : List Key
restarting_cause_keys = all_of topic.TheVariants.RestartingCause (map decimal (0 ∷ 1 ∷ 3 ∷ 7 ∷ 127 ∷ []))

-- the terms of recordings and of what is counted
abbrev pub term_keys : List Key
term_keys = all_of topic.TheVariants.Term
    (codes "window" ∷ codes "frame" ∷ codes "trace" ∷ codes "row" ∷ codes "octet" ∷ codes "segment" ∷ codes "interface" ∷ codes "gap" ∷ codes "adrift" ∷ codes "LAPB" ∷ codes "XOT" ∷ [])

-- the terms of packets
abbrev pub packet_term_keys : List Key
packet_term_keys = all_of topic.TheVariants.Term
    (codes "packet" ∷ codes "P(S)" ∷ codes "P(R)" ∷ codes "M" ∷ codes "D" ∷ codes "Q" ∷ codes "RR" ∷ codes "RNR" ∷ codes "REJ" ∷ codes "interrupt" ∷ codes "diagnostic" ∷ [])

-- the terms of calls
abbrev pub call_term_keys : List Key
call_term_keys = all_of topic.TheVariants.Term
    (codes "call" ∷ codes "PVC" ∷ codes "reset" ∷ codes "clear" ∷ codes "restart" ∷ codes "facility" ∷ codes "reverse charging" ∷ codes "fast select" ∷ codes "PAD" ∷ [])

-- the time-outs of requests (X.25 Annex D)
abbrev pub time_out_keys : List Key
time_out_keys = all_of topic.TheVariants.Term
    (codes "T10" ∷ codes "T11" ∷ codes "T12" ∷ codes "T13" ∷ codes "T20" ∷ codes "T21" ∷ codes "T22" ∷ codes "T23" ∷ [])

-- all words that are explained, in the order of the table; a word may be there more than once
abbrev pub table_keys : List Key
table_keys =
    line_keys ++ direction_keys ++ ending_keys ++ setting_keys ++ finding_field_keys ++ call_field_keys ++ call_sum_keys ++ setting_field_keys
    ++ sum_field_keys ++ interface_state_keys ++ call_state_keys ++ data_state_keys ++ flow_code_keys ++ packet_code_keys ++ message_keys ++ header_word_keys
    ++ kind_keys ++ refusal_keys ++ status_keys ++ clearing_cause_keys ++ resetting_cause_keys ++ restarting_cause_keys ++ term_keys
    ++ packet_term_keys ++ call_term_keys ++ time_out_keys ++ parameter_keys

-- the rows of the table, section after section
abbrev pub rows : List (Bor (List Explanation)) → List Explanation
rows sections = flat_map (λ section. section.now) sections

-- the name of a topic, by which all its words are asked for
abbrev pub topic_name : Topic → List ℕ
topic_name topic.TheVariants.Line = codes "line"
topic_name topic.TheVariants.Side = codes "side"
topic_name topic.TheVariants.Direction = codes "direction"
topic_name topic.TheVariants.Ending = codes "end"
topic_name topic.TheVariants.Setting = codes "setting"
topic_name topic.TheVariants.Absent = codes "absent"
topic_name topic.TheVariants.State = codes "state"
topic_name topic.TheVariants.Code = codes "code"
topic_name topic.TheVariants.Message = codes "message"
topic_name topic.TheVariants.Kind = codes "kind"
topic_name topic.TheVariants.Refusal = codes "refusal"
topic_name topic.TheVariants.Status = codes "status"
topic_name topic.TheVariants.Parameter = codes "parameter"
topic_name topic.TheVariants.Field = codes "field"
topic_name topic.TheVariants.Header = codes "header"
topic_name topic.TheVariants.ClearingCause = codes "cause"
topic_name topic.TheVariants.ResettingCause = codes "cause"
topic_name topic.TheVariants.RestartingCause = codes "cause"
topic_name topic.TheVariants.Term = codes "term"

-- a word of a topic, as it is asked for with its topic
abbrev pub of_topic : (topic word : List ℕ) → List ℕ
of_topic topic word = topic ++ (codes " " ++ word)

-- whether a row explains a word: its own, its name, the name of its topic, or its own after that with a space between them
abbrev pub is_of : List ℕ → Explanation → Bool
is_of word e =
    bytes_eq e.word.now word
    || (bytes_eq e.name.now word || (bytes_eq (topic_name e.topic) word || bytes_eq (of_topic (topic_name e.topic) e.word.now) word))

-- the rows that explain a word, in the order of the table
abbrev pub explanations_of : List ℕ → List Explanation → List Explanation
explanations_of word es = filter (is_of word) es
