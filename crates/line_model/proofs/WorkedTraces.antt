-- The worked traces, by computing.
-- tools/worked_traces.py writes this file from tests/traces/worked.
use Rattle.std.proofs.Common.{◌≡◌, refl, length, Some}
use Rattle.std.specs.Fmt.{digits}
use Rattle.hex.specs.Hex.{decode_pairs}
use Rattle.line_model.specs.declared.fault.Kind.TheVariants.{HeaderMissing, HeaderForm, HeaderRange, LineForm, Number, Side, Hex, LineLong}
use Rattle.line_model.specs.text.Header.{header_numbers, interface_with, interface_of}
use Rattle.line_model.specs.text.RowLine.{row_words, octets_of, row_kind, row_of}
use Rattle.line_model.specs.text.Text.{fault, head, rows, head_of, rows_in, last_number, size_kind, header_kind, contents_kind}
use Rattle.line_model.specs.traces.Traces.{IsReported, trace_plan}
use Rattle.line_model.specs.traces.WorkedTexts.{addresses_reverse_charging-text, call_faults_in_order-text, call_formats-text, classes_in_order-text, collision_dce_first-text, collision_dte_first-text, comment_of_8500_bytes-text, cut_packets_modulo_128-text, data_faults_in_order-text, dce_faults-text, empty_trace-text, error_clears_channel-text, full_window-text, incoming_call_short_clear-text, invalid_receive_number-text, join_in_the_middle-text, join_unknown_channels-text, message_faults_in_order-text, mixed_qualifier-text, modulo_128_cut_header-text, negotiated_size_and_window-text, one_piece-text, one_way_channels-text, pad_message_1023-text, pad_message_1024-text, pad_message_1025-text, pad_message_faults-text, pad_pairs_cut-text, pad_read_only_parameter_asked-text, pad_return_to_initial-text, pad_setting_asked-text, pad_setting_said-text, permanent_circuit_interrupts-text, permanent_circuit-text, refused_empty_line-text, refused_form_before_number-text, refused_header_form_before_range-text, refused_header_form-text, refused_incoming_below_permanent-text, refused_join_first_form-text, refused_leading_zero-text, refused_long_comment-text, refused_modulus-text, refused_no_header-text, refused_number_before_side-text, refused_number_order-text, refused_odd_hex-text, refused_side_before_hex-text, refused_side-text, refused_too_many_octets-text, refused_word_behind_join-text, reset_drops_begun_message-text, restart_confirmations-text, restart_ends_call-text, restart_formats-text, restart_machine_by_channel_packet-text, sequence_wrap-text, short_data_ends_sequence-text, short_packet-text, three_epochs-text, two_calls_at_once-text, unassigned_channel-text, wrong_format-text}
use Rattle.line_model.specs.traces.WorkedReports.{addresses_reverse_charging-report, call_faults_in_order-report, call_formats-report, classes_in_order-report, collision_dce_first-report, collision_dte_first-report, comment_of_8500_bytes-report, cut_packets_modulo_128-report, data_faults_in_order-report, dce_faults-report, empty_trace-report, error_clears_channel-report, full_window-report, incoming_call_short_clear-report, invalid_receive_number-report, join_in_the_middle-report, join_unknown_channels-report, message_faults_in_order-report, mixed_qualifier-report, modulo_128_cut_header-report, negotiated_size_and_window-report, one_piece-report, one_way_channels-report, pad_message_1023-report, pad_message_1024-report, pad_message_1025-report, pad_message_faults-report, pad_pairs_cut-report, pad_read_only_parameter_asked-report, pad_return_to_initial-report, pad_setting_asked-report, pad_setting_said-report, permanent_circuit_interrupts-report, permanent_circuit-report, reset_drops_begun_message-report, restart_confirmations-report, restart_ends_call-report, restart_formats-report, restart_machine_by_channel_packet-report, sequence_wrap-report, short_data_ends_sequence-report, short_packet-report, three_epochs-report, two_calls_at_once-report, unassigned_channel-report, wrong_format-report}
use Rattle.line_model.specs.traces.WorkedTraces.{WorkedTraces}

addresses_reverse_charging-holds : IsReported addresses_reverse_charging-text addresses_reverse_charging-report
unfolding digits decode_pairs fault head rows head_of rows_in last_number size_kind header_kind contents_kind header_numbers interface_with interface_of row_words octets_of row_kind row_of
addresses_reverse_charging-holds = record { sound = refl; report = refl }

call_faults_in_order-holds : IsReported call_faults_in_order-text call_faults_in_order-report
unfolding digits decode_pairs fault head rows head_of rows_in last_number size_kind header_kind contents_kind header_numbers interface_with interface_of row_words octets_of row_kind row_of
call_faults_in_order-holds = record { sound = refl; report = refl }

call_formats-holds : IsReported call_formats-text call_formats-report
unfolding digits decode_pairs fault head rows head_of rows_in last_number size_kind header_kind contents_kind header_numbers interface_with interface_of row_words octets_of row_kind row_of
call_formats-holds = record { sound = refl; report = refl }

classes_in_order-holds : IsReported classes_in_order-text classes_in_order-report
unfolding digits decode_pairs fault head rows head_of rows_in last_number size_kind header_kind contents_kind header_numbers interface_with interface_of row_words octets_of row_kind row_of
classes_in_order-holds = record { sound = refl; report = refl }

collision_dce_first-holds : IsReported collision_dce_first-text collision_dce_first-report
unfolding digits decode_pairs fault head rows head_of rows_in last_number size_kind header_kind contents_kind header_numbers interface_with interface_of row_words octets_of row_kind row_of
collision_dce_first-holds = record { sound = refl; report = refl }

collision_dte_first-holds : IsReported collision_dte_first-text collision_dte_first-report
unfolding digits decode_pairs fault head rows head_of rows_in last_number size_kind header_kind contents_kind header_numbers interface_with interface_of row_words octets_of row_kind row_of
collision_dte_first-holds = record { sound = refl; report = refl }

comment_of_8500_bytes-holds : IsReported comment_of_8500_bytes-text comment_of_8500_bytes-report
unfolding digits decode_pairs fault head rows head_of rows_in last_number size_kind header_kind contents_kind header_numbers interface_with interface_of row_words octets_of row_kind row_of
comment_of_8500_bytes-holds = record { sound = refl; report = refl }

cut_packets_modulo_128-holds : IsReported cut_packets_modulo_128-text cut_packets_modulo_128-report
unfolding digits decode_pairs fault head rows head_of rows_in last_number size_kind header_kind contents_kind header_numbers interface_with interface_of row_words octets_of row_kind row_of
cut_packets_modulo_128-holds = record { sound = refl; report = refl }

data_faults_in_order-holds : IsReported data_faults_in_order-text data_faults_in_order-report
unfolding digits decode_pairs fault head rows head_of rows_in last_number size_kind header_kind contents_kind header_numbers interface_with interface_of row_words octets_of row_kind row_of
data_faults_in_order-holds = record { sound = refl; report = refl }

dce_faults-holds : IsReported dce_faults-text dce_faults-report
unfolding digits decode_pairs fault head rows head_of rows_in last_number size_kind header_kind contents_kind header_numbers interface_with interface_of row_words octets_of row_kind row_of
dce_faults-holds = record { sound = refl; report = refl }

empty_trace-holds : IsReported empty_trace-text empty_trace-report
unfolding digits decode_pairs fault head rows head_of rows_in last_number size_kind header_kind contents_kind header_numbers interface_with interface_of row_words octets_of row_kind row_of
empty_trace-holds = record { sound = refl; report = refl }

error_clears_channel-holds : IsReported error_clears_channel-text error_clears_channel-report
unfolding digits decode_pairs fault head rows head_of rows_in last_number size_kind header_kind contents_kind header_numbers interface_with interface_of row_words octets_of row_kind row_of
error_clears_channel-holds = record { sound = refl; report = refl }

full_window-holds : IsReported full_window-text full_window-report
unfolding digits decode_pairs fault head rows head_of rows_in last_number size_kind header_kind contents_kind header_numbers interface_with interface_of row_words octets_of row_kind row_of
full_window-holds = record { sound = refl; report = refl }

incoming_call_short_clear-holds : IsReported incoming_call_short_clear-text incoming_call_short_clear-report
unfolding digits decode_pairs fault head rows head_of rows_in last_number size_kind header_kind contents_kind header_numbers interface_with interface_of row_words octets_of row_kind row_of
incoming_call_short_clear-holds = record { sound = refl; report = refl }

invalid_receive_number-holds : IsReported invalid_receive_number-text invalid_receive_number-report
unfolding digits decode_pairs fault head rows head_of rows_in last_number size_kind header_kind contents_kind header_numbers interface_with interface_of row_words octets_of row_kind row_of
invalid_receive_number-holds = record { sound = refl; report = refl }

join_in_the_middle-holds : IsReported join_in_the_middle-text join_in_the_middle-report
unfolding digits decode_pairs fault head rows head_of rows_in last_number size_kind header_kind contents_kind header_numbers interface_with interface_of row_words octets_of row_kind row_of
join_in_the_middle-holds = record { sound = refl; report = refl }

join_unknown_channels-holds : IsReported join_unknown_channels-text join_unknown_channels-report
unfolding digits decode_pairs fault head rows head_of rows_in last_number size_kind header_kind contents_kind header_numbers interface_with interface_of row_words octets_of row_kind row_of
join_unknown_channels-holds = record { sound = refl; report = refl }

message_faults_in_order-holds : IsReported message_faults_in_order-text message_faults_in_order-report
unfolding digits decode_pairs fault head rows head_of rows_in last_number size_kind header_kind contents_kind header_numbers interface_with interface_of row_words octets_of row_kind row_of
message_faults_in_order-holds = record { sound = refl; report = refl }

mixed_qualifier-holds : IsReported mixed_qualifier-text mixed_qualifier-report
unfolding digits decode_pairs fault head rows head_of rows_in last_number size_kind header_kind contents_kind header_numbers interface_with interface_of row_words octets_of row_kind row_of
mixed_qualifier-holds = record { sound = refl; report = refl }

modulo_128_cut_header-holds : IsReported modulo_128_cut_header-text modulo_128_cut_header-report
unfolding digits decode_pairs fault head rows head_of rows_in last_number size_kind header_kind contents_kind header_numbers interface_with interface_of row_words octets_of row_kind row_of
modulo_128_cut_header-holds = record { sound = refl; report = refl }

negotiated_size_and_window-holds : IsReported negotiated_size_and_window-text negotiated_size_and_window-report
unfolding digits decode_pairs fault head rows head_of rows_in last_number size_kind header_kind contents_kind header_numbers interface_with interface_of row_words octets_of row_kind row_of
negotiated_size_and_window-holds = record { sound = refl; report = refl }

one_piece-holds : IsReported one_piece-text one_piece-report
unfolding digits decode_pairs fault head rows head_of rows_in last_number size_kind header_kind contents_kind header_numbers interface_with interface_of row_words octets_of row_kind row_of
one_piece-holds = record { sound = refl; report = refl }

one_way_channels-holds : IsReported one_way_channels-text one_way_channels-report
unfolding digits decode_pairs fault head rows head_of rows_in last_number size_kind header_kind contents_kind header_numbers interface_with interface_of row_words octets_of row_kind row_of
one_way_channels-holds = record { sound = refl; report = refl }

pad_message_1023-holds : IsReported pad_message_1023-text pad_message_1023-report
unfolding digits decode_pairs fault head rows head_of rows_in last_number size_kind header_kind contents_kind header_numbers interface_with interface_of row_words octets_of row_kind row_of
pad_message_1023-holds = record { sound = refl; report = refl }

pad_message_1024-holds : IsReported pad_message_1024-text pad_message_1024-report
unfolding digits decode_pairs fault head rows head_of rows_in last_number size_kind header_kind contents_kind header_numbers interface_with interface_of row_words octets_of row_kind row_of
pad_message_1024-holds = record { sound = refl; report = refl }

pad_message_1025-holds : IsReported pad_message_1025-text pad_message_1025-report
unfolding digits decode_pairs fault head rows head_of rows_in last_number size_kind header_kind contents_kind header_numbers interface_with interface_of row_words octets_of row_kind row_of
pad_message_1025-holds = record { sound = refl; report = refl }

pad_message_faults-holds : IsReported pad_message_faults-text pad_message_faults-report
unfolding digits decode_pairs fault head rows head_of rows_in last_number size_kind header_kind contents_kind header_numbers interface_with interface_of row_words octets_of row_kind row_of
pad_message_faults-holds = record { sound = refl; report = refl }

pad_pairs_cut-holds : IsReported pad_pairs_cut-text pad_pairs_cut-report
unfolding digits decode_pairs fault head rows head_of rows_in last_number size_kind header_kind contents_kind header_numbers interface_with interface_of row_words octets_of row_kind row_of
pad_pairs_cut-holds = record { sound = refl; report = refl }

pad_read_only_parameter_asked-holds : IsReported pad_read_only_parameter_asked-text pad_read_only_parameter_asked-report
unfolding digits decode_pairs fault head rows head_of rows_in last_number size_kind header_kind contents_kind header_numbers interface_with interface_of row_words octets_of row_kind row_of
pad_read_only_parameter_asked-holds = record { sound = refl; report = refl }

pad_return_to_initial-holds : IsReported pad_return_to_initial-text pad_return_to_initial-report
unfolding digits decode_pairs fault head rows head_of rows_in last_number size_kind header_kind contents_kind header_numbers interface_with interface_of row_words octets_of row_kind row_of
pad_return_to_initial-holds = record { sound = refl; report = refl }

pad_setting_asked-holds : IsReported pad_setting_asked-text pad_setting_asked-report
unfolding digits decode_pairs fault head rows head_of rows_in last_number size_kind header_kind contents_kind header_numbers interface_with interface_of row_words octets_of row_kind row_of
pad_setting_asked-holds = record { sound = refl; report = refl }

pad_setting_said-holds : IsReported pad_setting_said-text pad_setting_said-report
unfolding digits decode_pairs fault head rows head_of rows_in last_number size_kind header_kind contents_kind header_numbers interface_with interface_of row_words octets_of row_kind row_of
pad_setting_said-holds = record { sound = refl; report = refl }

permanent_circuit_interrupts-holds : IsReported permanent_circuit_interrupts-text permanent_circuit_interrupts-report
unfolding digits decode_pairs fault head rows head_of rows_in last_number size_kind header_kind contents_kind header_numbers interface_with interface_of row_words octets_of row_kind row_of
permanent_circuit_interrupts-holds = record { sound = refl; report = refl }

permanent_circuit-holds : IsReported permanent_circuit-text permanent_circuit-report
unfolding digits decode_pairs fault head rows head_of rows_in last_number size_kind header_kind contents_kind header_numbers interface_with interface_of row_words octets_of row_kind row_of
permanent_circuit-holds = record { sound = refl; report = refl }

refused_empty_line-holds : fault refused_empty_line-text ≡ Some (2, LineForm)
unfolding digits decode_pairs fault head rows head_of rows_in last_number size_kind header_kind contents_kind header_numbers interface_with interface_of row_words octets_of row_kind row_of
refused_empty_line-holds = refl

refused_form_before_number-holds : fault refused_form_before_number-text ≡ Some (2, LineForm)
unfolding digits decode_pairs fault head rows head_of rows_in last_number size_kind header_kind contents_kind header_numbers interface_with interface_of row_words octets_of row_kind row_of
refused_form_before_number-holds = refl

refused_header_form_before_range-holds : fault refused_header_form_before_range-text ≡ Some (1, HeaderForm)
unfolding digits decode_pairs fault head rows head_of rows_in last_number size_kind header_kind contents_kind header_numbers interface_with interface_of row_words octets_of row_kind row_of
refused_header_form_before_range-holds = refl

refused_header_form-holds : fault refused_header_form-text ≡ Some (1, HeaderForm)
unfolding digits decode_pairs fault head rows head_of rows_in last_number size_kind header_kind contents_kind header_numbers interface_with interface_of row_words octets_of row_kind row_of
refused_header_form-holds = refl

refused_incoming_below_permanent-holds : fault refused_incoming_below_permanent-text ≡ Some (1, HeaderRange)
unfolding digits decode_pairs fault head rows head_of rows_in last_number size_kind header_kind contents_kind header_numbers interface_with interface_of row_words octets_of row_kind row_of
refused_incoming_below_permanent-holds = refl

refused_join_first_form-holds : fault refused_join_first_form-text ≡ Some (1, HeaderForm)
unfolding digits decode_pairs fault head rows head_of rows_in last_number size_kind header_kind contents_kind header_numbers interface_with interface_of row_words octets_of row_kind row_of
refused_join_first_form-holds = refl

refused_leading_zero-holds : fault refused_leading_zero-text ≡ Some (2, Number)
unfolding digits decode_pairs fault head rows head_of rows_in last_number size_kind header_kind contents_kind header_numbers interface_with interface_of row_words octets_of row_kind row_of
refused_leading_zero-holds = refl

refused_long_comment-holds : fault refused_long_comment-text ≡ Some (2, LineLong)
unfolding digits decode_pairs fault head rows head_of rows_in last_number size_kind header_kind contents_kind header_numbers interface_with interface_of row_words octets_of row_kind row_of
refused_long_comment-holds = refl

refused_modulus-holds : fault refused_modulus-text ≡ Some (1, HeaderRange)
unfolding digits decode_pairs fault head rows head_of rows_in last_number size_kind header_kind contents_kind header_numbers interface_with interface_of row_words octets_of row_kind row_of
refused_modulus-holds = refl

refused_no_header-holds : fault refused_no_header-text ≡ Some (1, HeaderMissing)
unfolding digits decode_pairs fault head rows head_of rows_in last_number size_kind header_kind contents_kind header_numbers interface_with interface_of row_words octets_of row_kind row_of
refused_no_header-holds = refl

refused_number_before_side-holds : fault refused_number_before_side-text ≡ Some (2, Number)
unfolding digits decode_pairs fault head rows head_of rows_in last_number size_kind header_kind contents_kind header_numbers interface_with interface_of row_words octets_of row_kind row_of
refused_number_before_side-holds = refl

refused_number_order-holds : fault refused_number_order-text ≡ Some (3, Number)
unfolding digits decode_pairs fault head rows head_of rows_in last_number size_kind header_kind contents_kind header_numbers interface_with interface_of row_words octets_of row_kind row_of
refused_number_order-holds = refl

refused_odd_hex-holds : fault refused_odd_hex-text ≡ Some (2, Hex)
unfolding digits decode_pairs fault head rows head_of rows_in last_number size_kind header_kind contents_kind header_numbers interface_with interface_of row_words octets_of row_kind row_of
refused_odd_hex-holds = refl

refused_side_before_hex-holds : fault refused_side_before_hex-text ≡ Some (2, Side)
unfolding digits decode_pairs fault head rows head_of rows_in last_number size_kind header_kind contents_kind header_numbers interface_with interface_of row_words octets_of row_kind row_of
refused_side_before_hex-holds = refl

refused_side-holds : fault refused_side-text ≡ Some (2, Side)
unfolding digits decode_pairs fault head rows head_of rows_in last_number size_kind header_kind contents_kind header_numbers interface_with interface_of row_words octets_of row_kind row_of
refused_side-holds = refl

refused_too_many_octets-holds : fault refused_too_many_octets-text ≡ Some (2, Hex)
unfolding digits decode_pairs fault head rows head_of rows_in last_number size_kind header_kind contents_kind header_numbers interface_with interface_of row_words octets_of row_kind row_of
refused_too_many_octets-holds = refl

refused_word_behind_join-holds : fault refused_word_behind_join-text ≡ Some (1, HeaderForm)
unfolding digits decode_pairs fault head rows head_of rows_in last_number size_kind header_kind contents_kind header_numbers interface_with interface_of row_words octets_of row_kind row_of
refused_word_behind_join-holds = refl

reset_drops_begun_message-holds : IsReported reset_drops_begun_message-text reset_drops_begun_message-report
unfolding digits decode_pairs fault head rows head_of rows_in last_number size_kind header_kind contents_kind header_numbers interface_with interface_of row_words octets_of row_kind row_of
reset_drops_begun_message-holds = record { sound = refl; report = refl }

restart_confirmations-holds : IsReported restart_confirmations-text restart_confirmations-report
unfolding digits decode_pairs fault head rows head_of rows_in last_number size_kind header_kind contents_kind header_numbers interface_with interface_of row_words octets_of row_kind row_of
restart_confirmations-holds = record { sound = refl; report = refl }

restart_ends_call-holds : IsReported restart_ends_call-text restart_ends_call-report
unfolding digits decode_pairs fault head rows head_of rows_in last_number size_kind header_kind contents_kind header_numbers interface_with interface_of row_words octets_of row_kind row_of
restart_ends_call-holds = record { sound = refl; report = refl }

restart_formats-holds : IsReported restart_formats-text restart_formats-report
unfolding digits decode_pairs fault head rows head_of rows_in last_number size_kind header_kind contents_kind header_numbers interface_with interface_of row_words octets_of row_kind row_of
restart_formats-holds = record { sound = refl; report = refl }

restart_machine_by_channel_packet-holds : IsReported restart_machine_by_channel_packet-text restart_machine_by_channel_packet-report
unfolding digits decode_pairs fault head rows head_of rows_in last_number size_kind header_kind contents_kind header_numbers interface_with interface_of row_words octets_of row_kind row_of
restart_machine_by_channel_packet-holds = record { sound = refl; report = refl }

sequence_wrap-holds : IsReported sequence_wrap-text sequence_wrap-report
unfolding digits decode_pairs fault head rows head_of rows_in last_number size_kind header_kind contents_kind header_numbers interface_with interface_of row_words octets_of row_kind row_of
sequence_wrap-holds = record { sound = refl; report = refl }

short_data_ends_sequence-holds : IsReported short_data_ends_sequence-text short_data_ends_sequence-report
unfolding digits decode_pairs fault head rows head_of rows_in last_number size_kind header_kind contents_kind header_numbers interface_with interface_of row_words octets_of row_kind row_of
short_data_ends_sequence-holds = record { sound = refl; report = refl }

short_packet-holds : IsReported short_packet-text short_packet-report
unfolding digits decode_pairs fault head rows head_of rows_in last_number size_kind header_kind contents_kind header_numbers interface_with interface_of row_words octets_of row_kind row_of
short_packet-holds = record { sound = refl; report = refl }

three_epochs-holds : IsReported three_epochs-text three_epochs-report
unfolding digits decode_pairs fault head rows head_of rows_in last_number size_kind header_kind contents_kind header_numbers interface_with interface_of row_words octets_of row_kind row_of
three_epochs-holds = record { sound = refl; report = refl }

two_calls_at_once-holds : IsReported two_calls_at_once-text two_calls_at_once-report
unfolding digits decode_pairs fault head rows head_of rows_in last_number size_kind header_kind contents_kind header_numbers interface_with interface_of row_words octets_of row_kind row_of
two_calls_at_once-holds = record { sound = refl; report = refl }

unassigned_channel-holds : IsReported unassigned_channel-text unassigned_channel-report
unfolding digits decode_pairs fault head rows head_of rows_in last_number size_kind header_kind contents_kind header_numbers interface_with interface_of row_words octets_of row_kind row_of
unassigned_channel-holds = record { sound = refl; report = refl }

wrong_format-holds : IsReported wrong_format-text wrong_format-report
unfolding digits decode_pairs fault head rows head_of rows_in last_number size_kind header_kind contents_kind header_numbers interface_with interface_of row_words octets_of row_kind row_of
wrong_format-holds = record { sound = refl; report = refl }

three_epochs-planned : length (trace_plan three_epochs-text) ≡ 12
unfolding digits decode_pairs fault head rows head_of rows_in last_number size_kind header_kind contents_kind header_numbers interface_with interface_of row_words octets_of row_kind row_of
three_epochs-planned = refl

pub worked : WorkedTraces
worked = record {
  addresses_reverse_charging = addresses_reverse_charging-holds;
  call_faults_in_order = call_faults_in_order-holds;
  call_formats = call_formats-holds;
  classes_in_order = classes_in_order-holds;
  collision_dce_first = collision_dce_first-holds;
  collision_dte_first = collision_dte_first-holds;
  comment_of_8500_bytes = comment_of_8500_bytes-holds;
  cut_packets_modulo_128 = cut_packets_modulo_128-holds;
  data_faults_in_order = data_faults_in_order-holds;
  dce_faults = dce_faults-holds;
  empty_trace = empty_trace-holds;
  error_clears_channel = error_clears_channel-holds;
  full_window = full_window-holds;
  incoming_call_short_clear = incoming_call_short_clear-holds;
  invalid_receive_number = invalid_receive_number-holds;
  join_in_the_middle = join_in_the_middle-holds;
  join_unknown_channels = join_unknown_channels-holds;
  message_faults_in_order = message_faults_in_order-holds;
  mixed_qualifier = mixed_qualifier-holds;
  modulo_128_cut_header = modulo_128_cut_header-holds;
  negotiated_size_and_window = negotiated_size_and_window-holds;
  one_piece = one_piece-holds;
  one_way_channels = one_way_channels-holds;
  pad_message_1023 = pad_message_1023-holds;
  pad_message_1024 = pad_message_1024-holds;
  pad_message_1025 = pad_message_1025-holds;
  pad_message_faults = pad_message_faults-holds;
  pad_pairs_cut = pad_pairs_cut-holds;
  pad_read_only_parameter_asked = pad_read_only_parameter_asked-holds;
  pad_return_to_initial = pad_return_to_initial-holds;
  pad_setting_asked = pad_setting_asked-holds;
  pad_setting_said = pad_setting_said-holds;
  permanent_circuit_interrupts = permanent_circuit_interrupts-holds;
  permanent_circuit = permanent_circuit-holds;
  refused_empty_line = refused_empty_line-holds;
  refused_form_before_number = refused_form_before_number-holds;
  refused_header_form_before_range = refused_header_form_before_range-holds;
  refused_header_form = refused_header_form-holds;
  refused_incoming_below_permanent = refused_incoming_below_permanent-holds;
  refused_join_first_form = refused_join_first_form-holds;
  refused_leading_zero = refused_leading_zero-holds;
  refused_long_comment = refused_long_comment-holds;
  refused_modulus = refused_modulus-holds;
  refused_no_header = refused_no_header-holds;
  refused_number_before_side = refused_number_before_side-holds;
  refused_number_order = refused_number_order-holds;
  refused_odd_hex = refused_odd_hex-holds;
  refused_side_before_hex = refused_side_before_hex-holds;
  refused_side = refused_side-holds;
  refused_too_many_octets = refused_too_many_octets-holds;
  refused_word_behind_join = refused_word_behind_join-holds;
  reset_drops_begun_message = reset_drops_begun_message-holds;
  restart_confirmations = restart_confirmations-holds;
  restart_ends_call = restart_ends_call-holds;
  restart_formats = restart_formats-holds;
  restart_machine_by_channel_packet = restart_machine_by_channel_packet-holds;
  sequence_wrap = sequence_wrap-holds;
  short_data_ends_sequence = short_data_ends_sequence-holds;
  short_packet = short_packet-holds;
  three_epochs = three_epochs-holds;
  two_calls_at_once = two_calls_at_once-holds;
  unassigned_channel = unassigned_channel-holds;
  wrong_format = wrong_format-holds;
  three_epochs-pieces = three_epochs-planned;
}
