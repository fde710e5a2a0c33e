-- What the worked traces come to: each is refused by its first faulty line, or has no fault and exactly this report.
-- tools/worked_traces.py writes this file from tests/traces/worked.
use Rattle.std.specs.Prelude.{◌≡◌, Some, length}
use Rattle.line_model.specs.declared.fault.Kind.TheVariants.{HeaderMissing, HeaderForm, HeaderRange, LineForm, Number, Side, Hex, LineLong}
use Rattle.line_model.specs.text.Text.{fault}
use Rattle.line_model.specs.traces.Traces.{IsReported, trace_plan}
use Rattle.line_model.specs.traces.WorkedTexts.{addresses_reverse_charging-text, call_faults_in_order-text, call_formats-text, classes_in_order-text, collision_dce_first-text, collision_dte_first-text, comment_of_8500_bytes-text, cut_packets_modulo_128-text, data_faults_in_order-text, dce_faults-text, empty_trace-text, error_clears_channel-text, full_window-text, incoming_call_short_clear-text, invalid_receive_number-text, join_in_the_middle-text, join_unknown_channels-text, message_faults_in_order-text, mixed_qualifier-text, modulo_128_cut_header-text, negotiated_size_and_window-text, one_piece-text, one_way_channels-text, pad_message_1023-text, pad_message_1024-text, pad_message_1025-text, pad_message_faults-text, pad_pairs_cut-text, pad_read_only_parameter_asked-text, pad_return_to_initial-text, pad_setting_asked-text, pad_setting_said-text, permanent_circuit_interrupts-text, permanent_circuit-text, refused_empty_line-text, refused_form_before_number-text, refused_header_form_before_range-text, refused_header_form-text, refused_incoming_below_permanent-text, refused_join_first_form-text, refused_leading_zero-text, refused_long_comment-text, refused_modulus-text, refused_no_header-text, refused_number_before_side-text, refused_number_order-text, refused_odd_hex-text, refused_side_before_hex-text, refused_side-text, refused_too_many_octets-text, refused_word_behind_join-text, reset_drops_begun_message-text, restart_confirmations-text, restart_ends_call-text, restart_formats-text, restart_machine_by_channel_packet-text, sequence_wrap-text, short_data_ends_sequence-text, short_packet-text, three_epochs-text, two_calls_at_once-text, unassigned_channel-text, wrong_format-text}
use Rattle.line_model.specs.traces.WorkedReports.{addresses_reverse_charging-report, call_faults_in_order-report, call_formats-report, classes_in_order-report, collision_dce_first-report, collision_dte_first-report, comment_of_8500_bytes-report, cut_packets_modulo_128-report, data_faults_in_order-report, dce_faults-report, empty_trace-report, error_clears_channel-report, full_window-report, incoming_call_short_clear-report, invalid_receive_number-report, join_in_the_middle-report, join_unknown_channels-report, message_faults_in_order-report, mixed_qualifier-report, modulo_128_cut_header-report, negotiated_size_and_window-report, one_piece-report, one_way_channels-report, pad_message_1023-report, pad_message_1024-report, pad_message_1025-report, pad_message_faults-report, pad_pairs_cut-report, pad_read_only_parameter_asked-report, pad_return_to_initial-report, pad_setting_asked-report, pad_setting_said-report, permanent_circuit_interrupts-report, permanent_circuit-report, reset_drops_begun_message-report, restart_confirmations-report, restart_ends_call-report, restart_formats-report, restart_machine_by_channel_packet-report, sequence_wrap-report, short_data_ends_sequence-report, short_packet-report, three_epochs-report, two_calls_at_once-report, unassigned_channel-report, wrong_format-report}

pub record WorkedTraces : Type 0 where
  pub addresses_reverse_charging : IsReported addresses_reverse_charging-text addresses_reverse_charging-report
  pub call_faults_in_order : IsReported call_faults_in_order-text call_faults_in_order-report
  pub call_formats : IsReported call_formats-text call_formats-report
  pub classes_in_order : IsReported classes_in_order-text classes_in_order-report
  pub collision_dce_first : IsReported collision_dce_first-text collision_dce_first-report
  pub collision_dte_first : IsReported collision_dte_first-text collision_dte_first-report
  pub comment_of_8500_bytes : IsReported comment_of_8500_bytes-text comment_of_8500_bytes-report
  pub cut_packets_modulo_128 : IsReported cut_packets_modulo_128-text cut_packets_modulo_128-report
  pub data_faults_in_order : IsReported data_faults_in_order-text data_faults_in_order-report
  pub dce_faults : IsReported dce_faults-text dce_faults-report
  pub empty_trace : IsReported empty_trace-text empty_trace-report
  pub error_clears_channel : IsReported error_clears_channel-text error_clears_channel-report
  pub full_window : IsReported full_window-text full_window-report
  pub incoming_call_short_clear : IsReported incoming_call_short_clear-text incoming_call_short_clear-report
  pub invalid_receive_number : IsReported invalid_receive_number-text invalid_receive_number-report
  pub join_in_the_middle : IsReported join_in_the_middle-text join_in_the_middle-report
  pub join_unknown_channels : IsReported join_unknown_channels-text join_unknown_channels-report
  pub message_faults_in_order : IsReported message_faults_in_order-text message_faults_in_order-report
  pub mixed_qualifier : IsReported mixed_qualifier-text mixed_qualifier-report
  pub modulo_128_cut_header : IsReported modulo_128_cut_header-text modulo_128_cut_header-report
  pub negotiated_size_and_window : IsReported negotiated_size_and_window-text negotiated_size_and_window-report
  pub one_piece : IsReported one_piece-text one_piece-report
  pub one_way_channels : IsReported one_way_channels-text one_way_channels-report
  pub pad_message_1023 : IsReported pad_message_1023-text pad_message_1023-report
  pub pad_message_1024 : IsReported pad_message_1024-text pad_message_1024-report
  pub pad_message_1025 : IsReported pad_message_1025-text pad_message_1025-report
  pub pad_message_faults : IsReported pad_message_faults-text pad_message_faults-report
  pub pad_pairs_cut : IsReported pad_pairs_cut-text pad_pairs_cut-report
  pub pad_read_only_parameter_asked : IsReported pad_read_only_parameter_asked-text pad_read_only_parameter_asked-report
  pub pad_return_to_initial : IsReported pad_return_to_initial-text pad_return_to_initial-report
  pub pad_setting_asked : IsReported pad_setting_asked-text pad_setting_asked-report
  pub pad_setting_said : IsReported pad_setting_said-text pad_setting_said-report
  pub permanent_circuit_interrupts : IsReported permanent_circuit_interrupts-text permanent_circuit_interrupts-report
  pub permanent_circuit : IsReported permanent_circuit-text permanent_circuit-report
  pub refused_empty_line : fault refused_empty_line-text ≡ Some (2, LineForm)
  pub refused_form_before_number : fault refused_form_before_number-text ≡ Some (2, LineForm)
  pub refused_header_form_before_range : fault refused_header_form_before_range-text ≡ Some (1, HeaderForm)
  pub refused_header_form : fault refused_header_form-text ≡ Some (1, HeaderForm)
  pub refused_incoming_below_permanent : fault refused_incoming_below_permanent-text ≡ Some (1, HeaderRange)
  pub refused_join_first_form : fault refused_join_first_form-text ≡ Some (1, HeaderForm)
  pub refused_leading_zero : fault refused_leading_zero-text ≡ Some (2, Number)
  pub refused_long_comment : fault refused_long_comment-text ≡ Some (2, LineLong)
  pub refused_modulus : fault refused_modulus-text ≡ Some (1, HeaderRange)
  pub refused_no_header : fault refused_no_header-text ≡ Some (1, HeaderMissing)
  pub refused_number_before_side : fault refused_number_before_side-text ≡ Some (2, Number)
  pub refused_number_order : fault refused_number_order-text ≡ Some (3, Number)
  pub refused_odd_hex : fault refused_odd_hex-text ≡ Some (2, Hex)
  pub refused_side_before_hex : fault refused_side_before_hex-text ≡ Some (2, Side)
  pub refused_side : fault refused_side-text ≡ Some (2, Side)
  pub refused_too_many_octets : fault refused_too_many_octets-text ≡ Some (2, Hex)
  pub refused_word_behind_join : fault refused_word_behind_join-text ≡ Some (1, HeaderForm)
  pub reset_drops_begun_message : IsReported reset_drops_begun_message-text reset_drops_begun_message-report
  pub restart_confirmations : IsReported restart_confirmations-text restart_confirmations-report
  pub restart_ends_call : IsReported restart_ends_call-text restart_ends_call-report
  pub restart_formats : IsReported restart_formats-text restart_formats-report
  pub restart_machine_by_channel_packet : IsReported restart_machine_by_channel_packet-text restart_machine_by_channel_packet-report
  pub sequence_wrap : IsReported sequence_wrap-text sequence_wrap-report
  pub short_data_ends_sequence : IsReported short_data_ends_sequence-text short_data_ends_sequence-report
  pub short_packet : IsReported short_packet-text short_packet-report
  pub three_epochs : IsReported three_epochs-text three_epochs-report
  pub two_calls_at_once : IsReported two_calls_at_once-text two_calls_at_once-report
  pub unassigned_channel : IsReported unassigned_channel-text unassigned_channel-report
  pub wrong_format : IsReported wrong_format-text wrong_format-report
  pub three_epochs-pieces : length (trace_plan three_epochs-text) ≡ 12
