-- The reports of the worked traces that are not refused.
-- tools/worked_traces.py writes this file from tests/traces/worked.
use Rattle.std.specs.Prelude.{ℕ, List, [], ◌∷◌, codes}
use Rattle.line_model.specs.traces.Traces.{text}

abbrev pub addresses_reverse_charging-report : List ℕ
addresses_reverse_charging-report =
    text (codes "C 1 1 1 out 12 345 1 2 - open 3 129 0 0 3" ∷
    codes "A 12 1 3" ∷
    codes "P 1 2" ∷
    codes "Z 5 0 1 129 3" ∷
    [])

abbrev pub call_faults_in_order-report : List ℕ
call_faults_in_order-report =
    text (codes "F 1 T p1 34" ∷
    codes "F 2 T p1 38" ∷
    codes "F 3 T p1 38" ∷
    codes "F 4 T p1 67" ∷
    codes "F 5 T p1 68" ∷
    codes "F 6 T p1 67" ∷
    codes "F 7 T p1 69" ∷
    codes "F 8 T p1 66" ∷
    codes "F 9 T p1 69" ∷
    codes "P 0 -" ∷
    codes "Z 9 9 0 0 0" ∷
    [])

abbrev pub call_formats-report : List ℕ
call_formats-report =
    text (codes "F 1 T p1 38" ∷
    codes "F 2 T p1 67" ∷
    codes "F 3 T p1 68" ∷
    codes "F 4 T p1 69" ∷
    codes "F 5 T p1 66" ∷
    codes "F 6 N p1 39" ∷
    codes "F 8 T p3 38" ∷
    codes "C 1 1 6 in - - 7 - 8 N 0 0 0 0 0" ∷
    codes "A - 1 0" ∷
    codes "P 0 -" ∷
    codes "Z 10 7 1 0 0" ∷
    [])

abbrev pub classes_in_order-report : List ℕ
classes_in_order-report =
    text (codes "F 1 N p1 41" ∷
    codes "F 2 T - 38" ∷
    codes "F 3 T - 40" ∷
    codes "F 4 T - 36" ∷
    codes "F 5 T p1 41" ∷
    codes "P 0 -" ∷
    codes "Z 5 5 0 0 0" ∷
    [])

abbrev pub collision_dce_first-report : List ℕ
collision_dce_first-report =
    text (codes "C 1 1 1 in - - 1 - 2 collision 0 0 0 0 0" ∷
    codes "C 2 1 1 out - - 2 3 - open 0 0 0 0 0" ∷
    codes "A - 2 0" ∷
    codes "P 1 3" ∷
    codes "Z 3 0 2 0 0" ∷
    [])

abbrev pub collision_dte_first-report : List ℕ
collision_dte_first-report =
    text (codes "C 1 1 1 out - - 1 3 - open 0 0 0 0 0" ∷
    codes "A - 1 0" ∷
    codes "P 1 3" ∷
    codes "Z 3 0 1 0 0" ∷
    [])

abbrev pub comment_of_8500_bytes-report : List ℕ
comment_of_8500_bytes-report =
    text (codes "P 0 -" ∷
    codes "Z 0 0 0 0 0" ∷
    [])

abbrev pub cut_packets_modulo_128-report : List ℕ
cut_packets_modulo_128-report =
    text (codes "F 1 N d1 38" ∷
    codes "F 2 N d1 38" ∷
    codes "F 3 N d1 39" ∷
    codes "F 4 T d1 38" ∷
    codes "F 6 T - 38" ∷
    codes "F 7 T - 38" ∷
    codes "F 8 N d1 38" ∷
    codes "F 9 T - 36" ∷
    codes "F 10 T - 36" ∷
    codes "F 12 T r1 38" ∷
    codes "F 13 T d1 41" ∷
    codes "P 0 -" ∷
    codes "Z 13 11 0 0 0" ∷
    [])

abbrev pub data_faults_in_order-report : List ℕ
data_faults_in_order-report =
    text (codes "F 1 T d1 39" ∷
    codes "F 2 T d1 1" ∷
    codes "F 4 T d1 2" ∷
    codes "F 6 T d1 1" ∷
    codes "F 8 T d1 83" ∷
    codes "P 0 -" ∷
    codes "Z 8 5 0 48 3" ∷
    [])

abbrev pub dce_faults-report : List ℕ
dce_faults-report =
    text (codes "F 1 N p1 20" ∷
    codes "F 3 N p7 26" ∷
    codes "F 5 N r3 19" ∷
    codes "P 0 -" ∷
    codes "Z 6 3 0 0 0" ∷
    [])

abbrev pub empty_trace-report : List ℕ
empty_trace-report =
    text (codes "P 0 -" ∷
    codes "Z 0 0 0 0 0" ∷
    [])

abbrev pub error_clears_channel-report : List ℕ
error_clears_channel-report =
    text (codes "F 1 T p1 20" ∷
    codes "P 0 -" ∷
    codes "Z 4 1 0 0 0" ∷
    [])

abbrev pub full_window-report : List ℕ
full_window-report =
    text (codes "F 5 T d1 1" ∷
    codes "C 1 1 1 out - - 1 2 - open 2 2 0 0 2" ∷
    codes "A - 1 2" ∷
    codes "P 1 2" ∷
    codes "Z 5 1 1 2 2" ∷
    [])

abbrev pub incoming_call_short_clear-report : List ℕ
incoming_call_short_clear-report =
    text (codes "F 3 T p4 38" ∷
    codes "C 1 1 2 in - - 1 2 3 N 0 0 0 0 0" ∷
    codes "A - 1 0" ∷
    codes "P 1 2" ∷
    codes "Z 5 1 1 0 0" ∷
    [])

abbrev pub invalid_receive_number-report : List ℕ
invalid_receive_number-report =
    text (codes "F 3 T d1 2" ∷
    codes "C 1 1 1 out - - 1 2 - open 1 1 0 0 1" ∷
    codes "A - 1 1" ∷
    codes "P 1 2" ∷
    codes "Z 6 1 1 1 1" ∷
    [])

abbrev pub join_in_the_middle-report : List ℕ
join_in_the_middle-report =
    text (codes "F 6 T p1 20" ∷
    codes "F 9 T d1 1" ∷
    codes "F 12 T p1 20" ∷
    codes "F 13 N r1 17" ∷
    codes "P 0 -" ∷
    codes "Z 13 4 0 0 0" ∷
    [])

abbrev pub join_unknown_channels-report : List ℕ
join_unknown_channels-report =
    text (codes "F 1 N p1 67" ∷
    codes "F 5 N p1 34" ∷
    codes "F 7 T p1 38" ∷
    codes "F 9 N d1 38" ∷
    codes "C 1 1 2 in - - 3 4 - open 0 0 0 0 0" ∷
    codes "A - 1 0" ∷
    codes "P 1 4" ∷
    codes "Z 12 4 1 0 0" ∷
    [])

abbrev pub message_faults_in_order-report : List ℕ
message_faults_in_order-report =
    text (codes "F 3 N d1 X1" ∷
    codes "F 4 N d1 XL" ∷
    codes "F 5 N d1 X2" ∷
    codes "F 6 N d1 X4" ∷
    codes "C 1 1 1 out - - 1 2 - open 0 0 4 2056 36" ∷
    codes "A - 1 36" ∷
    codes "P 1 2" ∷
    codes "Z 6 4 1 2056 36" ∷
    [])

abbrev pub mixed_qualifier-report : List ℕ
mixed_qualifier-report =
    text (codes "F 4 T d1 83" ∷
    codes "C 1 1 1 out - - 1 2 - open 1 16 0 0 1" ∷
    codes "A - 1 1" ∷
    codes "P 1 2" ∷
    codes "Z 4 1 1 16 1" ∷
    [])

abbrev pub modulo_128_cut_header-report : List ℕ
modulo_128_cut_header-report =
    text (codes "F 3 T d1 38" ∷
    codes "P 0 -" ∷
    codes "Z 3 1 0 1 1" ∷
    [])

abbrev pub negotiated_size_and_window-report : List ℕ
negotiated_size_and_window-report =
    text (codes "F 5 T d1 1" ∷
    codes "C 1 1 1 out - - 1 2 - open 1 16 1 32 2" ∷
    codes "A - 1 2" ∷
    codes "P 1 2" ∷
    codes "Z 5 1 1 48 2" ∷
    [])

abbrev pub one_piece-report : List ℕ
one_piece-report =
    text (codes "F 1 T p1 20" ∷
    codes "P 0 -" ∷
    codes "Z 1 1 0 0 0" ∷
    [])

abbrev pub one_way_channels-report : List ℕ
one_way_channels-report =
    text (codes "F 1 T p1 34" ∷
    codes "F 2 N p1 34" ∷
    codes "F 5 T - 36" ∷
    codes "C 1 1 2 in - - 3 - - open 0 0 0 0 0" ∷
    codes "C 2 1 3 out - - 4 - - open 0 0 0 0 0" ∷
    codes "A - 2 0" ∷
    codes "P 0 -" ∷
    codes "Z 5 3 2 0 0" ∷
    [])

abbrev pub pad_message_1023-report : List ℕ
pad_message_1023-report =
    text (codes "F 3 N d1 X3" ∷
    codes "C 1 1 1 out - - 1 2 - open 0 0 1 1023 16" ∷
    codes "S 1 T 2 asked 2" ∷
    codes "A - 1 16" ∷
    codes "P 1 2" ∷
    codes "Z 3 1 1 1023 16" ∷
    [])

abbrev pub pad_message_1024-report : List ℕ
pad_message_1024-report =
    text (codes "F 3 N d1 X2" ∷
    codes "C 1 1 1 out - - 1 2 - open 0 0 1 1024 16" ∷
    codes "A - 1 16" ∷
    codes "P 1 2" ∷
    codes "Z 3 1 1 1024 16" ∷
    [])

abbrev pub pad_message_1025-report : List ℕ
pad_message_1025-report =
    text (codes "F 3 N d1 XL" ∷
    codes "C 1 1 1 out - - 1 2 - open 0 0 1 1025 17" ∷
    codes "A - 1 17" ∷
    codes "P 1 2" ∷
    codes "Z 3 1 1 1025 17" ∷
    [])

abbrev pub pad_message_faults-report : List ℕ
pad_message_faults-report =
    text (codes "F 3 T d1 X4" ∷
    codes "F 4 N d1 X3" ∷
    codes "F 5 N d1 X1" ∷
    codes "F 6 T d1 X1" ∷
    codes "C 1 1 1 out - - 1 2 - open 2 3 3 5 4" ∷
    codes "A - 1 4" ∷
    codes "P 1 2" ∷
    codes "Z 7 4 1 8 4" ∷
    [])

abbrev pub pad_pairs_cut-report : List ℕ
pad_pairs_cut-report =
    text (codes "F 3 N d1 X2" ∷
    codes "F 4 N d1 X2" ∷
    codes "C 1 1 1 out - - 1 2 - open 0 0 4 13 4" ∷
    codes "S 1 T 2 asked 1" ∷
    codes "A - 1 4" ∷
    codes "P 1 2" ∷
    codes "Z 7 2 1 13 4" ∷
    [])

abbrev pub pad_read_only_parameter_asked-report : List ℕ
pad_read_only_parameter_asked-report =
    text (codes "F 3 T d1 X4" ∷
    codes "F 4 N d1 X3" ∷
    codes "F 5 N d1 X1" ∷
    codes "F 6 T d1 X1" ∷
    codes "C 1 1 1 out - - 1 2 - open 2 3 2 4 3" ∷
    codes "S 1 T 11 asked 1" ∷
    codes "A - 1 3" ∷
    codes "P 1 2" ∷
    codes "Z 6 4 1 7 3" ∷
    [])

abbrev pub pad_return_to_initial-report : List ℕ
pad_return_to_initial-report =
    text (codes "C 1 1 1 out - - 1 2 - open 0 0 2 4 2" ∷
    codes "A - 1 2" ∷
    codes "P 1 2" ∷
    codes "Z 4 0 1 4 2" ∷
    [])

abbrev pub pad_setting_asked-report : List ℕ
pad_setting_asked-report =
    text (codes "C 1 1 1 out - - 1 2 - open 0 0 1 3 1" ∷
    codes "S 1 T 2 asked 1" ∷
    codes "A - 1 1" ∷
    codes "P 1 2" ∷
    codes "Z 3 0 1 3 1" ∷
    [])

abbrev pub pad_setting_said-report : List ℕ
pad_setting_said-report =
    text (codes "C 1 1 1 out - - 1 2 - open 1 3 1 3 2" ∷
    codes "S 1 T 2 said 1" ∷
    codes "A - 1 2" ∷
    codes "P 1 2" ∷
    codes "Z 4 0 1 6 2" ∷
    [])

abbrev pub permanent_circuit_interrupts-report : List ℕ
permanent_circuit_interrupts-report =
    text (codes "F 1 N d1 43" ∷
    codes "F 2 T d1 38" ∷
    codes "F 5 N d1 39" ∷
    codes "F 7 T d1 39" ∷
    codes "P 0 -" ∷
    codes "Z 7 4 0 0 0" ∷
    [])

abbrev pub permanent_circuit-report : List ℕ
permanent_circuit-report =
    text (codes "F 1 T d1 35" ∷
    codes "F 5 T d1 44" ∷
    codes "P 0 -" ∷
    codes "Z 5 2 0 0 0" ∷
    [])

abbrev pub reset_drops_begun_message-report : List ℕ
reset_drops_begun_message-report =
    text (codes "F 6 N d1 X1" ∷
    codes "C 1 1 1 out - - 1 2 - open 0 0 2 17 2" ∷
    codes "A - 1 2" ∷
    codes "P 1 2" ∷
    codes "Z 6 1 1 17 2" ∷
    [])

abbrev pub restart_confirmations-report : List ℕ
restart_confirmations-report =
    text (codes "F 1 T r1 17" ∷
    codes "F 4 N r3 19" ∷
    codes "P 0 -" ∷
    codes "Z 5 2 0 0 0" ∷
    [])

abbrev pub restart_ends_call-report : List ℕ
restart_ends_call-report =
    text (codes "C 1 1 1 out - - 1 2 3 restart 0 0 0 0 0" ∷
    codes "A - 1 0" ∷
    codes "P 1 2" ∷
    codes "Z 4 0 1 0 0" ∷
    [])

abbrev pub restart_formats-report : List ℕ
restart_formats-report =
    text (codes "F 1 T r1 38" ∷
    codes "F 2 N r1 39" ∷
    codes "F 4 T r3 39" ∷
    codes "F 6 N r1 17" ∷
    codes "P 0 -" ∷
    codes "Z 6 4 0 0 0" ∷
    [])

abbrev pub restart_machine_by_channel_packet-report : List ℕ
restart_machine_by_channel_packet-report =
    text (codes "F 2 T r2 18" ∷
    codes "F 4 N r1 17" ∷
    codes "P 0 -" ∷
    codes "Z 4 2 0 0 0" ∷
    [])

abbrev pub sequence_wrap-report : List ℕ
sequence_wrap-report =
    text (codes "C 1 1 1 out - - 1 2 - open 9 9 0 0 9" ∷
    codes "A - 1 9" ∷
    codes "P 1 2" ∷
    codes "Z 12 0 1 9 9" ∷
    [])

abbrev pub short_data_ends_sequence-report : List ℕ
short_data_ends_sequence-report =
    text (codes "C 1 1 1 out - - 1 2 - open 2 2 0 0 2" ∷
    codes "A - 1 2" ∷
    codes "P 1 2" ∷
    codes "Z 4 0 1 2 2" ∷
    [])

abbrev pub short_packet-report : List ℕ
short_packet-report =
    text (codes "F 1 T - 38" ∷
    codes "P 0 -" ∷
    codes "Z 1 1 0 0 0" ∷
    [])

abbrev pub three_epochs-report : List ℕ
three_epochs-report =
    text (codes "F 1 T p1 20" ∷
    codes "F 2 T p1 20" ∷
    codes "F 3 T p1 20" ∷
    codes "F 4 T p1 20" ∷
    codes "F 7 T p1 20" ∷
    codes "F 8 T p1 20" ∷
    codes "F 9 T p1 20" ∷
    codes "F 10 T p1 20" ∷
    codes "F 13 T p1 20" ∷
    codes "F 14 T p1 20" ∷
    codes "F 15 T p1 20" ∷
    codes "F 16 T p1 20" ∷
    codes "P 0 -" ∷
    codes "Z 16 12 0 0 0" ∷
    [])

abbrev pub two_calls_at_once-report : List ℕ
two_calls_at_once-report =
    text (codes "C 1 1 1 out - - 1 2 5 T 0 0 0 0 0" ∷
    codes "C 2 1 2 out - - 3 4 - open 0 0 0 0 0" ∷
    codes "C 3 1 3 out - - 7 8 - open 0 0 0 0 0" ∷
    codes "A - 3 0" ∷
    codes "P 2 4" ∷
    codes "Z 8 0 3 0 0" ∷
    [])

abbrev pub unassigned_channel-report : List ℕ
unassigned_channel-report =
    text (codes "F 1 T - 36" ∷
    codes "C 1 1 4 out - - 2 - - open 0 0 0 0 0" ∷
    codes "A - 1 0" ∷
    codes "P 0 -" ∷
    codes "Z 2 1 1 0 0" ∷
    [])

abbrev pub wrong_format-report : List ℕ
wrong_format-report =
    text (codes "F 1 T - 40" ∷
    codes "P 0 -" ∷
    codes "Z 1 1 0 0 0" ∷
    [])
