-- The texts of the worked traces.
-- tools/worked_traces.py writes this file from tests/traces/worked.
use Rattle.std.specs.Prelude.{ℕ, List, [], ◌∷◌, ◌++◌, codes}
use Rattle.line_model.specs.traces.Traces.{text, repeated}

abbrev pub addresses_reverse_charging-text : List ℕ
addresses_reverse_charging-text =
    text (codes "X25 1 MOD 8 WIN 3 SIZE 128 PVC 0 SVC 4" ∷
    codes "1 T 10010B32123450020101" ∷
    codes "2 N 10010F" ∷
    codes "3 T 100100" ∷
    (codes "4 T 100102" ++ repeated 64 (codes "00")) ∷
    (codes "5 T 100104" ++ repeated 65 (codes "00")) ∷
    [])

abbrev pub call_faults_in_order-text : List ℕ
call_faults_in_order-text =
    text (codes "X25 2 MOD 8 WIN 2 SIZE 128 PVC 0 IN 1 TWO 9 OUT 9" ∷
    codes "1 T 10010B" ∷
    codes "2 T 10020B04A0" ∷
    codes "3 T 10030B01A0" ∷
    codes "4 T 10040B11AA00" ∷
    codes "5 T 10050B10A06E" ∷
    codes "6 T 10060B01A06E" ∷
    codes "7 T 10070B0004420303AA" ∷
    codes "8 T 10080B0003420303000000000000000000000000000000000000" ∷
    codes "9 T 10090B00044203034300" ∷
    [])

abbrev pub call_formats-text : List ℕ
call_formats-text =
    text (codes "X25 1 MOD 8 WIN 2 SIZE 128 PVC 0 SVC 6" ∷
    codes "1 T 10010B" ∷
    codes "2 T 10020B01A000" ∷
    codes "3 T 10030B10A000" ∷
    codes "4 T 10040B000342" ∷
    codes "5 T 10050B0003430802" ∷
    codes "6 N 10060B00000000000000000000000000000000000000" ∷
    codes "7 N 10060B0000" ∷
    codes "8 T 10060F20" ∷
    codes "9 N 1006130000" ∷
    codes "10 T 100617" ∷
    [])

abbrev pub classes_in_order-text : List ℕ
classes_in_order-text =
    text (codes "X25 1 MOD 8 WIN 2 SIZE 128 PVC 0 SVC 1" ∷
    codes "1 N 1001FF" ∷
    codes "# one octet, of another modulus" ∷
    codes "2 T 20" ∷
    codes "# another modulus, on a channel that is not assigned" ∷
    codes "3 T 200900" ∷
    codes "# a channel that is not assigned, and two octets" ∷
    codes "4 T 1009" ∷
    codes "# restart on an assigned channel" ∷
    codes "5 T 1001FB00" ∷
    [])

abbrev pub collision_dce_first-text : List ℕ
collision_dce_first-text =
    text (codes "X25 1 MOD 8 WIN 2 SIZE 128 PVC 0 SVC 4" ∷
    codes "1 N 10010B0000" ∷
    codes "2 T 10010B0000" ∷
    codes "3 N 10010F" ∷
    [])

abbrev pub collision_dte_first-text : List ℕ
collision_dte_first-text =
    text (codes "X25 1 MOD 8 WIN 2 SIZE 128 PVC 0 SVC 4" ∷
    codes "1 T 10010B0000" ∷
    codes "2 N 10010B0000" ∷
    codes "3 N 10010F" ∷
    [])

abbrev pub comment_of_8500_bytes-text : List ℕ
comment_of_8500_bytes-text =
    text (codes "X25 1 MOD 8 WIN 2 SIZE 128 PVC 0 SVC 4" ∷
    (codes "#" ++ repeated 4249 (codes "cc") ++ codes "c") ∷
    [])

abbrev pub cut_packets_modulo_128-text : List ℕ
cut_packets_modulo_128-text =
    text (codes "X25 1 MOD 128 WIN 2 SIZE 128 PVC 3 SVC 3" ∷
    codes "1 N 200102" ∷
    codes "2 N 200101" ∷
    codes "3 N 2001010100" ∷
    codes "4 T 2001" ∷
    codes "5 T 200127" ∷
    codes "6 T 20" ∷
    codes "7 T -" ∷
    codes "8 N 2002" ∷
    codes "9 T 2000" ∷
    codes "10 T 2000F1" ∷
    codes "11 N 2000F1" ∷
    codes "12 T 2000FB" ∷
    codes "13 T 2003FB" ∷
    [])

abbrev pub data_faults_in_order-text : List ℕ
data_faults_in_order-text =
    text (codes "X25 1 MOD 8 WIN 2 SIZE 16 PVC 5 SVC 5" ∷
    codes "# too long, and P(S) 1 where 0 comes next" ∷
    codes "1 T 1001020000000000000000000000000000000000" ∷
    codes "# P(S) 1 where 0 comes next, and P(R) 1 of nothing" ∷
    codes "2 T 10022200" ∷
    codes "# P(R) 1 of nothing, and Q 1 in a sequence begun with Q 0" ∷
    codes "3 T 10031000000000000000000000000000000000" ∷
    codes "4 T 9003220000" ∷
    codes "# P(S) 0 where 1 comes next, and Q 1 in a sequence begun with Q 0" ∷
    codes "5 T 10041000000000000000000000000000000000" ∷
    codes "6 T 9004000000" ∷
    codes "# Q 1 in a sequence begun with Q 0, and nothing else" ∷
    codes "7 T 10051000000000000000000000000000000000" ∷
    codes "8 T 9005020000" ∷
    [])

abbrev pub dce_faults-text : List ℕ
dce_faults-text =
    text (codes "X25 1 MOD 8 WIN 2 SIZE 128 PVC 0 SVC 4" ∷
    codes "1 N 100100AA" ∷
    codes "2 N 1001130000" ∷
    codes "3 N 100100AA" ∷
    codes "4 N 1000FB0000" ∷
    codes "5 N 100100AA" ∷
    codes "6 T 1000FF" ∷
    [])

abbrev pub empty_trace-text : List ℕ
empty_trace-text =
    text (codes "X25 1 MOD 8 WIN 2 SIZE 128 PVC 0 SVC 4" ∷
    [])

abbrev pub error_clears_channel-text : List ℕ
error_clears_channel-text =
    text (codes "X25 1 MOD 8 WIN 2 SIZE 128 PVC 0 SVC 4" ∷
    codes "1 T 100100AA" ∷
    codes "2 T 100102AA" ∷
    codes "3 N 1001130514" ∷
    codes "4 T 100117" ∷
    [])

abbrev pub full_window-text : List ℕ
full_window-text =
    text (codes "X25 1 MOD 8 WIN 2 SIZE 128 PVC 0 SVC 4" ∷
    codes "1 T 10010B0000" ∷
    codes "2 N 10010F" ∷
    codes "3 T 100100AA" ∷
    codes "4 T 100102AA" ∷
    codes "5 T 100104AA" ∷
    [])

abbrev pub incoming_call_short_clear-text : List ℕ
incoming_call_short_clear-text =
    text (codes "X25 1 MOD 8 WIN 2 SIZE 128 PVC 0 SVC 4" ∷
    codes "1 N 10020B0000" ∷
    codes "2 T 10020F" ∷
    codes "3 T 100213" ∷
    codes "4 N 1002130526" ∷
    codes "5 T 100217" ∷
    [])

abbrev pub invalid_receive_number-text : List ℕ
invalid_receive_number-text =
    text (codes "X25 1 MOD 8 WIN 2 SIZE 128 PVC 0 SVC 4" ∷
    codes "1 T 10010B0000" ∷
    codes "2 N 10010F" ∷
    codes "3 T 100121" ∷
    codes "4 N 10011B0502" ∷
    codes "5 T 10011F" ∷
    codes "6 T 100100AA" ∷
    [])

abbrev pub join_in_the_middle-text : List ℕ
join_in_the_middle-text =
    text (codes "X25 2 MOD 8 WIN 2 SIZE 128 PVC 1 IN 1 TWO 4 OUT 4 JOIN" ∷
    codes "1 T 1000FF" ∷
    codes "2 T 100144AA" ∷
    codes "3 T 10020F" ∷
    codes "4 N 1002130000" ∷
    codes "5 T 100217" ∷
    codes "6 T 100217" ∷
    codes "7 T 10011B0000" ∷
    codes "8 N 10011F" ∷
    codes "9 T 100144AA" ∷
    codes "10 T 1000FB0000" ∷
    codes "11 N 1000FF" ∷
    codes "12 T 10030F" ∷
    codes "13 N 1000FF" ∷
    [])

abbrev pub join_unknown_channels-text : List ℕ
join_unknown_channels-text =
    text (codes "X25 2 MOD 8 WIN 2 SIZE 128 PVC 1 IN 1 TWO 3 OUT 4 JOIN" ∷
    codes "1 N 10020B01A000" ∷
    codes "2 N 10020F" ∷
    codes "3 N 10020B0000" ∷
    codes "4 T 10020F" ∷
    codes "5 N 10040B0000" ∷
    codes "6 N 100400AA" ∷
    codes "7 T 10030B" ∷
    codes "8 N 10030B0000" ∷
    codes "9 N 10011B" ∷
    codes "10 N 10011B0526" ∷
    codes "11 T 10011F" ∷
    codes "12 T 1000FFFFFFFF" ∷
    [])

abbrev pub message_faults_in_order-text : List ℕ
message_faults_in_order-text =
    text (codes "# Each message has two faults, and its finding is the first of their order." ∷
    codes "X25 1 MOD 8 WIN 4 SIZE 2048 PVC 0 SVC 4" ∷
    codes "1 T 10010B000001000000" ∷
    codes "2 N 10010F" ∷
    codes "# 1,025 octets, and a code over 8" ∷
    (codes "3 N 900100" ++ repeated 1025 (codes "09")) ∷
    codes "# 1,026 octets, and pairs that are cut" ∷
    (codes "4 N 9001" ++ repeated 1027 (codes "02")) ∷
    codes "# an indication of a PAD that nothing asked, and pairs that are cut" ∷
    codes "5 N 9001040002" ∷
    codes "# an indication of a PAD that nothing asked, and nothing else" ∷
    codes "6 N 900106000201" ∷
    [])

abbrev pub mixed_qualifier-text : List ℕ
mixed_qualifier-text =
    text (codes "X25 1 MOD 8 WIN 2 SIZE 16 PVC 0 SVC 4" ∷
    codes "1 T 10010B0000" ∷
    codes "2 N 10010F" ∷
    codes "3 T 10011000000000000000000000000000000000" ∷
    codes "4 T 900102AA" ∷
    [])

abbrev pub modulo_128_cut_header-text : List ℕ
modulo_128_cut_header-text =
    text (codes "X25 1 MOD 128 WIN 2 SIZE 128 PVC 1 SVC 1" ∷
    codes "1 T 20010000AA" ∷
    codes "2 N 20010102" ∷
    codes "3 T 200102" ∷
    [])

abbrev pub negotiated_size_and_window-text : List ℕ
negotiated_size_and_window-text =
    text (codes "X25 1 MOD 8 WIN 2 SIZE 128 PVC 0 SVC 4" ∷
    codes "1 T 10010B0006420504430201" ∷
    codes "2 N 10010F" ∷
    (codes "3 N 1001" ++ repeated 66 (codes "0")) ∷
    codes "4 T 10012000000000000000000000000000000000" ∷
    codes "5 T 100122AA" ∷
    [])

abbrev pub one_piece-text : List ℕ
one_piece-text =
    text (codes "X25 1 MOD 8 WIN 2 SIZE 128 PVC 0 SVC 4" ∷
    codes "1 T 100100AA" ∷
    [])

abbrev pub one_way_channels-text : List ℕ
one_way_channels-text =
    text (codes "X25 2 MOD 8 WIN 2 SIZE 128 PVC 0 IN 1 TWO 2 OUT 3" ∷
    codes "1 T 10010B0000" ∷
    codes "2 N 10030B0000" ∷
    codes "3 N 10020B0000" ∷
    codes "4 T 10030B0000" ∷
    codes "5 T 10040B0000" ∷
    [])

abbrev pub pad_message_1023-text : List ℕ
pad_message_1023-text =
    text (codes "X25 1 MOD 8 WIN 2 SIZE 2048 PVC 0 SVC 4" ∷
    codes "1 T 10010B000001000000" ∷
    codes "2 N 10010F" ∷
    (codes "3 N 900100" ++ repeated 1023 (codes "02")) ∷
    [])

abbrev pub pad_message_1024-text : List ℕ
pad_message_1024-text =
    text (codes "X25 1 MOD 8 WIN 2 SIZE 2048 PVC 0 SVC 4" ∷
    codes "1 T 10010B000001000000" ∷
    codes "2 N 10010F" ∷
    (codes "3 N 900100" ++ repeated 1024 (codes "02")) ∷
    [])

abbrev pub pad_message_1025-text : List ℕ
pad_message_1025-text =
    text (codes "X25 1 MOD 8 WIN 2 SIZE 2048 PVC 0 SVC 4" ∷
    codes "1 T 10010B000001000000" ∷
    codes "2 N 10010F" ∷
    (codes "3 N 900100" ++ repeated 1025 (codes "02")) ∷
    [])

abbrev pub pad_message_faults-text : List ℕ
pad_message_faults-text =
    text (codes "X25 1 MOD 8 WIN 2 SIZE 128 PVC 0 SVC 4" ∷
    codes "1 T 10010B000001000000" ∷
    codes "2 N 10010F" ∷
    codes "3 T 900100000201" ∷
    codes "4 N 900120020B01" ∷
    codes "5 N 90012209" ∷
    codes "6 T 900142" ∷
    codes "7 N 90014402" ∷
    [])

abbrev pub pad_pairs_cut-text : List ℕ
pad_pairs_cut-text =
    text (codes "X25 1 MOD 8 WIN 2 SIZE 128 PVC 0 SVC 4" ∷
    codes "1 T 10010B000001000000" ∷
    codes "2 N 10010F" ∷
    codes "3 N 9001000202" ∷
    codes "4 N 900102030802" ∷
    codes "5 T 100141" ∷
    codes "6 N 90010403" ∷
    codes "7 N 90010602020100000B05" ∷
    [])

abbrev pub pad_read_only_parameter_asked-text : List ℕ
pad_read_only_parameter_asked-text =
    text (codes "X25 1 MOD 8 WIN 2 SIZE 128 PVC 0 SVC 4" ∷
    codes "1 T 10010B000001000000" ∷
    codes "2 N 10010F" ∷
    codes "3 T 900100000201" ∷
    codes "4 N 900120020B01" ∷
    codes "5 N 90012209" ∷
    codes "6 T 900142" ∷
    [])

abbrev pub pad_return_to_initial-text : List ℕ
pad_return_to_initial-text =
    text (codes "X25 1 MOD 8 WIN 2 SIZE 128 PVC 0 SVC 4" ∷
    codes "1 T 10010B000001000000" ∷
    codes "2 N 10010F" ∷
    codes "3 N 900100020201" ∷
    codes "4 N 90010202" ∷
    [])

abbrev pub pad_setting_asked-text : List ℕ
pad_setting_asked-text =
    text (codes "X25 1 MOD 8 WIN 2 SIZE 128 PVC 0 SVC 4" ∷
    codes "1 T 10010B000001000000" ∷
    codes "2 N 10010F" ∷
    codes "3 N 900100020201" ∷
    [])

abbrev pub pad_setting_said-text : List ℕ
pad_setting_said-text =
    text (codes "X25 1 MOD 8 WIN 2 SIZE 128 PVC 0 SVC 4" ∷
    codes "1 T 10010B000001000000" ∷
    codes "2 N 10010F" ∷
    codes "3 N 900100020201" ∷
    codes "4 T 900120000201" ∷
    [])

abbrev pub permanent_circuit_interrupts-text : List ℕ
permanent_circuit_interrupts-text =
    text (codes "X25 1 MOD 8 WIN 2 SIZE 128 PVC 1 SVC 4" ∷
    codes "1 N 100127" ∷
    codes "2 T 100123" ∷
    codes "3 N 10011B0526" ∷
    codes "4 T 10011F" ∷
    (codes "5 N 100123" ++ repeated 66 (codes "0")) ∷
    codes "6 N 10012300" ∷
    codes "7 T 10012700" ∷
    [])

abbrev pub permanent_circuit-text : List ℕ
permanent_circuit-text =
    text (codes "X25 1 MOD 8 WIN 2 SIZE 128 PVC 1 SVC 4" ∷
    codes "1 T 10010B0000" ∷
    codes "2 N 10011B0523" ∷
    codes "3 T 10011F" ∷
    codes "4 T 10012301" ∷
    codes "5 T 10012301" ∷
    [])

abbrev pub refused_empty_line-text : List ℕ
refused_empty_line-text =
    text (codes "X25 1 MOD 8 WIN 2 SIZE 128 PVC 0 SVC 4" ∷
    codes "" ∷
    [])

abbrev pub refused_form_before_number-text : List ℕ
refused_form_before_number-text =
    text (codes "X25 1 MOD 8 WIN 2 SIZE 128 PVC 0 SVC 4" ∷
    codes "0 T" ∷
    [])

abbrev pub refused_header_form_before_range-text : List ℕ
refused_header_form_before_range-text =
    text (codes "X25 1 MOD 9 WIN 2" ∷
    [])

abbrev pub refused_header_form-text : List ℕ
refused_header_form-text =
    text (codes "X25 2 MOD 8 WIN 2 SIZE 128 PVC 0 SVC 4" ∷
    [])

abbrev pub refused_incoming_below_permanent-text : List ℕ
refused_incoming_below_permanent-text =
    text (codes "X25 2 MOD 8 WIN 2 SIZE 128 PVC 1 IN 0 TWO 4 OUT 4" ∷
    [])

abbrev pub refused_join_first_form-text : List ℕ
refused_join_first_form-text =
    text (codes "X25 1 MOD 8 WIN 2 SIZE 128 PVC 0 SVC 4 JOIN" ∷
    [])

abbrev pub refused_leading_zero-text : List ℕ
refused_leading_zero-text =
    text (codes "X25 1 MOD 8 WIN 2 SIZE 128 PVC 0 SVC 4" ∷
    codes "01 T -" ∷
    [])

abbrev pub refused_long_comment-text : List ℕ
refused_long_comment-text =
    text (codes "X25 1 MOD 8 WIN 2 SIZE 128 PVC 0 SVC 4" ∷
    (codes "#" ++ repeated 4250 (codes "cc")) ∷
    [])

abbrev pub refused_modulus-text : List ℕ
refused_modulus-text =
    text (codes "X25 1 MOD 9 WIN 2 SIZE 128 PVC 0 SVC 4" ∷
    [])

abbrev pub refused_no_header-text : List ℕ
refused_no_header-text =
    text ([])

abbrev pub refused_number_before_side-text : List ℕ
refused_number_before_side-text =
    text (codes "X25 1 MOD 8 WIN 2 SIZE 128 PVC 0 SVC 4" ∷
    codes "0 X 1001" ∷
    [])

abbrev pub refused_number_order-text : List ℕ
refused_number_order-text =
    text (codes "X25 1 MOD 8 WIN 2 SIZE 128 PVC 0 SVC 4" ∷
    codes "5 T -" ∷
    codes "5 T -" ∷
    [])

abbrev pub refused_odd_hex-text : List ℕ
refused_odd_hex-text =
    text (codes "X25 1 MOD 8 WIN 2 SIZE 128 PVC 0 SVC 4" ∷
    codes "1 T 100" ∷
    [])

abbrev pub refused_side_before_hex-text : List ℕ
refused_side_before_hex-text =
    text (codes "X25 1 MOD 8 WIN 2 SIZE 128 PVC 0 SVC 4" ∷
    codes "1 X 100" ∷
    [])

abbrev pub refused_side-text : List ℕ
refused_side-text =
    text (codes "X25 1 MOD 8 WIN 2 SIZE 128 PVC 0 SVC 4" ∷
    codes "1 X 100" ∷
    [])

abbrev pub refused_too_many_octets-text : List ℕ
refused_too_many_octets-text =
    text (codes "X25 1 MOD 8 WIN 2 SIZE 128 PVC 0 SVC 4" ∷
    (codes "1 T " ++ repeated 4201 (codes "00")) ∷
    [])

abbrev pub refused_word_behind_join-text : List ℕ
refused_word_behind_join-text =
    text (codes "X25 2 MOD 8 WIN 2 SIZE 128 PVC 1 IN 1 TWO 4 OUT 4 JOIN X" ∷
    [])

abbrev pub reset_drops_begun_message-text : List ℕ
reset_drops_begun_message-text =
    text (codes "X25 1 MOD 8 WIN 2 SIZE 16 PVC 0 SVC 4" ∷
    codes "1 T 10010B000001000000" ∷
    codes "2 N 10010F" ∷
    codes "3 N 90011002020103000400050006000700080009" ∷
    codes "4 T 10011B0000" ∷
    codes "5 N 10011F" ∷
    codes "6 N 9001000A" ∷
    [])

abbrev pub restart_confirmations-text : List ℕ
restart_confirmations-text =
    text (codes "X25 1 MOD 8 WIN 2 SIZE 128 PVC 0 SVC 4" ∷
    codes "1 T 1000FF" ∷
    codes "2 N 1000FF" ∷
    codes "3 N 1000FB0000" ∷
    codes "4 N 1000FF" ∷
    codes "5 T 1000FF" ∷
    [])

abbrev pub restart_ends_call-text : List ℕ
restart_ends_call-text =
    text (codes "X25 1 MOD 8 WIN 2 SIZE 128 PVC 0 SVC 4" ∷
    codes "1 T 10010B0000" ∷
    codes "2 N 10010F" ∷
    codes "3 T 1000FB0000" ∷
    codes "4 N 1000FF" ∷
    [])

abbrev pub restart_formats-text : List ℕ
restart_formats-text =
    text (codes "X25 1 MOD 8 WIN 2 SIZE 128 PVC 0 SVC 4" ∷
    codes "1 T 1000FB" ∷
    codes "2 N 1000FB000000" ∷
    codes "3 N 1000FB0000" ∷
    codes "4 T 1000FF00" ∷
    codes "5 T 1000FF" ∷
    codes "6 N 1000FF" ∷
    [])

abbrev pub restart_machine_by_channel_packet-text : List ℕ
restart_machine_by_channel_packet-text =
    text (codes "X25 1 MOD 8 WIN 2 SIZE 128 PVC 0 SVC 4" ∷
    codes "1 T 1000FB0000" ∷
    codes "2 T 100100" ∷
    codes "3 T 1000FB0000" ∷
    codes "4 N 1000FF" ∷
    [])

abbrev pub sequence_wrap-text : List ℕ
sequence_wrap-text =
    text (codes "X25 1 MOD 8 WIN 7 SIZE 128 PVC 0 SVC 4" ∷
    codes "1 T 10010B0000" ∷
    codes "2 N 10010F" ∷
    codes "3 T 100100AA" ∷
    codes "4 T 100102AA" ∷
    codes "5 T 100104AA" ∷
    codes "6 T 100106AA" ∷
    codes "7 T 100108AA" ∷
    codes "8 T 10010AAA" ∷
    codes "9 T 10010CAA" ∷
    codes "10 N 1001E1" ∷
    codes "11 T 10010EAA" ∷
    codes "12 T 100100AA" ∷
    [])

abbrev pub short_data_ends_sequence-text : List ℕ
short_data_ends_sequence-text =
    text (codes "X25 1 MOD 8 WIN 2 SIZE 16 PVC 0 SVC 4" ∷
    codes "1 T 10010B0000" ∷
    codes "2 N 10010F" ∷
    codes "3 T 100110AA" ∷
    codes "4 T 900102AA" ∷
    [])

abbrev pub short_packet-text : List ℕ
short_packet-text =
    text (codes "X25 1 MOD 8 WIN 2 SIZE 128 PVC 0 SVC 4" ∷
    codes "1 T -" ∷
    [])

abbrev pub three_epochs-text : List ℕ
three_epochs-text =
    text (codes "X25 1 MOD 8 WIN 2 SIZE 128 PVC 0 SVC 4" ∷
    codes "1 T 100100AA" ∷
    codes "2 T 100200AA" ∷
    codes "3 T 100300AA" ∷
    codes "4 T 100400AA" ∷
    codes "5 T 1000FB0000" ∷
    codes "6 N 1000FF" ∷
    codes "7 T 100100AA" ∷
    codes "8 T 100200AA" ∷
    codes "9 T 100300AA" ∷
    codes "10 T 100400AA" ∷
    codes "11 T 1000FB0000" ∷
    codes "12 N 1000FF" ∷
    codes "13 T 100100AA" ∷
    codes "14 T 100200AA" ∷
    codes "15 T 100300AA" ∷
    codes "16 T 100400AA" ∷
    [])

abbrev pub two_calls_at_once-text : List ℕ
two_calls_at_once-text =
    text (codes "X25 1 MOD 8 WIN 2 SIZE 128 PVC 0 SVC 4" ∷
    codes "1 T 10010B0000" ∷
    codes "2 N 10010F" ∷
    codes "3 T 10020B0000" ∷
    codes "4 N 10020F" ∷
    codes "5 T 1001130000" ∷
    codes "6 N 100117" ∷
    codes "7 T 10030B0000" ∷
    codes "8 N 10030F" ∷
    [])

abbrev pub unassigned_channel-text : List ℕ
unassigned_channel-text =
    text (codes "X25 1 MOD 8 WIN 2 SIZE 128 PVC 0 SVC 4" ∷
    codes "1 T 10050B0000" ∷
    codes "2 T 10040B0000" ∷
    [])

abbrev pub wrong_format-text : List ℕ
wrong_format-text =
    text (codes "X25 1 MOD 8 WIN 2 SIZE 128 PVC 0 SVC 4" ∷
    codes "1 T 20010B0000" ∷
    [])
