-- Some recordings with gaps, by computing.
-- tools/worked_gap_traces.py writes this file from tests/gaps/traces.
use Rattle.std.proofs.Common.{◌≡◌, refl, Some}
use Rattle.std.specs.Fmt.{digits}
use Rattle.hex.specs.Hex.{decode_pairs}
use Rattle.line_model.specs.declared.fault.Kind.TheVariants.{Number, Side, Hex}
use Rattle.line_model.specs.text.Header.{header_numbers, interface_with, interface_of}
use Rattle.line_model.specs.text.RowLine.{row_words, octets_of, row_kind, row_of}
use Rattle.line_model.specs.text.Text.{fault, head, rows, head_of, rows_in, last_number, size_kind, header_kind, contents_kind}
use Rattle.line_model.specs.traces.Traces.{IsReported}
use Rattle.line_model.specs.traces.WorkedGapTraces.{WorkedGapTraces, all_channels-text, begins_in_the_middle-text, call_after_a_gap-text, gap_in_the_second_form-text, gap_number_falls-text, gap_on_channel_0-text, no_gap-text, restart_of_both_sides-text, restart_owed_at_the_gap-text, settled_by_an_acknowledgement-text, all_channels-report, begins_in_the_middle-report, call_after_a_gap-report, no_gap-report, restart_of_both_sides-report, restart_owed_at_the_gap-report, settled_by_an_acknowledgement-report}

all_channels-holds : IsReported all_channels-text all_channels-report
unfolding digits decode_pairs fault head rows head_of rows_in last_number size_kind header_kind contents_kind header_numbers interface_with interface_of row_words octets_of row_kind row_of
all_channels-holds = record { sound = refl; report = refl }

begins_in_the_middle-holds : IsReported begins_in_the_middle-text begins_in_the_middle-report
unfolding digits decode_pairs fault head rows head_of rows_in last_number size_kind header_kind contents_kind header_numbers interface_with interface_of row_words octets_of row_kind row_of
begins_in_the_middle-holds = record { sound = refl; report = refl }

call_after_a_gap-holds : IsReported call_after_a_gap-text call_after_a_gap-report
unfolding digits decode_pairs fault head rows head_of rows_in last_number size_kind header_kind contents_kind header_numbers interface_with interface_of row_words octets_of row_kind row_of
call_after_a_gap-holds = record { sound = refl; report = refl }

gap_in_the_second_form-holds : fault gap_in_the_second_form-text ≡ Some (2, Side)
unfolding digits decode_pairs fault head rows head_of rows_in last_number size_kind header_kind contents_kind header_numbers interface_with interface_of row_words octets_of row_kind row_of
gap_in_the_second_form-holds = refl

gap_number_falls-holds : fault gap_number_falls-text ≡ Some (3, Number)
unfolding digits decode_pairs fault head rows head_of rows_in last_number size_kind header_kind contents_kind header_numbers interface_with interface_of row_words octets_of row_kind row_of
gap_number_falls-holds = refl

gap_on_channel_0-holds : fault gap_on_channel_0-text ≡ Some (2, Hex)
unfolding digits decode_pairs fault head rows head_of rows_in last_number size_kind header_kind contents_kind header_numbers interface_with interface_of row_words octets_of row_kind row_of
gap_on_channel_0-holds = refl

no_gap-holds : IsReported no_gap-text no_gap-report
unfolding digits decode_pairs fault head rows head_of rows_in last_number size_kind header_kind contents_kind header_numbers interface_with interface_of row_words octets_of row_kind row_of
no_gap-holds = record { sound = refl; report = refl }

restart_of_both_sides-holds : IsReported restart_of_both_sides-text restart_of_both_sides-report
unfolding digits decode_pairs fault head rows head_of rows_in last_number size_kind header_kind contents_kind header_numbers interface_with interface_of row_words octets_of row_kind row_of
restart_of_both_sides-holds = record { sound = refl; report = refl }

restart_owed_at_the_gap-holds : IsReported restart_owed_at_the_gap-text restart_owed_at_the_gap-report
unfolding digits decode_pairs fault head rows head_of rows_in last_number size_kind header_kind contents_kind header_numbers interface_with interface_of row_words octets_of row_kind row_of
restart_owed_at_the_gap-holds = record { sound = refl; report = refl }

settled_by_an_acknowledgement-holds : IsReported settled_by_an_acknowledgement-text settled_by_an_acknowledgement-report
unfolding digits decode_pairs fault head rows head_of rows_in last_number size_kind header_kind contents_kind header_numbers interface_with interface_of row_words octets_of row_kind row_of
settled_by_an_acknowledgement-holds = record { sound = refl; report = refl }

pub worked_gaps : WorkedGapTraces
worked_gaps = record {
  all_channels = all_channels-holds;
  begins_in_the_middle = begins_in_the_middle-holds;
  call_after_a_gap = call_after_a_gap-holds;
  gap_in_the_second_form = gap_in_the_second_form-holds;
  gap_number_falls = gap_number_falls-holds;
  gap_on_channel_0 = gap_on_channel_0-holds;
  no_gap = no_gap-holds;
  restart_of_both_sides = restart_of_both_sides-holds;
  restart_owed_at_the_gap = restart_owed_at_the_gap-holds;
  settled_by_an_acknowledgement = settled_by_an_acknowledgement-holds;
}
