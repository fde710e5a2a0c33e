-- What some recordings with gaps come to: each is refused by its first faulty line, or has no fault and exactly this report.
-- tools/worked_gap_traces.py writes this file from tests/gaps/traces.
use Rattle.std.specs.Prelude.{◌≡◌, ℕ, List, [], ◌∷◌, codes, Some}
use Rattle.line_model.specs.declared.fault.Kind.TheVariants.{Number, Side, Hex}
use Rattle.line_model.specs.text.Text.{fault}
use Rattle.line_model.specs.traces.Traces.{IsReported, text}

abbrev pub all_channels-text : List ℕ
all_channels-text =
    text (codes "X25 3 MOD 8 WIN 2 SIZE 128 PVC 0 IN 0 TWO 4 OUT 4" ∷
    codes "1 T 10010B0000" ∷
    codes "2 N 10010F" ∷
    codes "3 T 10020B0000" ∷
    codes "4 N 10020F" ∷
    codes "5 ? *" ∷
    codes "6 T 10010AAA" ∷
    codes "7 N 1001C1" ∷
    codes "8 N 100248BB" ∷
    codes "9 T 1000FB0000" ∷
    codes "10 T 10010B0000" ∷
    codes "11 N 1000FF" ∷
    codes "12 N 1000FF" ∷
    codes "13 T 100100AA" ∷
    [])

abbrev pub begins_in_the_middle-text : List ℕ
begins_in_the_middle-text =
    text (codes "X25 3 MOD 8 WIN 2 SIZE 128 PVC 0 IN 0 TWO 4 OUT 4 JOIN" ∷
    codes "1 T 100100AA" ∷
    codes "2 N 1000FF" ∷
    codes "3 T 10010B0000" ∷
    codes "4 N 10010F" ∷
    codes "5 T 100104AA" ∷
    [])

abbrev pub call_after_a_gap-text : List ℕ
call_after_a_gap-text =
    text (codes "X25 3 MOD 8 WIN 2 SIZE 128 PVC 0 IN 0 TWO 4 OUT 4" ∷
    codes "1 T 10010B0000" ∷
    codes "2 N 10010F" ∷
    codes "3 T 100100AA" ∷
    codes "4 ? 1" ∷
    codes "5 T 10010B45001234500000" ∷
    codes "6 N 10010F" ∷
    codes "7 T 100100AA" ∷
    codes "8 N 100121" ∷
    codes "9 T 100104AA" ∷
    [])

abbrev pub gap_in_the_second_form-text : List ℕ
gap_in_the_second_form-text =
    text (codes "X25 2 MOD 8 WIN 2 SIZE 128 PVC 0 IN 0 TWO 4 OUT 4" ∷
    codes "1 ? 1" ∷
    [])

abbrev pub gap_number_falls-text : List ℕ
gap_number_falls-text =
    text (codes "X25 3 MOD 8 WIN 2 SIZE 128 PVC 0 IN 0 TWO 4 OUT 4" ∷
    codes "2 ? 1" ∷
    codes "1 ? 1" ∷
    [])

abbrev pub gap_on_channel_0-text : List ℕ
gap_on_channel_0-text =
    text (codes "X25 3 MOD 8 WIN 2 SIZE 128 PVC 0 IN 0 TWO 4 OUT 4" ∷
    codes "1 ? 0" ∷
    [])

abbrev pub no_gap-text : List ℕ
no_gap-text =
    text (codes "X25 3 MOD 8 WIN 2 SIZE 128 PVC 0 IN 0 TWO 4 OUT 4" ∷
    codes "1 T 10010B0000" ∷
    codes "2 N 10010F" ∷
    codes "3 T 100104AA" ∷
    [])

abbrev pub restart_of_both_sides-text : List ℕ
restart_of_both_sides-text =
    text (codes "X25 3 MOD 8 WIN 2 SIZE 128 PVC 0 IN 0 TWO 4 OUT 4" ∷
    codes "1 T 10010B0000" ∷
    codes "2 N 10010F" ∷
    codes "3 ? *" ∷
    codes "4 T 1000FB0000" ∷
    codes "5 N 1000FB0000" ∷
    codes "6 T 10010B0000" ∷
    codes "7 N 10010F" ∷
    [])

abbrev pub restart_owed_at_the_gap-text : List ℕ
restart_owed_at_the_gap-text =
    text (codes "X25 3 MOD 8 WIN 2 SIZE 128 PVC 0 IN 0 TWO 4 OUT 4" ∷
    codes "1 T 1000FF" ∷
    codes "2 ? *" ∷
    codes "3 N 1000FF" ∷
    codes "4 T 100200AA" ∷
    codes "5 N 1000FB0711" ∷
    codes "6 T 1000FF" ∷
    codes "7 N 1000FF" ∷
    codes "8 T 1000FF" ∷
    codes "9 T 100200AA" ∷
    [])

abbrev pub settled_by_an_acknowledgement-text : List ℕ
settled_by_an_acknowledgement-text =
    text (codes "X25 3 MOD 8 WIN 2 SIZE 128 PVC 0 IN 0 TWO 4 OUT 4" ∷
    codes "1 T 10010B0000" ∷
    codes "2 N 10010F" ∷
    codes "3 T 100100AA" ∷
    codes "4 N 100121" ∷
    codes "5 ? 1" ∷
    codes "6 T 100108AA" ∷
    codes "7 N 1001A1" ∷
    codes "8 T 10010AAA" ∷
    codes "9 N 100100BB" ∷
    codes "10 T 10010EAA" ∷
    [])

abbrev pub all_channels-report : List ℕ
all_channels-report =
    text (codes "F 12 N r1 17" ∷
    codes "F 13 T p1 20" ∷
    codes "C 1 1 1 out - - 1 2 9 restart 1 1 0 0 1" ∷
    codes "C 2 1 2 out - - 3 4 9 restart 0 0 1 1 1" ∷
    codes "C 3 2 1 out - - 10 - 11 gap 0 0 0 0 0" ∷
    codes "A - 3 2" ∷
    codes "P 2 4" ∷
    codes "G 1" ∷
    codes "Z 12 2 3 2 2" ∷
    [])

abbrev pub begins_in_the_middle-report : List ℕ
begins_in_the_middle-report =
    text (codes "F 5 T d1 1" ∷
    codes "C 1 2 1 out - - 3 4 - open 0 0 0 0 0" ∷
    codes "A - 1 0" ∷
    codes "P 1 4" ∷
    codes "G 0" ∷
    codes "Z 5 1 1 0 0" ∷
    [])

abbrev pub call_after_a_gap-report : List ℕ
call_after_a_gap-report =
    text (codes "F 9 T d1 1" ∷
    codes "C 1 1 1 out - - 1 2 5 gap 1 1 0 0 1" ∷
    codes "C 2 1 1 out 00123 4500 5 6 - open 1 1 0 0 1" ∷
    codes "A - 1 1" ∷
    codes "A 4500 1 1" ∷
    codes "P 1 2" ∷
    codes "G 1" ∷
    codes "Z 8 1 2 2 2" ∷
    [])

abbrev pub no_gap-report : List ℕ
no_gap-report =
    text (codes "F 3 T d1 1" ∷
    codes "C 1 1 1 out - - 1 2 - open 0 0 0 0 0" ∷
    codes "A - 1 0" ∷
    codes "P 1 2" ∷
    codes "G 0" ∷
    codes "Z 3 1 1 0 0" ∷
    [])

abbrev pub restart_of_both_sides-report : List ℕ
restart_of_both_sides-report =
    text (codes "C 1 1 1 out - - 1 2 4 restart 0 0 0 0 0" ∷
    codes "C 2 3 1 out - - 6 7 - open 0 0 0 0 0" ∷
    codes "A - 2 0" ∷
    codes "P 1 2" ∷
    codes "G 1" ∷
    codes "Z 6 0 2 0 0" ∷
    [])

abbrev pub restart_owed_at_the_gap-report : List ℕ
restart_owed_at_the_gap-report =
    text (codes "F 1 T r1 17" ∷
    codes "F 7 N r1 17" ∷
    codes "F 8 T r1 17" ∷
    codes "P 0 -" ∷
    codes "G 1" ∷
    codes "Z 8 3 0 0 0" ∷
    [])

abbrev pub settled_by_an_acknowledgement-report : List ℕ
settled_by_an_acknowledgement-report =
    text (codes "F 9 N d1 2" ∷
    codes "F 10 T d1 1" ∷
    codes "C 1 1 1 out - - 1 2 - open 3 3 0 0 3" ∷
    codes "A - 1 3" ∷
    codes "P 1 2" ∷
    codes "G 1" ∷
    codes "Z 9 2 1 3 3" ∷
    [])

pub record WorkedGapTraces : Type 0 where
  pub all_channels : IsReported all_channels-text all_channels-report
  pub begins_in_the_middle : IsReported begins_in_the_middle-text begins_in_the_middle-report
  pub call_after_a_gap : IsReported call_after_a_gap-text call_after_a_gap-report
  pub gap_in_the_second_form : fault gap_in_the_second_form-text ≡ Some (2, Side)
  pub gap_number_falls : fault gap_number_falls-text ≡ Some (3, Number)
  pub gap_on_channel_0 : fault gap_on_channel_0-text ≡ Some (2, Hex)
  pub no_gap : IsReported no_gap-text no_gap-report
  pub restart_of_both_sides : IsReported restart_of_both_sides-text restart_of_both_sides-report
  pub restart_owed_at_the_gap : IsReported restart_owed_at_the_gap-text restart_owed_at_the_gap-report
  pub settled_by_an_acknowledgement : IsReported settled_by_an_acknowledgement-text settled_by_an_acknowledgement-report
