-- The text of a report in two parts.
use Rattle.std.specs.Prelude.{ℕ, List, ◌++◌}
use Rattle.std.specs.List.{flat_map, enumerate_from}
use Rattle.line_model.specs.basics.Records.{Report}
use Rattle.line_model.specs.observer.Report.{account_line, call_line, finding_line, gap_lines, peak_line, setting_lines, summary_line}
use Rattle.line_model.specs.declared.finding.Finding.{Finding}

-- the lines of findings
abbrev pub findings_text : List Finding → List ℕ
findings_text findings = flat_map finding_line findings

-- the lines of a report after its findings
abbrev pub rest_text : Report → List ℕ
rest_text r =
    flat_map call_line (enumerate_from 1 r.calls)
    ++ flat_map setting_lines (enumerate_from 1 r.calls)
    ++ flat_map account_line r.accounts
    ++ peak_line r.peak
    ++ gap_lines r.gaps
    ++ summary_line r.summary
