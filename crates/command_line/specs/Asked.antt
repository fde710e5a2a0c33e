-- What the words ask for (profile).
use Rattle.std.specs.Prelude.{Bool, false, true, not, ◌&&◌, ◌||◌, List, [], ◌∷◌, Option, None, Some, codes, is_some, option_map, if◌then◌else◌}
use Rattle.annotated_trace.specs.declared.rows.Rows.{Rows}
use Rattle.annotated_trace.specs.declared.rows.Rows.TheVariants.{All, Chosen}
use Rattle.std.specs.Option.{unwrap_or}
use Rattle.clap.specs.Words.{Kinds, Text, all_of, first_of, first_value, found_of, matched_of, matches_of, raw_values}
use Rattle.clap.specs.declared.parser.matches.ArgMatches.{ArgMatches}
use Rattle.streams.specs.declared.progress.ShowProgress.{ShowProgress}
use Rattle.streams.specs.declared.progress.ShowProgress.TheVariants.{Always, Never, OnTerminal}
use Rattle.capture_report.specs.Given.{is_plain}
use Rattle.command_line.specs.Captures.{capture_of, excludes_captures}
use Rattle.command_line.specs.Numbers.{Values, has, number_of}
use Rattle.command_line.specs.Options.{command, named_by, words_fault}
use Rattle.capture_report.specs.declared.options.CaptureOptions.{CaptureOptions}
use Rattle.command_line.specs.declared.asked.Asked as declared
use Rattle.command_line.specs.declared.asked.OutputForm.{OutputForm}
use Rattle.command_line.specs.declared.asked.OutputForm.TheVariants.{Comments, Findings, Objects, Table, TableObjects}
use Rattle.command_line.specs.declared.asked.ScanMode.{ScanMode}
use Rattle.command_line.specs.declared.asked.ScanMode.TheVariants.{Alone, Follow, Workers}
use Rattle.command_line.specs.declared.asked.TraceOutput.{TraceOutput}
use Rattle.command_line.specs.declared.asked.TraceOutput.TheVariants.{Headers, Printing, Report, Text as Copy}

-- what words ask for; the faults of words by the rules of `clap`, with `--help` and `--version` among them, come first
pub data AskedWords : Type 0 where
  Wrong : Kinds → AskedWords
  Conflict : AskedWords
  Explanation : Text → AskedWords
  Trace : (name : Option Text) → ShowProgress → TraceOutput → CaptureOptions → AskedWords

-- whether they ask for a trace and give options of captures
abbrev pub has_options : AskedWords → Bool
has_options (Trace name progress output capture) = not (is_plain capture)
has_options asked = false

-- the rows of the channel and of the call that are named, and all where neither is
abbrev pub rows_by : (channel call : Option Text) → Rows
rows_by None None = All
rows_by channel call = Chosen (number_of 16 channel) (number_of 32 call)

abbrev pub rows_of : Values → Rows
rows_of values = rows_by (values (codes "channel")) (values (codes "call"))

-- whether an annotation is asked for: a channel or a call that is named asks for one too
abbrev pub annotates : Values → Bool
annotates values = has values (codes "annotate") || is_some (values (codes "channel")) || is_some (values (codes "call"))

-- whether one thread scans the trace, which a note needs
abbrev pub is_alone : Values → Bool
is_alone values = has values (codes "alone") || has values (codes "notes")

-- how the trace is scanned
abbrev pub mode_of : Values → ScanMode
mode_of values = if has values (codes "follow") then Follow else if is_alone values then Alone else Workers (number_of 8 (values (codes "workers")))

-- the form of the table of calls
abbrev pub table_of : Values → OutputForm
table_of values = if has values (codes "json") then TableObjects else Table

abbrev pub report_of : Values → TraceOutput
report_of values = Report (record { mode = mode_of values; json = has values (codes "json"); notes = has values (codes "notes") })

-- what is printed of the trace: the first of these that is asked for, and otherwise the report
abbrev pub output_of : Values → TraceOutput
output_of values =
    if has values (codes "trace") then Copy
    else if has values (codes "try-headers") then Headers
    else if has values (codes "calls") then Printing (record { form = table_of values; rows = All })
    else if has values (codes "findings") then Printing (record { form = Findings; rows = rows_of values })
    else if has values (codes "rows") then Printing (record { form = Objects; rows = rows_of values })
    else if annotates values then Printing (record { form = Comments; rows = rows_of values })
    else report_of values

-- when progress is printed: of a trace that is followed only where it is asked for, since its reader waits for more
abbrev pub progress_by : (asked followed : Bool) → TraceOutput → ShowProgress
progress_by asked followed (Printing printing) = Never
progress_by asked followed Copy = Never
progress_by asked followed output = if asked then Always else if followed then Never else OnTerminal

-- whether a form can't be printed with what else is asked for: comments with JSON, objects with comments, a line for each finding with JSON, comments or
-- objects, and the table of calls with following, findings, rows or comments
abbrev pub excludes_form : OutputForm → Values → Bool
excludes_form Comments values = has values (codes "json")
excludes_form Objects values = has values (codes "annotate")
excludes_form Findings values = has values (codes "rows") || has values (codes "json") || has values (codes "annotate")
excludes_form form values = has values (codes "follow") || has values (codes "findings") || has values (codes "rows") || annotates values

-- whether a report, rows or the table of calls are asked for in some form
abbrev pub has_form : Values → Bool
has_form values = has values (codes "json") || has values (codes "follow") || has values (codes "findings") || has values (codes "rows") || annotates values || has values (codes "calls")

-- whether an output can't be printed with what else is asked for; the text of the trace and headers that are tried are printed with none of the
-- others
abbrev pub excludes : TraceOutput → Values → Bool
excludes (Report report) values = false
excludes (Printing printing) values = excludes_form printing.form values
excludes Headers values = has_form values
excludes Copy values = has_form values || has values (codes "try-headers")

-- whether a note of the data that was not counted can't be printed with an output: it is for a report that one thread makes
abbrev pub excludes_notes : TraceOutput → Values → Bool
excludes_notes (Report report) values = is_some (values (codes "workers")) && not (has values (codes "alone") || has values (codes "follow"))
excludes_notes output values = true

-- whether words ask for what can't be asked for together
abbrev pub output_conflicts : TraceOutput → Values → Bool
output_conflicts output values = (has values (codes "notes") && excludes_notes output values) || excludes output values

abbrev pub conflicts : TraceOutput → Values → Bool
conflicts output values = output_conflicts output values || excludes_captures values

-- what is printed of a trace, or a conflict
abbrev pub trace_by : Values → TraceOutput → AskedWords
trace_by values output =
    if conflicts output values then Conflict
    else Trace (named_by (values (codes "file"))) (progress_by (has values (codes "progress")) (has values (codes "follow")) output) output (capture_of values)

-- an explanation in place of all else
abbrev pub explained_by : (word : Option Text) → AskedWords → AskedWords
explained_by None asked = asked
explained_by (Some word) asked = Explanation word

-- what the values of the arguments ask for
abbrev pub asked_by : Values → AskedWords
asked_by values = explained_by (values (codes "explain")) (trace_by values (output_of values))

-- words that have faults are wrong
abbrev pub unless_wrong : Kinds → AskedWords → AskedWords
unless_wrong [] asked = asked
unless_wrong (kind ∷ kinds) asked = Wrong (kind ∷ kinds)

abbrev pub asked_of : List Text → AskedWords
asked_of words = unless_wrong (words_fault words) (asked_by (λ name. first_of name (matches_of command words)))

-- the names of the captures that follow the one that the words name
abbrev pub further_of : List Text → List Text
further_of words = unwrap_or (all_of (codes "further") (matches_of command words)) []

abbrev pub further_found : ArgMatches → List Text
further_found found = unwrap_or (option_map raw_values (matched_of (found_of found) (codes "further"))) []

-- the same of the values that were found, and of what was read of them
abbrev pub values_in : ArgMatches → Values
values_in found name = first_value (found_of found) name

abbrev pub asked_words : declared.Asked → AskedWords
asked_words (declared.TheVariants.Conflict text) = Conflict
asked_words (declared.TheVariants.Explanation word) = Explanation word.now
asked_words (declared.TheVariants.Trace trace) = Trace (option_map (λ name. name.now) trace.name) trace.progress trace.output trace.capture
