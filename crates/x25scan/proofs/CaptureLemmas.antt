-- What the program answers of a capture is the report of its rows.
use Rattle.std.proofs.Common.{◌≡◌, ◌∙◌, sym, ap, subst, refl, ℕ, zero, suc, ◌<◌, ◌⊎◌, inl, inr, Bool, true, false, List, [], ◌∷◌, ◌++◌, Option, Result, Ok, Err, None, Some, arith, map}
use Rattle.std.specs.Prelude.{◌&&◌, ◌||◌, ◌≢◌, IfOk, is_some, option_map, if◌then◌else◌}
use Rattle.std.specs.Option.{option_and_then}
use Rattle.line_model.specs.basics.Device.{with_more}
use Rattle.line_model.specs.basics.Records.{Row}
use Rattle.line_model.specs.declared.device.Sink.{Ghosts as Sink}
use Rattle.line_model.specs.declared.device.Source.{Ghosts as Source}
use Rattle.line_model.specs.declared.interface.Interface.{Interface}
use Rattle.line_model.specs.text.Text.{fault}
use Rattle.line_model.specs.traces.Traces.{trace_report}
use Rattle.streams.specs.declared.progress.ShowProgress.{ShowProgress}
use Rattle.capture_report.specs.CaptureTexts.{capture_text, captured, line_interface, line_rows, numbered_rows, printer_by, sight_in, source_in, text_by}
use Rattle.capture_report.specs.Given.{is_unnamed}
use Rattle.capture_report.specs.HeaderTexts.{head_text}
use Rattle.capture_report.specs.Laws.{HasRows}
use Rattle.capture_report.specs.Recordings.{recorded}
use Rattle.capture_report.specs.Records.{Record}
use Rattle.capture_report.specs.Texts.{rows_printed}
use Rattle.capture_report.specs.declared.options.CaptureOptions.{CaptureOptions}
use Rattle.capture_report.specs.declared.row_source.RowSource.{RowSource}
use Rattle.capture_report.specs.declared.row_source.RowSource.TheVariants as carried
use Rattle.capture_report.proofs.CaptureFileLemmas.{file_law}
use Rattle.capture_report.proofs.HeaderLemmas.{header_there}
use Rattle.clap.specs.Words.{HasKind, IsAmong, Kinds, Text, first_of, kind_of, matches_of}
use Rattle.clap.specs.declared.error.Error.{Error}
use Rattle.clap.specs.declared.error.kind.ErrorKind.{ErrorKind}
use Rattle.clap.specs.declared.error.kind.ErrorKind.TheVariants.{OutOfMemory}
use Rattle.descriptions.specs.Circuits.{Circuit}
use Rattle.command_line.specs.Answer.{IsAnswerTo, IsReportOutput}
use Rattle.command_line.specs.Asked.{AskedWords, Trace, asked_by, asked_of, has_options, unless_wrong}
use Rattle.command_line.specs.Copies.{CopiesOf}
use Rattle.command_line.specs.Options.{command, words_fault}
use Rattle.command_line.specs.Program.{AreObjects, IsScanned, IsStatusOf, IsUnread, is_followed, lag_of, objects_text, report_in}
use Rattle.command_line.specs.declared.asked.AskedReport.{AskedReport}
use Rattle.command_line.specs.declared.asked.TraceOutput.TheVariants.{Report}
use Rattle.x25scan.specs.Captures.{AsksOptions, HasCaptureReport, HasTrace, IsCapture, PrintsCaptures, ReportsCaptures, is_line}

-- what a capture shows
shown_text : (o : CaptureOptions) (octets : List ℕ) (records : List Record) (file : Option (List ℕ)) → file ≡ Some octets → IsCapture octets records → recorded o file ≡ capture_text o records
shown_text o octets records file is c =
    ap (recorded o) is ∙ ap (λ b. if b then captured o (Some octets) else Some octets) c.begins ∙ ap (λ (found : Option (List Record)). option_and_then (capture_text o) found) c.whole

-- there is a trace of a line that has a header
abbrev HasText : Option (List ℕ) → Type 0
HasText shown = (text : List ℕ) × (shown ≡ Some text)

line_there : (o : CaptureOptions) (records : List Record) (found : Option Interface) → is_some found ≡ true
    → HasText (option_map (λ head. head ++ rows_printed (printer_by o (sight_in o records)) (line_rows o records)) (option_map (λ i. head_text i (sight_in o records).seen o.header) found))
line_there o records None h = cc h
line_there o records (Some i) h = (head_text i (sight_in o records).seen o.header ++ rows_printed (printer_by o (sight_in o records)) (line_rows o records), refl)

some_there : (shown : Option (List ℕ)) → is_some shown ≡ true → HasText shown
some_there None h = cc h
some_there (Some text) h = (text, refl)

found_text : (o : CaptureOptions) (records : List Record) → HasTrace o records → HasText (capture_text o records)
found_text o records = at (is_unnamed o.header) (source_in o records) refl
  where
    at : (plain : Bool) (source : Option RowSource) → is_unnamed o.header ≡ plain → (plain && is_line source || is_some (text_by source o records)) ≡ true → HasText (text_by source o records)
    at true (Some carried.Line) e h = line_there o records (line_interface o records) (header_there o.header (sight_in o records).seen e)
    at true (Some carried.Xot) e h = some_there (text_by (Some carried.Xot) o records) h
    at true None e h = some_there None h
    at false source e h = some_there (text_by source o records) h

-- a status below 2 is that of a report
scanned : (lag : ℕ) (followed : Bool) (text : List ℕ) (left asked before after : Option (List ℕ)) (well : Type 0) (status : ℕ) → IsScanned lag followed text left asked before after well status → status < 2
    → (fault text ≡ None) × (after ≡ with_more before (trace_report text))
scanned lag false text left asked before after well status s few = at status s few
  where
    at : (n : ℕ) → IsScanned lag false text left asked before after well n → n < 2 → (fault text ≡ None) × (after ≡ with_more before (trace_report text))
    at zero s few = let r = (s.clean refl).0 in (r.sound, r.taken)
    at (suc zero) s few = let r = (s.found refl).0 in (r.sound, r.taken)
    at (suc (suc n)) s few = absurd (omega (arith, few))
scanned lag true text left asked before after well status s few = at status s few
  where
    at : (n : ℕ) → IsScanned lag true text left asked before after well n → n < 2 → (fault text ≡ None) × (after ≡ with_more before (trace_report text))
    at zero s few = let r = (s.clean refl).0 in (r.sound, r.taken)
    at (suc zero) s few = let r = (s.found refl).0 in (r.sound, r.taken)
    at (suc (suc n)) s few = absurd (omega (arith, few))

reported : (lag : ℕ) (json followed : Bool) (text : List ℕ) (left asked before after : Option (List ℕ)) (well : Type 0) (status : ℕ) → IsStatusOf lag json followed text left asked before after well status → status < 2
    → (fault text ≡ None) × ((circuits : List Circuit) × (after ≡ with_more before (report_in json circuits (trace_report text))))
reported lag false followed text left asked before after well status s few =
    let r = scanned lag followed text left asked before after well status s few in
    (r.0, ([], r.1))
reported lag true followed text left asked before after well status (circuits, s) few = at s.objects
  where
    at : AreObjects s.given circuits s.failures s.plain before after well status → (fault text ≡ None) × ((cs : List Circuit) × (after ≡ with_more before (objects_text (trace_report text) cs)))
    at (inl o) =
        let r = scanned lag followed text left asked (Some []) (Some s.given) (s.failures ≡ 0) s.plain s.scanned (subst (λ n. n < 2) o.1 few) in
        let same : s.given ≡ trace_report text = cc r.1 in
        (r.0, (circuits, o.2 ∙ ap (λ xs. with_more before (objects_text xs circuits)) same))
    at (inr o) = absurd (omega (arith, few, o.0))

-- nothing was read: the status is none of a report
unread_high : {A : Type 0} (status : ℕ) → (status ≡ 3) ⊎ (A × (status ≡ 64)) → status < 2 → ⊥
unread_high status (inl three) few = omega (arith, three, few)
unread_high status (inr usage) few = let is = usage.1 in omega (arith, is, few)

pub reports : {S K E : Type 0} (read : Source S) (write : Sink K) (print : Sink E) (o : CaptureOptions) (named files : List ℕ → Option (List ℕ)) → ((name : List ℕ) → named name ≡ recorded o (files name)) → (asked : AskedWords) (source source′ : S) (sink sink′ : K) (errors errors′ : E) (status : ℕ)
    → IsUnread (has_options asked) source source′ sink sink′ status ⊎ IsAnswerTo read write print named asked source source′ sink sink′ errors errors′ status → ReportsCaptures files o asked (write.taken sink) (write.taken sink′) status
reports read write print o named files is asked source source′ sink sink′ errors errors′ status (inl unread) = λ name progress report given octets records asks shows c trace few. absurd (unread_high status unread.other few)
reports read write print o named files is asked source source′ sink sink′ errors errors′ status (inr answer) = λ name progress report given octets records asks shows c trace few.
    let output : IsReportOutput read write print report (named name) source′ sink sink′ errors errors′ status = subst (λ a. IsAnswerTo read write print named a source source′ sink sink′ errors errors′ status) asks answer in
    let found = found_text o records trace in
    let there : named name ≡ Some found.0 = is name ∙ shown_text o octets records (files name) shows c ∙ found.1 in
    let said = reported (lag_of report.mode) report.json (is_followed report.mode) found.0 (read.left source′) (read.before source′) (write.taken sink) (write.taken sink′) (write.failures sink′ ≡ write.failures sink) status (output.shown found.0 there) few in
    let law = file_law o octets records found.0 c.bytes c.whole found.1 said.0 in
    record {
      interface = law.0;
      seen = law.1;
      circuits = said.1.0;
      taken = said.1.1 ∙ ap (λ xs. with_more (write.taken sink) (report_in report.json said.1.0 xs)) law.2.report;
    }

-- and of its text
pub prints : {S K E : Type 0} (read : Source S) (write : Sink K) (print : Sink E) (o : CaptureOptions) (named files : List ℕ → Option (List ℕ)) → ((name : List ℕ) → named name ≡ recorded o (files name)) → (asked : AskedWords) (source source′ : S) (sink sink′ : K) (errors errors′ : E) (status : ℕ)
    → IsUnread (has_options asked) source source′ sink sink′ status ⊎ IsAnswerTo read write print named asked source source′ sink sink′ errors errors′ status → PrintsCaptures files o asked (write.taken sink) (write.taken sink′) status
prints read write print o named files is asked source source′ sink sink′ errors errors′ status (inl unread) = λ name progress given octets records text asks shows c same few. absurd (unread_high status unread.other few)
prints read write print o named files is asked source source′ sink sink′ errors errors′ status (inr answer) = λ name progress given octets records text asks shows c same few.
    let copies : CopiesOf (named name) (write.taken sink) (write.taken sink′) status = subst (λ a. IsAnswerTo read write print named a source source′ sink sink′ errors errors′ status) asks answer in
    (copies text (is name ∙ shown_text o octets records (files name) shows c ∙ same)).whole few

-- ---- the words

-- words with a fault ask for no trace
wrong_words : (words : List Text) (o : CaptureOptions) (kind : ErrorKind) → IsAmong kind (words_fault words) → AsksOptions (asked_of words) o
wrong_words words o kind among = at (words_fault words) (asked_by (λ name. first_of name (matches_of command words))) among
  where
    at : (kinds : Kinds) (asked : AskedWords) → IsAmong kind kinds → AsksOptions (unless_wrong kinds asked) o
    at [] asked among = absurd among
    at (k ∷ kinds) asked among = λ name progress output given asks. cc asks

-- whatever is made of them
pub refused_words : (words : List Text) (e : Error) (r : Result CaptureOptions ℕ) → HasKind (words_fault words) e → IfOk r (λ o. kind_of e ≢ OutOfMemory) → IfOk r (AsksOptions (asked_of words))
refused_words words e (Ok o) (inl memory) other = absurd (other memory)
refused_words words e (Ok o) (inr among) other = wrong_words words o (kind_of e) among
refused_words words e (Err status) kinds other = tt
