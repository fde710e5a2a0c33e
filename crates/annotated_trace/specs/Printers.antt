-- A printer of a trace: what it was fed, and what its sink has.
use Rattle.std.specs.Prelude.{◌≡◌, ◌⊎◌, ℕ, Bool, true, false, List, [], ◌++◌, length, Option, Some, None, OnOk, Result}
use Rattle.line_model.specs.basics.Device.{with_more}
use Rattle.line_model.specs.basics.Records.{Report}
use Rattle.line_model.specs.text.Text.{Line, begun_line, ended_lines, fault, good_lines, lines_of, text_limit}
use Rattle.line_model.specs.traces.Traces.{trace_summary}
use Rattle.line_model.specs.declared.fault.Fault.{Fault}
use Rattle.line_model.specs.declared.fault.Fault.TheVariants.{Memory, Trace, Write}
use Rattle.line_model.specs.declared.fault.Kind.{Kind}
use Rattle.line_model.specs.declared.fault.Kind.TheVariants.{TextLarge}
use Rattle.line_model.specs.declared.totals.Summary.{Summary}
use Rattle.trace_text.specs.ObserverAnswers.{IsReportOf}
use Rattle.annotated_trace.specs.Printed.{IsPrintOf}
use Rattle.annotated_trace.specs.declared.rows.Rows.{Rows}
use Rattle.annotated_trace.specs.declared.printer.Printer.{Ghosts as Printing}
use Rattle.trace_text.specs.declared.trace_observer.TraceObserver.{Ghosts as TraceObserver}
use Rattle.annotated_trace.specs.declared.printing.TracePrinter.{TracePrinter}

-- a trace was fed this text, and a printer of these rows has printed its lines
abbrev pub HasFollowed : {A O P : Type 0} → TraceObserver O A → Printing P A O → Rows → O → P → (text : List ℕ) → Type 0
HasFollowed reader printing choice w p text = reader.represents w text × printing.printed p (ended_lines text) × (printing.rows p ≡ choice)

-- it was fed this text, and refused none of it
pub record WasFed {A O P : Type 0} (followed : O → P → List ℕ → Type 0) (t : TracePrinter A O P) (text : List ℕ) : Type 0 where
  pub trace : followed t.trace t.printer text
  pub begun : t.begun.items ≡ begun_line text

-- it was fed some text, and refused none of it
abbrev pub IsFed : {A O P : Type 0} → TraceObserver O A → Printing P A O → TracePrinter A O P → Type 0
IsFed reader printing t = (choice : Rows) × (text : List ℕ) × WasFed (HasFollowed reader printing choice) t text

-- of any rows that were asked for, and any text that it was fed
abbrev pub OfFed : {A O P : Type 0} → TraceObserver O A → Printing P A O → TracePrinter A O P → (Rows → List ℕ → Type 0) → Type 0
OfFed reader printing t Fact = (choice : Rows) (text : List ℕ) → WasFed (HasFollowed reader printing choice) t text → Fact choice text

-- of any text that it was fed: it was fed that text with the chunk
abbrev pub IsFedOn : {A O P T E : Type 0} → TraceObserver O A → Printing P A O → (before : TracePrinter A O P) → (chunk : List ℕ) → (after : TracePrinter A O P) → Result T E → Type 0
IsFedOn reader printing before chunk after result = OfFed reader printing before (λ choice text. OnOk result (WasFed (HasFollowed reader printing choice) after (text ++ chunk)))

-- the bytes, after those that are gone, are the print of some lines, of these rows
abbrev pub PrintOf : {A O P : Type 0} → Printing P A O → Rows → (gone : List ℕ) → List Line → List ℕ → Type 0
PrintOf printing choice gone ls bytes = IsPrintOf (printing.form choice) [] ls (gone ++ bytes)

-- of any text whose lines it has printed, and whose report this is: the bytes after them are of this form
abbrev pub OfClosing : {A O P : Type 0} → Printing P A O → P → Report → ((List ℕ → Type 0) → Type 0) → Type 0
OfClosing printing p report Fact = (text : List ℕ) → printing.printed p (lines_of text) → IsReportOf text report → Fact (printing.closing (printing.rows p) (lines_of text) report)

-- a sink that had `before` accepted, with what is held, the print of some lines
pub record HasPrinted (is_print : List Line → List ℕ → Type 0) (before taken : Option (List ℕ)) (held : List ℕ) (ls : List Line) : Type 0 where
  pub sent : List ℕ
  pub taken_is : taken ≡ with_more before sent
  pub lines : is_print ls (sent ++ held)

-- of any text so, and any sink that accepted, after what is gone and with what is held, the print of the lines that ended
abbrev pub OfPrinted : {A O P : Type 0} → TraceObserver O A → Printing P A O → TracePrinter A O P → (taken : Option (List ℕ)) → (Rows → (gone text : List ℕ) → Option (List ℕ) → Type 0) → Type 0
OfPrinted reader printing t taken Fact = (choice : Rows) (gone text : List ℕ) (before : Option (List ℕ)) → WasFed (HasFollowed reader printing choice) t text → HasPrinted (PrintOf printing choice gone) before taken t.held.items (ended_lines text) → Fact choice gone text before

-- it accepted a first part of the print of the first ones of some lines
pub record HasFirstPrint (is_print : List Line → List ℕ → Type 0) (before taken : Option (List ℕ)) (ls : List Line) : Type 0 where
  pub done : List Line
  pub others : List Line
  pub lines : ls ≡ done ++ others
  pub left : List ℕ
  pub printed : HasPrinted is_print before taken left done

-- what a sink has where a text is refused: at a faulty line the print of the lines before it, with what is held; otherwise a first part
abbrev pub IsStoppedAt : (is_print : List Line → List ℕ → Type 0) (before taken : Option (List ℕ)) (held : List ℕ) (ls : List Line) → Fault → Type 0
IsStoppedAt is_print before taken held ls (Trace line kind) = HasPrinted is_print before taken held (good_lines (Some (line, kind)) ls)
IsStoppedAt is_print before taken held ls _ = HasFirstPrint is_print before taken ls

-- at a faulty line
abbrev pub HasPrintBefore : (is_print : List Line → List ℕ → Type 0) (before taken : Option (List ℕ)) (ls : List Line) → Fault → Type 0
HasPrintBefore is_print before taken ls (Trace line kind) = HasPrinted is_print before taken [] (good_lines (Some (line, kind)) ls)
HasPrintBefore is_print before taken ls _ = Unit {0}

-- whether a fault is that of a line
abbrev pub is_line : Fault → Bool
is_line (Trace line kind) = true
is_line _ = false

-- why a text is refused while it grows: memory ran out, a line is faulty whatever follows, or the sink failed
abbrev pub IsRefusalOf : Option (ℕ × Kind) → Fault → Type 0
IsRefusalOf at Memory = Unit {0}
IsRefusalOf at (Trace line kind) = at ≡ Some (line, kind)
IsRefusalOf at Write = Unit {0}
IsRefusalOf at _ = ⊥

-- the faults that a printer of a trace may meet
abbrev pub IsPrinterFault : Fault → Type 0
IsPrinterFault Memory = Unit {0}
IsPrinterFault (Trace line kind) = Unit {0}
IsPrinterFault Write = Unit {0}
IsPrinterFault _ = ⊥

-- a text that is as large as a text may be has no room for the LF of its last line
abbrev pub IsFull : List ℕ → Kind → Type 0
IsFull x kind = (length x ≡ text_limit) × (kind ≡ TextLarge)

-- why a text whose last line an LF ended is refused at its end
abbrev pub IsCloseRefusal : List ℕ → Fault → Type 0
IsCloseRefusal x Memory = Unit {0}
IsCloseRefusal x (Trace line kind) = fault x ≡ Some (line, kind)
IsCloseRefusal x Write = fault x ≡ None
IsCloseRefusal x _ = ⊥

-- why a text is refused at its end
abbrev pub IsEndRefusal : List ℕ → Fault → Type 0
IsEndRefusal x Memory = Unit {0}
IsEndRefusal x (Trace line kind) = (fault x ≡ Some (line, kind)) ⊎ IsFull x kind
IsEndRefusal x Write = fault x ≡ None
IsEndRefusal x _ = ⊥

-- the text has no fault, the sink accepted the print of its lines and what comes after them by its report, and the sums are those of the report
pub record IsPrinted (is_print : List Line → List ℕ → Type 0) (closes : List Line → Report → List ℕ → Type 0) (x : List ℕ) (before after : Option (List ℕ)) (sums : Summary) : Type 0 where
  pub report : Report
  pub reported : IsReportOf x report
  pub lines : List ℕ
  pub closing : List ℕ
  pub print : is_print (lines_of x) lines
  pub closed : closes (lines_of x) report closing
  pub taken : after ≡ with_more before (lines ++ closing)
  pub counted : sums ≡ trace_summary x

-- bytes are a first part of the print of a text's lines
abbrev pub IsFirstOfLines : (lines front : List ℕ) → Type 0
IsFirstOfLines lines front = (left : List ℕ) × (lines ≡ front ++ left)

-- or that print, and a first part of what comes after it by the report
pub record IsFirstOfClosing (closes : List Line → Report → List ℕ → Type 0) (x lines front : List ℕ) : Type 0 where
  pub report : Report
  pub reported : IsReportOf x report
  pub closing : List ℕ
  pub left : List ℕ
  pub closed : closes (lines_of x) report closing
  pub whole : lines ++ closing ≡ front ++ left

-- the sink accepted a first part of what is printed of the text
pub record HasFirstPrintOf (is_print : List Line → List ℕ → Type 0) (closes : List Line → Report → List ℕ → Type 0) (x : List ℕ) (before after : Option (List ℕ)) : Type 0 where
  pub lines : List ℕ
  pub front : List ℕ
  pub print : is_print (lines_of x) lines
  pub taken : after ≡ with_more before front
  pub part : IsFirstOfLines lines front ⊎ IsFirstOfClosing closes x lines front
