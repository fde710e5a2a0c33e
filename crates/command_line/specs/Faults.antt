-- What is printed of a fault.
use Rattle.std.specs.Prelude.{◌≡◌, ◌⊎◌, ℕ, Bool, true, false, List, [], ◌∷◌, ◌++◌, ◌&&◌, Option, None, Some, codes, decimal, if◌then◌else◌}
use Rattle.std.specs.IoError.{error_kind}
use Rattle.std.specs.declared.io.Error.{Error}
use Rattle.std.specs.declared.io.ErrorKind.{ErrorKind}
use Rattle.std.specs.declared.io.ErrorKind.TheVariants.{BrokenPipe, FileTooLarge, InvalidData, Other}
use Rattle.line_model.specs.basics.Device.{with_more}
use Rattle.line_model.specs.basics.Faults.{kind_number}
use Rattle.line_model.specs.basics.Written.{HasFront}
use Rattle.line_model.specs.declared.fault.Kind.{Kind}
use Rattle.line_model.specs.declared.fault.Fault.{Fault}
use Rattle.line_model.specs.declared.fault.Fault.TheVariants.{Memory, Trace, Read, Write, Start, Double, UnknownPiece, Missing}
use Rattle.streams.specs.declared.input.CaptureFault.{CaptureFault}
use Rattle.streams.specs.declared.input.CaptureFault.TheVariants.{Damaged, Internet, NoPacket, Piped, SeveralInterfaces, TwoCarriers, UnknownLink}
use Rattle.streams.specs.declared.input.OpenFault.{OpenFault}
use Rattle.streams.specs.declared.input.OpenFault.TheVariants.{Missing as NoFile, Capture, Denied, Directory, Refused}
use Rattle.streams.specs.declared.input.OpenRefusal.{OpenRefusal}
use Rattle.trace_text.specs.Sources.{IsRefusedBy}
use Rattle.trace_text.specs.Refusals.{IsRefusal}

-- the words of a fault (profile)
abbrev pub fault_words : Fault → List ℕ
fault_words Memory = codes "out of memory"
fault_words (Trace line kind) = codes "line " ++ decimal line ++ codes ": kind " ++ decimal (kind_number kind)
fault_words Read = codes "read failed"
fault_words Write = codes "write failed"
fault_words Start = codes "thread refused"
fault_words (Double piece) = codes "piece " ++ decimal piece ++ codes " posted twice"
fault_words (UnknownPiece piece) = codes "piece " ++ decimal piece ++ codes " unknown"
fault_words (Missing piece) = codes "piece " ++ decimal piece ++ codes " missing"

-- the line of a fault
abbrev pub fault_line : Fault → List ℕ
fault_line fault = codes "x25scan: " ++ fault_words fault ++ 10 ∷ []

-- why a capture has no trace, in words (profile)
abbrev pub capture_words : CaptureFault → List ℕ
capture_words Damaged = codes "the capture is damaged before its first frame"
capture_words NoPacket = codes "the capture has no packet of X.25"
capture_words Internet = codes "the capture has IP alone, and no packet of XOT on its port: --port N reads another one"
capture_words UnknownLink = codes "the link type of the capture is unknown: --as KIND says what its frames hold"
capture_words TwoCarriers = codes "the capture has packets of several kinds: --only lapb, --only x25 or --only xot reads one of them"
capture_words SeveralInterfaces = codes "the capture has packets of several interfaces: --interface N reads one of them"
capture_words Piped = codes "frames of a network have XOT, which --only xot reads once the pipe has ended; --only lapb or --only x25 reads a line in them"

-- whether an error of this kind is no error of the system: it says why options of captures don't fit a file
abbrev pub is_of_options : ErrorKind → Bool
is_of_options Other = true
is_of_options _ = false

-- whether a file is refused because the options of captures don't fit it
abbrev pub is_by_options : (reason : Option Error) → Bool
is_by_options None = false
is_by_options (Some reason) = is_of_options (error_kind reason)

-- whether an error of this kind is no error of the system: it says why another file does not follow
abbrev pub is_of_further : ErrorKind → Bool
is_of_further InvalidData = true
is_of_further _ = false

-- whether a file is refused because another one does not follow it
abbrev pub is_by_further : (reason : Option Error) → Bool
is_by_further None = false
is_by_further (Some reason) = is_of_further (error_kind reason)

-- whether an error of this kind says that a file is too large
abbrev pub is_of_size : ErrorKind → Bool
is_of_size FileTooLarge = true
is_of_size _ = false

-- whether a file is refused because it is
abbrev pub is_by_size : (reason : Option Error) → Bool
is_by_size None = false
is_by_size (Some reason) = is_of_size (error_kind reason)

-- why a file is refused, in words (profile)
abbrev pub refused_words : (reason : Option Error) → List ℕ
refused_words reason =
    if is_by_options reason then codes "the options don't fit it"
    else if is_by_further reason then codes "the files after it don't continue it"
    else if is_by_size reason then codes "it is too large"
    else codes "the system refuses it"

-- why a trace could not be opened, in words (profile)
abbrev pub open_words : OpenFault → (reason : Option Error) → List ℕ
open_words NoFile reason = codes "no such file"
open_words Denied reason = codes "permission denied"
open_words Directory reason = codes "it is a directory"
open_words Refused reason = refused_words reason
open_words (Capture fault) reason = capture_words fault

-- the line that says so
abbrev pub open_line : (name : List ℕ) → OpenRefusal → List ℕ
open_line name refusal = (((codes "x25scan: cannot open " ++ name) ++ codes ": ") ++ open_words refusal.fault refusal.reason) ++ 10 ∷ []

-- the status: where options of captures are given, and they don't fit the file, the words are wrong
abbrev pub open_status : (has_options : Bool) → (reason : Option Error) → ℕ
open_status has_options reason = if has_options && is_by_options reason then 64 else 3

-- a sink accepted more bytes
abbrev pub Grows : (before after : Option (List ℕ)) → Type 0
Grows before after = (more : List ℕ) × (after ≡ with_more before more)

-- it accepted a line, and more after it
abbrev pub BeginsWith : (line : List ℕ) → (before after : Option (List ℕ)) → Type 0
BeginsWith line before after = (more : List ℕ) × (after ≡ with_more before (line ++ more))

-- a line was printed first: the sink accepted it, and more after it, or it failed and accepted a first part of it
pub record IsSaid (line : List ℕ) (before after : Option (List ℕ)) (well : Type 0) : Type 0 where
  pub part : HasFront before after line ⊎ BeginsWith line before after
  pub whole : well → BeginsWith line before after

-- whether an error of this kind says that the reader of a sink went away
abbrev pub is_by_reader : ErrorKind → Bool
is_by_reader BrokenPipe = true
is_by_reader _ = false

-- whether a write failed because it did
abbrev pub lost_its_reader : (reason : Option Error) → Bool
lost_its_reader None = false
lost_its_reader (Some reason) = is_by_reader (error_kind reason)

-- the line of a fault was printed first; of a write that failed perhaps nothing was, as where the reader of the sink went away
abbrev pub IsFaultSaid : Fault → (before after : Option (List ℕ)) → (well : Type 0) → Type 0
IsFaultSaid Write before after well = IsSaid (fault_line Write) before after well ⊎ (after ≡ before)
IsFaultSaid fault before after well = IsSaid (fault_line fault) before after well

-- a trace could not be opened by its name, and a line that says so was printed first
pub record IsUnopened (name : Option (List ℕ)) (before after : Option (List ℕ)) (heard : Type 0) : Type 0 where
  pub named : List ℕ
  pub is : name ≡ Some named
  pub refusal : OpenRefusal
  pub said : IsSaid (open_line named refusal) before after heard

-- the line of the fault by which a trace was refused was printed first; where the source shows its bytes, it is that of their first faulty
-- line
pub record SaysFault (lag : ℕ) (trace left asked before after : Option (List ℕ)) (well : Type 0) : Type 0 where
  pub line : ℕ
  pub kind : Kind
  pub said : IsSaid (fault_line (Trace line kind)) before after well
  pub refusal : (text : List ℕ) → trace ≡ Some text → IsRefusedBy lag (IsRefusal lag) text left asked (Trace line kind)
