-- A follower: a trace that is fed, and how many of its findings were written.
use Rattle.std.specs.Prelude.{◌≡◌, ℕ, ◌≤◌, List, ◌++◌, Option, Some, None, Result, IfErr, IfSome, OnOk, drop, length, take}
use Rattle.line_model.specs.channels.Gaps.{GapChannel}
use Rattle.line_model.specs.basics.Device.{with_more}
use Rattle.line_model.specs.basics.Records.{Report}
use Rattle.line_model.specs.declared.fault.Kind.{Kind}
use Rattle.line_model.specs.declared.fault.Fault.{Fault}
use Rattle.line_model.specs.declared.fault.Fault.TheVariants.{Memory, Trace, Write}
use Rattle.line_model.specs.declared.interface.Interface.{Interface}
use Rattle.line_model.specs.text.Text.{early}
use Rattle.trace_text.specs.Progress.{bytes_fed}
use Rattle.report_merge.specs.Parts.{findings_text, rest_text}
use Rattle.channel_run.specs.declared.run.Channel.{Ghosts as Machine}
use Rattle.live_report.specs.declared.follow.Follower.{Follower}
use Rattle.live_report.specs.Found.{found, found_text}
use Rattle.live_report.specs.Lives.{Represents as IsLive}
use Rattle.live_report.specs.Reports.{IsReportFault}

-- it was fed this text, refused none of it, and wrote all of its findings
pub record Represents {A C : Type 0} (interface_of : C → Interface) (number_of : C → ℕ) (represents : C → GapChannel → Type 0) (f : Follower A C) (text : List ℕ) : Type 0 where
  pub live : IsLive interface_of number_of represents f.live text
  pub running : f.refused ≡ None
  pub findings_written : f.findings_written ≡ length (found text)
  pub few : f.findings_written ≤ bytes_fed f.live.lines

-- it was fed some text, or it refused
pub record IsFed {A C : Type 0} (interface_of : C → Interface) (number_of : C → ℕ) (represents : C → GapChannel → Type 0) (f : Follower A C) : Type 0 where
  pub fed : f.refused ≡ None → (text : List ℕ) × Represents interface_of number_of represents f text
  pub kinds : IfSome f.refused IsReportFault

-- a sink that had `before` has the lines of what the text found so far
abbrev pub HasFindings : (before taken : Option (List ℕ)) (text : List ℕ) → Type 0
HasFindings before taken text = taken ≡ with_more before (found_text text)

-- it has a first part of some bytes
abbrev pub HasFirst : (before taken : Option (List ℕ)) (bytes : List ℕ) → Type 0
HasFirst before taken bytes = (n : ℕ) × (taken ≡ with_more before (take n bytes))

-- the lines of a report after its first findings
abbrev pub text_after : (findings : ℕ) → Report → List ℕ
text_after n report = findings_text (drop n report.findings) ++ rest_text report

-- it has all of those lines where the text was refused by a faulty line
abbrev pub HasFindingsAtLine : (before taken : Option (List ℕ)) (text : List ℕ) → Fault → Type 0
HasFindingsAtLine before taken text (Trace line kind) = HasFindings before taken text
HasFindingsAtLine before taken text _ = Unit {0}

-- why a trace text is refused while it grows: memory ran out, a line is faulty whatever follows, or the sink failed and no line is faulty
abbrev pub IsRefusalOf : Option (ℕ × Kind) → Fault → Type 0
IsRefusalOf at Memory = Unit {0}
IsRefusalOf at (Trace line kind) = at ≡ Some (line, kind)
IsRefusalOf at Write = at ≡ None
IsRefusalOf at _ = ⊥

-- by the members of a machine of one channel: it was fed this text, refused none of it, and wrote all of its findings
abbrev pub HasFollowed : {A C : Type 0} → Machine C A → List ℕ → Follower A C → Type 0
HasFollowed m text f = Represents m.interface_of m.number_of m.represents f text

-- of any text that it has followed
abbrev pub OfFollowed : {A C : Type 0} → Machine C A → Follower A C → (List ℕ → Type 0) → Type 0
OfFollowed m f Fact = (text : List ℕ) → HasFollowed m text f → Fact text

-- of any text that it has followed, and a sink that received its findings after what it had
abbrev pub OfWritten : {A C : Type 0} → Machine C A → Follower A C → (taken : Option (List ℕ)) → (List ℕ → Option (List ℕ) → Type 0) → Type 0
OfWritten m f taken Fact = (text : List ℕ) (before : Option (List ℕ)) → HasFollowed m text f → HasFindings before taken text → Fact text before

-- of any text that it has followed: it has followed that text with the chunk
abbrev pub FollowsOn : {A C T E : Type 0} → Machine C A → (before : Follower A C) → (chunk : List ℕ) → (after : Follower A C) → Result T E → Type 0
FollowsOn m before chunk after result = OfFollowed m before (λ text. OnOk result (HasFollowed m (text ++ chunk) after))

-- of any text that it has followed: why it refuses that text with the chunk
abbrev pub RefusesOn : {A C T : Type 0} → Machine C A → Follower A C → (chunk : List ℕ) → Result T Fault → Type 0
RefusesOn m f chunk result = OfFollowed m f (λ text. IfErr result (IsRefusalOf (early (text ++ chunk))))
