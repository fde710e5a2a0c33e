-- What a scan that follows a trace returns, and what its sink accepted.
use Rattle.std.specs.Prelude.{◌≡◌, ◌⊎◌, ℕ, ◌<◌, ◌≤◌, ◌^◌, List, [], ◌++◌, Option, Some, None}
use Rattle.line_model.specs.text.Text.{early, fault}
use Rattle.trace_text.specs.Decided.{NoneDecidedButLast}
use Rattle.line_model.specs.traces.Traces.{trace_report}
use Rattle.line_model.specs.declared.fault.Fault.{Fault}
use Rattle.line_model.specs.declared.fault.Fault.TheVariants.{Memory, Trace, Read, Write}
use Rattle.channel_run.specs.declared.run.Channel.{Ghosts as Machine}
use Rattle.live_report.specs.declared.follow.Follower.{Follower}
use Rattle.live_report.specs.Follows.{HasFindings, HasFindingsAtLine, HasFirst, HasFollowed, IsRefusalOf}
use Rattle.live_report.specs.Found.{found_text}
use Rattle.live_report.specs.Reports.{IsReportFault}

-- what a refusal says of the bytes that were read: the first faulty line is returned once they show it, otherwise at the end of the text, and
-- all but at most the last 65,536 show none; where memory ran out so too; a device failed while they showed none
abbrev pub IsFollowRefusal : (given rest : List ℕ) → Fault → Type 0
IsFollowRefusal given rest Memory = NoneDecidedButLast (2 ^ 16) given
IsFollowRefusal given rest (Trace line kind) = NoneDecidedButLast (2 ^ 16) given × ((early given ≡ Some (line, kind)) ⊎ ((rest ≡ []) × (fault given ≡ Some (line, kind))))
IsFollowRefusal given rest Read = early given ≡ None
IsFollowRefusal given rest Write = early given ≡ None
IsFollowRefusal given rest _ = ⊥

-- what the sink accepted at a refusal: a first part of the lines of what was found in the bytes that were read, or of the report where they
-- are a whole text; at a faulty line all those lines, if it did not fail; where the source failed all of them
abbrev pub IsWrittenOf : (before taken : Option (List ℕ)) (well : Type 0) (given rest : List ℕ) → Fault → Type 0
IsWrittenOf before taken well given rest (Trace line kind) = HasFirst before taken (found_text given) × (well → HasFindings before taken given)
IsWrittenOf before taken well given rest Read = HasFindings before taken given
IsWrittenOf before taken well given rest Write = HasFirst before taken (found_text given) ⊎ ((rest ≡ []) × (fault given ≡ None) × HasFirst before taken (trace_report given))
IsWrittenOf before taken well given rest _ = HasFirst before taken (found_text given)

-- a follower was fed this text, and the sink has the lines of what was found; it failed `old` times before, and `now` times by then
pub record IsFollowed {A C : Type 0} (machine : Machine C A) (before taken : Option (List ℕ)) (old now : ℕ) (text : List ℕ) (f : Follower A C) : Type 0 where
  pub represented : HasFollowed machine text f
  pub shown : HasFindings before taken text
  pub rising : old ≤ now

-- after this text was followed, the next bytes of it were refused
pub record IsRefusedAfter (before taken : Option (List ℕ)) (old now : ℕ) (text last : List ℕ) (returned : Fault) : Type 0 where
  pub refusal : IsRefusalOf (early (text ++ last)) returned
  pub first : HasFirst before taken (found_text (text ++ last))
  pub at_line : now ≡ old → HasFindingsAtLine before taken (text ++ last) returned
  pub kinds : IsReportFault returned
  pub failed : returned ≡ Write → old < now
