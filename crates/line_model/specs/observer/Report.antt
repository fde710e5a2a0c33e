-- The report of a walk and its text (profile).
use Rattle.std.specs.Prelude.{ℕ, ◌-◌, Bool, true, false, List, [], ◌∷◌, ◌++◌, filter, filter_map, flat_map, length, sum, Option, Some, None, is_some, codes, decimal}
use Rattle.std.specs.List.{enumerate_from}
use Rattle.line_model.specs.declared.interface.Interface.{Interface}
use Rattle.line_model.specs.declared.state.Side.{Side}
use Rattle.line_model.specs.declared.state.Side.TheVariants.{T, N}
use Rattle.line_model.specs.declared.state.StateName.{StateName}
use Rattle.line_model.specs.declared.state.StateName.TheVariants.{Dash, R1, R2, R3, P1, P2, P3, P4, P5, P6, P7, D1, D2, D3}
use Rattle.line_model.specs.declared.finding.Xcode.{Xcode}
use Rattle.line_model.specs.declared.finding.Xcode.TheVariants.{X1, X2, X3, X4, XL}
use Rattle.line_model.specs.declared.finding.Code.{Code}
use Rattle.line_model.specs.declared.finding.Code.TheVariants.{Number, Pad}
use Rattle.line_model.specs.declared.event.How.{How}
use Rattle.line_model.specs.declared.event.How as how
use Rattle.line_model.specs.declared.event.Entry.{Entry}
use Rattle.line_model.specs.declared.event.Entry.TheVariants.{Unknown, Asked, Said, Refused}
use Rattle.line_model.specs.declared.event.What.{What}
use Rattle.line_model.specs.declared.event.What.TheVariants.{Found}
use Rattle.line_model.specs.declared.event.Event.{Event}
use Rattle.line_model.specs.declared.finding.Finding.{Finding}
use Rattle.line_model.specs.basics.Records.{CallRecord, Report}
use Rattle.line_model.specs.declared.report.Peak.{Peak}
use Rattle.line_model.specs.declared.call.SettingRecord.{SettingRecord}
use Rattle.line_model.specs.declared.call.Account.{Account}
use Rattle.line_model.specs.declared.totals.Summary.{Summary}
use Rattle.line_model.specs.basics.Records.{Item}
use Rattle.line_model.specs.packets.Says.{gap_of}
use Rattle.line_model.specs.observer.Observer.{events, peak}
use Rattle.line_model.specs.observer.Calls.{calls_of, all_lengths, segments_of}
use Rattle.line_model.specs.observer.Accounts.{accounts_of}

-- whether an event is a finding
abbrev pub is_finding : What → Bool
is_finding (Found x s c) = true
is_finding _ = false

-- the findings among events
abbrev pub findings_of : List Event → List Finding
findings_of es = filter_map (λ e. elim e.what [
  | Found x s c ↦ Some (record { packet = e.packet; side = x; state = s; code = c })
  | _ ↦ None
]) es

-- the sums of a list of events
abbrev pub summary_of : (packets : ℕ) → List Event → Summary
summary_of n es = record {
  packets = n;
  findings = length (findings_of es);
  calls = length (calls_of es);
  octets = sum (all_lengths es);
  segments = segments_of (all_lengths es);
}

-- the summary without events
abbrev pub no_summary : Summary
no_summary = record { packets = 0; findings = 0; calls = 0; octets = 0; segments = 0 }

-- how many gaps there are
abbrev pub gaps_of : List Item → ℕ
gaps_of rs = length (filter (λ r. is_some (gap_of r.packet)) rs)

-- the same, where gaps are rows
abbrev pub gaps_among : (has_gaps : Bool) → List Item → Option ℕ
gaps_among true rs = Some (gaps_of rs)
gaps_among false rs = None

-- the report of the walk over a trace: the sums count packets, and a gap is not a packet
abbrev pub report_of : Interface → List Item → Report
report_of i rs =
    let es : List Event = events i rs in
    record {
      findings = findings_of es;
      calls = calls_of es;
      accounts = accounts_of (calls_of es);
      peak = record { count = (peak i rs).0; packet = (peak i rs).1 };
      gaps = gaps_among i.gaps rs;
      summary = summary_of (length rs - gaps_of rs) es;
    }

-- words with single spaces between them, and a line feed
abbrev pub line : List (List ℕ) → List ℕ
line [] = 10 ∷ []
line (w ∷ []) = w ++ 10 ∷ []
line (w ∷ ws) = w ++ 32 ∷ line ws

-- the words of a report
abbrev pub dash : List ℕ
dash = codes "-"

-- a number, or a dash where it is absent
abbrev pub number_word : Option ℕ → List ℕ
number_word None = dash
number_word (Some n) = decimal n

-- an address, or a dash where it is absent
abbrev pub address_word : List ℕ → List ℕ
address_word [] = dash
address_word a = a

-- the letter of a side
abbrev pub side_word : Side → List ℕ
side_word T = codes "T"
side_word N = codes "N"

-- the name of a state
abbrev pub state_word : StateName → List ℕ
state_word Dash = dash
state_word R1 = codes "r1"
state_word R2 = codes "r2"
state_word R3 = codes "r3"
state_word P1 = codes "p1"
state_word P2 = codes "p2"
state_word P3 = codes "p3"
state_word P4 = codes "p4"
state_word P5 = codes "p5"
state_word P6 = codes "p6"
state_word P7 = codes "p7"
state_word D1 = codes "d1"
state_word D2 = codes "d2"
state_word D3 = codes "d3"

-- the name of a PAD code
abbrev pub pad_word : Xcode → List ℕ
pad_word X1 = codes "X1"
pad_word X2 = codes "X2"
pad_word X3 = codes "X3"
pad_word X4 = codes "X4"
pad_word XL = codes "XL"

-- a code, as a number or by its name
abbrev pub code_word : Code → List ℕ
code_word (Number n) = decimal n
code_word (Pad x) = pad_word x

-- how a call ended
abbrev pub how_word : Option How → List ℕ
how_word None = codes "open"
how_word (Some how.TheVariants.T) = codes "T"
how_word (Some how.TheVariants.N) = codes "N"
how_word (Some how.TheVariants.Collision) = codes "collision"
how_word (Some how.TheVariants.Restart) = codes "restart"
how_word (Some how.TheVariants.Gap) = codes "gap"

-- the direction of a call
abbrev pub direction_word : (out : Bool) → List ℕ
direction_word true = codes "out"
direction_word false = codes "in"

-- the word and the value of an entry
abbrev pub entry_words : Entry → List (List ℕ)
entry_words Unknown = []
entry_words (Asked v) = codes "asked" ∷ decimal v ∷ []
entry_words (Said v) = codes "said" ∷ decimal v ∷ []
entry_words (Refused v) = codes "refused" ∷ decimal v ∷ []

-- the lines of a report
abbrev pub finding_line : Finding → List ℕ
finding_line f = line (codes "F" ∷ decimal f.packet ∷ side_word f.side ∷ state_word f.state ∷ code_word f.code ∷ [])

-- the line of a call, with its place
abbrev pub call_line : ℕ × CallRecord → List ℕ
call_line p =
    let c : CallRecord = p.1 in
    line (codes "C" ∷ decimal p.0 ∷ decimal c.epoch ∷ decimal c.channel ∷ direction_word c.out
    ∷ address_word c.called ∷ address_word c.calling
    ∷ decimal c.opened ∷ number_word c.up ∷ number_word c.ended ∷ how_word c.how
    ∷ decimal c.data_t ∷ decimal c.oct_t ∷ decimal c.data_n ∷ decimal c.oct_n ∷ decimal c.segments ∷ [])

-- the line of a setting, with the place of its call
abbrev pub setting_line : ℕ → SettingRecord → List ℕ
setting_line n s = line ((codes "S" ∷ decimal n ∷ side_word s.pad ∷ decimal s.parameter ∷ []) ++ entry_words s.entry)

-- the lines of the settings of a call
abbrev pub setting_lines : ℕ × CallRecord → List ℕ
setting_lines p = flat_map (setting_line p.0) p.1.settings

-- the line of an account
abbrev pub account_line : Account → List ℕ
account_line a = line (codes "A" ∷ address_word a.address ∷ decimal a.calls ∷ decimal a.segments ∷ [])

-- the line of the peak
abbrev pub peak_line : Peak → List ℕ
peak_line p = line (codes "P" ∷ decimal p.count ∷ number_word p.packet ∷ [])

-- the line of the sums
abbrev pub summary_line : Summary → List ℕ
summary_line s =
    line (codes "Z" ∷ decimal s.packets ∷ decimal s.findings ∷ decimal s.calls ∷ decimal s.octets ∷ decimal s.segments ∷ [])

-- the line of the gaps, where they are rows
abbrev pub gap_lines : Option ℕ → List ℕ
gap_lines (Some n) = line (codes "G" ∷ decimal n ∷ [])
gap_lines None = []

-- the text of a report; calls count from 1
abbrev pub text_of : Report → List ℕ
text_of r =
    flat_map finding_line r.findings
    ++ flat_map call_line (enumerate_from 1 r.calls)
    ++ flat_map setting_lines (enumerate_from 1 r.calls)
    ++ flat_map account_line r.accounts
    ++ peak_line r.peak
    ++ gap_lines r.gaps
    ++ summary_line r.summary

-- the text of the report of a trace
abbrev pub report : Interface → List Item → List ℕ
report i rs = text_of (report_of i rs)
