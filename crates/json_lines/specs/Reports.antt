-- The lines of a report by their words, and what a report in memory holds.
use Rattle.std.specs.Prelude.{◌≡◌, ℕ, ◌<◌, ◌≤◌, ◌^◌, List, [], ◌∷◌, ◌++◌, Option, None, Some, IfSome, codes, decimal, flat_map, length, map}
use Rattle.std.specs.List.{AllByRecursion, enumerate_from}
use Rattle.line_model.specs.basics.Records.{CallRecord, Report}
use Rattle.line_model.specs.declared.call.Account.{Account}
use Rattle.line_model.specs.declared.call.SettingRecord.{SettingRecord}
use Rattle.line_model.specs.declared.event.Entry.{Entry}
use Rattle.line_model.specs.declared.event.Entry.TheVariants.{Unknown, Asked, Said, Refused}
use Rattle.line_model.specs.declared.finding.Code.{Code}
use Rattle.line_model.specs.declared.finding.Code.TheVariants.{Number, Pad}
use Rattle.line_model.specs.declared.finding.Finding.{Finding}
use Rattle.line_model.specs.declared.report.Peak.{Peak}
use Rattle.line_model.specs.declared.totals.Summary.{Summary}
use Rattle.line_model.specs.observer.Report.{address_word, code_word, direction_word, entry_words, how_word, number_word, side_word, state_word}
use Rattle.json_lines.specs.Forms.{form_of}
use Rattle.json_lines.specs.Json.{first_word}

-- ---- the words of its lines

abbrev pub finding_words : Finding → List (List ℕ)
finding_words f = codes "F" ∷ decimal f.packet ∷ side_word f.side ∷ state_word f.state ∷ code_word f.code ∷ []

-- those of a call, with its place
abbrev pub call_words : ℕ × CallRecord → List (List ℕ)
call_words p =
    codes "C" ∷ decimal p.0 ∷ decimal p.1.epoch ∷ decimal p.1.channel ∷ direction_word p.1.out
    ∷ address_word p.1.called ∷ address_word p.1.calling
    ∷ decimal p.1.opened ∷ number_word p.1.up ∷ number_word p.1.ended ∷ how_word p.1.how
    ∷ decimal p.1.data_t ∷ decimal p.1.oct_t ∷ decimal p.1.data_n ∷ decimal p.1.oct_n ∷ decimal p.1.segments ∷ []

-- those of a setting, with the place of its call
abbrev pub setting_words : ℕ → SettingRecord → List (List ℕ)
setting_words n s = (codes "S" ∷ decimal n ∷ side_word s.pad ∷ decimal s.parameter ∷ []) ++ entry_words s.entry

abbrev pub all_setting_words : ℕ × CallRecord → List (List (List ℕ))
all_setting_words p = map (setting_words p.0) p.1.settings

abbrev pub account_words : Account → List (List ℕ)
account_words a = codes "A" ∷ address_word a.address ∷ decimal a.calls ∷ decimal a.segments ∷ []

abbrev pub peak_words : Peak → List (List ℕ)
peak_words p = codes "P" ∷ decimal p.count ∷ number_word p.packet ∷ []

-- those of the line of the gaps, where they are rows
abbrev pub gap_words : Option ℕ → List (List (List ℕ))
gap_words (Some n) = (codes "G" ∷ decimal n ∷ []) ∷ []
gap_words None = []

abbrev pub summary_words : Summary → List (List ℕ)
summary_words s = codes "Z" ∷ decimal s.packets ∷ decimal s.findings ∷ decimal s.calls ∷ decimal s.octets ∷ decimal s.segments ∷ []

-- those of each line of a report, in order
abbrev pub report_words : Report → List (List (List ℕ))
report_words r =
    map finding_words r.findings
    ++ map call_words (enumerate_from 1 r.calls)
    ++ flat_map all_setting_words (enumerate_from 1 r.calls)
    ++ map account_words r.accounts
    ++ peak_words r.peak ∷ (gap_words r.gaps ++ summary_words r.summary ∷ [])

-- words that begin with the letter of a line of a report
abbrev pub IsKnown : List (List ℕ) → Type 0
IsKnown words = (form_of (first_word words)).fields ≡ [] → ⊥

-- ---- what a report in memory holds

-- a number of 64 bits
abbrev pub IsNumber : ℕ → Type 0
IsNumber n = n < 2 ^ 64

-- a number of 32 bits
abbrev pub IsSmall : ℕ → Type 0
IsSmall n = n < 2 ^ 32

-- a digit in ASCII
abbrev pub IsDigit : ℕ → Type 0
IsDigit d = (48 ≤ d) × (d ≤ 57)

-- an address: at most 15 digits
abbrev pub IsAddress : List ℕ → Type 0
IsAddress a = AllByRecursion IsDigit a × (length a ≤ 15)

abbrev pub IsCode : Code → Type 0
IsCode (Number n) = IsNumber n
IsCode (Pad x) = Unit {0}

abbrev pub IsEntry : Entry → Type 0
IsEntry Unknown = Unit {0}
IsEntry (Asked v) = IsNumber v
IsEntry (Said v) = IsNumber v
IsEntry (Refused v) = IsNumber v

pub record IsFinding (f : Finding) : Type 0 where
  pub packet : IsNumber f.packet
  pub code : IsCode f.code

pub record IsSetting (s : SettingRecord) : Type 0 where
  pub parameter : IsNumber s.parameter
  pub entry : IsEntry s.entry

-- a call with its place
pub record IsCall (p : ℕ × CallRecord) : Type 0 where
  pub place : IsNumber p.0
  pub epoch : IsSmall p.1.epoch
  pub channel : IsSmall p.1.channel
  pub called : IsAddress p.1.called
  pub calling : IsAddress p.1.calling
  pub opened : IsSmall p.1.opened
  pub up : IfSome p.1.up IsSmall
  pub ended : IfSome p.1.ended IsSmall
  pub data_t : IsNumber p.1.data_t
  pub oct_t : IsNumber p.1.oct_t
  pub data_n : IsNumber p.1.data_n
  pub oct_n : IsNumber p.1.oct_n
  pub segments : IsNumber p.1.segments
  pub settings : AllByRecursion IsSetting p.1.settings

pub record IsAccount (a : Account) : Type 0 where
  pub address : IsAddress a.address
  pub calls : IsNumber a.calls
  pub segments : IsNumber a.segments

pub record IsPeak (p : Peak) : Type 0 where
  pub count : IsNumber p.count
  pub packet : IfSome p.packet IsSmall

pub record IsSummary (s : Summary) : Type 0 where
  pub packets : IsNumber s.packets
  pub findings : IsNumber s.findings
  pub calls : IsNumber s.calls
  pub octets : IsNumber s.octets
  pub segments : IsNumber s.segments

-- the numbers of a report have at most the bits that they have in memory, and its addresses are addresses
pub record IsHeld (r : Report) : Type 0 where
  pub findings : AllByRecursion IsFinding r.findings
  pub calls : AllByRecursion IsCall (enumerate_from 1 r.calls)
  pub accounts : AllByRecursion IsAccount r.accounts
  pub peak : IsPeak r.peak
  pub gaps : IfSome r.gaps IsNumber
  pub summary : IsSummary r.summary
