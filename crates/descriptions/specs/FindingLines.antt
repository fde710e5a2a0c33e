-- A line for each finding, and after the last one what they add up to (profile).
use Rattle.std.specs.Prelude.{◌≡◌, ℕ, zero, suc, ◌+◌, ◌==◌, Bool, true, false, List, [], ◌∷◌, ◌++◌, Option, None, Some, option_to_list, codes, decimal, filter, flat_map, length, if◌then◌else◌}
use Rattle.std.specs.List.{AllByRecursion}
use Rattle.line_model.specs.basics.Records.{Item, Report, Row}
use Rattle.line_model.specs.declared.finding.Finding.{Finding}
use Rattle.line_model.specs.declared.interface.Interface.{Interface}
use Rattle.line_model.specs.declared.state.Side.{Side}
use Rattle.line_model.specs.declared.state.Side.TheVariants.{T, N}
use Rattle.line_model.specs.declared.state.StateName.{StateName}
use Rattle.line_model.specs.declared.state.StateName.TheVariants.{Dash}
use Rattle.line_model.specs.observer.Report.{code_word, report_of, state_word}
use Rattle.line_model.specs.packets.Says.{item_of, items_of}
use Rattle.line_model.specs.text.Text.{Line, head_of, rows_in}
use Rattle.annotated_trace.specs.Annotation.{IsOneLine}
use Rattle.annotated_trace.specs.Rows.{is_chosen, row_written}
use Rattle.annotated_trace.specs.declared.rows.Rows.{Rows}
use Rattle.descriptions.specs.Follows.{follows_at}
use Rattle.descriptions.specs.RowCalls.{call_of}
use Rattle.descriptions.specs.RowObjects.{joined, named_channel}

-- ---- the line of a finding

-- the name of a side
abbrev pub side_name : Side → List ℕ
side_name T = codes "DTE"
side_name N = codes "DCE"

-- words about the logical channel that a packet names, if it names one
abbrev pub channel_words : Option ℕ → List ℕ
channel_words None = []
channel_words (Some k) = codes ", channel " ++ decimal k

-- about the call of a row, by its number in the report; none for 0
abbrev pub call_words : ℕ → List ℕ
call_words zero = []
call_words (suc n) = codes ", call " ++ decimal (suc n)

-- about the state in which a packet was judged, if it was in one
abbrev pub state_words : StateName → List ℕ
state_words Dash = []
state_words s = codes ", state " ++ state_word s

-- about the finding that this one may follow from, by its packet
abbrev pub follows_words : Option ℕ → List ℕ
follows_words None = []
follows_words (Some n) = codes ", may follow from packet " ++ decimal n

-- the beginning of the line of a finding: its packet, the side that broke the protocol, the logical channel, the call, the state, the code, and
-- the finding that it may follow from
abbrev pub finding_head : (channel : Option ℕ) → (call : ℕ) → (follows : Option ℕ) → Finding → List ℕ
finding_head channel call follows f =
    codes "packet " ++ (decimal f.packet ++ (codes ", " ++ (side_name f.side ++ (channel_words channel ++ (call_words call ++ (state_words f.state
    ++ (codes ", code " ++ (code_word f.code ++ follows_words follows))))))))

-- that beginning, and words on the same line; nothing where nothing was found
abbrev pub IsLineOf : (channel : Option ℕ) → (call : ℕ) → (follows : Option ℕ) → Option Finding → List ℕ → Type 0
IsLineOf channel call follows None bytes = bytes ≡ []
IsLineOf channel call follows (Some f) bytes = (words : List ℕ) × (bytes ≡ finding_head channel call follows f ++ (words ++ codes "\n")) × IsOneLine words

-- the line of what a row after others adds to the findings of the report, if it adds one
pub record IsFindingLine (i : Interface) (earlier : List Item) (r : Item) (bytes : List ℕ) : Type 0 where
  pub found : Option Finding
  pub came : (report_of i (earlier ++ r ∷ [])).findings ≡ (report_of i earlier).findings ++ option_to_list found
  pub line : IsLineOf (named_channel r.packet) (call_of i earlier r) (follows_at i earlier r found) found bytes

-- of a row that is chosen, and nothing for another
abbrev pub IsFindingWhere : (picked : Bool) → Interface → (earlier : List Item) → Item → List ℕ → Type 0
IsFindingWhere true i earlier r bytes = IsFindingLine i earlier r bytes
IsFindingWhere false i earlier r bytes = bytes ≡ []

-- of a row, if there is one
abbrev pub IsFindingOf : Rows → Option Interface → (earlier : List Row) → Option Row → List ℕ → Type 0
IsFindingOf rows (Some i) earlier (Some r) bytes = IsFindingWhere (is_chosen rows i (items_of i earlier) (item_of i r)) i (items_of i earlier) (item_of i r) bytes
IsFindingOf rows _ earlier _ bytes = bytes ≡ []

-- what a line after others becomes: the line of the finding of its row, where it writes one of these rows
abbrev pub IsLineFinding : Rows → (before : List Line) → Line → List ℕ → Type 0
IsLineFinding rows before l bytes = IsFindingOf rows (head_of before) (rows_in before) (row_written before l) bytes

-- ---- what the findings add up to

abbrev pub is_side : Side → Side → Bool
is_side T T = true
is_side N N = true
is_side _ _ = false

-- how many findings are of a side
abbrev pub count_of : Side → List Finding → ℕ
count_of side fs = length (filter (λ f. is_side side f.side) fs)

-- a number with the name of what it counts, which is plural except after 1
abbrev pub counted : ℕ → (one : List ℕ) → List ℕ
counted n one = if n == 1 then codes "1 " ++ one else decimal n ++ (codes " " ++ (one ++ codes "s"))

-- the findings of both sides
abbrev pub found_words : (all : ℕ) → List ℕ
found_words all = if all == 0 then codes "no findings" else counted all (codes "finding")

abbrev pub sides_words : (all of_dte of_dce : ℕ) → List ℕ
sides_words all of_dte of_dce = if all == 0 then [] else joined (codes ": " ∷ decimal of_dte ∷ codes " by the DTE, " ∷ decimal of_dce ∷ codes " by the DCE" ∷ [])

-- the line of the sums: how many findings the report has, in how many packets and calls, and how many are of each side
abbrev pub sums_line : Report → List ℕ
sums_line report =
    joined (found_words (length report.findings) ∷ codes " in " ∷ counted report.summary.packets (codes "packet") ∷ codes " and " ∷ counted report.summary.calls (codes "call")
    ∷ sides_words (length report.findings) (count_of T report.findings) (count_of N report.findings) ∷ codes "\n" ∷ [])

-- a line after it: two spaces, and words
abbrev pub detail : (words : List ℕ) → List ℕ
detail words = codes "  " ++ (words ++ codes "\n")

-- any number of them
abbrev pub AreDetails : List ℕ → Type 0
AreDetails bytes = (all : List (List ℕ)) × (bytes ≡ flat_map detail all) × AllByRecursion IsOneLine all

-- what comes after the last row: the sums, and details, each on a line that begins with two spaces
pub record IsFindingSums (report : Report) (bytes : List ℕ) : Type 0 where
  pub details : List ℕ
  pub are : AreDetails details
  pub written : bytes ≡ sums_line report ++ details
