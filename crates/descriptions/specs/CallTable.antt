-- The table of calls: CSV with a heading (RFC 4180), or an object for each call (profile).
use Rattle.std.specs.Prelude.{◌≡◌, ℕ, ◌-◌, ◌+◌, ◌==◌, ◌≤◌, ◌||◌, Bool, true, false, List, [], ◌∷◌, ◌++◌, drop, flat_map, Option, Some, None, codes, decimal, length, min, if◌then◌else◌}
use Rattle.std.specs.Borrow.{Bor}
use Rattle.std.specs.List.{enumerate_from}
use Rattle.std.specs.Option.{option_map}
use Rattle.line_model.specs.basics.Records.{CallRecord, Row}
use Rattle.line_model.specs.declared.interface.Interface.{Interface}
use Rattle.line_model.specs.declared.state.Side.{Side}
use Rattle.line_model.specs.declared.state.Side.TheVariants.{T, N}
use Rattle.line_model.specs.observer.Report.{direction_word, how_word}
use Rattle.line_model.specs.packets.Says.{items_of}
use Rattle.line_model.specs.text.Text.{Line, head_of, rows_in}
use Rattle.descriptions.specs.CallSums.{findings_in, segments_in}
use Rattle.descriptions.specs.Circuits.{host_where, named_host}
use Rattle.descriptions.specs.Members.{is_plain}
use Rattle.descriptions.specs.RowObjects.{joined}
use Rattle.descriptions.specs.declared.value.Value.{Value}
use Rattle.descriptions.specs.declared.value.Value.TheVariants as value
use Rattle.descriptions.specs.declared.call_columns.Column.{Column}
use Rattle.descriptions.specs.declared.call_columns.Further.{Further}
use Rattle.descriptions.specs.declared.call_columns.Named.{Named}
use Rattle.descriptions.specs.declared.call_columns.TableForm.{TableForm}
use Rattle.descriptions.specs.declared.call_columns.TableForm.TheVariants.{Csv, Objects}
use Rattle.descriptions.specs.declared.times.Time.{Time}

-- ---- cells

-- nothing is known
abbrev pub absent : TableForm → List ℕ
absent Csv = []
absent Objects = codes "null"

-- a character between quotes: a quote is written twice in CSV, and a quote or a backslash after a backslash in JSON; a space is in place of an LF, in JSON of each control character
abbrev pub character : TableForm → ℕ → List ℕ
character Csv c = if c == 34 then 34 ∷ 34 ∷ [] else (if c == 10 then 32 ∷ [] else c ∷ [])
character Objects c = if is_plain c then c ∷ [] else (if c == 34 || c == 92 then 92 ∷ c ∷ [] else 32 ∷ [])

-- a text between quotes
abbrev pub quoted : TableForm → List ℕ → List ℕ
quoted form text = 34 ∷ (flat_map (character form) text ++ 34 ∷ [])

-- a word of letters or digits, which CSV needs no quotes for
abbrev pub word_text : TableForm → List ℕ → List ℕ
word_text Csv w = w
word_text Objects w = quoted Objects w

-- a digit before others; a zero before none is left out
abbrev pub with_digit : ℕ → List ℕ → List ℕ
with_digit d [] = if d == 48 then [] else d ∷ []
with_digit d (e ∷ ds) = d ∷ e ∷ ds

-- digits without the zeros at their end
abbrev pub trimmed : List ℕ → List ℕ
trimmed [] = []
trimmed (d ∷ ds) = with_digit d (trimmed ds)

-- the nine digits of a number below 1,000,000,000
abbrev pub nine_digits : ℕ → List ℕ
nine_digits n = drop 1 (decimal (1000000000 + n))

-- a point before digits, if there are any
abbrev pub point_before : (none : Bool) → List ℕ
point_before true = []
point_before false = 46 ∷ []

abbrev pub with_point : List ℕ → List ℕ
with_point ds = point_before (length ds == 0) ++ ds

-- the part of a second after its point, if there is one
abbrev pub point_part : ℕ → List ℕ
point_part n = with_point (trimmed (nine_digits n))

-- a time in seconds
abbrev pub seconds_text : Time → List ℕ
seconds_text t = decimal t.seconds ++ point_part t.billionths

-- ---- columns

-- a column of a call, after others
abbrev pub column : TableForm → (name : List ℕ) → (text : List ℕ) → List ℕ
column Csv name text = 44 ∷ text
column Objects name text = joined (codes ",\"" ∷ name ∷ codes "\":" ∷ text ∷ [])

-- cells that may be absent
abbrev pub maybe_number : TableForm → Option ℕ → List ℕ
maybe_number form None = absent form
maybe_number form (Some n) = decimal n

abbrev pub maybe_seconds : TableForm → Option Time → List ℕ
maybe_seconds form None = absent form
maybe_seconds form (Some t) = seconds_text t

abbrev pub maybe_word : TableForm → Option (Bor (List ℕ)) → List ℕ
maybe_word form None = absent form
maybe_word form (Some w) = word_text form w.now

abbrev pub address_text : TableForm → List ℕ → List ℕ
address_text form [] = absent form
address_text form (d ∷ ds) = word_text form (d ∷ ds)

abbrev pub value_of : TableForm → Option Named → List ℕ
value_of form None = absent form
value_of form (Some n) = decimal n.value

abbrev pub name_of : TableForm → Option Named → List ℕ
name_of form None = absent form
name_of form (Some n) = quoted form n.name.now

-- who pays: the called DTE where charging is reversed (X.25 6.18)
abbrev pub payer_word : (reverse : Bool) → List ℕ
payer_word true = codes "called"
payer_word false = codes "calling"

abbrev pub payer : CallRecord → List ℕ
payer c = if c.reverse then c.called else c.calling

-- where a call is, and between whom
abbrev pub place_columns : TableForm → CallRecord → List ℕ
place_columns form c = joined (
    column form (codes "channel") (decimal c.channel)
    ∷ column form (codes "direction") (word_text form (direction_word c.out))
    ∷ column form (codes "called") (address_text form c.called)
    ∷ column form (codes "calling") (address_text form c.calling) ∷ [])

-- from when to when it was open, and how it ended
abbrev pub span_columns : TableForm → CallRecord → Further → List ℕ
span_columns form c further = joined (
    column form (codes "opened") (decimal c.opened)
    ∷ column form (codes "ended") (maybe_number form c.ended)
    ∷ column form (codes "start") (maybe_seconds form further.start)
    ∷ column form (codes "seconds") (maybe_seconds form further.seconds)
    ∷ column form (codes "how") (word_text form (how_word c.how)) ∷ [])

-- what the packet that cleared it says
abbrev pub cause_columns : TableForm → Further → List ℕ
cause_columns form further = joined (
    column form (codes "cause") (value_of form further.cause)
    ∷ column form (codes "cause_name") (name_of form further.cause)
    ∷ column form (codes "diagnostic") (value_of form further.diagnostic)
    ∷ column form (codes "diagnostic_name") (name_of form further.diagnostic) ∷ [])

-- what each side sent: the segments of both are those of the call
abbrev pub data_columns : TableForm → CallRecord → Further → List ℕ
data_columns form c further = joined (
    column form (codes "data_t") (decimal c.data_t)
    ∷ column form (codes "octets_t") (decimal c.oct_t)
    ∷ column form (codes "segments_t") (decimal further.segments_t)
    ∷ column form (codes "data_n") (decimal c.data_n)
    ∷ column form (codes "octets_n") (decimal c.oct_n)
    ∷ column form (codes "segments_n") (decimal (c.segments - further.segments_t)) ∷ [])

-- who pays, what was found, and where it was recorded
abbrev pub last_columns : TableForm → CallRecord → Further → List ℕ
last_columns form c further = joined (
    column form (codes "pays") (word_text form (payer_word c.reverse))
    ∷ column form (codes "payer") (address_text form (payer c))
    ∷ column form (codes "findings") (decimal further.findings)
    ∷ column form (codes "gaps") (maybe_number form further.gaps)
    ∷ column form (codes "opened_frame") (maybe_number form further.opened_frame)
    ∷ column form (codes "ended_frame") (maybe_number form further.ended_frame) ∷ [])

-- the circuit of XOT that carried it, and its hosts
abbrev pub circuit_columns : TableForm → Further → List ℕ
circuit_columns form further = joined (
    column form (codes "circuit") (maybe_number form further.circuit)
    ∷ column form (codes "dte_host") (maybe_word form further.dte_host)
    ∷ column form (codes "dce_host") (maybe_word form further.dce_host) ∷ [])

-- ---- the table

abbrev pub heading : TableForm → List ℕ
heading Csv = codes "call,channel,direction,called,calling,opened,ended,start,seconds,how,cause,cause_name,diagnostic,diagnostic_name,data_t,octets_t,segments_t,data_n,octets_n,segments_n,pays,payer,findings,gaps,opened_frame,ended_frame,circuit,dte_host,dce_host\n"
heading Objects = []

-- what comes before a call's number, and after its last column
abbrev pub before_call : TableForm → List ℕ
before_call Csv = []
before_call Objects = codes "{\"line\":\"call_entry\",\"call\":"

abbrev pub after_call : TableForm → List ℕ
after_call Csv = codes "\n"
after_call Objects = codes "}\n"

-- the entry of a call, with its number
abbrev pub entry : TableForm → ℕ × CallRecord → Further → List ℕ
entry form p further = joined (
    before_call form ∷ decimal p.0 ∷ place_columns form p.1 ∷ span_columns form p.1 further ∷ cause_columns form further ∷ data_columns form p.1 further ∷ last_columns form p.1 further ∷ circuit_columns form further ∷ after_call form ∷ [])

-- the address of the host of a side of a circuit, where it is known
abbrev pub Hosting : Type 0
Hosting = (circuit : ℕ) → Side → Option (List ℕ)

-- what an entry says of a host
abbrev pub host_said : Option (Bor (List ℕ)) → Option (List ℕ)
host_said host = option_map (λ h. h.now) host

-- bytes are the entry of a call with these findings, and with these segments from the DTE, which are among the call's; its hosts are those of its
-- circuit
pub record IsEntry (form : TableForm) (findings segments : (call : ℕ) → ℕ) (hosts : Hosting) (p : ℕ × CallRecord) (bytes : List ℕ) : Type 0 where
  pub further : Further
  pub found : further.findings ≡ findings p.0
  pub sent : further.segments_t ≡ min (segments p.0) p.1.segments
  pub sides : further.segments_t ≤ p.1.segments
  pub dte : host_said further.dte_host ≡ host_where hosts further.circuit T
  pub dce : host_said further.dce_host ≡ host_where hosts further.circuit N
  pub written : bytes ≡ entry form p further

-- they are those of some calls, one after the other
abbrev pub AreEntries : TableForm → (findings segments : (call : ℕ) → ℕ) → Hosting → List (ℕ × CallRecord) → List ℕ → Type 0
AreEntries form findings segments hosts [] bytes = bytes ≡ []
AreEntries form findings segments hosts (p ∷ ps) bytes = (own : List ℕ) × (rest : List ℕ) × (bytes ≡ own ++ rest) × IsEntry form findings segments hosts p own × AreEntries form findings segments hosts ps rest

-- the table of some calls, which are numbered from 1: its heading, and exactly their entries in their order
pub record IsCallTable (form : TableForm) (findings segments : (call : ℕ) → ℕ) (hosts : Hosting) (calls : List CallRecord) (bytes : List ℕ) : Type 0 where
  pub entries : List ℕ
  pub each : AreEntries form findings segments hosts (enumerate_from 1 calls) entries
  pub written : bytes ≡ heading form ++ entries

-- the same with what the rows of each call add up to
abbrev pub IsTableOfRows : TableForm → Option Interface → List Row → Hosting → List CallRecord → List ℕ → Type 0
IsTableOfRows form None rows hosts calls bytes = ⊥
IsTableOfRows form (Some i) rows hosts calls bytes = IsCallTable form (findings_in i (items_of i rows)) (segments_in i (items_of i rows)) hosts calls bytes

-- the table of the calls of some lines, with the hosts of the circuits that they name
abbrev pub IsTableOf : TableForm → List Line → List CallRecord → List ℕ → Type 0
IsTableOf form ls calls bytes = IsTableOfRows form (head_of ls) (rows_in ls) (named_host ls) calls bytes

-- ---- what the code has of a column

abbrev pub cell_text : TableForm → Value → List ℕ
cell_text form value.Null = absent form
cell_text form (value.Number n) = decimal n
cell_text form (value.Seconds t) = seconds_text t
cell_text form (value.Word w) = word_text form w.now
cell_text form (value.Text t) = quoted form t.now

abbrev pub column_text : TableForm → Column → List ℕ
column_text form c = column form c.name.now (cell_text form c.cell)

-- exactly the entries of some calls were put
abbrev pub HasPutEntries : TableForm → (findings segments : (call : ℕ) → ℕ) → Hosting → List CallRecord → (was_put : List ℕ → Type 0) → Type 0
HasPutEntries form findings segments hosts calls was_put = (entries : List ℕ) × AreEntries form findings segments hosts (enumerate_from 1 calls) entries × was_put entries
