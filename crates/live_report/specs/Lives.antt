-- A trace that is fed in chunks: what was read of it, and the observer of its rows.
use Rattle.std.specs.Prelude.{◌≡◌, ℕ, true, List, [], ◌∷◌, ◌++◌, Option, Some, None, Result, IfErr, IfSome, OnOk}
use Rattle.line_model.specs.channels.Gaps.{GapChannel}
use Rattle.line_model.specs.declared.fault.Fault.{Fault}
use Rattle.line_model.specs.text.Text.{early, early_rows}
use Rattle.line_model.specs.declared.interface.Interface.{Interface}
use Rattle.trace_text.specs.Progress.{Progress}
use Rattle.trace_text.specs.Represents.{Represents as IsReaderOf, IsFaultOf, IsTextFault}
use Rattle.channel_run.specs.declared.run.Channel.{Ghosts as Machine}
use Rattle.live_report.specs.declared.observer.Observer.{Observer}
use Rattle.live_report.specs.declared.live.Live.{Live}
use Rattle.live_report.specs.Observing.{Represents as IsObserverOf}
use Rattle.line_model.specs.basics.Records.{ReadRow, Row}
use Rattle.line_model.specs.packets.Says.{items_of, read_row}

-- the last one of some rows, as it was read, where there are any
abbrev pub IsLastRow : List Row → ReadRow → Type 0
IsLastRow rows read = (before : List Row) (row : Row) → rows ≡ before ++ row ∷ [] → read ≡ read_row row

-- a reader was fed a trace text, and an observer of its interface read the rows of the lines that an LF ended
pub record IsObserving {A C : Type 0} (interface_of : C → Interface) (number_of : C → ℕ) (represents : C → GapChannel → Type 0)
    (i : Interface) (text : List ℕ) (reader : Progress) (o : Observer A C) : Type 0 where
  pub reads : IsReaderOf reader text
  pub header : reader.interface ≡ Some i
  pub observes : IsObserverOf interface_of number_of represents i (items_of i (early_rows text)) o

-- the observer of the rows that were read, where there are any
abbrev pub IsObserved : {A C : Type 0} → (C → Interface) → (C → ℕ) → (C → GapChannel → Type 0) → List ℕ → Option Interface → Option (Observer A C) → Type 0
IsObserved interface_of number_of represents text head None = early_rows text ≡ []
IsObserved interface_of number_of represents text head (Some o) = (i : Interface) × (head ≡ Some i) × IsObserverOf interface_of number_of represents i (items_of i (early_rows text)) o

-- it was fed this text, and refused none of it
pub record Represents {A C : Type 0} (interface_of : C → Interface) (number_of : C → ℕ) (represents : C → GapChannel → Type 0) (live : Live A C) (text : List ℕ) : Type 0 where
  pub reads : IsReaderOf live.lines text
  pub running : live.refused ≡ None
  pub observed : IsObserved interface_of number_of represents text live.lines.interface live.observer
  pub keeps : IfSome live.observer (λ o. o.keeps_rows ≡ live.keeps_rows)
  pub last : live.keeps_rows ≡ true → IsLastRow (early_rows text) live.rows.last

-- it was fed some text, or it refused
pub record IsFed {A C : Type 0} (interface_of : C → Interface) (number_of : C → ℕ) (represents : C → GapChannel → Type 0) (live : Live A C) : Type 0 where
  pub fed : live.refused ≡ None → (text : List ℕ) × Represents interface_of number_of represents live text
  pub kinds : IfSome live.refused IsTextFault

-- a reader was fed a trace text, whose one row was read into this one, and an observer of its interface read none
pub record IsAtFirst {A C : Type 0} (interface_of : C → Interface) (number_of : C → ℕ) (represents : C → GapChannel → Type 0)
    (i : Interface) (text : List ℕ) (reader : Progress) (row : ReadRow) (o : Observer A C) : Type 0 where
  pub reads : IsReaderOf reader text
  pub header : reader.interface ≡ Some i
  pub first : (taken : Row) × (early_rows text ≡ taken ∷ []) × (row ≡ read_row taken)
  pub bare : IsObserverOf interface_of number_of represents i [] o

-- the same by the members of a machine of one channel, and of any interface and text
abbrev pub AtFirst : {A C : Type 0} → Machine C A → Interface → List ℕ → Progress → ReadRow → Observer A C → Type 0
AtFirst m i text reader row o = IsAtFirst m.interface_of m.number_of m.represents i text reader row o

abbrev pub OfFirst : {A C : Type 0} → Machine C A → Progress → ReadRow → Observer A C → (Interface → List ℕ → Type 0) → Type 0
OfFirst m reader row o Fact = (i : Interface) (text : List ℕ) → AtFirst m i text reader row o → Fact i text

-- by the members of a machine of one channel: a reader was fed a trace text, and an observer of its interface read its
-- rows
abbrev pub Observes : {A C : Type 0} → Machine C A → Interface → List ℕ → Progress → Observer A C → Type 0
Observes m i text reader o = IsObserving m.interface_of m.number_of m.represents i text reader o

-- the same of some interface and text
abbrev pub ObservesSome : {A C : Type 0} → Machine C A → Progress → Observer A C → Type 0
ObservesSome m reader o = (i : Interface) × (text : List ℕ) × Observes m i text reader o

-- of any interface and text
abbrev pub OfObserved : {A C : Type 0} → Machine C A → Progress → Observer A C → (Interface → List ℕ → Type 0) → Type 0
OfObserved m reader o Fact = (i : Interface) (text : List ℕ) → Observes m i text reader o → Fact i text

-- it was fed this text, and refused none of it
abbrev pub WasFed : {A C : Type 0} → Machine C A → List ℕ → Live A C → Type 0
WasFed m text live = Represents m.interface_of m.number_of m.represents live text

-- it was fed this text, refused none of it, and keeps the row that it read last
abbrev pub KeepsRowsOf : {A C : Type 0} → Machine C A → List ℕ → Live A C → Type 0
KeepsRowsOf m text live = WasFed m text live × (live.keeps_rows ≡ true)

-- of any text that it was fed
abbrev pub OfFed : {A C : Type 0} → Machine C A → Live A C → (List ℕ → Type 0) → Type 0
OfFed m live Fact = (text : List ℕ) → WasFed m text live → Fact text

-- of any text that it was fed: it was fed that text with the chunk
abbrev pub IsFedOn : {A C T E : Type 0} → Machine C A → (before : Live A C) → (chunk : List ℕ) → (after : Live A C) → Result T E → Type 0
IsFedOn m before chunk after result = OfFed m before (λ text. OnOk result (WasFed m (text ++ chunk) after))

-- of any text that it was fed: it refuses by the first line that is faulty however that text with the chunk goes on
abbrev pub RefusesEarly : {A C T : Type 0} → Machine C A → Live A C → (chunk : List ℕ) → Result T Fault → Type 0
RefusesEarly m live chunk result = OfFed m live (λ text. IfErr result (IsFaultOf (early (text ++ chunk))))
