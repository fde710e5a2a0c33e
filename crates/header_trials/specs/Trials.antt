-- The trials of all headers.
use Rattle.std.specs.Prelude.{◌≡◌, ℕ, List, [], ◌∷◌, ◌++◌, Option, Some, None, IfSome}
use Rattle.line_model.specs.basics.Records.{Row, Item, ReadRow}
use Rattle.line_model.specs.declared.interface.Interface.{Interface}
use Rattle.line_model.specs.packets.Says.{item_read, items_of, read_row}
use Rattle.line_model.specs.text.Text.{early_rows, fault, head, rows}
use Rattle.channel_run.specs.declared.run.Channel.{Ghosts as Machine}
use Rattle.live_report.specs.Observing.{AreItems}
use Rattle.trace_text.specs.Represents.{Represents}
use Rattle.header_trials.specs.Headers.{IsLike, headers_of, headers_tried, rows_with_format}
use Rattle.header_trials.specs.Tried.{HasWalked}
use Rattle.header_trials.specs.declared.trial.Trial.{Trial}
use Rattle.header_trials.specs.declared.trials.Trials.{Trials}
use Rattle.header_trials.specs.declared.tried_text.TriedText.{TriedText}

-- what rows say under each header
abbrev pub SaidRows : Type 0
SaidRows = Interface → List Item

-- what rows say, and one more
abbrev pub with_row : SaidRows → ReadRow → SaidRows
with_row items row i = items i ++ item_read i row ∷ []

-- they are as a text has them, under each header with the channels of its own
abbrev pub AreSound : (own : Interface) → SaidRows → Type 0
AreSound own items = (i : Interface) → IsLike own i → AreItems i (items i)

-- rows as a text with this header has them
abbrev pub IsTrace : (own : Interface) → List Row → Type 0
IsTrace own rs = AreSound own (λ i. items_of i rs)

-- each header has the channels of the text's own, and its trial, which walked what these rows say under it
abbrev pub AreTrials : {A C : Type 0} → Machine C A → (own : Interface) → SaidRows → List Interface → List (Trial A C) → Type 0
AreTrials m own items [] [] = Unit {0}
AreTrials m own items (i ∷ is) (t ∷ ts) = HasWalked m i (items i) t × IsLike own i × AreTrials m own items is ts
AreTrials m own items _ _ = ⊥

-- they walked other rows, and this one may come after them
abbrev pub MayWalkAll : {A C : Type 0} → Machine C A → ReadRow → List (Trial A C) → Type 0
MayWalkAll m row ts = (own : Interface) × (is : List Interface) × (items : SaidRows) × AreTrials m own items is ts × AreSound own (with_row items row)

-- the trials of all headers that are tried on these rows of an interface walked them, with either modulus
pub record IsTrying {A C : Type 0} (m : Machine C A) (i : Interface) (rs : List Row) (t : Trials A C) : Type 0 where
  pub own : t.own ≡ i.modulus
  pub of_8 : AreTrials m i (λ j. items_of j rs) (headers_of i 8) t.of_8.items
  pub of_128 : AreTrials m i (λ j. items_of j rs) (headers_of i 128) t.of_128.items
  pub format_8 : t.formats.of_8 ≡ rows_with_format 1 rs
  pub format_128 : t.formats.of_128 ≡ rows_with_format 2 rs

-- they were tried on other rows, and this one may come after them
abbrev pub MayTry : {A C : Type 0} → Machine C A → ReadRow → Trials A C → Type 0
MayTry m row t = (i : Interface) × (rs : List Row) × (r : Row) × IsTrying m i rs t × (row ≡ read_row r) × IsTrace i (rs ++ r ∷ [])

-- the rows were tried, if there are any
abbrev pub AreTried : {A C : Type 0} → Machine C A → List Row → Option Interface → Option (Trials A C) → Type 0
AreTried m rs head None = rs ≡ []
AreTried m rs head (Some t) = (i : Interface) × (head ≡ Some i) × IsTrying m i rs t

-- rows as a text has them whose header is known
abbrev pub IsTraceUnder : (head : Option Interface) → List Row → Type 0
IsTraceUnder head rs = IfSome head (λ i. IsTrace i rs)

-- it was given this text
pub record HasTaken {A C : Type 0} (m : Machine C A) (text : List ℕ) (t : TriedText A C) : Type 0 where
  pub reads : Represents t.lines text
  pub tried : AreTried m (early_rows text) t.lines.interface t.trials

-- the text has no fault, and all headers that are tried on it have their trials
pub record IsTriedText {A C : Type 0} (m : Machine C A) (text : List ℕ) (ts : List (Trial A C)) : Type 0 where
  pub sound : fault text ≡ None
  pub interface : Interface
  pub header : head text ≡ Some interface
  pub trials : AreTrials m interface (λ i. items_of i (rows text)) (headers_tried interface (rows text)) ts
