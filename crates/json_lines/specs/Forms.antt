-- The lines of a report by their letters, and the names of their fields (profile).
use Rattle.std.specs.Prelude.{ℕ, List, [], ◌∷◌, codes, if◌then◌else◌}
use Rattle.std.specs.Str.{bytes_eq}
use Rattle.json_lines.specs.declared.fields.FieldKind.{FieldKind}
use Rattle.json_lines.specs.declared.fields.FieldKind.TheVariants.{Number, Text}

-- a field of a line: its name, and how its value is written
pub record Field : Type 0 where
  pub name : List ℕ
  pub kind : FieldKind

-- what a line says, and the fields after its letter
pub record LineForm : Type 0 where
  pub title : List ℕ
  pub fields : List Field

-- a field whose value is a number
abbrev pub number : List ℕ → Field
number name = record { name = name; kind = Number }

-- a field whose value is a string: a word, or an address, whose leading zeros count
abbrev pub text : List ℕ → Field
text name = record { name = name; kind = Text }

-- F packet side state code
abbrev pub finding : LineForm
finding = record {
  title = codes "finding";
  fields =
      number (codes "packet") ∷ text (codes "side") ∷ text (codes "state") ∷ text (codes "code")
      ∷ [];
}

-- C call epoch channel direction called calling opened up ended how dataT octT dataN octN segments
abbrev pub call : LineForm
call = record {
  title = codes "call";
  fields =
      number (codes "call") ∷ number (codes "epoch") ∷ number (codes "channel") ∷ text (codes "direction") ∷ text (codes "called") ∷ text (codes "calling") ∷ number (codes "opened") ∷ number (codes "up") ∷ number (codes "ended") ∷ text (codes "how") ∷ number (codes "data_t") ∷ number (codes "octets_t") ∷ number (codes "data_n") ∷ number (codes "octets_n") ∷ number (codes "segments")
      ∷ [];
}

-- S call side parameter word value
abbrev pub setting : LineForm
setting = record {
  title = codes "setting";
  fields =
      number (codes "call") ∷ text (codes "side") ∷ number (codes "parameter") ∷ text (codes "word") ∷ number (codes "value")
      ∷ [];
}

-- A address calls segments
abbrev pub account : LineForm
account = record {
  title = codes "account";
  fields =
      text (codes "address") ∷ number (codes "calls") ∷ number (codes "segments")
      ∷ [];
}

-- P count packet
abbrev pub peak : LineForm
peak = record {
  title = codes "peak";
  fields =
      number (codes "count") ∷ number (codes "packet")
      ∷ [];
}

-- G gaps
abbrev pub gaps : LineForm
gaps = record { title = codes "gaps"; fields = number (codes "gaps") ∷ [] }

-- Z packets findings calls octets segments
abbrev pub sums : LineForm
sums = record {
  title = codes "sums";
  fields =
      number (codes "packets") ∷ number (codes "findings") ∷ number (codes "calls") ∷ number (codes "octets") ∷ number (codes "segments")
      ∷ [];
}

-- a line that does not begin as a line of a report
abbrev pub unknown : LineForm
unknown = record { title = codes "unknown"; fields = [] }

-- the form of the lines that begin with a word
abbrev pub form_of : List ℕ → LineForm
form_of letter =
    if bytes_eq letter (codes "F") then finding
    else if bytes_eq letter (codes "C") then call
    else if bytes_eq letter (codes "S") then setting
    else if bytes_eq letter (codes "A") then account
    else if bytes_eq letter (codes "P") then peak
    else if bytes_eq letter (codes "G") then gaps
    else if bytes_eq letter (codes "Z") then sums
    else unknown
