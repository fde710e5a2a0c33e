-- The settings of a PAD, and the messages that they represent.
use Rattle.std.specs.Prelude.{ℕ, ◌≡◌, ◌<◌, ◌+◌, List, slice_index_or}
use Rattle.line_model.specs.declared.event.What.{What}
use Rattle.line_model.specs.declared.event.Entry.TheVariants.{Unknown}
use Rattle.line_model.specs.channels.Channels.{PadMessage}
use Rattle.line_model.specs.channels.Pad.{was_asked}
use Rattle.pad.specs.declared.settings.Settings.{Settings}
use Rattle.pad.specs.Effects.{entry_at, events_of}

-- each entry is what the last content says of its parameter
abbrev pub HasEntries : Settings → List What → Type 0
HasEntries s ws = (k : ℕ) → k < 22 → slice_index_or s.entries k Unknown ≡ entry_at s.pad (k + 1) ws

pub record Represents (s : Settings) (ts : List PadMessage) : Type 0 where
  pub asked : s.asked ≡ was_asked s.pad ts
  pub entries : HasEntries s (events_of ts)
