-- Rows of a capture, without their numbers.
use Rattle.std.specs.Prelude.{ℕ, Bool, true, false, List, Option, None}
use Rattle.line_model.specs.declared.state.Side.{Side}
use Rattle.lapb_link.specs.declared.frames.Place.{Place}
use Rattle.capture_report.specs.declared.row.Content as declared_content
use Rattle.capture_report.specs.declared.row.Row as declared

-- a packet of a side, or a gap of a channel or of all
pub data Content : Type 0 where
  Packet : Side → List ℕ → Content
  Gap : Option ℕ → Content

pub record Row : Type 0 where
  pub place : Place
  -- the number of its circuit; none where it is of no circuit
  pub circuit : Option ℕ
  pub content : Content

abbrev pub content_view : declared_content.Content → Content
content_view (declared_content.TheVariants.Packet s p) = Packet s p.now
content_view (declared_content.TheVariants.Gap c) = Gap c

abbrev pub row_view : declared.Row → Row
row_view r = record { place = r.place; circuit = r.circuit; content = content_view r.content }

abbrev pub gap_of_all : Place → Row
gap_of_all p = record { place = p; circuit = None; content = Gap None }

abbrev pub is_of_all : Content → Bool
is_of_all (Gap None) = true
is_of_all c = false
