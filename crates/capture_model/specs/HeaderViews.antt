-- What a link header says, as contracts see it.
use Rattle.std.specs.Prelude.{ℕ, List, Option}
use Rattle.capture_model.specs.declared.frame.Direction.{Direction}
use Rattle.capture_model.specs.Views.{Carried, carried_view}
use Rattle.capture_model.specs.declared.header.LinkHeader as declared

pub record LinkHeader : Type 0 where
  pub carried : Carried
  pub direction : Direction
  -- the link address of the sender, and the index of the interface
  pub source : List ℕ
  pub index : Option ℕ

abbrev pub header_view : declared.LinkHeader → LinkHeader
header_view o = record { carried = carried_view o.carried; direction = o.direction; source = o.source.now; index = o.index }
