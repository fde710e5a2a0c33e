-- Walks from a fresh observer, over rows of the machine's channels.
use Rattle.std.proofs.Common.{◌≡◌, true, List, refl}
use Rattle.line_model.specs.declared.interface.Interface.{Interface}
use Rattle.line_model.specs.basics.Bounds.{AreSaid}
use Rattle.line_model.specs.basics.Records.{Item}
use Rattle.line_model.specs.observer.Machine.{Machine, Observer}
use Rattle.line_model.specs.observer.Observer.{x25, start}
use Rattle.line_model.specs.pieces.Merge.{HasChannels}
use Rattle.line_model.proofs.GapMachines.{has_channels}

pub record IsWalk {X L S E : Type 0} (m : Machine X L S E) (start : Observer L S) (rs : List X) : Type 0 where
  pub channels : HasChannels m rs
  pub fresh : start.states ≡ m.fresh (m.start_of start.level) start.epoch
  pub ready : m.ready start.level ≡ true

-- what is said on an interface
pub interface_walk : (i : Interface) (rs : List Item) → AreSaid i rs → IsWalk (x25 i) (start i) rs
interface_walk i rs said = record { channels = has_channels i rs said; fresh = refl; ready = refl }
