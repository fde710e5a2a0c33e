-- The numbers of one direction, in what is kept of both.
use Rattle.line_model.specs.declared.state.Side.{Side}
use Rattle.line_model.specs.channels.Channels.{of_side, with_side}
use Rattle.data_transfer.specs.declared.direction.Direction.{Direction}
use Rattle.data_transfer.specs.FlowResidues.{FlowResidues}

-- the numbers of the packets of a side
abbrev pub direction_of : Side → FlowResidues → Direction
direction_of x k = record {
  window = of_side x k.windows;
  sent = of_side x k.sent;
  acknowledged = of_side x k.acknowledged;
}

-- what is kept with other numbers of a side
abbrev pub with_direction : Side → Direction → FlowResidues → FlowResidues
with_direction x d k = record k {
  windows = with_side x d.window k.windows;
  sent = with_side x d.sent k.sent;
  acknowledged = with_side x d.acknowledged k.acknowledged;
}
