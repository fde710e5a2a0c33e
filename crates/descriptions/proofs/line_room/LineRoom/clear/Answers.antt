use Rattle.std.proofs.Common.{ap, Some, arith}
use Rattle.std.proofs.Math.ListN.{drop_of_length-le}
use Rattle.descriptions.proofs.line_room.LineRoom.clear.Goals as goal

pub returns : goal.returns
returns c = ap Some (drop_of_length-le c.self.inside.room {i = 1024} (omega (arith, c.self.told)))
