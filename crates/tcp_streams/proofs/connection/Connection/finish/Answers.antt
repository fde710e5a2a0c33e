-- What comes at last leaves fewer steps.
use Rattle.std.proofs.Common.{rules}
use Rattle.tcp_streams.specs.Connections.{IsEvent, last_event}
use Rattle.tcp_streams.proofs.Progress.{last_ends}
use Rattle.tcp_streams.proofs.connection.Connection.finish.Goals as goal

pub returns-in-Some-clause-ends : goal.returns-in-Some-clause-ends
returns-in-Some-clause-ends c =
    let is : IsEvent (last_event c.args.self.now) c.args.self.now c.give.result c.give.new.self = search rules in
    last_ends c.args.self.now c.give.new.self c.give.result is

pub returns-clause-ends : goal.returns-clause-ends
returns-clause-ends c =
    let is : IsEvent (last_event c.args.self.now) c.args.self.now c.lose.result c.lose.new.self = search rules in
    last_ends c.args.self.now c.lose.new.self c.lose.result is
