-- What comes next leaves fewer steps.
use Rattle.std.proofs.Common.{rules}
use Rattle.tcp_streams.specs.Connections.{IsEvent, next_event}
use Rattle.tcp_streams.proofs.Progress.{next_ends}
use Rattle.tcp_streams.proofs.connection.Connection.next.Goals as goal

pub returns-in-Some-clause-ends : goal.returns-in-Some-clause-ends
returns-in-Some-clause-ends c =
    let is : IsEvent (next_event c.args.is_memory_full c.args.self.now) c.args.self.now c.give.result c.give.new.self = search rules in
    next_ends c.args.is_memory_full c.args.self.now c.give.new.self c.give.result is

pub returns-then-is_overdue-clause-ends : goal.returns-then-is_overdue-clause-ends
returns-then-is_overdue-clause-ends c =
    let is : IsEvent (next_event c.args.is_memory_full c.args.self.now) c.args.self.now c.lose.result c.lose.new.self = search rules in
    next_ends c.args.is_memory_full c.args.self.now c.lose.new.self c.lose.result is
