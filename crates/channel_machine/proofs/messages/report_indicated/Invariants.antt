use Rattle.std.proofs.Common.{◌≤◌, ◌+◌, length, vec_len, vec_capacity}
use Rattle.pad.specs.Effects.{indicated_one}
use Rattle.channel_machine.proofs.Reporting.{IsReported}
use Rattle.channel_machine.proofs.messages.report_indicated.Given as goal

abbrev pub invariant-loop-pair : goal.invariant-loop-pair
invariant-loop-pair g l = record {
  reported : IsReported l.origin (indicated_one l.pad) l.fn.events.items l.events.items l.pair-iterator l.fn.pairs;
  room : vec_len l.events + length l.pair-iterator ≤ vec_capacity l.events;
}
