use Rattle.std.proofs.Common.{◌≤◌, ◌+◌, length, vec_len, vec_capacity}
use Rattle.pad.specs.Effects.{asked_one}
use Rattle.channel_machine.proofs.Reporting.{IsReported}
use Rattle.channel_machine.proofs.messages.report_asked.Given as goal

abbrev pub invariant-loop-pair : goal.invariant-loop-pair
invariant-loop-pair g l = record {
  reported : IsReported l.origin (asked_one l.pad) l.fn.events.items l.events.items l.pair-iterator l.fn.pairs;
  room : vec_len l.events + length l.pair-iterator ≤ vec_capacity l.events;
}
