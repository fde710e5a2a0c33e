use Rattle.std.proofs.Common.{◌≡◌, map, take}
use Rattle.line_model.specs.observer.Calls.{calls_of}
use Rattle.call_accounts.specs.Places.{AreAdded, place_of}
use Rattle.call_accounts.proofs.call.calls_of.Given as goal

abbrev pub invariant-loop-event : goal.invariant-loop-event
invariant-loop-event g l = record {
  added : AreAdded l.places (take l.event-index l.events);
  openings : l.openings.items ≡ map place_of (calls_of (take l.event-index l.events));
}
