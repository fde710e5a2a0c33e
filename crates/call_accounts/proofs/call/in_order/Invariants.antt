use Rattle.std.proofs.Common.{◌≡◌, List, length, map}
use Rattle.line_model.specs.basics.Records.{CallRecord}
use Rattle.call_accounts.specs.Places.{AreLeft, place_of}
use Rattle.call_accounts.proofs.PlaceLemmas.{IsParted}
use Rattle.call_accounts.proofs.call.in_order.Given as goal

abbrev pub invariant-loop-epoch : goal.invariant-loop-epoch
invariant-loop-epoch g l = (cs : List CallRecord) → AreLeft l.fn.places cs → l.fn.openings.items ≡ map place_of cs → IsParted l.places l.openings.items l.calls.items cs

abbrev pub decreases-loop-epoch : goal.decreases-loop-epoch
decreases-loop-epoch g l = length l.openings.items
