use Rattle.std.proofs.Common.{◌≡◌, ℕ, List, ◌++◌, Option, take}
use Rattle.json_lines.specs.BetweenCalls.{Goes}
use Rattle.json_lines.proofs.lines.JsonLines.take.Given as goal

abbrev pub invariant-loop-byte : goal.invariant-loop-byte
invariant-loop-byte g l = (l.self.given.bytes ≡ l.fn.self.given.bytes ++ take l.byte-index l.fn.bytes)
    × (l.self.refused.bytes ≡ l.fn.self.refused.bytes)
    × ((before : Option (List ℕ) × ℕ) → Goes before (g.W.Sink.taken l.fn.sink, g.W.Sink.failures l.fn.sink) l.fn.self → Goes before (g.W.Sink.taken l.sink, g.W.Sink.failures l.sink) l.self)
