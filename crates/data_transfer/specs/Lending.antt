-- What an assembler ends as, where what one side has begun is lent.
use Rattle.std.specs.Borrow.{Lends, Fml, RattleType, MutBor}
use Rattle.std.specs.declared.alloc.Allocator.{Ghosts}
use Rattle.line_model.specs.declared.state.Side.{Side}
use Rattle.line_model.specs.declared.state.Side.TheVariants.{T, N}
use Rattle.data_transfer.specs.Sequences.{Assembly, SequenceView}
use Rattle.data_transfer.specs.contracts.assembler.Assembler as assembler
use Rattle.data_transfer.specs.contracts.begun.Begun as begun

-- an assembler of which a side has begun this
abbrev pub with_begun : Assembly → Side → SequenceView → Assembly
with_begun a T b = record a { of_t = b }
with_begun a N b = record a { of_n = b }

module _ (A : RattleType) (alloc : Ghosts A.Denot) (a : MutBor Assembly) where
  -- once the borrow r ends, the side has begun what r shows last
  abbrev pub lends_begun : Side → MutBor SequenceView → Fml
  lends_begun x r = Lends (assembler.the_row A alloc) (begun.the_row A alloc) a r (with_begun a.now x)
