-- What a message means for a PAD (X.29 clause 4.4).
use Rattle.std.specs.Prelude.{Bool, true, false}
use Rattle.pad.specs.declared.message.MessageCode.{MessageCode}
use Rattle.pad.specs.declared.message.MessageCode.TheVariants.{Indication, Set, Read, SetAndRead}
use Rattle.pad.specs.declared.concern.Concern.{Concern}
use Rattle.pad.specs.declared.concern.Concern.TheVariants.{Indicates, Sets, Reads, Nothing}

-- an indication from it, a set or a read for it, or nothing (X.29 clause 4.4)
abbrev pub concern_of : (own : Bool) → MessageCode → Concern
concern_of true Indication = Indicates
concern_of false Set = Sets
concern_of false SetAndRead = Sets
concern_of false Read = Reads
concern_of _ _ = Nothing
