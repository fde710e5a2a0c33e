-- What the code keeps of a channel adrift.
use Rattle.channel_machine.specs.declared.gaps.carried.WhileAdrift.TheInside.{Inside}
use Rattle.channel_machine.specs.declared.gaps.doubts.Doubts.TheInside as kept
use Rattle.data_transfer.specs.FlowResidues.{FlowResidues}
use Rattle.data_transfer.specs.Sequences.{Assembly}
use Rattle.line_model.specs.channels.Gaps.{Doubts, WhileAdrift}

abbrev pub drifting_of : Inside → WhileAdrift
drifting_of a = record { owed = a.owed; hidden = a.hidden; last = record { of_t = a.of_t; of_n = a.of_n } }

-- the fields of the same
abbrev pub drifting_in : WhileAdrift → Inside
drifting_in a = record { owed = a.owed; hidden = a.hidden; of_t = a.last.of_t; of_n = a.last.of_n }

-- what is kept of a settled channel: what is in doubt, its numbers and interrupts, and the sequences that it has begun
pub record InDoubt : Type 0 where
  pub doubts : Doubts
  pub flow : FlowResidues
  pub assembler : Assembly

-- what is certain of a channel, and what is kept with it
pub data KnownCertainty : Type 0 where
  Certain : KnownCertainty
  Adrift : WhileAdrift → KnownCertainty
  Settled : InDoubt → KnownCertainty

-- what is in doubt of a side of a settled channel
abbrev pub doubts_of : kept.Inside → Doubts
doubts_of d = record {
  hidden = d.hidden;
  numbers = record { of_t = d.of_t.number; of_n = d.of_n.number };
  interrupts = record { of_t = d.of_t.interrupt; of_n = d.of_n.interrupt };
  sequences = record { of_t = d.of_t.sequence; of_n = d.of_n.sequence };
}

-- the fields of the same
abbrev pub doubts_in : Doubts → kept.Inside
doubts_in d = record {
  hidden = d.hidden;
  of_t = record { number = d.numbers.of_t; interrupt = d.interrupts.of_t; sequence = d.sequences.of_t };
  of_n = record { number = d.numbers.of_n; interrupt = d.interrupts.of_n; sequence = d.sequences.of_n };
}
