-- The fields of a word that keeps a channel's windows and interrupts.
use Rattle.data_transfer.specs.declared.packed.FlowWord.TheInside.{Inside}
use Rattle.data_transfer.specs.FlowResidues.{AreFlowResidues}
use Rattle.data_transfer.specs.Packed.{Packed, packed_in, packed_word}

-- both parts, from the fields
abbrev pub packed : Inside → Packed
packed f = packed_in f.word

-- the fields, from both parts
abbrev pub unpacked : Packed → Inside
unpacked p = record { word = packed_word p }

-- a word whose part below is one that a channel can keep
abbrev pub IsPacked : Inside → Type 0
IsPacked f = AreFlowResidues (packed f).flow
