-- The numbers, interrupts and sequences of a settled channel, and what a packet does to them.
use Rattle.std.specs.Prelude.{ℕ, Bool, true, false, ◌≡◌, ◌⊎◌, ◌-◌, ◌+◌, ◌%◌, ◌<◌, ◌≤◌, List, [], reverse, take_while, Result, Ok, Err}
use Rattle.line_model.specs.declared.interface.Interface.{Interface}
use Rattle.line_model.specs.declared.packet.DataHeader.{DataHeader}
use Rattle.line_model.specs.declared.state.Side.{Side}
use Rattle.line_model.specs.channels.Channels.{AcceptedData, Channel, of_side, with_side}
use Rattle.line_model.specs.channels.ChannelStep.{counts_of}
use Rattle.line_model.specs.channels.FlowControl.{Counts, count_data, no_counts, sent_by}
use Rattle.line_model.specs.channels.Gaps.{Doubts, no_doubts, of_both}
use Rattle.line_model.specs.channels.GapStep.{completed_for_data, edge_in_doubt, may_be_begun, window_in_doubt}
use Rattle.line_model.specs.channels.Sequences.{eq_bool}
use Rattle.line_model.specs.packets.Formats.{size_in_force}
use Rattle.data_transfer.specs.Assembler.{begun_on}
use Rattle.data_transfer.specs.Assembly.{Holds}
use Rattle.data_transfer.specs.FlowResidues.{FlowResidues, ResiduesRepresent}
use Rattle.channel_machine.specs.GapView.{InDoubt}

-- windows of the modulus less 1
pub record IsWidest (f : FlowResidues) : Type 0 where
  pub eight : (f.modulus ≡ 8) ⊎ (f.modulus ≡ 128)
  pub windows : f.windows ≡ of_both (f.modulus - 1)

-- numbers with the widest windows; of a side whose next number is in doubt nothing is outstanding, and its sequence is in doubt
pub record NumbersRepresent (m : ℕ) (s : InDoubt) (c : Channel) : Type 0 where
  pub flow : ResiduesRepresent s.flow (counts_of c)
  pub modulus : s.flow.modulus ≡ m
  pub widest : s.flow.windows ≡ of_both (m - 1)
  pub acknowledged : (x : Side) → of_side x s.doubts.numbers ≡ true → of_side x (sent_by c.accepted) ≡ of_side x c.acknowledged
  pub unknown : (x : Side) → of_side x s.doubts.numbers ≡ true → of_side x s.doubts.sequences ≡ true

-- the packets of a list at its end whose Q bit is 1
abbrev pub qualified_at_end : List AcceptedData → List AcceptedData
qualified_at_end hs = reverse (take_while (λ g. eq_bool g.qualified true) (reverse hs))

-- the packets that are kept of a sequence that is begun: none in doubt, and those with Q 1 where no size is known
abbrev pub kept_of : (doubt hidden : Bool) → List AcceptedData → List AcceptedData
kept_of true hidden gs = []
kept_of false true gs = qualified_at_end gs
kept_of false false gs = gs

-- those of a side of a channel
abbrev pub kept_begun : Interface → Doubts → Side → Channel → List AcceptedData
kept_begun i d x c = kept_of (of_side x d.sequences) d.hidden (may_be_begun d.hidden (size_in_force i c x) x c.accepted)

-- each side's sequence is kept
abbrev pub SequencesRepresent : Interface → InDoubt → Channel → Type 0
SequencesRepresent i s c = (x : Side) → Holds (begun_on s.assembler x) (kept_begun i s.doubts x c)

-- what is kept outside d1: nothing is outstanding or begun, and only whether another call may be hidden is in doubt
pub record IsRestarted (old new : InDoubt) : Type 0 where
  pub doubts : new.doubts ≡ no_doubts old.doubts.hidden
  pub modulus : new.flow.modulus ≡ old.flow.modulus
  pub windows : new.flow.windows ≡ old.flow.windows
  pub flow : ResiduesRepresent new.flow no_counts
  pub sequences : (x : Side) → Holds (begun_on new.assembler x) []

-- a channel with other counts than those of its data
abbrev pub with_counts : Counts → Channel → Channel
with_counts v c = record c { acknowledged = v.acknowledged; unconfirmed = v.unconfirmed }

-- the result of a packet that changes the counts alone, on a channel that was completed for it
abbrev pub IsCountedInDoubt : {U : Type 0} → Result U ℕ → Interface → (new : InDoubt) → Result Counts ℕ → (completed : Channel) → Type 0
IsCountedInDoubt (Ok u) i new r d = (v : Counts) × (r ≡ Ok v) × NumbersRepresent i.modulus new (with_counts v d) × SequencesRepresent i new (with_counts v d)
IsCountedInDoubt (Err e) i new r d = r ≡ Err e

-- the result for the numbers of a data packet by that of the counts, and those after it; its next P(S) may have been in
-- doubt
abbrev pub AreNumbered : Result FlowResidues ℕ → (modulus : ℕ) → (doubt : Bool) → Side → Result Counts ℕ → Type 0
AreNumbered (Ok f) m doubt x r =
    (v : Counts) × (r ≡ Ok v) × ResiduesRepresent f (record v { acknowledged = edge_in_doubt m doubt x (of_side x v.sent) v.acknowledged })
AreNumbered (Err n) m doubt x r = r ≡ Err n

-- the same on a channel
abbrev pub IsNumbered : Result FlowResidues ℕ → Interface → Doubts → Side → DataHeader → Channel → Type 0
IsNumbered r i b x h c =
    AreNumbered r i.modulus (of_side x b.numbers) x
    (count_data i.modulus (window_in_doubt i b c x) (counts_of (completed_for_data i.modulus b x h c)) x h.send h.receive)

-- the counts with nothing of a side outstanding
abbrev pub all_acknowledged : Side → Counts → Counts
all_acknowledged x c = record c { acknowledged = with_side x (of_side x c.sent) c.acknowledged }

-- counts that were completed up to a P(S) of a side whose next P(S) is in doubt, and the numbers before
pub record IsFirst (f : FlowResidues) (x : Side) (send : ℕ) (c : Counts) : Type 0 where
  pub represented : ResiduesRepresent (record f { sent = with_side x (send % f.modulus) f.sent; acknowledged = with_side x (send % f.modulus) f.acknowledged }) (all_acknowledged x c)
  pub edge : of_side x f.acknowledged ≡ of_side x c.acknowledged % f.modulus
  pub ordered : of_side x c.acknowledged ≤ of_side x c.sent
  pub below : of_side x c.sent < of_side x c.acknowledged + f.modulus
