-- What is known of a channel apart from its sequences and its settings.
use Rattle.std.specs.Prelude.{Bool, false, ◌≡◌, ℕ}
use Rattle.line_model.specs.declared.state.ChannelState.{ChannelState}
use Rattle.line_model.specs.channels.Channels.{Sides}
use Rattle.line_model.specs.channels.FlowControl.{no_counts}
use Rattle.data_transfer.specs.FlowResidues.{FlowResidues, ResiduesRepresent}
use Rattle.channel_run.specs.declared.run.View.{View}
use Rattle.channel_machine.specs.TermsRepresent.{Agreed, is_fast, is_pad}

-- the state, whether an indication is owed, what was agreed, and the windows and interrupts
pub record Status : Type 0 where
  pub state : ChannelState
  pub owed : Bool
  pub terms : Agreed
  pub flow : FlowResidues

-- the windows of terms
abbrev pub windows_of : Agreed → Sides ℕ
windows_of t = record { of_t = t.values.window_t; of_n = t.values.window_n }

-- a status that was entered: nothing was sent yet
pub record IsEntered (s : Status) (to : ChannelState) (indicated : Bool) (t : Agreed) : Type 0 where
  pub state : s.state ≡ to
  pub owed : s.owed ≡ indicated
  pub terms : s.terms ≡ t
  pub modulus : s.flow.modulus ≡ t.interface.modulus
  pub windows : s.flow.windows ≡ windows_of t
  pub nothing_sent : ResiduesRepresent s.flow no_counts

-- only the numbers and interrupts differ
pub record CountsAlone (old new : Status) : Type 0 where
  pub rest : new ≡ record old { flow = new.flow }
  pub modulus : new.flow.modulus ≡ old.flow.modulus
  pub windows : new.flow.windows ≡ old.flow.windows

-- what is known of a channel of a status that is not adrift
abbrev pub view_of : Status → View
view_of s = record {
  state = s.state;
  adrift = false;
  owed = s.owed;
  pad_call = is_pad s.terms.call;
  fast = is_fast s.terms.call;
  size_t = s.terms.values.size_t;
  size_n = s.terms.values.size_n;
  flow = s.flow;
}
