-- What is known of a channel in a word: the bits above its windows and interrupts (profile).
use Rattle.std.specs.Prelude.{ℕ, Bool, cond, ◌==◌, ◌/◌, ◌%◌, ◌^◌, ◌&&◌}
use Rattle.line_model.specs.declared.state.ChannelState.{ChannelState}
use Rattle.line_model.specs.declared.state.ChannelState.TheVariants.{Setup, Transfer, Unknown}
use Rattle.line_model.specs.declared.state.PState.TheVariants.{P1, P2, P3, P4, P5, P6, P7}
use Rattle.line_model.specs.declared.state.DState.TheVariants.{D1, D2, D3}
use Rattle.data_transfer.specs.Packed.{Packed}
use Rattle.channel_run.specs.declared.run.View.{View}

-- the states of call set-up are 1 to 7, and 0 is none of them
abbrev pub setup_by : (p : ℕ) → ChannelState
setup_by p =
    cond (p == 1) (Setup P1) (cond (p == 2) (Setup P2) (cond (p == 3) (Setup P3) (cond (p == 4) (Setup P4)
    (cond (p == 5) (Setup P5) (cond (p == 6) (Setup P6) (cond (p == 7) (Setup P7) Unknown))))))

-- the states of data transfer are 1 to 3; with 0 the channel is in one of call set-up
abbrev pub state_by : (p d : ℕ) → ChannelState
state_by p d = cond (d == 1) (Transfer D1) (cond (d == 2) (Transfer D2) (cond (d == 3) (Transfer D3) (setup_by p)))

-- bits 0 to 2 are the p state, 3 and 4 the d state, 5 is 1 where an indication is owed
abbrev pub state_in : ℕ → ChannelState
state_in a = state_by (a % 8) (a / 8 % 4)

abbrev pub owed_in : ℕ → Bool
owed_in a = a / 32 % 2 == 1

-- bit 18 is 1 where the channel is adrift
abbrev pub adrift_in : ℕ → Bool
adrift_in a = a / 2 ^ 18 % 2 == 1

-- bit 9 is 1 where a call is open, and then bit 6 for a PAD call and bit 7 for one that asked fast select
abbrev pub pad_call_in : ℕ → Bool
pad_call_in a = (a / 2 ^ 9 % 2 == 1) && (a / 2 ^ 6 % 2 == 1)

abbrev pub fast_in : ℕ → Bool
fast_in a = (a / 2 ^ 9 % 2 == 1) && (a / 2 ^ 7 % 2 == 1)

-- bits 10 to 13 and 14 to 17 are the logarithms of the packet sizes for data from T and from N
abbrev pub view_in : Packed → View
view_in w = record {
  state = state_in w.owner_bits;
  adrift = adrift_in w.owner_bits;
  owed = owed_in w.owner_bits;
  pad_call = pad_call_in w.owner_bits;
  fast = fast_in w.owner_bits;
  size_t = 2 ^ (w.owner_bits / 1024 % 16);
  size_n = 2 ^ (w.owner_bits / 16384 % 16);
  flow = w.flow;
}
