-- What was agreed on a channel, and the channel.
use Rattle.std.specs.Prelude.{ℕ, Bool, false, ◌==◌, ◌≡◌, Option, option_map}
use Rattle.std.specs.Option.{option_map_or}
use Rattle.line_model.specs.declared.interface.Interface.{Interface}
use Rattle.line_model.specs.declared.state.Side.{Side}
use Rattle.line_model.specs.declared.state.Side.TheVariants.{T, N}
use Rattle.line_model.specs.basics.Octets.{octet}
use Rattle.line_model.specs.packets.Facilities.{fields_of}
use Rattle.line_model.specs.packets.Formats.{for_side, size_in_force, window_in_force}
use Rattle.line_model.specs.channels.Channels.{Channel, Opening}
use Rattle.channel_machine.specs.declared.terms.Opened.{Opened}
use Rattle.channel_machine.specs.declared.terms.Values.{Values}

-- what the packet that opened a call says (X.25 clause 5.2.1)
abbrev pub opened_of : Opening → Opened
opened_of o = record {
  out = o.out;
  fast = (fields_of o.packet).fast;
  pad_call = octet 1 (fields_of o.packet).data_of_user == 1;
}

-- the values of an interface
abbrev pub values_of : Interface → Values
values_of i = record { size_t = i.size; size_n = i.size; window_t = i.window; window_n = i.window }

-- values after a packet of a call that asks sizes and windows, or none
abbrev pub with_asked : (out : Bool) → (sizes windows : Option (ℕ × ℕ)) → Values → Values
with_asked out sizes windows v = record {
  size_t = option_map_or (for_side out T) sizes v.size_t;
  size_n = option_map_or (for_side out N) sizes v.size_n;
  window_t = option_map_or (for_side out T) windows v.window_t;
  window_n = option_map_or (for_side out N) windows v.window_n;
}

-- the values in force on a channel (X.25 clause 7.2.2.1)
abbrev pub values_in_force : Interface → Channel → Values
values_in_force i c = record {
  size_t = size_in_force i c T;
  size_n = size_in_force i c N;
  window_t = window_in_force i c T;
  window_n = window_in_force i c N;
}

-- what the terms of a channel hold
pub record Agreed : Type 0 where
  pub interface : Interface
  pub call : Option Opened
  pub values : Values

-- what was agreed represents the packets of the call
pub record TermsRepresent (t : Agreed) (c : Channel) : Type 0 where
  pub call : t.call ≡ option_map opened_of c.opening
  pub values : t.values ≡ values_in_force t.interface c

-- whether the call is outgoing (profile)
abbrev pub is_out_of : Option Opened → Bool
is_out_of call = option_map_or (λ o. o.out) call false

-- whether the opening packet asks fast select (X.25 clause 6.16)
abbrev pub is_fast : Option Opened → Bool
is_fast call = option_map_or (λ o. o.fast) call false

-- whether the call is a PAD call (X.29; profile)
abbrev pub is_pad : Option Opened → Bool
is_pad call = option_map_or (λ o. o.pad_call) call false

-- the packet size in force for data from a side
abbrev pub size_of : Values → Side → ℕ
size_of v T = v.size_t
size_of v N = v.size_n
