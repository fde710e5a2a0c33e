-- The status of a channel in a word (profile).
use Rattle.std.specs.Prelude.{ℕ, cond, ◌==◌, ◌-◌, ◌*◌, ◌/◌, ◌%◌, ◌^◌, Option, Some, None}
use Rattle.line_model.specs.declared.interface.Interface.{Interface}
use Rattle.data_transfer.specs.Packed.{Packed}
use Rattle.channel_run.specs.StatusWord.{state_in, owed_in}
use Rattle.channel_machine.specs.declared.terms.Opened.{Opened}
use Rattle.channel_machine.specs.declared.terms.Values.{Values}
use Rattle.channel_machine.specs.Status.{Status}

-- the call: bit 0 is 1 for a PAD call, bit 1 for fast select, bit 2 for an outgoing call, bit 3 where one is open
abbrev pub call_by : ℕ → Option Opened
call_by n = cond (n / 8 == 1) (Some (record { out = n / 4 % 2 == 1; fast = n / 2 % 2 == 1; pad_call = n % 2 == 1 })) None

-- bits 6 to 9 are the call
abbrev pub call_in : ℕ → Option Opened
call_in a = call_by (a / 64 % 16)

abbrev pub values_in : Packed → Values
values_in w = record {
  size_t = 2 ^ (w.owner_bits / 1024 % 16);
  size_n = 2 ^ (w.owner_bits / 16384 % 16);
  window_t = w.flow.windows.of_t;
  window_n = w.flow.windows.of_n;
}

-- the owner's number with no indication owed
abbrev pub settled : ℕ → ℕ
settled a = a - a / 32 % 2 * 32

-- the status of a channel on an interface
abbrev pub status_in : Interface → Packed → Status
status_in i w = record {
  state = state_in w.owner_bits;
  owed = owed_in w.owner_bits;
  terms = record { interface = i; call = call_in w.owner_bits; values = values_in w };
  flow = w.flow;
}
