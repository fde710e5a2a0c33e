-- The terms of a call after which another call may be hidden.
use Rattle.std.specs.Prelude.{◌-◌}
use Rattle.line_model.specs.declared.interface.Interface.{Interface}
use Rattle.channel_machine.specs.declared.terms.Values.{Values}

-- the largest packet sizes and windows
abbrev pub largest_values : Interface → Values
largest_values i = record { size_t = 4096; size_n = 4096; window_t = i.modulus - 1; window_n = i.modulus - 1 }
