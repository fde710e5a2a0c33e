-- Which end of a connection is the DTE.
use Rattle.std.specs.Prelude.{◌==◌, ◌&&◌, Bool, true, Option, Some, None, if◌then◌else◌}
use Rattle.line_model.specs.channels.Sequences.{eq_bool}
use Rattle.line_model.specs.declared.state.Side.{Side}
use Rattle.line_model.specs.declared.state.Side.TheVariants.{T, N}
use Rattle.tcp_streams.specs.declared.ends.Endpoint.{Endpoint}
use Rattle.tcp_streams.specs.declared.ends.Ends.{Ends}
use Rattle.xot_circuits.specs.declared.roles.Host.{Host}
use Rattle.xot_circuits.specs.declared.roles.Roles.{Roles}

-- an end of a host; where none is chosen, each end is
abbrev pub is_of : Option Host → Endpoint → Bool
is_of None e = true
is_of (Some h) e = eq_bool h.is_version_6 e.is_version_6 && h.address == e.address

-- the opener is the DTE if it is the host of the DTE, unless the sides are exchanged
abbrev pub opener_side : Roles → Ends → Side
opener_side r e = if eq_bool (is_of r.dte e.first) r.is_swapped then N else T
