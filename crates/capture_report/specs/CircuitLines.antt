-- The lines of circuits in the text of a trace: which circuit is on which logical channel, and between which hosts.
use Rattle.std.specs.Prelude.{ℕ, ◌^◌, ◌%◌, List, [], ◌∷◌, ◌++◌, Option, None, Some, codes, decimal, if◌then◌else◌}
use Rattle.std.specs.Int.{w32, w128, to_be_bytes}
use Rattle.std.specs.List.{flat_map}
use Rattle.std.specs.Net.Addr.{segments_of}
use Rattle.std.specs.Net.Text.{ipv4_text, ipv6_text}
use Rattle.tcp_streams.specs.declared.ends.Endpoint.{Endpoint}
use Rattle.capture_report.specs.declared.circuits.SeenCircuit.{SeenCircuit}

-- the address of an end, as std writes it (RFC 5952 for IPv6)
abbrev pub address_text : Endpoint → List ℕ
address_text e = if e.is_version_6 then ipv6_text (segments_of (to_be_bytes w128 e.address)) else ipv4_text (to_be_bytes w32 (e.address % 2 ^ 32))

abbrev pub end_text : Endpoint → List ℕ
end_text e = codes " " ++ address_text e ++ codes " " ++ decimal e.port

-- no channel was left for a circuit whose packets are left out
abbrev pub channel_word : Option ℕ → List ℕ
channel_word None = codes " -"
channel_word (Some k) = codes " " ++ decimal k

-- the number of its connection, its channel, and the ends of its DTE and its DCE
abbrev pub circuit_line : SeenCircuit → (channel : Option ℕ) → List ℕ
circuit_line x k = codes "#@ circuit " ++ decimal x.connection ++ channel_word k ++ end_text x.ends.dte ++ end_text x.ends.dce

abbrev pub circuits_text : (channel : ℕ → Option ℕ) → List SeenCircuit → List ℕ
circuits_text channel xs = flat_map (λ x. circuit_line x (channel x.connection) ++ 10 ∷ []) xs
