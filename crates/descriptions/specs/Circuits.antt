-- Circuits of XOT, which comments of a trace name (profile): `#@ circuit NUMBER CHANNEL DTE-ADDRESS DTE-PORT DCE-ADDRESS DCE-PORT`.
use Rattle.std.specs.Prelude.{◌≡◌, ℕ, ◌==◌, ◌&&◌, ◌||◌, nat_le, Bool, true, false, List, [], ◌∷◌, ◌++◌, Option, None, Some, option_and_then, option_map, codes, length, if◌then◌else◌}
use Rattle.std.specs.BTreeMap.{get}
use Rattle.std.specs.Char.{is_ascii_digit, is_ascii_hexdigit}
use Rattle.std.specs.List.{list_all}
use Rattle.std.specs.Option.{option_or}
use Rattle.std.specs.Ordering.{nat_cmp}
use Rattle.std.specs.Str.{bytes_eq}
use Rattle.std.specs.Str.Parse.{digits_value}
use Rattle.line_model.specs.declared.state.Side.{Side}
use Rattle.line_model.specs.declared.state.Side.TheVariants.{T, N}
use Rattle.line_model.specs.text.Header.{words_of}
use Rattle.line_model.specs.text.Text.{Line, is_comment}
use Rattle.descriptions.specs.declared.circuits.Circuits.{Circuits}
use Rattle.descriptions.specs.declared.circuits.Hosts.{Hosts}

-- an end of a circuit
pub record Host : Type 0 where
  pub address : List ℕ
  pub port : ℕ

-- a circuit: the number of its connection, its logical channel in the trace, where it has one, and its ends
pub record Circuit : Type 0 where
  pub number : ℕ
  pub channel : Option ℕ
  pub dte : Host
  pub dce : Host

-- ---- words

-- one to twelve digits
abbrev pub is_whole : List ℕ → Bool
is_whole word = nat_le 1 (length word) && (nat_le (length word) 12 && list_all is_ascii_digit word)

-- the number that they write
abbrev pub whole_number : List ℕ → Option ℕ
whole_number word = if is_whole word then Some (digits_value 10 word) else None

-- the same where it is not below one number, and not above another
abbrev pub number_within : (low high : ℕ) → List ℕ → Option ℕ
number_within low high word = option_and_then (λ n. if nat_le low n && nat_le n high then Some n else None) (whole_number word)

-- a logical channel, or `-` for none
abbrev pub channel_in : List ℕ → Option (Option ℕ)
channel_in word = if bytes_eq word (codes "-") then Some None else option_map (λ n. Some n) (number_within 1 4095 word)

-- whether an octet may stand in an address of IPv4 or IPv6
abbrev pub is_of_address : ℕ → Bool
is_of_address b = is_ascii_hexdigit b || ((b == 46) || (b == 58))

-- at most 45 of them, as many as the longest address has
abbrev pub is_address : List ℕ → Bool
is_address word = nat_le 1 (length word) && (nat_le (length word) 45 && list_all is_of_address word)

abbrev pub host_in : (address port : List ℕ) → Option Host
host_in address port = if is_address address then option_map (λ n. record { address = address; port = n }) (number_within 0 65535 port) else None

-- the circuit of six words
abbrev pub circuit_in : List (List ℕ) → Option Circuit
circuit_in (number ∷ channel ∷ dte ∷ dte_port ∷ dce ∷ dce_port ∷ []) =
    option_and_then (λ n. option_and_then (λ c. option_and_then (λ t. option_map (λ d. record { number = n; channel = c; dte = t; dce = d })
    (host_in dce dce_port)) (host_in dte dte_port)) (channel_in channel)) (number_within 1 999999999999 number)
circuit_in _ = None

-- the same after the words that begin such a comment
abbrev pub circuit_after : List (List ℕ) → Option Circuit
circuit_after (mark ∷ name ∷ words) = if bytes_eq mark (codes "#@") && bytes_eq name (codes "circuit") then circuit_in words else None
circuit_after _ = None

-- the circuit that a line names, if it is such a comment
abbrev pub circuit_of : Line → Option Circuit
circuit_of l = if is_comment l then circuit_after (words_of l) else None

-- ---- hosts

-- the end of a side of a circuit
abbrev pub end_of : Side → Circuit → Host
end_of T c = c.dte
end_of N c = c.dce

-- its address
abbrev pub address_of : Side → Circuit → List ℕ
address_of T c = c.dte.address
address_of N c = c.dce.address

-- the same of the circuit of a number
abbrev pub address_in : (number : ℕ) → Side → Option Circuit → Option (List ℕ)
address_in n side None = None
address_in n side (Some c) = if c.number == n then Some (address_of side c) else None

-- of the circuits that lines name: of two with one number the first counts
abbrev pub named_host : List Line → (number : ℕ) → Side → Option (List ℕ)
named_host [] n side = None
named_host (l ∷ ls) n side = option_or (address_in n side (circuit_of l)) (named_host ls n side)

-- of a circuit that may not be known
abbrev pub host_where : (hosts : ℕ → Side → Option (List ℕ)) → (circuit : Option ℕ) → Side → Option (List ℕ)
host_where hosts None side = None
host_where hosts (Some n) side = hosts n side

-- ---- what the code keeps

abbrev pub kept_address : {A : Type 0} → Side → Hosts A → List ℕ
kept_address T h = h.dte.items
kept_address N h = h.dce.items

abbrev pub kept_host : {A : Type 0} → Circuits A → (number : ℕ) → Side → Option (List ℕ)
kept_host c n side = option_map (kept_address side) (get nat_cmp c.hosts n)

-- the hosts of the circuits that these lines name are kept
abbrev pub KeepsHosts : {A : Type 0} → List Line → Circuits A → Type 0
KeepsHosts ls c = (n : ℕ) (side : Side) → kept_host c n side ≡ named_host ls n side

-- so are those of a further line
abbrev pub AddsHosts : {A : Type 0} → Option Circuit → (before after : Circuits A) → Type 0
AddsHosts named before after = (n : ℕ) (side : Side) → kept_host after n side ≡ option_or (kept_host before n side) (address_in n side named)
