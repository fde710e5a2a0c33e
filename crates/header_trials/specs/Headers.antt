-- The headers that are tried on the rows of a trace.
use Rattle.std.specs.Prelude.{◌≡◌, ℕ, Bool, true, false, ◌==◌, nat_lt, List, [], ◌∷◌, filter, filter_map, flat_map, length, Option, if◌then◌else◌}
use Rattle.line_model.specs.basics.Limits.{packet_sizes}
use Rattle.line_model.specs.basics.Octets.{octet, bits}
use Rattle.line_model.specs.basics.Records.{Row}
use Rattle.line_model.specs.declared.interface.Interface.{Interface}
use Rattle.line_model.specs.text.Header.{interface_with}

-- the windows that are tried with a modulus: 1 to 7, or 1 to 8 and then up to 127 by doubling
abbrev pub windows : (modulus : ℕ) → List ℕ
windows modulus =
    if modulus == 8 then 1 ∷ 2 ∷ 3 ∷ 4 ∷ 5 ∷ 6 ∷ 7 ∷ []
    else 1 ∷ 2 ∷ 3 ∷ 4 ∷ 5 ∷ 6 ∷ 7 ∷ 8 ∷ 16 ∷ 32 ∷ 64 ∷ 127 ∷ []

-- an interface with another modulus, window and packet size, where these keep the rules of a header
abbrev pub with_numbers : Interface → (modulus window size : ℕ) → Option Interface
with_numbers i modulus window size = interface_with (record {
  modulus = modulus;
  window = window;
  size = size;
  pvc = i.pvc;
  incoming = i.incoming;
  two_way = i.two_way;
  svc = i.svc;
  join = i.join;
  gaps = i.gaps;
})

-- an interface with the channels of another, and with gap rows where that has them
pub record IsLike (own i : Interface) : Type 0 where
  pub svc : i.svc ≡ own.svc
  pub gaps : i.gaps ≡ own.gaps

-- an interface with each packet size
abbrev pub headers_with : Interface → (modulus window : ℕ) → List Interface
headers_with i modulus window = filter_map (with_numbers i modulus window) packet_sizes

-- an interface with each window that is tried with a modulus, and each packet size
abbrev pub headers_of : Interface → (modulus : ℕ) → List Interface
headers_of i modulus = flat_map (headers_with i modulus) (windows modulus)

-- how many rows have a general format identifier that represents a modulus: 1 for 8, 2 for 128 (X.25 Table 5-1)
abbrev pub rows_with_format : ℕ → List Row → ℕ
rows_with_format format rs = length (filter (λ r. bits 6 5 (octet 1 r.octets) == format) rs)

-- whether the rows show modulo 8: more of them have it than 128, or as many, and the header has it
abbrev pub is_modulo_8 : (own of_8 of_128 : ℕ) → Bool
is_modulo_8 own of_8 of_128 = if nat_lt of_128 of_8 then true else if nat_lt of_8 of_128 then false else own == 8

-- the modulus that the rows show
abbrev pub modulus_of_rows : Interface → List Row → ℕ
modulus_of_rows i rs = if is_modulo_8 i.modulus (rows_with_format 1 rs) (rows_with_format 2 rs) then 8 else 128

-- the headers that are tried on some rows
abbrev pub headers_tried : Interface → List Row → List Interface
headers_tried i rs = headers_of i (modulus_of_rows i rs)
