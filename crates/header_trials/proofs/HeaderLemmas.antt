-- A header with other numbers in their ranges.
use Rattle.std.proofs.Common.{◌≡◌, ℕ, ◌&&◌, ◌==◌, true}
use Rattle.std.specs.List.{list_any}
use Rattle.std.proofs.lemmas.Bool.{and_parts}
use Rattle.line_model.specs.basics.Limits.{is_channels, is_interface, is_numbering, packet_sizes}
use Rattle.line_model.specs.declared.interface.Interface.{Interface}

-- the channels of an interface keep the rules
own_channels : (i : Interface) → is_channels i.pvc i.incoming i.two_way i.svc ≡ true
own_channels i =
    let rest = (and_parts (is_numbering i.modulus i.window) (list_any (λ n. i.size == n) packet_sizes && is_channels i.pvc i.incoming i.two_way i.svc) i.lawful).1 in
    (and_parts (list_any (λ n. i.size == n) packet_sizes) (is_channels i.pvc i.incoming i.two_way i.svc) rest).1

pub lawful_numbers : (i : Interface) (m w s : ℕ) → is_numbering m w ≡ true → list_any (λ n. s == n) packet_sizes ≡ true → is_interface m w s i.pvc i.incoming i.two_way i.svc ≡ true
lawful_numbers i m w s numbered sized = λ j. numbered j && (sized j && own_channels i j)
