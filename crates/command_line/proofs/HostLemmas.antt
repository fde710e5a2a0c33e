-- The host that the text of an address names.
use Rattle.std.proofs.Common.{◌≡◌, ◌∙◌, ap, append-nil, lit≤, refl, subst, sym, List, [], ◌∷◌, ◌++◌, ℕ, Option, Some, None, Result, Ok, Err}
use Rattle.std.specs.Net.Addr.{ipv4_octets, ipv6_segments}
use Rattle.std.specs.Net.Grammar.{IsColonHex, IsDotted, IsIpText, Parses}
use Rattle.std.specs.Net.Reader.{Read, read_ipv4, read_ipv6}
use Rattle.std.specs.Option.{option_map, option_or}
use Rattle.std.specs.declared.net.ip_addr.IpAddr.{IpAddr}
use Rattle.std.specs.declared.net.ip_addr.IpAddr.TheVariants.{V4, V6}
use Rattle.std.specs.declared.net.ipv4_addr.Ipv4Addr.{Ipv4Addr}
use Rattle.std.specs.declared.net.ipv6_addr.Ipv6Addr.{Ipv6Addr}
use Rattle.std.proofs.NetLemmas.Ipv4.{read_ipv4_complete, read_ipv4_sound}
use Rattle.std.proofs.NetLemmas.Ipv6.{EndsGroups-nil, IsDotted-not_colon_hex, read_ipv6_complete, read_ipv6_sound}
use Rattle.xot_circuits.specs.declared.roles.Host.{Host}
use Rattle.command_line.specs.Captures.{host_by_octets, host_by_segments, host_named, host_of, whole}

-- what is read of a whole text
dotted_read : (text octets : List ℕ) → IsDotted text octets → read_ipv4 text ≡ Some (octets, [])
dotted_read text octets h = ap read_ipv4 (sym (append-nil text)) ∙ read_ipv4_complete text octets [] h (lit≤ tt)

hex_read : (text segments : List ℕ) → IsColonHex text segments → read_ipv6 text ≡ Some (segments, [])
hex_read text segments h = ap read_ipv6 (sym (append-nil text)) ∙ read_ipv6_complete text segments [] h EndsGroups-nil

read_dotted : (text octets : List ℕ) → read_ipv4 text ≡ Some (octets, []) → IsDotted text octets
read_dotted text octets h =
    let s = read_ipv4_sound text octets [] h in
    subst (λ (t : List ℕ). IsDotted t octets) (sym (s.1 ∙ append-nil s.0)) s.2

read_hex : (text segments : List ℕ) → read_ipv6 text ≡ Some (segments, []) → IsColonHex text segments
read_hex text segments h =
    let s = read_ipv6_sound text segments [] h in
    subst (λ (t : List ℕ). IsColonHex t segments) (sym (s.1 ∙ append-nil s.0)) s.2

not_dotted : (text : List ℕ) → ((octets : List ℕ) → IsDotted text octets → ⊥) → whole (read_ipv4 text) ≡ None
not_dotted text none = at (read_ipv4 text) refl
  where
    at : (r : Read (List ℕ)) → read_ipv4 text ≡ r → whole r ≡ None
    at None e = refl
    at (Some (xs, [])) e = absurd (none xs (read_dotted text xs e))
    at (Some (xs, y ∷ ys)) e = refl

not_hex : (text : List ℕ) → ((segments : List ℕ) → IsColonHex text segments → ⊥) → whole (read_ipv6 text) ≡ None
not_hex text none = at (read_ipv6 text) refl
  where
    at : (r : Read (List ℕ)) → read_ipv6 text ≡ r → whole r ≡ None
    at None e = refl
    at (Some (xs, [])) e = absurd (none xs (read_hex text xs e))
    at (Some (xs, y ∷ ys)) e = refl

abbrev host_read : Option (List ℕ) → Option (List ℕ) → Option Host
host_read four six = option_or (option_map host_by_octets four) (option_map host_by_segments six)

-- the host of the address that a text writes
named_is : (text : List ℕ) (a : IpAddr) → IsIpText text a → host_named text ≡ Some (host_of a)
named_is text (V4 a) h = ap (λ (r : Read (List ℕ)). host_read (whole r) (whole (read_ipv6 text))) (dotted_read text (ipv4_octets a) h)
named_is text (V6 a) h =
    let none = not_dotted text (λ octets dotted. IsDotted-not_colon_hex text octets (ipv6_segments a) dotted h) in
    ap (λ (four : Option (List ℕ)). host_read four (whole (read_ipv6 text))) none
    ∙ ap (λ (r : Read (List ℕ)). host_read None (whole r)) (hex_read text (ipv6_segments a) h)

-- a text that writes no address names none
none_is : (text : List ℕ) → ((a : IpAddr) → IsIpText text a → ⊥) → host_named text ≡ None
none_is text none =
    let four = not_dotted text (λ octets h. let a : Ipv4Addr = record { octets = octets } in none (V4 a) h) in
    let six = not_hex text (λ segments h. let a : Ipv6Addr = record { segments = segments } in none (V6 a) h) in
    ap (λ (r : Option (List ℕ)). host_read r (whole (read_ipv6 text))) four ∙ ap (host_read None) six

pub host_parsed : {E : Type 0} (text : List ℕ) (r : Result IpAddr E) (a : IpAddr) → Parses IsIpText text r → r ≡ Ok a → Some (host_of a) ≡ host_named text
host_parsed text (Ok b) a h is = let same : a ≡ b = cc is in ap (λ (x : IpAddr). Some (host_of x)) same ∙ sym (named_is text b h)
host_parsed text (Err e) a h is = cc is

pub none_parsed : {E : Type 0} (text : List ℕ) (r : Result IpAddr E) (e : E) → Parses IsIpText text r → r ≡ Err e → None ≡ host_named text
none_parsed text (Ok b) e h is = cc is
none_parsed text (Err x) e h is = sym (none_is text h)
