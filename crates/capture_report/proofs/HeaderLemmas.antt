-- The channels of a line as they are kept, and the header of a capture of which nothing is given.
use Rattle.std.proofs.Common.{◌≡◌, ◌∙◌, ap, refl, ℕ, zero, suc, ◌+◌, ◌-◌, ◌<◌, ◌≤◌, Bool, true, false, List, [], ◌∷◌, ◌++◌, length, length-append, append-nil, append_assoc, replicate, Option, None, Some, arith, find, unwrap_or}
use Rattle.std.specs.Prelude.{◌==◌, ◌||◌, is_some, min, nat_le, nat_lt, if◌then◌else◌}
use Rattle.std.specs.List.{list_any}
use Rattle.std.proofs.lemmas.Bool.{le-leb, lt-ltb}
use Rattle.std.proofs.Math.Bool.{or-true}
use Rattle.std.proofs.lemmas.Bool.Decides.{nat_tests}
use Rattle.line_model.specs.basics.Limits.{IsInterface, is_numbering, packet_sizes}
use Rattle.line_model.specs.declared.interface.Interface.{Interface}
use Rattle.trace_text.proofs.HeaderLemmas.{own_numbers}
use Rattle.packet_decode.specs.Shown.{IsPacketSize}
use Rattle.lapb_link.specs.declared.modulus.Modulus.{Modulus}
use Rattle.line_model.specs.text.Header.{interface_with}
use Rattle.capture_report.specs.Circuits.{given_with}
use Rattle.capture_report.specs.Given.{is_unnamed, none_given}
use Rattle.capture_report.specs.HeaderChannels.{ChannelList, channel_at, last_below, widened}
use Rattle.capture_report.specs.Headers.{last_channel, modulus_by, numbers_with, permanent_seen, size_seen, smallest_size, window_below}
use Rattle.capture_report.specs.Laws.{CircuitHeaderLaw, PlainLaw}
use Rattle.capture_report.specs.declared.header.Seen.{Seen}
use Rattle.capture_report.specs.declared.options.GivenHeader.{GivenHeader}
use Rattle.capture_report.specs.declared.header_channels.SeenChannel.{SeenChannel}

-- a channel more is one of those that the list lacks
pub widened_more : (n : ℕ) (rest : SeenChannel) (xs : List SeenChannel) → length xs ≤ n → widened n rest (xs ++ rest ∷ []) ≡ widened n rest xs
widened_more n rest xs h =
    let fewer : n + 1 - length (xs ++ rest ∷ []) ≡ n - length xs = omega (arith, h, length-append xs (rest ∷ [])) in
    let more : suc (n - length xs) ≡ n + 1 - length xs = omega (arith, h) in
    append_assoc xs (rest ∷ []) (replicate (n + 1 - length (xs ++ rest ∷ [])) rest)
    ∙ ap (λ k. xs ++ (rest ∷ replicate k rest)) fewer ∙ ap (λ k. xs ++ replicate k rest) more

-- it lacks none
pub widened_whole : (n : ℕ) (rest : SeenChannel) (xs : List SeenChannel) → n < length xs → widened n rest xs ≡ xs
widened_whole n rest xs h =
    let none : n + 1 - length xs ≡ 0 = omega (arith, h) in
    ap (λ k. xs ++ replicate k rest) none ∙ append-nil xs

-- ---- the last channel that was used

pub last_none : (c : ChannelList) (n : ℕ) → n ≤ 0 → last_below c n ≡ 0
last_none c n h = let none : n ≡ 0 = omega (arith, h) in ap (last_below c) none

pub last_used : (c : ChannelList) (n : ℕ) → 0 < n → (channel_at c (n - 1)).is_used ≡ true → last_below c n ≡ n - 1
last_used c n some h = let more : n ≡ suc (n - 1) = omega (arith, some) in ap (last_below c) more ∙ rw h refl

pub last_unused : (c : ChannelList) (n : ℕ) → 0 < n → (channel_at c (n - 1)).is_used ≡ false → last_below c n ≡ last_below c (n - 1)
last_unused c n some h = let more : n ≡ suc (n - 1) = omega (arith, some) in ap (last_below c) more ∙ rw h refl

last_few : (c : ChannelList) (n : ℕ) → last_below c n ≤ n - 1
last_few c zero = omega arith
last_few c (suc n) = below (channel_at c n).is_used (last_few c n)
  where
    below : (b : Bool) → last_below c n ≤ n - 1 → (if b then n else last_below c n) ≤ suc n - 1
    below true few = omega arith
    below false few = omega (arith, few)

-- ---- where nothing is given there is a header

numbered : (m w : ℕ) → ((m == 8) || (m == 128)) ≡ true → 1 ≤ w → w < m → is_numbering m w ≡ true
numbered m w h some few = rw (h, le-leb 1 w some, lt-ltb w m few) refl

window_there : (v : Seen) → is_numbering (modulus_by None v) (window_below (modulus_by None v) v) ≡ true
window_there v = at (nat_lt v.of_8 v.of_128) (v.most == 0) refl
  where
    at : (b none : Bool) → (v.most == 0) ≡ none → is_numbering (if b then 128 else 8) (if none then 2 else min v.most ((if b then 128 else 8) - 1)) ≡ true
    at true true e = refl
    at false true e = refl
    at true false e = numbered 128 (min v.most (128 - 1)) refl (grind (arith, nat_tests, e)) (omega arith)
    at false false e = numbered 8 (min v.most (8 - 1)) refl (grind (arith, nat_tests, e)) (omega arith)

found_in : (n a : ℕ) (xs : List ℕ) → find (λ size. nat_le n size) xs ≡ Some a → list_any (λ m. a == m) xs ≡ true
found_in n a [] e = cc e
found_in n a (x ∷ xs) e = at (nat_le n x) (found_in n a xs) e
  where
    at : (b : Bool) → (find (λ size. nat_le n size) xs ≡ Some a → list_any (λ m. a == m) xs ≡ true) → (if b then Some x else find (λ size. nat_le n size) xs) ≡ Some a → ((a == x) || list_any (λ m. a == m) xs) ≡ true
    at true later e = let same : (a == x) ≡ true = (let is : a ≡ x = cc e in grind (arith, nat_tests, is)) in rw same refl
    at false later e = rw (later e) (or-true (a == x))

size_listed : (v : Seen) → IsPacketSize (size_seen v)
size_listed v = at (v.largest == 0)
  where
    of : (o : Option ℕ) → ((a : ℕ) → o ≡ Some a → list_any (λ m. a == m) packet_sizes ≡ true) → IsPacketSize (unwrap_or o 4096)
    of None h = refl
    of (Some a) h = h a refl

    at : (b : Bool) → IsPacketSize (if b then 128 else smallest_size v.largest)
    at true = refl
    at false = of (find (λ size. nat_le v.largest size) packet_sizes) (λ a. found_in v.largest a packet_sizes)

in_range : (m w s p a l : ℕ) → is_numbering m w ≡ true → IsPacketSize s → p ≤ a → a ≤ l → 1 ≤ l → l ≤ 4095 → IsInterface m w s p a l l
in_range m w s p a l numbering size few same some most =
    rw (numbering, size, le-leb 1 l some, le-leb l 4095 most, le-leb p a few, le-leb a l same, le-leb l l (omega arith)) refl

-- a header of which the permanent channels and the beginning alone are given, or neither
abbrev counted_header : (pvc : Option ℕ) → (join : Option Bool) → GivenHeader
counted_header pvc join = record none_given { pvc = pvc; join = join }

counted_there : (pvc : Option ℕ) (join : Option Bool) (v : Seen) → unwrap_or pvc (permanent_seen v) ≤ 4095 → is_some (interface_with (numbers_with (counted_header pvc join) v)) ≡ true
counted_there pvc join v few =
    let n = numbers_with (counted_header pvc join) v in
    let lawful = in_range n.modulus n.window n.size n.pvc n.incoming n.svc (window_there v) (size_listed v) (omega (arith, few)) (omega (arith, few)) (omega (arith, few)) (omega (arith, few)) in
    let i : Interface = record { modulus = n.modulus; window = n.window; size = n.size; pvc = n.pvc; incoming = n.incoming; two_way = n.two_way; svc = n.svc; join = n.join; gaps = n.gaps; lawful = lawful } in
    ap (λ o. is_some o) {x = interface_with n} {y = Some i} (own_numbers i)

plain_header : (v : Seen) → is_some (interface_with (numbers_with none_given v)) ≡ true
plain_header v = counted_there None None v (omega (arith, last_few v.channels (min v.first_call (last_channel v + 1))))

unnamed : (g : GivenHeader) → is_unnamed g ≡ true → g ≡ none_given
unnamed g h = at g.modulus g.window g.size g.pvc g.incoming g.two_way g.svc g.outgoing g.join h
  where
    at : (m : Option Modulus) (w s p i t l o : Option ℕ) (j : Option Bool) → let given : GivenHeader = record { modulus = m; window = w; size = s; pvc = p; incoming = i; two_way = t; svc = l; outgoing = o; join = j } in is_unnamed given ≡ true → given ≡ none_given
    at None None None None None None None None None h = refl
    at (Some m) w s p i t l o j h = cc h
    at None (Some w) s p i t l o j h = cc h
    at None None (Some s) p i t l o j h = cc h
    at None None None (Some p) i t l o j h = cc h
    at None None None None (Some i) t l o j h = cc h
    at None None None None None (Some t) l o j h = cc h
    at None None None None None None (Some l) o j h = cc h
    at None None None None None None None (Some o) j h = cc h
    at None None None None None None None None (Some j) h = cc h

pub header_there : PlainLaw
header_there g v h = ap (λ (given : GivenHeader). is_some (interface_with (numbers_with given v))) (unnamed g h) ∙ plain_header v

pub circuits_header_there : CircuitHeaderLaw
circuits_header_there g circuits v h =
    ap (λ (given : GivenHeader). is_some (interface_with (numbers_with (given_with given circuits) v))) (unnamed g h) ∙ counted_there (given_with none_given circuits).pvc (Some false) v (omega arith)
