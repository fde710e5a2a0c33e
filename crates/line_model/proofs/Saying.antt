-- What a row says: by what is read of it, and by its packet.
use Rattle.std.proofs.Common.{◌≡◌, ◌∙◌, ap, ap₂, refl, sym, suc, ◌++◌, map, ℕ, ◌+◌, ◌*◌, Bool, true, false, not, cond, ◌&&◌, ◌==◌, nat_lt, List, [], ◌∷◌, length, take, Option, Some, None, arith}
use Rattle.std.specs.Prelude.{if◌then◌else◌, unwrap_or}
use Rattle.std.proofs.lemmas.Bool.Decides.{nat_tests}
use Rattle.line_model.specs.declared.interface.Interface.{Interface}
use Rattle.line_model.specs.declared.packet.Class.{Class}
use Rattle.line_model.specs.declared.packet.Class.TheVariants.{Short, WrongFormat, Unassigned, Restart, RestartConfirm, Diagnostic, Registration, TwoOctets, RestartHere, Call, Accepted, Clear, ClearConfirm, Interrupt, InterruptConfirm, Reset, ResetConfirm, Data, Rr, Rnr, Rej, Undefined}
use Rattle.line_model.specs.declared.packet.DataHeader.{DataHeader}
use Rattle.line_model.specs.declared.packet.Packet as packet
use Rattle.line_model.specs.declared.packet.PacketKind as kind
use Rattle.line_model.specs.basics.Records.{Row, Item, ReadRow}
use Rattle.line_model.specs.basics.Octets.{octet, bits, channel_of}
use Rattle.line_model.specs.basics.Choice.{first_that}
use Rattle.line_model.specs.packets.Classes.{class_of, data_header, format_of, line_type, packet_of, packet_with, receive_number, type_class}
use Rattle.std.specs.Prelude.{sum_by}
use Rattle.std.proofs.lemmas.List.Sums.{sum_by-cons}
use Rattle.line_model.specs.basics.Bounds.{AreRows, IsSaid, AreSaid}
use Rattle.line_model.specs.packets.Says.{items_of, is_unqualified, packet_or_gap, said_octets, item_of, read_octets, read_row, item_read}

-- the lists have the same first four octets, and both end before each of them or after it
record SameFront (xs ys : List ℕ) : Type 0 where
  short : nat_lt (length ys) 2 ≡ nat_lt (length xs) 2
  two_long : (length ys == 2) ≡ (length xs == 2)
  cut : nat_lt (length ys) 4 ≡ nat_lt (length xs) 4
  one : octet 1 ys ≡ octet 1 xs
  two : octet 2 ys ≡ octet 2 xs
  three : octet 3 ys ≡ octet 3 xs
  four : octet 4 ys ≡ octet 4 xs

front_itself : (xs : List ℕ) → SameFront xs xs
front_itself xs = record { short = refl; two_long = refl; cut = refl; one = refl; two = refl; three = refl; four = refl }

taken_front : (xs : List ℕ) → SameFront xs (take 4 xs)
taken_front [] = front_itself []
taken_front (a ∷ []) = front_itself (a ∷ [])
taken_front (a ∷ b ∷ []) = front_itself (a ∷ b ∷ [])
taken_front (a ∷ b ∷ c ∷ []) = front_itself (a ∷ b ∷ c ∷ [])
taken_front (a ∷ b ∷ c ∷ d ∷ es) = record {
  short = grind (arith, nat_tests);
  two_long = grind (arith, nat_tests);
  cut = grind (arith, nat_tests);
  one = refl;
  two = refl;
  three = refl;
  four = refl;
}

channel_same : (xs ys : List ℕ) → SameFront xs ys → channel_of ys ≡ channel_of xs
channel_same xs ys h = λ k. bits 4 1 (h.one k) * 256 + h.two k

-- the class of a packet by its first three octets, and whether it ends before the third
abbrev class_by : Interface → (short two_long : Bool) → (one two three : ℕ) → Class
class_by i short two_long one two three = first_that
    ((short, Short)
    ∷ (not (bits 6 5 one == format_of i), WrongFormat)
    ∷ (nat_lt i.svc (bits 4 1 one * 256 + two), Unassigned)
    ∷ ((bits 4 1 one * 256 + two) == 0, if two_long then Unassigned else unwrap_or (line_type three) Unassigned) ∷ [])
    (if two_long then TwoOctets else type_class i three)

class_same : (i : Interface) (xs ys : List ℕ) → SameFront xs ys → class_of i ys ≡ class_of i xs
class_same i xs ys h = λ k. class_by i (h.short k) (h.two_long k) (h.one k) (h.two k) (h.three k)

-- the header of a data packet by its octets, and whether it ends before the fourth
abbrev header_by : Interface → (cut : Bool) → (one three four : ℕ) → Option DataHeader
header_by i cut one three four = first_that
    ((
      i.modulus == 8,
      Some (record {
        send = bits 4 2 three;
        receive = bits 8 6 three;
        more = bits 5 5 three == 1;
        delivery = bits 7 7 one == 1;
        qualified = bits 8 8 one == 1;
      }),
    )
    ∷ (cut, None) ∷ [])
    (Some (record {
      send = bits 8 2 three;
      receive = bits 8 2 four;
      more = bits 1 1 four == 1;
      delivery = bits 7 7 one == 1;
      qualified = bits 8 8 one == 1;
    }))

header_same : (i : Interface) (xs ys : List ℕ) → SameFront xs ys → data_header i ys ≡ data_header i xs
header_same i xs ys h = λ k. header_by i (h.cut k) (h.one k) (h.three k) (h.four k)

abbrev receive_by : Interface → (cut : Bool) → (three four : ℕ) → Option ℕ
receive_by i cut three four = first_that
    ((i.modulus == 8, Some (bits 8 6 three))
    ∷ (cut, None) ∷ [])
    (Some (bits 8 2 four))

receive_same : (i : Interface) (xs ys : List ℕ) → SameFront xs ys → receive_number i ys ≡ receive_number i xs
receive_same i xs ys h = λ k. receive_by i (h.cut k) (h.three k) (h.four k)

with_same : (i : Interface) (xs ys : List ℕ) (k : Class) → SameFront xs ys → packet_with i ys k ≡ packet_with i xs k
with_same i xs ys Short h = refl
with_same i xs ys WrongFormat h = refl
with_same i xs ys Unassigned h = refl
with_same i xs ys Diagnostic h = refl
with_same i xs ys Registration h = refl
with_same i xs ys Restart h = refl
with_same i xs ys RestartConfirm h = refl
with_same i xs ys TwoOctets h = ap (λ n. packet.TheVariants.Channel n kind.TheVariants.TwoOctets) (channel_same xs ys h)
with_same i xs ys RestartHere h = ap (λ n. packet.TheVariants.Channel n kind.TheVariants.RestartHere) (channel_same xs ys h)
with_same i xs ys Call h = ap (λ n. packet.TheVariants.Channel n kind.TheVariants.Call) (channel_same xs ys h)
with_same i xs ys Accepted h = ap (λ n. packet.TheVariants.Channel n kind.TheVariants.Accepted) (channel_same xs ys h)
with_same i xs ys Clear h = ap (λ n. packet.TheVariants.Channel n kind.TheVariants.Clear) (channel_same xs ys h)
with_same i xs ys ClearConfirm h = ap (λ n. packet.TheVariants.Channel n kind.TheVariants.ClearConfirm) (channel_same xs ys h)
with_same i xs ys Interrupt h = ap (λ n. packet.TheVariants.Channel n kind.TheVariants.Interrupt) (channel_same xs ys h)
with_same i xs ys InterruptConfirm h = ap (λ n. packet.TheVariants.Channel n kind.TheVariants.InterruptConfirm) (channel_same xs ys h)
with_same i xs ys Reset h = ap (λ n. packet.TheVariants.Channel n kind.TheVariants.Reset) (channel_same xs ys h)
with_same i xs ys ResetConfirm h = ap (λ n. packet.TheVariants.Channel n kind.TheVariants.ResetConfirm) (channel_same xs ys h)
with_same i xs ys Rej h = ap (λ n. packet.TheVariants.Channel n kind.TheVariants.Rej) (channel_same xs ys h)
with_same i xs ys Undefined h = ap (λ n. packet.TheVariants.Channel n kind.TheVariants.Undefined) (channel_same xs ys h)
with_same i xs ys Data h = ap₂ (λ n d. packet.TheVariants.Channel n (kind.TheVariants.Data d)) (channel_same xs ys h) (header_same i xs ys h)
with_same i xs ys Rr h = ap₂ (λ n r. packet.TheVariants.Channel n (kind.TheVariants.Rr r)) (channel_same xs ys h) (receive_same i xs ys h)
with_same i xs ys Rnr h = ap₂ (λ n r. packet.TheVariants.Channel n (kind.TheVariants.Rnr r)) (channel_same xs ys h) (receive_same i xs ys h)

packet_same : (i : Interface) (xs ys : List ℕ) → SameFront xs ys → packet_of i ys ≡ packet_of i xs
packet_same i xs ys h = ap (packet_with i ys) (class_same i xs ys h) ∙ with_same i xs ys (class_of i xs) h

front_read : (xs : List ℕ) → SameFront xs (read_octets xs)
front_read xs = at (is_unqualified xs)
  where
    at : (b : Bool) → SameFront xs (cond b (take 4 xs) xs)
    at true = taken_front xs
    at false = front_itself xs

unqualified_same : (xs ys : List ℕ) → SameFront xs ys → is_unqualified ys ≡ is_unqualified xs
unqualified_same xs ys h = λ k. (bits 1 1 (h.three k) == 0) && (bits 8 8 (h.one k) == 0)

said_read : (xs : List ℕ) → said_octets (read_octets xs) ≡ said_octets xs
said_read xs = ap (λ b. cond b [] (read_octets xs)) (unqualified_same xs (read_octets xs) (front_read xs)) ∙ at (is_unqualified xs)
  where
    at : (b : Bool) → cond b [] (cond b (take 4 xs) xs) ≡ cond b [] xs
    at true = refl
    at false = refl

-- a row says the same as what is read of it
pub read_says : (i : Interface) (r : Row) → item_read i (read_row r) ≡ item_of i r
read_says i r =
    ap₂ (λ p os. record { number = r.number; side = r.side; packet = p; length = length r.octets; octets = os })
    (ap (packet_or_gap r.gap) (packet_same i r.octets (read_octets r.octets) (front_read r.octets))) (said_read r.octets)

-- ---- what several rows say

pub all_said : (i : Interface) (rs : List Row) → AreRows i rs → AreSaid i (items_of i rs)
all_said i [] lawful = tt
all_said i (r ∷ rs) lawful = (record { row = r; lawful = lawful.0; says = refl }, all_said i rs lawful.1)

-- of all items the last
pub last_said : (i : Interface) (items : List Item) (item : Item) → AreSaid i (items ++ item ∷ []) → IsSaid i item
last_said i [] item said = said.0
last_said i (x ∷ items) item said = last_said i items item said.1

pub said_numbers : (i : Interface) (rs : List Row) → map (λ r. r.number) (items_of i rs) ≡ map (λ r. r.number) rs
said_numbers i [] = refl
said_numbers i (r ∷ rs) = ap (λ ns. r.number ∷ ns) (said_numbers i rs)

pub said_lengths : (i : Interface) (rs : List Row) → sum_by (λ r. r.length) (items_of i rs) ≡ sum_by (λ r. length r.octets) rs
said_lengths i [] = refl
said_lengths i (r ∷ rs) = sum_by-cons (λ (x : Item). x.length) (item_of i r) (items_of i rs) ∙ ap (λ n. length r.octets + n) (said_lengths i rs) ∙ sym (sum_by-cons (λ (x : Row). length x.octets) r rs)

pub said_count : (i : Interface) (rs : List Row) → length (items_of i rs) ≡ length rs
said_count i [] = refl
said_count i (r ∷ rs) = ap suc (said_count i rs)

pub items_more : (i : Interface) (rs more : List Row) → items_of i (rs ++ more) ≡ items_of i rs ++ items_of i more
items_more i [] more = refl
items_more i (r ∷ rs) more = ap (λ l. item_of i r ∷ l) (items_more i rs more)

-- what rows say, and one that was read after them
pub row_said : (i : Interface) (rs : List Row) (r : Row) (row : ReadRow) → row ≡ read_row r → items_of i rs ++ item_read i row ∷ [] ≡ items_of i (rs ++ r ∷ [])
row_said i rs r row is = ap (λ item. items_of i rs ++ item ∷ []) (ap (item_read i) is ∙ read_says i r) ∙ sym (items_more i rs (r ∷ []))
