-- Data and RR in d1: the entry is the same in both tables, on a permanent circuit and on a virtual channel.
use Rattle.std.proofs.Common.{◌≡◌, ◌≤◌, ◌<◌, ◌+◌, ◌-◌, ℕ, Bool, true, false, refl, sym, ◌∙◌, ap, arith, Option, Some, None}
use Rattle.std.proofs.lemmas.Bool.Decides.{nat_tests}
use Rattle.line_model.specs.basics.Records.{Item}
use Rattle.line_model.specs.declared.interface.Interface.{Interface}
use Rattle.line_model.specs.declared.packet.Class.{Class}
use Rattle.line_model.specs.declared.packet.Class.TheVariants.{Data, Rr}
use Rattle.line_model.specs.declared.state.ChannelState.TheVariants.{Transfer}
use Rattle.line_model.specs.declared.state.DState.TheVariants.{D1}
use Rattle.line_model.specs.declared.state.Side.{Side}
use Rattle.line_model.specs.declared.state.Side.TheVariants.{T, N}
use Rattle.line_model.specs.declared.state.StateName.TheVariants as name
use Rattle.line_model.specs.declared.table.Action.TheVariants.{Normal}
use Rattle.line_model.specs.channels.Channels.{Channel, is_permanent}
use Rattle.line_model.specs.channels.ChannelStep.{channel_step, failing, judged, transferring, verdict, verdict_step}
use Rattle.line_model.specs.packets.Classes.{header_length, packet_class}
use Rattle.line_model.specs.packets.Formats.{direction_fault, format_fault, or_other, packet_fault, size_in_force}
use Rattle.channel_machine.specs.Channels.{Known, StatusRepresents}
use Rattle.channel_machine.specs.Entries.{entry_step}
use Rattle.channel_machine.specs.Lengths.{outside}

data_in_d1 : (permanent : Bool) (x : Side) (owed : Bool) → record { state = name.D1; entry = Normal } ≡ judged permanent x (Transfer D1) owed Data
data_in_d1 true T owed = refl
data_in_d1 true N owed = refl
data_in_d1 false T owed = refl
data_in_d1 false N owed = refl

ready_in_d1 : (permanent : Bool) (x : Side) (owed : Bool) → record { state = name.D1; entry = Normal } ≡ judged permanent x (Transfer D1) owed Rr
ready_in_d1 true T owed = refl
ready_in_d1 true N owed = refl
ready_in_d1 false T owed = refl
ready_in_d1 false N owed = refl

-- what such a row does, by the fault of its packet
by_fault : (i : Interface) (n : ℕ) (c : Channel) (r : Item) (p : Known) (k : Class) (f : Option ℕ) → p.state ≡ Transfer D1 → StatusRepresents p c → packet_class r.packet ≡ k →
    record { state = name.D1; entry = Normal } ≡ judged (is_permanent i n) r.side (Transfer D1) c.owed k → packet_fault i n c r ≡ f →
    verdict_step i name.D1 r (verdict (record { state = name.D1; entry = Normal }) f) c ≡ channel_step i n c r
by_fault i n c r p k f in_d1 represented class entry fault =
    ap (λ g. verdict_step i name.D1 r (verdict (record { state = name.D1; entry = Normal }) g) c) (sym fault)
    ∙ ap (λ j. entry_step i n j r c)
    (entry ∙ (λ j. judged (is_permanent i n) r.side ((sym in_d1 ∙ represented.state) j) c.owed (sym class j)))

-- the format of a packet that no direction is against
undirected_fault : (i : Interface) (n : ℕ) (c : Channel) (r : Item) (k : Class) (f : Option ℕ) → packet_class r.packet ≡ k → direction_fault i n r.side k ≡ None → format_fault i c r.side k r.length r.octets ≡ f → packet_fault i n c r ≡ f
undirected_fault i n c r k f class none fault =
    ap (λ v. or_other (direction_fault i n r.side v) (format_fault i c r.side v r.length r.octets)) class
    ∙ ap (λ d. or_other d (format_fault i c r.side k r.length r.octets)) none ∙ fault

too_long : (n header size : ℕ) → header ≤ n → size < n - header → outside header (header + size) n ≡ Some 39
too_long n header size whole long = grind (arith, nat_tests, whole, long)

within : (n header size : ℕ) → header ≤ n → n - header ≤ size → outside header (header + size) n ≡ None
within n header size whole few = grind (arith, nat_tests, whole, few)

exact : (n header : ℕ) → n ≡ header → outside header header n ≡ None
exact n header e = grind (arith, nat_tests, e)

-- data with too many octets
pub long_data : (i : Interface) (n : ℕ) (c : Channel) (r : Item) (p : Known) → p.state ≡ Transfer D1 → StatusRepresents p c → packet_class r.packet ≡ Data →
    header_length i ≤ r.length → size_in_force i c r.side < r.length - header_length i → failing r.side name.D1 39 c ≡ channel_step i n c r
long_data i n c r p in_d1 represented class whole long =
    by_fault i n c r p Data (Some 39) in_d1 represented class (data_in_d1 (is_permanent i n) r.side c.owed)
    (undirected_fault i n c r Data (Some 39) class refl (too_long r.length (header_length i) (size_in_force i c r.side) whole long))

-- data with no more octets than may be
pub fine_data : (i : Interface) (n : ℕ) (c : Channel) (r : Item) (p : Known) → p.state ≡ Transfer D1 → StatusRepresents p c → packet_class r.packet ≡ Data →
    header_length i ≤ r.length → r.length - header_length i ≤ size_in_force i c r.side → transferring i name.D1 Data r c ≡ channel_step i n c r
fine_data i n c r p in_d1 represented class whole few =
    ap (λ k. transferring i name.D1 k r c) (sym class)
    ∙ by_fault i n c r p Data None in_d1 represented class (data_in_d1 (is_permanent i n) r.side c.owed)
    (undirected_fault i n c r Data None class refl (within r.length (header_length i) (size_in_force i c r.side) whole few))

-- RR with a header alone
pub fine_ready : (i : Interface) (n : ℕ) (c : Channel) (r : Item) (p : Known) → p.state ≡ Transfer D1 → StatusRepresents p c → packet_class r.packet ≡ Rr →
    r.length ≡ header_length i → transferring i name.D1 Rr r c ≡ channel_step i n c r
fine_ready i n c r p in_d1 represented class whole =
    ap (λ k. transferring i name.D1 k r c) (sym class)
    ∙ by_fault i n c r p Rr None in_d1 represented class (ready_in_d1 (is_permanent i n) r.side c.owed)
    (undirected_fault i n c r Rr None class refl (exact r.length (header_length i) whole))
