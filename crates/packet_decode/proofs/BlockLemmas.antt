-- The faults of a call packet, by its address block and what follows it.
use Rattle.std.proofs.Common.{◌≡◌, ◌∙◌, ◌<◌, ◌≤◌, ◌+◌, nat_lt, ℕ, Bool, true, false, refl, sym, ap, List, [], ◌∷◌, ◌++◌, length, drop, Some, None, Result, Ok, Err, subst}
use Rattle.std.specs.Prelude.{MatchResult}
use Rattle.std.specs.Result.{IsErrAnd}
use Rattle.std.specs.Prelude.{◌&&◌, ◌||◌, is_none}
use Rattle.std.specs.List.{list_any}
use Rattle.std.proofs.lemmas.Bool.{le-ltb, lt-ltb}
use Rattle.line_model.specs.declared.diagnostic.TheConstants.{PACKET_TOO_SHORT, PACKET_TOO_LONG, FACILITY_PARAMETER_NOT_ALLOWED, INVALID_CALLED_DTE_ADDRESS, INVALID_CALLING_DTE_ADDRESS, INVALID_FACILITY_OR_REGISTRATION_LENGTH}
use Rattle.line_model.specs.declared.interface.Interface.{Interface}
use Rattle.line_model.specs.basics.Choice.{first_fault}
use Rattle.line_model.specs.basics.Octets.{octet}
use Rattle.line_model.specs.packets.Facilities.{CallFields, address_octets, after_addresses, ascii_digits, asked_sizes, asked_windows, asks_fast, asks_reverse, block_fault, called_digits, calling_digits, facilities_of, fields_of, has_a_bit, is_out_of_range, no_fields, read_facilities, user_data, user_data_limit}
use Rattle.packet_decode.specs.Blocks.{address_fault}
use Rattle.packet_decode.specs.CallFaults.{facility_field, is_field_cut, tail_fault}
use Rattle.packet_decode.specs.Reading.{ReadsAs, charges_fast, read_of}
use Rattle.packet_decode.specs.declared.facility.Asked.{Asked}

-- faults after those that do not hold, and after one that does
none_by : (b : Bool) (x : ℕ) (cs ds : List (Bool × ℕ)) → (first_fault cs ≡ None → first_fault (cs ++ ds) ≡ first_fault ds) →
    first_fault ((b, x) ∷ cs) ≡ None → first_fault ((b, x) ∷ cs ++ ds) ≡ first_fault ds
none_by true x cs ds later h = cc
none_by false x cs ds later h = later h

none_before : (cs ds : List (Bool × ℕ)) → first_fault cs ≡ None → first_fault (cs ++ ds) ≡ first_fault ds
none_before [] ds h = refl
none_before (c ∷ cs) ds h = none_by c.0 c.1 cs ds (none_before cs ds) h

some_by : (b : Bool) (x k : ℕ) (cs ds : List (Bool × ℕ)) → (first_fault cs ≡ Some k → first_fault (cs ++ ds) ≡ Some k) →
    first_fault ((b, x) ∷ cs) ≡ Some k → first_fault ((b, x) ∷ cs ++ ds) ≡ Some k
some_by true x k cs ds later h = h
some_by false x k cs ds later h = later h

some_before : (cs ds : List (Bool × ℕ)) (k : ℕ) → first_fault cs ≡ Some k → first_fault (cs ++ ds) ≡ Some k
some_before [] ds k h = cc
some_before (c ∷ cs) ds k h = some_by c.0 c.1 k cs ds (some_before cs ds k) h

abbrev address_tests : List ℕ → List (Bool × ℕ)
address_tests xs =
    (nat_lt (length xs) (4 + address_octets xs), PACKET_TOO_SHORT)
    ∷ (list_any (λ d. nat_lt 9 d) (called_digits xs), INVALID_CALLED_DTE_ADDRESS)
    ∷ (list_any (λ d. nat_lt 9 d) (calling_digits xs), INVALID_CALLING_DTE_ADDRESS) ∷ []

-- the faults of the facilities and of the user data
abbrev field_tests : Interface → (fast : Bool) → List ℕ → List (Bool × ℕ)
field_tests i fast ys =
    (is_none (facilities_of (length (facility_field ys)) (facility_field ys)), INVALID_FACILITY_OR_REGISTRATION_LENGTH)
    ∷ (list_any (is_out_of_range i) (read_of (facility_field ys)), FACILITY_PARAMETER_NOT_ALLOWED)
    ∷ (nat_lt (user_data_limit (asks_fast (read_of (facility_field ys)) || fast)) (length (drop (1 + octet 1 ys) ys)), PACKET_TOO_LONG) ∷ []

abbrev cut_tests : (is_long is_cut : Bool) → List (Bool × ℕ) → List (Bool × ℕ)
cut_tests is_long is_cut cs = (is_long, INVALID_FACILITY_OR_REGISTRATION_LENGTH) ∷ (is_cut, INVALID_FACILITY_OR_REGISTRATION_LENGTH) ∷ cs

abbrev tail_tests : Interface → (fast : Bool) → List ℕ → List (Bool × ℕ)
tail_tests i fast ys = cut_tests (nat_lt 109 (octet 1 ys)) (nat_lt (length ys) (1 + octet 1 ys) && nat_lt 0 (length ys)) (field_tests i fast ys)

pub block_after : (i : Interface) (fast : Bool) (xs : List ℕ) → address_fault xs ≡ None → block_fault i fast xs ≡ tail_fault i fast (after_addresses xs)
block_after i fast xs h = none_before (address_tests xs) (tail_tests i fast (after_addresses xs)) h

pub block_refused : (i : Interface) (fast : Bool) (xs : List ℕ) (k : ℕ) → address_fault xs ≡ Some k → block_fault i fast xs ≡ Some k
block_refused i fast xs k h = some_before (address_tests xs) (tail_tests i fast (after_addresses xs)) k h

-- what follows the addresses: its facilities are cut
cut_fault : (a b : Bool) (cs : List (Bool × ℕ)) → (a || b) ≡ true → first_fault (cut_tests a b cs) ≡ Some INVALID_FACILITY_OR_REGISTRATION_LENGTH
cut_fault true b cs h = refl
cut_fault false true cs h = refl
cut_fault false false cs h = cc

pub tail_cut : (i : Interface) (fast : Bool) (ys : List ℕ) → is_field_cut ys ≡ true → tail_fault i fast ys ≡ Some INVALID_FACILITY_OR_REGISTRATION_LENGTH
tail_cut i fast ys h = cut_fault _ _ (field_tests i fast ys) h

whole_fault : (a b : Bool) (cs : List (Bool × ℕ)) → (a || b) ≡ false → first_fault (cut_tests a b cs) ≡ first_fault cs
whole_fault true b cs h = cc
whole_fault false true cs h = cc
whole_fault false false cs h = refl

-- they are whole
tail_whole : (i : Interface) (fast : Bool) (ys : List ℕ) → is_field_cut ys ≡ false → tail_fault i fast ys ≡ first_fault (field_tests i fast ys)
tail_whole i fast ys h = whole_fault _ _ (field_tests i fast ys) h

pub tail_broken : (i : Interface) (fast : Bool) (ys : List ℕ) → is_field_cut ys ≡ false → is_none (facilities_of (length (facility_field ys)) (facility_field ys)) ≡ true →
    tail_fault i fast ys ≡ Some INVALID_FACILITY_OR_REGISTRATION_LENGTH
tail_broken i fast ys h none =
    tail_whole i fast ys h ∙ ap (λ b. first_fault ((b, INVALID_FACILITY_OR_REGISTRATION_LENGTH)
    ∷ (list_any (is_out_of_range i) (read_of (facility_field ys)), FACILITY_PARAMETER_NOT_ALLOWED)
    ∷ (nat_lt (user_data_limit (asks_fast (read_of (facility_field ys)) || fast)) (length (drop (1 + octet 1 ys) ys)), PACKET_TOO_LONG) ∷ [])) none

-- the faults that are left once they are read
abbrev read_tests : (is_out is_long : Bool) → List (Bool × ℕ)
read_tests is_out is_long = (is_out, FACILITY_PARAMETER_NOT_ALLOWED) ∷ (is_long, PACKET_TOO_LONG) ∷ []

tail_read : (i : Interface) (fast : Bool) (ys : List ℕ) (a : Asked) → is_field_cut ys ≡ false → ReadsAs i (facility_field ys) a →
    tail_fault i fast ys ≡ first_fault (read_tests a.out_of_range (nat_lt (user_data_limit (charges_fast a || fast)) (length (drop (1 + octet 1 ys) ys))))
tail_read i fast ys a h r =
    let out : Bool = list_any (is_out_of_range i) (read_of (facility_field ys)) in
    let left : ℕ = length (drop (1 + octet 1 ys) ys) in
    let long : Bool = nat_lt (user_data_limit (asks_fast (read_of (facility_field ys)) || fast)) left in
    tail_whole i fast ys h
    ∙ ap (λ b. first_fault ((b, INVALID_FACILITY_OR_REGISTRATION_LENGTH) ∷ read_tests out long)) r.whole
    ∙ ap (λ b. first_fault (read_tests b long)) r.range
    ∙ ap (λ b. first_fault (read_tests a.out_of_range (nat_lt (user_data_limit (b || fast)) left))) r.fast

pub tail_out : (i : Interface) (fast : Bool) (ys : List ℕ) (a : Asked) → is_field_cut ys ≡ false → ReadsAs i (facility_field ys) a → a.out_of_range ≡ true →
    tail_fault i fast ys ≡ Some FACILITY_PARAMETER_NOT_ALLOWED
tail_out i fast ys a h r out =
    tail_read i fast ys a h r ∙ ap (λ b. first_fault (read_tests b (nat_lt (user_data_limit (charges_fast a || fast)) (length (drop (1 + octet 1 ys) ys))))) out

pub tail_by_length : (i : Interface) (fast : Bool) (ys : List ℕ) (a : Asked) → is_field_cut ys ≡ false → ReadsAs i (facility_field ys) a → a.out_of_range ≡ false →
    tail_fault i fast ys ≡ first_fault ((nat_lt (user_data_limit (charges_fast a || fast)) (length (drop (1 + octet 1 ys) ys)), PACKET_TOO_LONG) ∷ [])
tail_by_length i fast ys a h r inside =
    tail_read i fast ys a h r ∙ ap (λ b. first_fault (read_tests b (nat_lt (user_data_limit (charges_fast a || fast)) (length (drop (1 + octet 1 ys) ys))))) inside

pub tail_long : (i : Interface) (fast : Bool) (ys : List ℕ) (a : Asked) → is_field_cut ys ≡ false → ReadsAs i (facility_field ys) a → a.out_of_range ≡ false →
    user_data_limit (charges_fast a || fast) < length (drop (1 + octet 1 ys) ys) → tail_fault i fast ys ≡ Some PACKET_TOO_LONG
tail_long i fast ys a h r inside long =
    tail_by_length i fast ys a h r inside ∙ ap (λ b. first_fault ((b, PACKET_TOO_LONG) ∷ [])) (lt-ltb _ _ long)

pub tail_none : (i : Interface) (fast : Bool) (ys : List ℕ) (a : Asked) → is_field_cut ys ≡ false → ReadsAs i (facility_field ys) a → a.out_of_range ≡ false →
    length (drop (1 + octet 1 ys) ys) ≤ user_data_limit (charges_fast a || fast) → tail_fault i fast ys ≡ None
tail_none i fast ys a h r inside short =
    tail_by_length i fast ys a h r inside ∙ ap (λ b. first_fault ((b, PACKET_TOO_LONG) ∷ [])) (le-ltb _ _ short)

-- the fault that a call refused with
pub refused_with : {T : Type 0} (r : Result T ℕ) (e : ℕ) (P : T → Type 0) (Q : ℕ → Type 0) → IsErrAnd r (λ y. y ≡ e) → Q e → MatchResult r P Q
refused_with (Ok x) e P Q h q = absurd h
refused_with (Err y) e P Q h q = subst Q (sym h) q

-- the fields, one by one
pub fields_are : (xs : List ℕ) (f : CallFields) → has_a_bit xs ≡ false → f.called ≡ ascii_digits (called_digits xs) → f.calling ≡ ascii_digits (calling_digits xs) →
    f.reverse_charging ≡ asks_reverse (read_facilities xs) → f.fast ≡ asks_fast (read_facilities xs) → f.sizes ≡ asked_sizes (read_facilities xs) →
    f.windows ≡ asked_windows (read_facilities xs) → f.data_of_user ≡ user_data xs → f ≡ fields_of xs
fields_are xs f bit called calling reverse fast sizes windows rest =
    let own : CallFields = record {
      called = ascii_digits (called_digits xs);
      calling = ascii_digits (calling_digits xs);
      reverse_charging = asks_reverse (read_facilities xs);
      fast = asks_fast (read_facilities xs);
      sizes = asked_sizes (read_facilities xs);
      windows = asked_windows (read_facilities xs);
      data_of_user = user_data xs;
    } in
    let same : f ≡ own = λ k. record {
      called = called k;
      calling = calling k;
      reverse_charging = reverse k;
      fast = fast k;
      sizes = sizes k;
      windows = windows k;
      data_of_user = rest k;
    } in
    same ∙ sym (ap (λ b. elim b [ true ↦ no_fields | false ↦ own ]) bit)
