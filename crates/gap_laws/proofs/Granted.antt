-- The packet sizes and windows of a call in a walk without a finding: none is larger than an interface may have.
use Rattle.std.proofs.Common.{◌≡◌, ◌⊎◌, inl, inr, ◌<◌, ◌≤◌, ◌-◌, ◌==◌, ◌^◌, ℕ, zero, suc, Bool, true, false, cond, refl, sym, ◌∙◌, ap, subst, List, [], ◌∷◌, get_or, Option, Some, None, arith}
use Rattle.std.specs.Prelude.{length, nat_lt, nat_le, ◌&&◌, ◌||◌, ◌+◌, find, reverse, is_none, option_map, option_and_then}
use Rattle.std.specs.List.{list_any}
use Rattle.std.specs.Option.{option_map_or}
use Rattle.std.proofs.Math.Pow.{pow_mono}
use Rattle.std.proofs.lemmas.Bool.{false≢true}
use Rattle.std.proofs.lemmas.List.Sorted.{IsPermutation-reverse, list_any-IsPermutation}
use Rattle.line_model.specs.declared.diagnostic.TheConstants.{PACKET_TOO_SHORT, PACKET_TOO_LONG, FACILITY_PARAMETER_NOT_ALLOWED, INVALID_CALLED_DTE_ADDRESS, INVALID_CALLING_DTE_ADDRESS, INVALID_FACILITY_OR_REGISTRATION_LENGTH}
use Rattle.line_model.specs.declared.interface.Interface.{Interface}
use Rattle.line_model.specs.declared.state.Side.{Side}
use Rattle.line_model.specs.declared.state.Side.TheVariants.{T, N}
use Rattle.line_model.specs.declared.state.DState as transfer
use Rattle.line_model.specs.basics.Choice.{first_fault}
use Rattle.line_model.specs.basics.Octets.{octet}
use Rattle.line_model.specs.packets.Facilities.{CallFields, Facility, accepted_fault, address_octets, after_addresses, ascii_digits, asked_sizes, asked_windows, asks_fast, asks_reverse, block_fault, call_fault, called_digits, calling_digits, facilities, facility_length, fields_of, has_a_bit, is_out_of_range, last_parameters, no_fields, read_facilities, user_data, user_data_limit}
use Rattle.line_model.specs.packets.Formats.{for_side, is_out, or_other}
use Rattle.line_model.specs.channels.Channels.{Opening}
use Rattle.line_model.specs.channels.Gaps.{largest_terms}
use Rattle.gap_laws.proofs.Circuits.{Terms, channel_with, idle, size_of, window_of}
use Rattle.gap_laws.proofs.Entries.{lawful_is}
use Rattle.gap_laws.proofs.Settled.{Allows}

-- ---- what a packet names

abbrev pub AllOf : (ℕ × ℕ → Type 0) → Option (ℕ × ℕ) → Type 0
AllOf P None = Unit {0}
AllOf P (Some v) = P v

abbrev pub Below : (n : ℕ) → ℕ × ℕ → Type 0
Below n v = (v.0 < n) × (v.1 < n)

pub record IsGranted (i : Interface) (f : CallFields) : Type 0 where
  pub sizes : AllOf (Below 4097) f.sizes
  pub windows : AllOf (Below i.modulus) f.windows

-- the seventh of the tests of a packet whose address block is read
seventh : (a b c d e f g h : Bool)
    → first_fault ((a, PACKET_TOO_SHORT) ∷ (b, INVALID_CALLED_DTE_ADDRESS) ∷ (c, INVALID_CALLING_DTE_ADDRESS) ∷ (d, INVALID_FACILITY_OR_REGISTRATION_LENGTH) ∷ (e, INVALID_FACILITY_OR_REGISTRATION_LENGTH) ∷ (f, INVALID_FACILITY_OR_REGISTRATION_LENGTH)
    ∷ (g, FACILITY_PARAMETER_NOT_ALLOWED) ∷ (h, PACKET_TOO_LONG) ∷ []) ≡ None → g ≡ false
seventh true b c d e f g h k = cc
seventh false true c d e f g h k = cc
seventh false false true d e f g h k = cc
seventh false false false true e f g h k = cc
seventh false false false false true f g h k = cc
seventh false false false false false true g h k = cc
seventh false false false false false false true h k = cc
seventh false false false false false false false h k = refl

in_range : (i : Interface) (fast : Bool) (xs : List ℕ) → block_fault i fast xs ≡ None → list_any (is_out_of_range i) (read_facilities xs) ≡ false
in_range i fast xs k =
    seventh (nat_lt (length xs) (4 + address_octets xs)) (list_any (λ d. nat_lt 9 d) (called_digits xs)) (list_any (λ d. nat_lt 9 d) (calling_digits xs)) (nat_lt 109 (facility_length xs))
    (nat_lt (length (after_addresses xs)) (1 + facility_length xs) && nat_lt 0 (length (after_addresses xs))) (is_none (facilities xs)) (list_any (is_out_of_range i) (read_facilities xs))
    (nat_lt (user_data_limit (asks_fast (read_facilities xs) || fast)) (length (user_data xs))) k

neither : (a b : Bool) → (a || b) ≡ false → (a ≡ false) × (b ≡ false)
neither true b h = absurd (false≢true (sym h))
neither false b h = (refl, h)

-- an element that is found, of a list in which none passes another test
found : {A : Type 0} (p q : A → Bool) (xs : List A) (x : A) → list_any p xs ≡ false → find q xs ≡ Some x → (q x ≡ true) × (p x ≡ false)
found p q [] x h e = cc
found {A} p q (y ∷ xs) x h e = at (found p q xs x (neither (p y) (list_any p xs) h).1) (q y) refl e
  where
    at : (find q xs ≡ Some x → (q x ≡ true) × (p x ≡ false)) → (b : Bool) → q y ≡ b → cond b (Some y) (find q xs) ≡ Some x → (q x ≡ true) × (p x ≡ false)
    at rest true d e = let same : y ≡ x = cc in (subst (λ z. q z ≡ true) same d, subst (λ z. p z ≡ false) same (neither (p y) (list_any p xs) h).0)
    at rest false d e = rest e

-- a value of a list in which none passes a test; past the end it is 0
value_at : (p : ℕ → Bool) (xs : List ℕ) (k : ℕ) → list_any p xs ≡ false → (p (get_or xs k 0) ≡ false) ⊎ (get_or xs k 0 ≡ 0)
value_at p [] k h = inr refl
value_at p (x ∷ xs) zero h = inl (neither (p x) (list_any p xs) h).0
value_at p (x ∷ xs) (suc k) h = value_at p xs k (neither (p x) (list_any p xs) h).1

size_upto : (n : ℕ) → ((nat_lt n 4 || nat_lt 12 n) ≡ false) ⊎ (n ≡ 0) → 2 ^ n < 4097
size_upto n h = let most : 2 ^ n ≤ 2 ^ 12 = pow_mono (upto h) in omega (arith, most)
  where
    upto : ((nat_lt n 4 || nat_lt 12 n) ≡ false) ⊎ (n ≡ 0) → n ≤ 12
    upto (inl e) = grind (arith, e)
    upto (inr e) = omega (arith, e)

window_upto : (m n : ℕ) → (m ≡ 8) ⊎ (m ≡ 128) → ((n == 0 || nat_le m n) ≡ false) ⊎ (n ≡ 0) → n < m
window_upto m n e (inl h) = grind (arith, h)
window_upto m n e (inr h) = grind (arith, e, h)

-- the parameters of the facility that counts
parameters_pass : (i : Interface) (code : ℕ) (fs : List Facility) (ps : List ℕ) → list_any (is_out_of_range i) fs ≡ false → last_parameters code fs ≡ Some ps → (f : Facility) × ((f.code == code) ≡ true) × (is_out_of_range i f ≡ false) × (f.parameters ≡ ps)
parameters_pass i code fs ps h e = at (find (λ (f : Facility). f.code == code) (reverse fs)) refl e
  where
    at : (o : Option Facility) → find (λ (f : Facility). f.code == code) (reverse fs) ≡ o → option_map (λ (f : Facility). f.parameters) o ≡ Some ps → (f : Facility) × ((f.code == code) ≡ true) × (is_out_of_range i f ≡ false) × (f.parameters ≡ ps)
    at None d e = cc
    at (Some f) d e =
        let w = found (is_out_of_range i) (λ (f : Facility). f.code == code) (reverse fs) f (sym (list_any-IsPermutation (is_out_of_range i) fs (reverse fs) (IsPermutation-reverse fs)) ∙ h) d in
        (f, w.0, w.1, cc)

sizes_pass : (i : Interface) (fs : List Facility) → list_any (is_out_of_range i) fs ≡ false → AllOf (Below 4097) (asked_sizes fs)
sizes_pass i fs h = at (last_parameters 0x42 fs) refl
  where
    at : (o : Option (List ℕ)) → last_parameters 0x42 fs ≡ o → AllOf (Below 4097) (option_map (λ ps. (2 ^ octet 1 ps, 2 ^ octet 2 ps)) o)
    at None e = tt
    at (Some ps) e =
        let (f, code, range, same) = parameters_pass i 0x42 fs ps h e in
        let none : list_any (λ n. nat_lt n 4 || nat_lt 12 n) ps ≡ false = ap (λ l. list_any (λ n. nat_lt n 4 || nat_lt 12 n) l) (sym same) ∙ by (f.code == 0x42) (list_any (λ n. nat_lt n 4 || nat_lt 12 n) f.parameters) _ code range in
        (size_upto (octet 1 ps) (value_at (λ n. nat_lt n 4 || nat_lt 12 n) ps 0 none), size_upto (octet 2 ps) (value_at (λ n. nat_lt n 4 || nat_lt 12 n) ps 1 none))
      where
        by : (a b c : Bool) → a ≡ true → ((a && b) || c) ≡ false → b ≡ false
        by true b c d r = (neither b c r).0
        by false b c d r = absurd (false≢true d)

windows_pass : (i : Interface) (fs : List Facility) → list_any (is_out_of_range i) fs ≡ false → AllOf (Below i.modulus) (asked_windows fs)
windows_pass i fs h = at (last_parameters 0x43 fs) refl
  where
    at : (o : Option (List ℕ)) → last_parameters 0x43 fs ≡ o → AllOf (Below i.modulus) (option_map (λ ps. (octet 1 ps, octet 2 ps)) o)
    at None e = tt
    at (Some ps) e =
        let (f, code, range, same) = parameters_pass i 0x43 fs ps h e in
        let none : list_any (λ n. n == 0 || nat_le i.modulus n) ps ≡ false = ap (λ l. list_any (λ n. n == 0 || nat_le i.modulus n) l) (sym same) ∙ by _ (f.code == 0x43) (list_any (λ n. n == 0 || nat_le i.modulus n) f.parameters) code range in
        (window_upto i.modulus (octet 1 ps) (lawful_is i).eight (value_at (λ n. n == 0 || nat_le i.modulus n) ps 0 none), window_upto i.modulus (octet 2 ps) (lawful_is i).eight (value_at (λ n. n == 0 || nat_le i.modulus n) ps 1 none))
      where
        by : (c a b : Bool) → a ≡ true → (c || (a && b)) ≡ false → b ≡ false
        by c true b d r = (neither c b r).1
        by c false b d r = absurd (false≢true d)

granted : (i : Interface) (xs : List ℕ) → (has_a_bit xs ≡ false → list_any (is_out_of_range i) (read_facilities xs) ≡ false) → IsGranted i (fields_of xs)
granted i xs h = at (has_a_bit xs) refl
  where
    at : (a : Bool) → has_a_bit xs ≡ a → IsGranted i (elim a as (λ _. CallFields) [
      | true ↦ no_fields
      | false ↦ record {
        called = ascii_digits (called_digits xs);
        calling = ascii_digits (calling_digits xs);
        reverse_charging = asks_reverse (read_facilities xs);
        fast = asks_fast (read_facilities xs);
        sizes = asked_sizes (read_facilities xs);
        windows = asked_windows (read_facilities xs);
        data_of_user = user_data xs;
      }
    ])
    at true e = record { sizes = tt; windows = tt }
    at false e = record { sizes = sizes_pass i (read_facilities xs) (h e); windows = windows_pass i (read_facilities xs) (h e) }

pub call_granted : (i : Interface) (xs : List ℕ) → call_fault i xs ≡ None → IsGranted i (fields_of xs)
call_granted i xs h = granted i xs (λ e. by (has_a_bit xs) (nat_lt (length xs) 4 || nat_lt (length xs) (5 + address_octets xs)) e h)
  where
    by : (a b : Bool) → a ≡ false → elim a as (λ _. Option ℕ) [ true ↦ None | false ↦ elim b as (λ _. Option ℕ) [ true ↦ Some PACKET_TOO_SHORT | false ↦ block_fault i false xs ] ] ≡ None → list_any (is_out_of_range i) (read_facilities xs) ≡ false
    by true b e h = absurd (false≢true (sym e))
    by false true e h = cc
    by false false e h = in_range i false xs h

pub accepted_granted : (i : Interface) (fast : Bool) (xs : List ℕ) → accepted_fault i fast xs ≡ None → IsGranted i (fields_of xs)
accepted_granted i fast xs h = at (nat_le (length xs) 3) refl
  where
    -- a packet that ends after octet 3 names nothing
    short : (xs : List ℕ) → nat_le (length xs) 3 ≡ true → list_any (is_out_of_range i) (read_facilities xs) ≡ false
    short [] e = refl
    short (a ∷ []) e = refl
    short (a ∷ b ∷ []) e = refl
    short (a ∷ b ∷ c ∷ []) e = refl
    short (a ∷ b ∷ c ∷ d ∷ xs) e = absurd (grind (arith, e))

    by : (a b : Bool) → a ≡ false → b ≡ false → elim (a || b) as (λ _. Option ℕ) [ true ↦ None | false ↦ block_fault i fast xs ] ≡ None → list_any (is_out_of_range i) (read_facilities xs) ≡ false
    by true b e d h = absurd (false≢true (sym e))
    by false true e d h = absurd (false≢true (sym d))
    by false false e d h = in_range i fast xs h

    at : (b : Bool) → nat_le (length xs) 3 ≡ b → IsGranted i (fields_of xs)
    at true d = granted i xs (λ e. short xs d)
    at false d = granted i xs (λ e. by (has_a_bit xs) (nat_le (length xs) 3) e d h)

-- ---- what is in force

abbrev pub GrantedBy : Interface → Option (List ℕ) → Type 0
GrantedBy i None = Unit {0}
GrantedBy i (Some xs) = IsGranted i (fields_of xs)

abbrev pub packet_in : Option Opening → Option (List ℕ)
packet_in o = option_map (λ (o : Opening). o.packet) o

-- what a channel has of its call names no more
pub record HasGranted (i : Interface) (opening : Option Opening) (accepting : Option (List ℕ)) : Type 0 where
  pub opened : GrantedBy i (packet_in opening)
  pub accepted : GrantedBy i accepting

pick : (P : ℕ × ℕ → Type 0) (u v : Option (ℕ × ℕ)) → AllOf P u → AllOf P v → AllOf P (or_other u v)
pick P None v h k = k
pick P (Some u) v h k = h

in_force_all : (P : ℕ × ℕ → Type 0) (i : Interface) (f : CallFields → Option (ℕ × ℕ)) → ((c : CallFields) → IsGranted i c → AllOf P (f c)) → (o : Option Opening) (a : Option (List ℕ)) → HasGranted i o a
    → AllOf P (or_other (option_and_then f (option_map fields_of a)) (option_and_then f (option_map (λ (o : Opening). fields_of o.packet) o)))
in_force_all P i f h o a g = pick P (option_and_then f (option_map fields_of a)) (option_and_then f (option_map (λ (o : Opening). fields_of o.packet) o)) (accepting a g.accepted) (opening o g.opened)
  where
    accepting : (a : Option (List ℕ)) → GrantedBy i a → AllOf P (option_and_then f (option_map fields_of a))
    accepting None g = tt
    accepting (Some xs) g = h (fields_of xs) g

    opening : (o : Option Opening) → GrantedBy i (packet_in o) → AllOf P (option_and_then f (option_map (λ (o : Opening). fields_of o.packet) o))
    opening None g = tt
    opening (Some o) g = h (fields_of o.packet) g

side_below : (n : ℕ) (out : Bool) (x : Side) (o : Option (ℕ × ℕ)) (d : ℕ) → d < n → AllOf (Below n) o → option_map_or (for_side out x) o d < n
side_below n out x None d h k = h
side_below n true T (Some v) d h k = k.1
side_below n true N (Some v) d h k = k.0
side_below n false T (Some v) d h k = k.0
side_below n false N (Some v) d h k = k.1

pub window_below : (i : Interface) (k : Terms) → HasGranted i k.opening k.accepting → (x : Side) → window_of i k x < i.modulus
window_below i k g x = side_below i.modulus (is_out (channel_with k (idle transfer.TheVariants.D1))) x _ i.window (lawful_is i).window_below (in_force_all (Below i.modulus) i (λ c. c.windows) (λ c w. w.windows) k.opening k.accepting g)

pub size_below : (i : Interface) (k : Terms) → HasGranted i k.opening k.accepting → (x : Side) → size_of i k x ≤ 4096
size_below i k g x =
    let less : size_of i k x < 4097 = side_below 4097 (is_out (channel_with k (idle transfer.TheVariants.D1))) x _ i.size (upto (lawful_is i).size_upto) (in_force_all (Below 4097) i (λ c. c.sizes) (λ c w. w.sizes) k.opening k.accepting g) in
    omega (arith, less)
  where
    upto : {n : ℕ} → n ≤ 4096 → n < 4097
    upto h = omega (arith, h)

-- ---- what a settled channel knows of them

-- the terms of the whole walk, or, where another call may be hidden, the largest
abbrev pub Agrees : Interface → (hidden : Bool) → (k t : Terms) → Type 0
Agrees i true k t = t.accepting ≡ Some (largest_terms i)
Agrees i false k t = (t.opening ≡ k.opening) × (t.accepting ≡ k.accepting)

both_sides : (out : Bool) (x : Side) (n : ℕ) → for_side out x (n, n) ≡ n
both_sides true T n = refl
both_sides true N n = refl
both_sides false T n = refl
both_sides false N n = refl

pub allows : (i : Interface) (u : Bool) (k t : Terms) → HasGranted i k.opening k.accepting → Agrees i u k t → (y : Side) → Allows i u k t y
allows i true k t g e y =
    let below = window_below i k g y in
    let window : window_of i t y ≡ i.modulus - 1 = (λ j. window_of i (record t { accepting = e j }) y) ∙ both_sides (is_out (channel_with t (idle transfer.TheVariants.D1))) y (i.modulus - 1) in
    let size : size_of i t y ≡ 4096 = (λ j. size_of i (record t { accepting = e j }) y) ∙ both_sides (is_out (channel_with t (idle transfer.TheVariants.D1))) y 4096 in
    let upto = size_below i k g y in
    record { window = omega (arith, window, below); below = omega (arith, window, below); size = omega (arith, size, upto); same = λ h. absurd (false≢true (sym h)) }
allows i false k t g e y =
    let window : window_of i t y ≡ window_of i k y = (λ j. window_of i (record k { opening = e.0 j; accepting = e.1 j }) y) in
    let size : size_of i t y ≡ size_of i k y = (λ j. size_of i (record k { opening = e.0 j; accepting = e.1 j }) y) in
    let below = window_below i k g y in
    record { window = omega (arith, window); below = omega (arith, window, below); size = omega (arith, size); same = λ h. size }
