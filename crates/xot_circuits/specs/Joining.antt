-- Where the packets of a stream are joined again after a gap.
use Rattle.std.specs.Prelude.{◌≡◌, ◌≢◌, ℕ, zero, suc, ◌+◌, ◌*◌, ◌/◌, ◌%◌, ◌==◌, ◌&&◌, ◌||◌, nat_le, Bool, true, false, List, [], ◌∷◌, ◌++◌, length, Option, Some, None, if◌then◌else◌}
use Rattle.std.specs.List.{AllByRecursion}
use Rattle.xot_circuits.specs.Packets.{header}
use Rattle.xot_circuits.specs.declared.header.Header.{Header}
use Rattle.xot_circuits.specs.declared.header.Header.TheVariants.{Cut, OtherVersion, Length}
use Rattle.xot_circuits.specs.declared.joining.SeenChannels.{SeenChannels}
use Rattle.xot_circuits.specs.declared.joining.Expected.{Expected}
use Rattle.xot_circuits.specs.declared.joining.Beginning.{Beginning}
use Rattle.xot_circuits.specs.declared.joining.Beginning.TheVariants.{Begins, TooFew, Other}

-- the modulus by the general format identifier (X.25 5.1.1)
abbrev pub modulus_of : ℕ → Option ℕ
modulus_of first = if first / 16 % 4 == 1 then Some 8 else if first / 16 % 4 == 2 then Some 128 else None

-- whether a packet may be of a circuit by its modulus, and by its channel
abbrev pub may_have : (known modulus : Option ℕ) → Bool
may_have known None = false
may_have None (Some m) = true
may_have (Some n) (Some m) = n == m

abbrev pub may_be_on : Option SeenChannels → ℕ → Bool
may_be_on None channel = true
may_be_on (Some c) channel = channel == c.first || channel == c.last

abbrev pub is_expected : Expected → (first second : ℕ) → Bool
is_expected e a b = may_have e.modulus (modulus_of a) && may_be_on e.channels (a % 16 * 256 + b)

-- a plausible header: of a packet with its own header of three octets, and no longer than a row may be (profile)
abbrev pub is_plausible : Header → Bool
is_plausible Cut = false
is_plausible (OtherVersion v) = false
is_plausible (Length n) = nat_le 3 n && nat_le n 4200

-- after so many octets of a packet each header is plausible up to the end, as far as it is whole
unfoldable pub are_plausible : (left : ℕ) → List ℕ → Bool
are_plausible zero (a ∷ b ∷ c ∷ d ∷ xs) = is_plausible (header (a ∷ b ∷ c ∷ d ∷ [])) && are_plausible (c * 256 + d) xs
are_plausible zero xs = true
are_plausible (suc n) [] = true
are_plausible (suc n) (x ∷ xs) = are_plausible n xs

-- octets that may go on as a header of version 0
abbrev pub may_begin : List ℕ → Bool
may_begin [] = true
may_begin (a ∷ []) = a == 0
may_begin (a ∷ b ∷ xs) = a == 0 && b == 0

-- whether octets begin with a header and a packet that is expected, and go on with headers up to their end
abbrev pub beginning : Expected → List ℕ → Beginning
beginning e (a ∷ b ∷ c ∷ d ∷ first ∷ second ∷ third ∷ xs) =
    if is_expected e first second && are_plausible 0 (a ∷ b ∷ c ∷ d ∷ first ∷ second ∷ third ∷ xs) then Begins else Other
beginning e xs = if may_begin xs then TooFew else Other

-- what becomes of a segment while a packet is sought
pub record Joining : Type 0 where
  -- the octets that are kept before it, or with it where it was too short to decide
  pub rest : List ℕ
  -- whether a packet is still sought
  pub is_sought : Bool
  -- how many octets are passed over
  pub passed : ℕ

abbrev pub joining_by : (with_rest alone : Beginning) → (rest segment : List ℕ) → Joining
joining_by Begins b rest segment = record { rest = rest; is_sought = false; passed = 0 }
joining_by TooFew b rest segment = record { rest = rest ++ segment; is_sought = true; passed = 0 }
joining_by Other Begins rest segment = record { rest = []; is_sought = false; passed = length rest }
joining_by Other TooFew rest segment = record { rest = segment; is_sought = true; passed = length rest }
joining_by Other Other rest segment = record { rest = []; is_sought = true; passed = length rest + length segment }

-- a segment after octets that were too few to decide: a packet begins with them, or else with it
abbrev pub joining : Expected → (rest segment : List ℕ) → Joining
joining e rest segment = joining_by (beginning e (rest ++ segment)) (beginning e segment) rest segment

-- the segments from the first one on that begins with a packet
abbrev pub joined_by : Beginning → (from later : Option (List (List ℕ))) → Option (List (List ℕ))
joined_by Begins from later = from
joined_by b from later = later

abbrev pub joined : Expected → List (List ℕ) → Option (List (List ℕ))
joined e [] = None
joined e (s ∷ ss) = joined_by (beginning e s) (Some (s ∷ ss)) (joined e ss)

-- the segments from the one on after which no packet is sought
abbrev pub sought : Expected → (rest : List ℕ) → List (List ℕ) → Option (List (List ℕ))
sought e rest [] = None
sought e rest (s ∷ ss) = if (joining e rest s).is_sought then sought e (joining e rest s).rest ss else Some (s ∷ ss)

-- where each segment has enough octets to decide, these are the same
abbrev pub FirstBegins : Type 0
FirstBegins = (e : Expected) (segments : List (List ℕ)) → AllByRecursion (λ s. beginning e s ≢ TooFew) segments → sought e [] segments ≡ joined e segments
