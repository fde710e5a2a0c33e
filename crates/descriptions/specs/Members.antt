-- The members of an object of JSON, and their values.
use Rattle.std.specs.Prelude.{◌≡◌, ℕ, zero, suc, ◌==◌, ◌&&◌, ◌||◌, Bool, true, false, not, List, [], ◌∷◌, ◌++◌, Option, None, Some, codes, decimal, drop, nat_le}
use Rattle.std.specs.List.{list_any}
use Rattle.std.specs.Str.{bytes_eq}
use Rattle.std.specs.Str.Parse.{AllDigits}
use Rattle.json_lines.specs.Json.{quoted}

-- a byte that is written as it is in a string: no control character, no quotation mark, no backslash
abbrev pub is_plain : ℕ → Bool
is_plain b = nat_le 32 b && (not (b == 34) && not (b == 92))

-- whether bytes are those of a string, or the rest of one after a backslash: a quotation mark or a backslash has one before it
abbrev pub is_text : (escaped : Bool) → List ℕ → Bool
is_text false [] = true
is_text true [] = false
is_text false (b ∷ bytes) = ((b == 92) && is_text true bytes) || (is_plain b && is_text false bytes)
is_text true (b ∷ bytes) = ((b == 34) || (b == 92)) && is_text false bytes

abbrev pub IsText : List ℕ → Type 0
IsText bytes = is_text false bytes ≡ true

-- a member after others
abbrev pub member : (name value : List ℕ) → List ℕ
member name value = 44 ∷ quoted name ++ 58 ∷ value

-- whether a name is one of some
abbrev pub is_among : List (List ℕ) → List ℕ → Bool
is_among names name = list_any (bytes_eq name) names

mutual
  -- a value
  pub data IsValue : List ℕ → Type 0 where
    Null : IsValue (codes "null")
    True : IsValue (codes "true")
    False : IsValue (codes "false")
    Number : (n : ℕ) → IsValue (decimal n)
    Fraction : (n d : ℕ) (digits : List ℕ) → AllDigits 10 (d ∷ digits) → IsValue (decimal n ++ 46 ∷ d ∷ digits)
    Text : (text : List ℕ) → IsText text → IsValue (quoted text)
    Array : (elements : List ℕ) → AreElements elements → IsValue (91 ∷ drop 1 elements ++ 93 ∷ [])
    Object : (members : List ℕ) → IsMembers [] members → IsValue (123 ∷ drop 1 members ++ 125 ∷ [])

  -- values, each after a comma
  pub data AreElements : List ℕ → Type 0 where
    NoElement : AreElements []
    Element : (value rest : List ℕ) → IsValue value → AreElements rest → AreElements (44 ∷ value ++ rest)

  -- members, each after a comma, with other names than these
  pub data IsMembers : (names : List (List ℕ)) → List ℕ → Type 0 where
    NoMember : {names : List (List ℕ)} → IsMembers names []
    Member : {names : List (List ℕ)} (name value rest : List ℕ) → is_among names name ≡ false → IsText name → IsValue value → IsMembers names rest → IsMembers names (member name value ++ rest)

-- the names of the members that are promised, of an object or of its finding
abbrev pub promised : List (List ℕ)
promised = codes "line" ∷ codes "packet" ∷ codes "side" ∷ codes "channel" ∷ codes "before" ∷ codes "after" ∷ codes "counted" ∷ codes "epoch" ∷ codes "owed" ∷ codes "finding" ∷ codes "code" ∷ codes "follows" ∷ codes "call" ∷ codes "circuit" ∷ []

-- members with other names
abbrev pub IsFurther : List ℕ → Type 0
IsFurther bytes = IsMembers promised bytes

-- the number of a call, or null for 0
abbrev pub call_word : ℕ → List ℕ
call_word zero = codes "null"
call_word (suc n) = decimal (suc n)

abbrev pub call_member : ℕ → List ℕ
call_member n = codes ",\"call\":" ++ call_word n

-- members that begin with a call
abbrev pub IsOfCall : (call : ℕ) → List ℕ → Type 0
IsOfCall call bytes = (others : List ℕ) × (bytes ≡ call_member call ++ others) × IsFurther others

-- the number of a row's circuit, where one is known
abbrev pub circuit_member : Option ℕ → List ℕ
circuit_member None = []
circuit_member (Some n) = codes ",\"circuit\":" ++ decimal n

-- members with other names, and that of a circuit among them
abbrev pub IsFurtherWith : (circuit : Option ℕ) → List ℕ → Type 0
IsFurtherWith circuit bytes = (front : List ℕ) × (back : List ℕ) × (bytes ≡ front ++ (circuit_member circuit ++ back)) × IsFurther front × IsFurther back

-- members of a row that begin with its call
abbrev pub IsOfRow : (circuit : Option ℕ) → (call : ℕ) → List ℕ → Type 0
IsOfRow circuit call bytes = (others : List ℕ) × (bytes ≡ call_member call ++ others) × IsFurtherWith circuit others
