-- What the writer of members writes.
use Rattle.std.specs.Prelude.{◌≡◌, ℕ, ◌==◌, ◌&&◌, ◌-◌, Bool, true, false, not, List, [], ◌∷◌, ◌++◌, drop, length, take}
use Rattle.std.specs.Str.{bytes_eq}
use Rattle.json_lines.specs.Json.{quoted}
use Rattle.descriptions.specs.Members.{AreElements, IsMembers, IsText, is_among, is_text}

-- bytes of a form were put after whatever text there was
pub record Adds {O : Type 0} (has : O → List ℕ → Type 0) (form : List ℕ → Type 0) (before after : O) : Type 0 where
  pub bytes : List ℕ
  pub put : (text : List ℕ) → has before text → has after (text ++ bytes)
  pub formed : form bytes

-- all bytes that were put are of a form
pub record Holds {O : Type 0} (has : O → List ℕ → Type 0) (form : List ℕ → Type 0) (out : O) : Type 0 where
  pub bytes : List ℕ
  pub put : has out bytes
  pub formed : form bytes

-- the form of which only these bytes are
abbrev pub These : List ℕ → List ℕ → Type 0
These bytes own = own ≡ bytes

-- a member up to its value
abbrev pub beginning_of : (name : List ℕ) → List ℕ
beginning_of name = 44 ∷ quoted name ++ 58 ∷ []

-- a member with another name than these, up to its value
pub record IsBeginning (names : List (List ℕ)) (bytes : List ℕ) : Type 0 where
  pub name : List ℕ
  pub is : bytes ≡ beginning_of name
  pub text : IsText name
  pub other : is_among names name ≡ false

-- the name in the beginning of a member
abbrev pub name_in : List ℕ → List ℕ
name_in bytes = take (length bytes - 4) (drop 2 bytes)

-- whether bytes are a member with another name than these, up to its value
abbrev pub is_beginning : (names : List (List ℕ)) → List ℕ → Bool
is_beginning names bytes = bytes_eq bytes (beginning_of (name_in bytes)) && (is_text false (name_in bytes) && not (is_among names (name_in bytes)))

-- an object up to the value of its first member
pub record IsFirst (bytes : List ℕ) : Type 0 where
  pub rest : List ℕ
  pub is : bytes ≡ 123 ∷ rest
  pub begins : IsBeginning [] (44 ∷ rest)

-- whether bytes are an object up to the value of its first member
abbrev pub is_first : List ℕ → Bool
is_first [] = false
is_first (b ∷ rest) = (b == 123) && is_beginning [] (44 ∷ rest)

-- an object up to its closing bracket
pub record IsOpenObject (bytes : List ℕ) : Type 0 where
  pub rest : List ℕ
  pub is : bytes ≡ 123 ∷ rest
  pub members : IsMembers [] (44 ∷ rest)

-- an array up to its closing bracket, with elements or `empty`
abbrev pub IsOpenArray : (empty : Bool) → List ℕ → Type 0
IsOpenArray true bytes = bytes ≡ 91 ∷ []
IsOpenArray false bytes = (rest : List ℕ) × (bytes ≡ 91 ∷ rest) × AreElements (44 ∷ rest)

-- what comes before the next element of an array
abbrev pub comma_after : (empty : Bool) → List ℕ
comma_after true = []
comma_after false = 44 ∷ []
