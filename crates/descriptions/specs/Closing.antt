-- The objects after those of the report: what was not counted, and what a call's line does not say.
use Rattle.std.specs.Prelude.{◌≡◌, ℕ, zero, suc, List, [], ◌++◌, codes}
use Rattle.json_lines.specs.Json.{object}
use Rattle.descriptions.specs.Members.{IsFurther, IsOfCall}

-- an object on a line of its own: what it says, and members of a form
abbrev pub IsObjectLine : (title : List ℕ) → (form : List ℕ → Type 0) → List ℕ → Type 0
IsObjectLine title form bytes = (members : List ℕ) × (bytes ≡ object title members) × form members

-- `count` of them one after the other, each with members of the form of its index
abbrev pub AreObjects : (title : List ℕ) → (form : ℕ → List ℕ → Type 0) → (count : ℕ) → List ℕ → Type 0
AreObjects title form zero bytes = bytes ≡ []
AreObjects title form (suc n) bytes = (before : List ℕ) × (own : List ℕ) × (bytes ≡ before ++ own) × AreObjects title form n before × IsObjectLine title (form n) own

-- any number of objects of what was not counted
abbrev pub AreUncounted : List ℕ → Type 0
AreUncounted bytes = (count : ℕ) × AreObjects (codes "not_counted") (λ n. IsFurther) count bytes

-- one for each call, from 1 on: its number, and members with other names
abbrev pub AreCallFacts : (calls : ℕ) → List ℕ → Type 0
AreCallFacts calls bytes = AreObjects (codes "call_facts") (λ n. IsOfCall (suc n)) calls bytes

-- those, one after the other
abbrev pub AreClosingObjects : (calls : ℕ) → List ℕ → Type 0
AreClosingObjects calls bytes = (uncounted : List ℕ) × (facts : List ℕ) × (bytes ≡ uncounted ++ facts) × AreUncounted uncounted × AreCallFacts calls facts
