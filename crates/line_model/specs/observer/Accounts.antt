-- Accounts: who pays for which calls (profile, after X.25 clause 6.18, reverse charging).
use Rattle.std.specs.Prelude.{ℕ, Bool, true, false, ◌==◌, nat_lt, ◌&&◌, ◌||◌, List, [], ◌∷◌, map, filter, sum_by, length}
use Rattle.line_model.specs.basics.Records.{CallRecord}
use Rattle.line_model.specs.declared.call.Account.{Account}

-- the address that pays: the called one under reverse charging, otherwise the calling one
abbrev pub payer : CallRecord → List ℕ
payer c = elim c.reverse [ true ↦ c.called | false ↦ c.calling ]

-- the order of addresses by their bytes, the absent one first
abbrev pub is_same_address : List ℕ → List ℕ → Bool
is_same_address [] [] = true
is_same_address (x ∷ xs) (y ∷ ys) = x == y && is_same_address xs ys
is_same_address _ _ = false

-- the order itself
abbrev pub is_before : List ℕ → List ℕ → Bool
is_before [] [] = false
is_before [] (y ∷ ys) = true
is_before (x ∷ xs) [] = false
is_before (x ∷ xs) (y ∷ ys) = nat_lt x y || (x == y && is_before xs ys)

-- an address put into an ordered list, once
abbrev pub with_address : List ℕ → List (List ℕ) → List (List ℕ)
with_address a [] = a ∷ []
with_address a (b ∷ bs) = elim (is_same_address a b) [
  | true ↦ b ∷ bs
  | false ↦ elim (is_before a b) [ true ↦ a ∷ b ∷ bs | false ↦ b ∷ with_address a bs ]
]

-- the addresses that pay, each once, in order
abbrev pub payers : List CallRecord → List (List ℕ)
payers [] = []
payers (c ∷ cs) = with_address (payer c) (payers cs)

-- the number and the segments of the calls that an address pays for
abbrev pub account : List CallRecord → List ℕ → Account
account cs a =
    let own : List CallRecord = filter (λ c. is_same_address (payer c) a) cs in
    record { address = a; calls = length own; segments = sum_by (λ c. c.segments) own }

-- an account for each address that pays, in the order of the addresses
abbrev pub accounts_of : List CallRecord → List Account
accounts_of cs = map (account cs) (payers cs)
