-- Calls as entries that are sorted by the address that pays, and their sums.
use Rattle.std.specs.Prelude.{◌≡◌, ℕ, zero, suc, ◌+◌, ◌*◌, ◌<◌, ◌≤◌, ◌==◌, true, false, List, [], ◌∷◌, length, nat_lt, slice_index_or}
use Rattle.std.specs.List.{AllByRecursion}
use Rattle.line_model.specs.basics.Records.{CallRecord}
use Rattle.line_model.specs.declared.call.Account.{Account}
use Rattle.line_model.specs.observer.Accounts.{payer}
use Rattle.call_accounts.specs.declared.account.AccountEntry.{AccountEntry}

-- the digit of the octet at i, from 1 on, and 0 past the end
abbrev pub digit_at : List ℕ → ℕ → ℕ
digit_at octets i = elim (nat_lt i (length octets)) [ true ↦ slice_index_or octets i 0 + 1 | false ↦ 0 ]

-- the number r, and after its digits n digits of base 257: each octet plus 1, and then zeros
abbrev pub rank_behind : ℕ → List ℕ → ℕ → ℕ
rank_behind zero octets r = r
rank_behind (suc n) [] r = rank_behind n [] (r * 257)
rank_behind (suc n) (x ∷ octets) r = rank_behind n octets (r * 257 + (x + 1))

-- the number of an address of at most 15 octets, which is in the order of the addresses
pub record IsRank (rank : ℕ) (address : List ℕ) : Type 0 where
  pub few : length address ≤ 15
  pub octets : AllByRecursion (λ x. x < 256) address
  pub is : rank ≡ rank_behind 15 address 0

-- an entry has the rank of its address
abbrev pub IsRanked : AccountEntry → Type 0
IsRanked e = IsRank e.rank e.address

-- the account of one call, by its record and by its entry
abbrev pub account_of_call : CallRecord → Account
account_of_call c = record { address = payer c; calls = 1; segments = c.segments }

abbrev pub account_of_entry : AccountEntry → Account
account_of_entry e = record { address = e.address; calls = 1; segments = e.segments }

-- what the address of the first of two accounts pays for, where they have one address
abbrev pub sum_of : Account → Account → Account
sum_of k e = record { address = k.address; calls = k.calls + e.calls; segments = k.segments + e.segments }

-- an account, of an address of some rank, and the entries after it, where neighbours of one rank are added up
abbrev pub summed_from : Account → ℕ → List AccountEntry → List Account
summed_from k rank [] = k ∷ []
summed_from k rank (e ∷ es) = elim (rank == e.rank) [
  | true ↦ summed_from (sum_of k (account_of_entry e)) rank es
  | false ↦ k ∷ summed_from (account_of_entry e) e.rank es
]

-- the accounts of some entries, where neighbours of one rank are added up
abbrev pub summed : List AccountEntry → List Account
summed [] = []
summed (e ∷ es) = summed_from (account_of_entry e) e.rank es
