-- The names of ledgers.
use Rattle.std.specs.Prelude.{ℕ}

-- the names of a book's four ledgers
pub record LedgerNames : Type 0 where
  pub posts : ℕ
  pub findings : ℕ
  pub octets : ℕ
  pub segments : ℕ

-- names that represent no ledger
abbrev pub no_names : LedgerNames
no_names = record { posts = 0; findings = 0; octets = 0; segments = 0 }
