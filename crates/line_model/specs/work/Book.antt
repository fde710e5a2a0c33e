-- The book: the values of pieces that were posted, and their sums (profile).
use Rattle.std.specs.Prelude.{◌≡◌, ℕ, ◌≤◌, List, map, length, Option, Some, IfSome, slice_get, sum_by, count_by, ◌==◌, nat_lt, if◌then◌else◌, All}
use Rattle.line_model.specs.declared.totals.Totals.{Totals}
use Rattle.line_model.specs.basics.Records.{Piece, PieceReport}
use Rattle.line_model.specs.pieces.Plans.{result_of}

-- the pieces that are to be handed out, where they are known
abbrev pub KnownPlan : Type 0
KnownPlan = Option (List Piece)

-- each piece has its place as its id
abbrev pub IsNumbered : List Piece → Type 0
IsNumbered ps = (k : ℕ) (p : Piece) → slice_get ps k ≡ Some p → p.id ≡ k

-- the piece has this id, and it is the plan's
abbrev pub IsPlanned : KnownPlan → ℕ → Piece → Type 0
IsPlanned plan n p = (p.id ≡ n) × IfSome plan (λ ps. slice_get ps n ≡ Some p)

-- the report is the result of the plan's piece of its id
abbrev pub IsValue : KnownPlan → PieceReport → Type 0
IsValue plan r = IfSome plan (λ ps. slice_get (map result_of ps) r.id ≡ Some r)

-- how often a number is in a list
abbrev pub times : ℕ → List ℕ → ℕ
times x xs = count_by (λ y. y == x) xs

-- 1 for a number below the bound, otherwise 0
abbrev pub once_below : ℕ → ℕ → ℕ
once_below x n = if nat_lt x n then 1 else 0

-- the ids of some reports
abbrev pub ids_of : List PieceReport → List ℕ
ids_of rs = map (λ r. r.id) rs

-- no two of the posts have one id, and each is the result of the plan's piece
pub record AreOf (plan : KnownPlan) (rs : List PieceReport) : Type 0 where
  pub distinct : (x : ℕ) → times x (ids_of rs) ≤ 1
  pub values : All (IsValue plan) rs

-- the totals of a book, and of a share: sums over the posts
abbrev pub totals_of : List PieceReport → Totals
totals_of rs = record {
  posts = length rs;
  findings = sum_by (λ r. length r.findings) rs;
  octets = sum_by (λ r. r.octets) rs;
  segments = sum_by (λ r. r.segments) rs;
}

-- the totals of several shares
abbrev pub sum_of : List Totals → Totals
sum_of ts = record {
  posts = sum_by (λ t. t.posts) ts;
  findings = sum_by (λ t. t.findings) ts;
  octets = sum_by (λ t. t.octets) ts;
  segments = sum_by (λ t. t.segments) ts;
}

-- no number of the first is above that of the second
pub record IsWithin (s t : Totals) : Type 0 where
  pub posts : s.posts ≤ t.posts
  pub findings : s.findings ≤ t.findings
  pub octets : s.octets ≤ t.octets
  pub segments : s.segments ≤ t.segments
