-- What is known of the whole once all workers were joined.
use Rattle.std.specs.Prelude.{◌≡◌, ℕ, List, All, Some, length, vec_len, MatchResult}
use Rattle.std.specs.List.{flat_map}
use Rattle.line_model.specs.declared.fault.Fault.TheVariants.{Memory}
use Rattle.line_model.specs.basics.Records.{Piece, PieceReport}
use Rattle.line_model.specs.work.Book.{KnownPlan, AreOf, totals_of, sum_of}
use Rattle.workers.specs.Vouching.{IsRunOfOne}
use Rattle.workers.specs.declared.gathering.Gathered.{Gathered}
use Rattle.workers.specs.declared.whole.Worked.{Worked}

-- the reports of all bundles
abbrev pub reports_of : {A : Type 0} → Gathered A (List PieceReport) → List PieceReport
reports_of g = flat_map (λ ps. ps) g.reports.items

-- as many reports as pieces were fed, each the value of a different piece of the plan, and of a different one that was fed and run in this
-- way; the totals are theirs, and those of the shares, of which each worker has one
pub record IsWhole {A : Type 0} (plan : KnownPlan) (ran : Piece → PieceReport → Type 0) (workers : ℕ) (fed : List Piece) (g : Gathered A (List PieceReport)) : Type 0 where
  pub posted : AreOf plan (reports_of g)
  pub of_fed : AreOf (Some fed) (reports_of g)
  pub runs : All (IsRunOfOne ran fed) (reports_of g)
  pub number : length (reports_of g) ≡ length fed
  pub sums : g.totals ≡ totals_of (reports_of g)
  pub of_shares : g.totals ≡ sum_of g.shares.items
  pub each : vec_len g.shares ≡ workers

-- some pieces were fed, by which the task became this, and all of them were posted, or memory ran out
abbrev pub HasWorked : {T A : Type 0} → KnownPlan → (ran : Piece → PieceReport → Type 0) → (List Piece → T → Type 0) → ℕ → Worked T A → Type 0
HasWorked plan ran gives workers w = (fed : List Piece) × gives fed w.task × MatchResult w.gathered (IsWhole plan ran workers fed) (λ f. f ≡ Memory)
