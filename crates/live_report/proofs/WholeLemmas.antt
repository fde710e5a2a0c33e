-- What an observer returns of all pieces is what the walk is merged from.
use Rattle.std.proofs.Common.{◌≡◌, ◌∙◌, ◌≤◌, ◌-◌, arith, sym, ap, subst, refl, ℕ, Bool, true, false, cond, List, ◌++◌, map, length, Some, None}
use Rattle.std.specs.List.Sorted.{IsPermutation}
use Rattle.std.proofs.lemmas.List.{map-append}
use Rattle.std.proofs.lemmas.List.Sorted.{IsPermutation-refl}
use Rattle.line_model.specs.declared.interface.Interface.{Interface}
use Rattle.line_model.specs.declared.finding.Finding.{Finding}
use Rattle.line_model.specs.basics.Records.{Item, PieceReport}
use Rattle.line_model.specs.channels.Gaps.{GapChannel}
use Rattle.line_model.specs.observer.Report.{gaps_among, gaps_of}
use Rattle.line_model.specs.pieces.Plans.{plan, result_of}
use Rattle.restart_epochs.specs.Cutting.{given_of, open_pieces}
use Rattle.restart_epochs.proofs.Pushes.{rest_open}
use Rattle.report_merge.specs.Merged.{IsOfWalk}
use Rattle.report_merge.specs.declared.row_counts.RowCounts.{RowCounts}
use Rattle.live_report.specs.declared.observer.Observer.{Observer}
use Rattle.live_report.specs.AddedPieces.{pieces_of}
use Rattle.live_report.specs.Observing.{Represents, epoch_at}
use Rattle.line_model.proofs.Posts.{length-values}

abbrev values_so_far : {A C : Type 0} → (I : C → Interface) (N : C → ℕ) (S : C → GapChannel → Type 0) (i : Interface) (rs : List Item) (o : Observer A C) → Represents I N S i rs o → List PieceReport
values_so_far I N S i rs o s =
    let c = s.cutting in
    map result_of (given_of i rs) ++ map result_of (pieces_of (epoch_at c) o.open_channels.gap None c.open_rows (length (map result_of (given_of i rs))) c.open_rows.channels)

all_values : {A C : Type 0} → (I : C → Interface) (N : C → ℕ) (S : C → GapChannel → Type 0) (i : Interface) (rs : List Item) (o : Observer A C) (s : Represents I N S i rs o) → values_so_far I N S i rs o s ≡ map result_of (plan i rs)
all_values I N S i rs o s =
    let c = s.cutting in
    let many = length-values (given_of i rs) ∙ sym s.cut.given in
    (λ t. map result_of (given_of i rs) ++ map result_of (pieces_of (epoch_at c) (s.holds.gap t) None c.open_rows (many t) c.open_rows.channels))
    ∙ sym (map-append result_of (given_of i rs) (open_pieces c None))
    ∙ ap (map result_of) (rest_open i rs c s.cut)

-- no more rows are gaps than there are
pub few_gaps : {A C : Type 0} → (I : C → Interface) (N : C → ℕ) (S : C → GapChannel → Type 0) (i : Interface) (rs : List Item) (o : Observer A C) → Represents I N S i rs o → o.walk.gaps ≤ o.walk.packets
few_gaps I N S i rs o s = let few = s.bounds.gaps in omega (arith, few, s.holds.gaps, s.holds.packets)

gaps_where : (has_gaps : Bool) (rs : List Item) → cond has_gaps (Some (gaps_of rs)) None ≡ gaps_among has_gaps rs
gaps_where true rs = refl
gaps_where false rs = refl

pub of_walk : {A C : Type 0} → (I : C → Interface) (N : C → ℕ) (S : C → GapChannel → Type 0) (i : Interface) (rs : List Item) (o : Observer A C) (s : Represents I N S i rs o) (line : List Finding) (counts : RowCounts)
    → line ≡ o.walk.findings.items → counts.packets ≡ o.walk.packets - o.walk.gaps → counts.gaps ≡ cond o.walk.interface.gaps (Some o.walk.gaps) None → IsOfWalk i rs (values_so_far I N S i rs o s) line counts (length (values_so_far I N S i rs o s))
of_walk I N S i rs o s line counts found counted gaps =
    let all = all_values I N S i rs o s in
    let same_gaps = s.holds.gaps ∙ s.cut.gaps in
    record {
      said = s.sound.said;
      rising = s.sound.rising;
      values = subst (IsPermutation (map result_of (plan i rs))) (sym all) (IsPermutation-refl (map result_of (plan i rs)));
      line_is = found ∙ s.holds.findings ∙ s.cut.findings;
      packets_are = counted ∙ (λ t. (s.holds.packets ∙ s.cut.packets) t - same_gaps t);
      gaps_are = gaps ∙ (λ t. cond ((s.holds.interface ∙ s.cut.interface) t).gaps (Some (same_gaps t)) None) ∙ gaps_where i.gaps rs;
      pieces_are = ap (λ (l : List PieceReport). length l) all ∙ length-values (plan i rs);
    }
