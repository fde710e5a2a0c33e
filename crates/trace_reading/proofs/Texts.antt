-- A text that is read and cut as it comes, and its plan.
use Rattle.std.proofs.Common.{◌≡◌, ◌-◌, ◌∙◌, sym, ap, subst, refl, ℕ, List, [], ◌∷◌, ◌++◌, length, Option, Some, None, append-nil}
use Rattle.std.specs.Prelude.{IfSome}
use Rattle.line_model.specs.declared.interface.Interface.{Interface}
use Rattle.line_model.specs.declared.fault.Kind.{Kind}
use Rattle.line_model.specs.declared.fault.Fault.{Fault}
use Rattle.line_model.specs.declared.fault.Fault.TheVariants.{Memory}
use Rattle.line_model.specs.work.Book.{KnownPlan}
use Rattle.line_model.specs.pieces.Plans.{plan, level_findings}
use Rattle.line_model.specs.basics.Records.{Row, Piece}
use Rattle.line_model.specs.packets.Says.{items_of}
use Rattle.line_model.specs.traces.Traces.{trace_plan}
use Rattle.line_model.proofs.Saying.{items_more}
use Rattle.line_model.specs.observer.Report.{gaps_among, gaps_of}
use Rattle.line_model.specs.text.Text.{early, early_head, early_rows, fault, head, rows}
use Rattle.restart_epochs.specs.Cutting.{given_of}
use Rattle.restart_epochs.proofs.Heads.{given_first}
use Rattle.line_model.proofs.TextRows.{early_head_law, early_rows_law}
use Rattle.trace_text.specs.Represents.{IsFaultOf}
use Rattle.workers.specs.Workers.{ArePlanned}
use Rattle.trace_reading.specs.TextCuts.{IsPlanOf, known_of, known_pieces}
use Rattle.trace_reading.specs.Readings.{IsCutOf, IsReadOf}
use Rattle.trace_reading.specs.declared.feeding.Read.{Read}
use Rattle.trace_reading.proofs.Nexts.{given_next}

pub plan_of_head : (text : List ℕ) (i : Interface) → head text ≡ Some i → trace_plan text ≡ plan i (items_of i (rows text))
plan_of_head text i h = ap (λ (o : Option Interface). elim o as (λ _. List Piece) [ None ↦ [] | Some j ↦ plan j (items_of j (rows text)) ]) h

represents_first : (known : KnownPlan) (i : Interface) (given : List ℕ) (rs : List Row) → early given ≡ None → early_head given ≡ Some i → early_rows given ≡ rs → IsPlanOf known given
    → IfSome known (λ ps. (rest : List Piece) × (given_of i (items_of i rs) ++ rest ≡ ps))
represents_first None i given rs sound e same h = tt
represents_first (Some ps) i given rs sound e same h =
    let all = early_rows_law given h.0 in
    let first = given_first i (items_of i rs) (items_of i all.0) in
    (first.0, first.1 ∙ ap (plan i) (sym (items_more i rs all.0)) ∙ ap (λ l. plan i (items_of i (l ++ all.0))) (sym same) ∙ ap (λ l. plan i (items_of i l)) (sym all.1) ∙ sym (plan_of_head (given ++ h.0) i (early_head_law given h.0 i e)) ∙ sym h.1)

ends_with : (known : KnownPlan) (i : Interface) (text : List ℕ) (rs : List Row) → head text ≡ Some i → rows text ≡ rs → IfSome known (λ ps. ps ≡ trace_plan text) → IfSome known (λ ps. (rest : List Piece) × (given_of i (items_of i rs) ++ rest ≡ ps))
ends_with None i text rs e same h = tt
ends_with (Some ps) i text rs e same h =
    let first = given_first i (items_of i rs) [] in
    (first.0, first.1 ∙ ap (plan i) (append-nil (items_of i rs)) ∙ ap (λ l. plan i (items_of i l)) (sym same) ∙ sym (plan_of_head text i e) ∙ sym h)

pub plan_is : (known : KnownPlan) (text : List ℕ) (i j : Interface) (rs : List Row) → head text ≡ Some i → j ≡ i → rows text ≡ rs → IfSome known (λ ps. ps ≡ trace_plan text) → IfSome known (λ ps. ps ≡ plan j (items_of j rs))
plan_is None text i j rs e same is h = tt
plan_is (Some ps) text i j rs e same is h = h ∙ plan_of_head text i e ∙ (λ k. plan (sym same k) (items_of (sym same k) (is k)))

pub read_of : {A : Type 0} (text : List ℕ) (i j : Interface) (rs : List Row) (fed : List Piece) (r : Read A) → fault text ≡ None → head text ≡ Some i → j ≡ i → rows text ≡ rs → IsCutOf j (items_of j rs) fed r → IsReadOf text fed r
read_of text i j rs fed r sound e same is cut =
    let here : j ≡ r.interface = sym cut.interface in
    record {
      sound = sound;
      header = e ∙ ap Some (sym same ∙ here);
      cut = record {
        interface = refl;
        all = cut.all ∙ (λ k. plan (here k) (items_of (here k) (sym is k)));
        interface_findings = cut.interface_findings ∙ (λ k. level_findings (here k) (items_of (here k) (sym is k)));
        packets = cut.packets ∙ (λ k. length (items_of (here k) (sym is k)) - gaps_of (items_of (here k) (sym is k)));
        gaps = cut.gaps ∙ (λ k. gaps_among (here k).gaps (items_of (here k) (sym is k)));
        pieces = cut.pieces;
      };
    }

pub memory_fault : (at : Option (ℕ × Kind)) (f : Fault) → f ≡ Memory → IsFaultOf at f
memory_fault at f e = subst (IsFaultOf at) (sym e) tt

-- ---- the pieces that come next

nothing_more : (xs ys : List Piece) → xs ++ ys ≡ [] → ys ≡ []
nothing_more [] ys h = h
nothing_more (x ∷ xs) ys h = absurd cc

none_next : (known : KnownPlan) (pieces : List Piece) (n : ℕ) → pieces ≡ [] → ArePlanned known n pieces
none_next known [] n h k p e = absurd cc
none_next known (q ∷ pieces) n h k p e = absurd cc

-- those that are complete with a part of the text
pub part_next : (known : KnownPlan) (text part : List ℕ) (pieces : List Piece) (n : ℕ) → early (text ++ part) ≡ None → n ≡ length (known_pieces text) → known_pieces (text ++ part) ≡ known_pieces text ++ pieces → IsPlanOf known (text ++ part) → ArePlanned known n pieces
part_next known text part pieces n sound count more planned = at (early_head (text ++ part)) refl
  where
    at : (o : Option Interface) → early_head (text ++ part) ≡ o → ArePlanned known n pieces
    at None h = none_next known pieces n (nothing_more (known_pieces text) pieces (sym more ∙ ap (λ o. known_of o (text ++ part)) h))
    at (Some i) h = given_next known i (items_of i (early_rows (text ++ part))) (known_pieces text) pieces n count (sym more ∙ ap (λ o. known_of o (text ++ part)) h)
        (represents_first known i (text ++ part) (early_rows (text ++ part)) sound h refl planned)

-- those that are complete with the last line
pub level_next : (known : KnownPlan) (text : List ℕ) (i : Interface) (pieces : List Piece) (n : ℕ) → head text ≡ Some i → n ≡ length (known_pieces text) → given_of i (items_of i (rows text)) ≡ known_pieces text ++ pieces → IfSome known (λ ps. ps ≡ trace_plan text) → ArePlanned known n pieces
level_next known text i pieces n header count more planned = given_next known i (items_of i (rows text)) (known_pieces text) pieces n count (sym more) (ends_with known i text (rows text) header refl planned)
