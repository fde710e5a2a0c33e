-- A text that goes on keeps what its ended lines say, where none of them is faulty.
use Rattle.std.proofs.Common.{◌≡◌, ◌∙◌, sym, ap, ℕ, List, [], ◌++◌, Option, Some, None, drop, ◌⊎◌, inl, inr}
use Rattle.std.specs.Prelude.{is_some}
use Rattle.std.specs.List.{filter_map}
use Rattle.line_model.specs.declared.interface.Interface.{Interface}
use Rattle.line_model.specs.text.RowLine.{row_of}
use Rattle.line_model.specs.text.Text.{early, early_head, early_rows, ended_lines, good_lines, head_of, rows_in}
use Rattle.line_model.proofs.LineLemmas.{no_content}
use Rattle.trace_text.specs.Progress.{Progress}
use Rattle.trace_text.specs.Represents.{Represents}
use Rattle.trace_text.proofs.FeedLemmas.{rows-sound}
use Rattle.trace_text.proofs.RefusalLemmas.{head_grows}

head_so_far : (given : List ℕ) (i : Interface) → early given ≡ None → early_head given ≡ Some i → head_of (ended_lines given) ≡ Some i
unfolding early_head
head_so_far given i h e = ap (λ at. head_of (good_lines at (ended_lines given))) (sym h) ∙ e

-- the header so far stays
pub early_head_stays : (given more : List ℕ) (i : Interface) → early given ≡ None → early_head given ≡ Some i → early_head (given ++ more) ≡ Some i
early_head_stays given more i h e = by (head_grows given more h)
  where
    here : head_of (ended_lines given) ≡ Some i
    here = head_so_far given i h e

    by : (head_of (ended_lines given) ≡ None) ⊎ (head_of (ended_lines given) ≡ early_head (given ++ more)) → early_head (given ++ more) ≡ Some i
    by (inl none) = absurd (let some : Some i ≡ None = sym here ∙ none in cc)
    by (inr same) = sym same ∙ here

-- without a header there are no rows
pub no_rows : (v : Progress) (text : List ℕ) → Represents v text → v.interface ≡ None → early_rows text ≡ []
unfolding rows_in
no_rows v text s none =
    rows-sound text s.sound ∙ ap (λ ls. filter_map row_of (drop 1 ls)) (no_content (ended_lines text) (sym s.header ∙ ap (λ (o : Option Interface). is_some o) none))
