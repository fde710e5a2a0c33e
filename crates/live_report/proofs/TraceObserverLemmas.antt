-- What a live trace found, as the lines say it.
use Rattle.std.proofs.Common.{◌≡◌, ◌∙◌, sym, ap, ℕ, List, [], ◌++◌, Some, None, Result, Ok, Err, OnOk}
use Rattle.line_model.specs.observer.Report.{report_of}
use Rattle.line_model.specs.text.Text.{early, early_head, early_rows, ended_lines, good_lines, head_of}
use Rattle.line_model.specs.declared.fault.Fault.{Fault}
use Rattle.line_model.specs.declared.finding.Finding.{Finding}
use Rattle.trace_text.proofs.FeedLemmas.{rows-sound}
use Rattle.live_report.specs.Found.{IsFoundBy, found}
use Rattle.trace_text.specs.ObserverAnswers.{found_in}
use Rattle.line_model.specs.packets.Says.{items_of}

head_so_far : (x : List ℕ) → early x ≡ None → early_head x ≡ head_of (ended_lines x)
unfolding early_head
head_so_far x h = ap (λ at. head_of (good_lines at (ended_lines x))) h

-- what was found so far is what the lines found that ended
found_ended : (x : List ℕ) → early x ≡ None → found x ≡ found_in (ended_lines x)
found_ended x h =
    ap (λ o. elim o as (λ _. List Finding) [ None ↦ [] | Some i ↦ (report_of i (items_of i (early_rows x))).findings ]) (head_so_far x h)
    ∙ ap (λ rs. elim (head_of (ended_lines x)) as (λ _. List Finding) [ None ↦ [] | Some i ↦ (report_of i (items_of i rs)).findings ]) (rows-sound x h)

pub found_more : {T : Type 0} → (r : Result T Fault) (x y : List ℕ) (out : List Finding) (P : Type 0) → early x ≡ None → OnOk r P → (P → early y ≡ None) → IsFoundBy r [] out (found x) (found y) → OnOk r (found_in (ended_lines y) ≡ found_in (ended_lines x) ++ out)
found_more (Ok u) x y out P h p sound f = sym (found_ended y (sound p)) ∙ f.known_has ∙ ap (λ xs. found x ++ xs) (sym f.out_has) ∙ ap (λ xs. xs ++ out) (found_ended x h)
found_more (Err u) x y out P h p sound f = tt
