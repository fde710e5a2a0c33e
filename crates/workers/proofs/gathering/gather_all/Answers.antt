use Rattle.std.proofs.Common.{◌≡◌, ap, sym, ◌∙◌, length, rules}
use Rattle.std.specs.Prelude.{sum_by}
use Rattle.line_model.specs.declared.totals.Totals.{Totals}
use Rattle.workers.specs.Gathers.{reports_of}
use Rattle.workers.proofs.gathering.gather_all.Goals as goal

pub returns-clause-whole : goal.returns-clause-whole
returns-clause-whole g c =
    let e = c.in_ok-gathered.ensures in
    let shares : length (reports_of c.in_ok-gathered.gathered) ≡ sum_by (λ (t : Totals). t.posts) c.in_ok-gathered.gathered.shares.items = ap (λ (t : Totals). t.posts) (sym e.totals ∙ e.sums) in
    let posted = ap (sum_by (λ (t : Totals). t.posts)) e.each in record {
      posted = e.reports;
      of_fed = record { distinct = e.reports.distinct; values = λ k d lt. let v = e.vouched k d lt in c.confirm.ensures.fed _ (v.0, v.1, v.2) };
      runs = λ k d lt. c.confirm.ensures.runs _ (e.vouched k d lt);
      number = shares ∙ (posted ∙ (c.requires.posted ∙ sym c.confirm.ensures.number));
      sums = e.totals;
      of_shares = e.sums;
      each = search rules;
    }
