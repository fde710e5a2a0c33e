use Rattle.std.proofs.Common.{◌∙◌, List, refl, sym, subst, take}
use Rattle.std.proofs.lemmas.List.{take_more}
use Rattle.line_model.specs.declared.finding.Finding.{Finding}
use Rattle.annotated_trace.specs.Marking.{HasMarksOf}
use Rattle.annotated_trace.proofs.MarkingLemmas.{no_marks, one_more_mark}
use Rattle.annotated_trace.proofs.commenting.append_marks.Goals as goal

pub loop-finding-init : goal.loop-finding-init
loop-finding-init g c = record { marks = no_marks c.args.out.now.items; described = λ lines h. h; rows = refl }

pub loop-finding-preserved : goal.loop-finding-preserved
loop-finding-preserved g c =
    let found = c.found-found.result.now in
    let i = c.loop-finding.finding-index in
    record {
      marks = subst (λ (fs : List Finding). HasMarksOf fs c.args.out.now.items c.append_mark.new.out.items) (sym (take_more found i _ c.loop-finding-test.true))
          (one_more_mark (take i found) _ c.args.out.now.items c.loop-finding.out.items c.append_mark.new.out.items c.loop-finding.invariant.marks c.in_ok-append_mark.ensures);
      described = λ lines h. c.explain.ensures.described lines (c.loop-finding.invariant.described lines h);
      rows = c.explain.ensures.rows ∙ c.loop-finding.invariant.rows;
    }

pub returns-in_err-explain-clause-described : goal.returns-in_err-explain-clause-described
returns-in_err-explain-clause-described g c lines h = c.explain.ensures.described lines (c.loop-finding.invariant.described lines h)

pub returns-in_err-explain-clause-rows : goal.returns-in_err-explain-clause-rows
returns-in_err-explain-clause-rows g c = c.explain.ensures.rows ∙ c.loop-finding.invariant.rows

pub returns-in_err-append_mark-clause-described : goal.returns-in_err-append_mark-clause-described
returns-in_err-append_mark-clause-described g c lines h = c.explain.ensures.described lines (c.loop-finding.invariant.described lines h)

pub returns-in_err-append_mark-clause-rows : goal.returns-in_err-append_mark-clause-rows
returns-in_err-append_mark-clause-rows g c = c.explain.ensures.rows ∙ c.loop-finding.invariant.rows

pub returns-clause-described : goal.returns-clause-described
returns-clause-described g c lines h = c.loop-finding.invariant.described lines h
