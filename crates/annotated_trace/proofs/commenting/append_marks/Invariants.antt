use Rattle.std.proofs.Common.{◌≡◌, List, take}
use Rattle.line_model.specs.text.Text.{Line}
use Rattle.annotated_trace.specs.Marking.{HasMarksOf}
use Rattle.annotated_trace.proofs.commenting.append_marks.Given as goal

-- the marks of the first findings
abbrev pub invariant-loop-finding : goal.invariant-loop-finding
invariant-loop-finding g l = record {
  marks : HasMarksOf (take l.finding-index l.found) l.fn.out.items l.out.items;
  described : (lines : List Line) → g.D.Describer.described l.fn.describer lines → g.D.Describer.described l.describer lines;
  rows : g.D.Describer.rows l.describer ≡ g.D.Describer.rows l.fn.describer;
}
