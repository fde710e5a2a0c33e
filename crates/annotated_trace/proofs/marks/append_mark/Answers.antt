use Rattle.annotated_trace.proofs.MarkingLemmas.{mark_put}
use Rattle.annotated_trace.proofs.marks.append_mark.Goals as goal

pub returns : goal.returns
returns g c =
    mark_put c.args.finding.now c.args.words.now c.args.out.now.items c.extend_from_slice.new.self.items c.append_finding.new.out.items c.append_explained.new.out.items c.push.new.self.items c.in_ok-append_finding.ensures.packet c.in_ok-append_finding.ensures.code
    c.append_explained.ensures.words c.in_ok-extend_from_slice.ensures.items c.in_ok-append_finding.ensures.ok c.in_ok-append_explained.ensures.ok c.in_ok-push.ensures.items
