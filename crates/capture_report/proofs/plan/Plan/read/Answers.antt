-- The marks have what was read, and the survey what was seen, up to the end.
use Rattle.std.proofs.Common.{◌≡◌, false, rules, subst, true}
use Rattle.capture_report.proofs.ReadingLemmas.{read_all, read_more, seen_all, seen_more}
use Rattle.capture_report.specs.Readings.{IsReadOn, IsSeenOn}
use Rattle.capture_report.proofs.plan.Plan.read.Goals as goal

pub returns-then-not-branch-clause-plan : goal.returns-then-not-branch-clause-plan
returns-then-not-branch-clause-plan g c =
    let end : c.in_ok-read_next.field-0 ≡ false = search rules in
    read_all (g.F.Frames.left c.args.frames.now) (g.F.Frames.left c.loop.frames) (g.F.Frames.left c.read_next.new.frames) c.args.line c.loop.reached c.read_next.new.line c.loop.marks c.read_next.new.self c.in_ok-into_plan.field-0 c.loop.invariant.read
    (subst (IsReadOn (g.F.Frames.left c.loop.frames) (g.F.Frames.left c.read_next.new.frames) c.loop.reached c.read_next.new.line c.loop.marks c.read_next.new.self) end c.in_ok-read_next.ensures.read) c.in_ok-into_plan.ensures

pub returns-then-not-branch-clause-seen : goal.returns-then-not-branch-clause-seen
returns-then-not-branch-clause-seen g c =
    let end : c.in_ok-read_next.field-0 ≡ false = search rules in
    seen_all (g.F.Frames.left c.args.frames.now) (g.F.Frames.left c.loop.frames) (g.F.Frames.left c.read_next.new.frames) c.args.line c.loop.reached c.read_next.new.line c.args.survey.now c.loop.survey c.read_next.new.survey c.loop.invariant.seen
    (subst (IsSeenOn (g.F.Frames.left c.loop.frames) (g.F.Frames.left c.read_next.new.frames) c.loop.reached c.read_next.new.line c.loop.survey c.read_next.new.survey) end c.in_ok-read_next.ensures.seen)

pub loop-preserved : goal.loop-preserved
loop-preserved g c =
    let more : c.in_ok-read_next.field-0 ≡ true = search rules in
    record {
      read =
          read_more (g.F.Frames.left c.args.frames.now) (g.F.Frames.left c.loop.frames) (g.F.Frames.left c.read_next.new.frames) c.args.line c.loop.reached c.read_next.new.line c.loop.marks c.read_next.new.self c.loop.invariant.read
          (subst (IsReadOn (g.F.Frames.left c.loop.frames) (g.F.Frames.left c.read_next.new.frames) c.loop.reached c.read_next.new.line c.loop.marks c.read_next.new.self) more c.in_ok-read_next.ensures.read);
      seen =
          seen_more (g.F.Frames.left c.args.frames.now) (g.F.Frames.left c.loop.frames) (g.F.Frames.left c.read_next.new.frames) c.args.line c.loop.reached c.read_next.new.line c.args.survey.now c.loop.survey c.read_next.new.survey c.loop.invariant.seen
          (subst (IsSeenOn (g.F.Frames.left c.loop.frames) (g.F.Frames.left c.read_next.new.frames) c.loop.reached c.read_next.new.line c.loop.survey c.read_next.new.survey) more c.in_ok-read_next.ensures.seen);
    }
