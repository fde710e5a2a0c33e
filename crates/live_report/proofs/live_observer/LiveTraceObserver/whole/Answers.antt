use Rattle.live_report.proofs.live_observer.LiveTraceObserver.whole.Goals as goal

pub returns-clause-report_is : goal.returns-clause-report_is
returns-clause-report_is g c text s = c.whole.ensures.report_is text s.0
