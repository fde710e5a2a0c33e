use Rattle.std.proofs.Common.{◌∙◌, ◌++◌}
use Rattle.restart_epochs.proofs.Taken.{on_ok}
use Rattle.live_report.proofs.TraceObserverLemmas.{found_more}
use Rattle.live_report.proofs.live_observer.LiveTraceObserver.feed.Goals as goal

pub returns-clause-represented : goal.returns-clause-represented
returns-clause-represented g c text s = on_ok c.feed.result _ _ (c.feed.ensures.represented text s.0) (λ after. (after, c.feed.ensures.keeps ∙ s.1))

pub returns-clause-found : goal.returns-clause-found
returns-clause-found g c text s =
    found_more c.feed.result text (text ++ c.args.chunk.now) c.feed.new.self.found.items _ s.0.reads.sound (c.feed.ensures.represented text s.0) (λ after. after.reads.sound) (c.feed.ensures.found text s.0)
