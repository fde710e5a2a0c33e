use Rattle.std.proofs.Common.{◌≡◌, ◌∙◌, ◌++◌, refl, subst, true}
use Rattle.std.specs.Prelude.{IfSome}
use Rattle.restart_epochs.proofs.Taken.{on_ok}
use Rattle.live_report.specs.Found.{found, found_at}
use Rattle.live_report.proofs.LiveLemmas.{found_as, found_headed, on_both, on_under, represents_observing, observing_of}
use Rattle.live_report.proofs.live.Live.feed_rows.Goals as goal

pub observe_chunk-requires : goal.observe_chunk-requires
observe_chunk-requires g c =
    let room = c.requires in
    let seen = observing_of g.C.Channel.interface_of g.C.Channel.number_of g.C.Channel.represents c.args.self.now room.0 c.in-Some.observer room.1 c.in-Some.is in
    (seen.0, room.0, seen.1)

pub returns-in-Some-clause-represented : goal.returns-in-Some-clause-represented
returns-in-Some-clause-represented g c text s =
    let seen = observing_of g.C.Channel.interface_of g.C.Channel.number_of g.C.Channel.represents c.args.self.now text c.in-Some.observer s c.in-Some.is in
    on_ok c.observe_chunk.result _ _ (on_both c.observe_chunk.result _ _ (c.observe_chunk.ensures.observes seen.0 text seen.1)
    (on_both c.observe_chunk.result _ _ c.observe_chunk.ensures.keeps (on_under c.observe_chunk.result (c.args.self.now.keeps_rows ≡ true) _
    (λ keeps. c.observe_chunk.ensures.last seen.0 text seen.1 (subst (λ x. IfSome x (λ o. o.keeps_rows ≡ c.args.self.now.keeps_rows)) c.in-Some.is s.keeps ∙ keeps) (s.last keeps)))))
    (λ w. represents_observing g.C.Channel.interface_of g.C.Channel.number_of g.C.Channel.represents seen.0 _ (text ++ c.args.chunk.now) c.observe_chunk.new.observer w.0 refl s.running
    (w.1.0 ∙ subst (λ x. IfSome x (λ o. o.keeps_rows ≡ c.args.self.now.keeps_rows)) c.in-Some.is s.keeps) w.1.1)

pub returns-in-Some-clause-refused : goal.returns-in-Some-clause-refused
returns-in-Some-clause-refused g c text s =
    let seen = observing_of g.C.Channel.interface_of g.C.Channel.number_of g.C.Channel.represents c.args.self.now text c.in-Some.observer s c.in-Some.is in
    c.observe_chunk.ensures.refused seen.0 text seen.1

pub returns-in-Some-clause-found : goal.returns-in-Some-clause-found
returns-in-Some-clause-found g c text s =
    let seen = observing_of g.C.Channel.interface_of g.C.Channel.number_of g.C.Channel.represents c.args.self.now text c.in-Some.observer s c.in-Some.is in
    let headed = found_headed c.args.self.now.lines text c.args.chunk.now seen.0 s.reads seen.1.header in
    found_as c.observe_chunk.result c.args.self.now.found.items c.observe_chunk.new.found.items (found_at seen.0 text) (found text) (found_at seen.0 (text ++ c.args.chunk.now)) (found (text ++ c.args.chunk.now)) headed.0 headed.1
    (c.observe_chunk.ensures.found seen.0 text seen.1)

pub begin-requires : goal.begin-requires
begin-requires g c = record { fed = c.requires; bare = c.in_default.is }
