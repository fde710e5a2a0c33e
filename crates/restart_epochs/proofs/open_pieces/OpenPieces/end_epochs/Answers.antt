use Rattle.std.proofs.Common.{◌∙◌, sym}
use Rattle.std.proofs.lemmas.List.{nil_from_length}
use Rattle.std.specs.Vec.Iter.{into_iter_items}
use Rattle.restart_epochs.proofs.EndedEpochs.{ending_all, ending_first, ending_more, ending_none}
use Rattle.restart_epochs.proofs.open_pieces.OpenPieces.end_epochs.Goals as goal

pub loop-epoch-init : goal.loop-epoch-init
loop-epoch-init g c =
    ending_none c.args.walk.now.interface c.args.walk.now.epoch c.args.walk.now.start c.args.self.now.given c.args.self.now.gap c.args.self.now.rows c.args.ended.items _ c.args.out.now.items (sym c.into_iter-epoch-iterator.ensures.into_iter_gives.0) c.requires.rows

pub end_epoch-requires : goal.end_epoch-requires
end_epoch-requires g c = record { rows = ending_first _ _ _ _ _ _ _ _ c.loop-epoch.self.given c.loop-epoch.self.gap c.loop-epoch.self.rows _ _ c.in-Some.epoch _ c.loop-epoch.invariant c.in-Some.ensures.steps.0 }

pub loop-epoch-preserved : goal.loop-epoch-preserved
loop-epoch-preserved g c =
    ending_more c.args.walk.now.interface c.args.walk.now.epoch c.args.walk.now.start c.args.self.now.given c.args.self.now.gap c.args.self.now.rows c.args.ended.items c.args.out.now.items c.loop-epoch.self.given c.end_epoch.new.self.given c.loop-epoch.self.gap c.end_epoch.new.self.gap c.loop-epoch.self.rows c.end_epoch.new.self.rows
    _ c.loop-epoch.out.items c.end_epoch.new.out.items c.in-Some.epoch _ c.loop-epoch.invariant c.in-Some.ensures.steps.0 c.in_ok-end_epoch.ensures.pieces c.in_ok-end_epoch.ensures.gap

pub returns : goal.returns
returns g c =
    let empty = nil_from_length (into_iter_items c.loop-epoch.epoch-iterator) (sym c.loop-epoch.epoch-iterator.rest.ok.0 ∙ c.in-None.ensures.steps.0) in
    ending_all c.args.walk.now.interface c.args.walk.now.epoch c.args.walk.now.start c.args.self.now.given c.args.self.now.gap c.args.self.now.rows c.args.ended.items c.args.out.now.items c.loop-epoch.self.given c.loop-epoch.self.gap c.loop-epoch.self.rows _ c.loop-epoch.out.items c.loop-epoch.invariant empty
