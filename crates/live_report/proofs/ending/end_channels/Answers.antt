use Rattle.std.proofs.Common.{◌∙◌, ap, sym, subst, refl, Some, length, ◌≡◌, [], ◌∷◌, ◌++◌, arith}
use Rattle.std.proofs.lemmas.Result.{IfOk-from_err}
use Rattle.std.specs.Option.{option_map}
use Rattle.line_model.specs.basics.Bounds.{IsPiece}
use Rattle.line_model.specs.pieces.Plans.{result_of}
use Rattle.restart_epochs.specs.Cutting.{items_out}
use Rattle.restart_epochs.specs.OpenRows.{rows_of, with_gap}
use Rattle.restart_epochs.specs.ChannelTables.{HasPopped}
use Rattle.report_merge.specs.Gathered.{gathered}
use Rattle.live_report.specs.OpenChannels.{ended_piece}
use Rattle.live_report.proofs.EndingLemmas.{Ending, ending_more, ending_none, ending_all, popped_live, popped_some}
use Rattle.live_report.proofs.ending.end_channels.Given.{Over}
use Rattle.live_report.proofs.ending.end_channels.Goals as goal

-- the open channel that was popped
popped : (g : Over) (c : goal.After-pieces g) → HasPopped c.in-Some.channel (Some c.in-Some-entry.entry.value) c.loop-channel.open_channels.table c.pop_first.new.self
popped g c = subst (λ o. HasPopped c.in-Some.channel o c.loop-channel.open_channels.table c.pop_first.new.self) (ap (λ o. option_map (λ b. b.value) o) c.in-Some-entry.is) c.in-Some.ensures

pub loop-channel-init : goal.loop-channel-init
loop-channel-init g c = record {
  pieces = c.requires.pieces;
  gap = refl;
  ending = λ e rows first f all l is. (first, ending_none g.C.Channel.interface_of g.C.Channel.number_of g.C.Channel.represents e c.args.open_channels.now.gap c.args.end rows first c.args.open_channels.now.table f l, is);
}

pub end-requires : goal.end-requires
end-requires g c =
    let room = c.requires.room in
    let was = c.loop-channel.invariant.ending room.0 room.1 room.2 room.3 room.4 room.5 room.6 in
    let k = c.in-Some.channel in
    record {
      room = (
        room.0,
        k,
        rows_of room.1 k,
        popped_live g.C.Channel.interface_of g.C.Channel.number_of g.C.Channel.represents room.0 c.args.open_channels.now.gap c.args.end room.1 room.2 c.loop-channel.open_channels.table c.pop_first.new.self was.0 k c.in-Some-entry.entry.value was.1 (popped g c),
        subst (λ gap. IsPiece room.0.interface k (with_gap gap (rows_of room.1 k))) (sym c.loop-channel.invariant.gap) (room.4 k),
      );
    }

pub loop-channel-preserved-in-Continue-branch-2 : goal.loop-channel-preserved-in-Continue-branch-2
loop-channel-preserved-in-Continue-branch-2 g c =
    let one = ap (λ ks. length ks) c.in-Some.ensures.channels in
    let k = c.in-Some.channel in
    let pop : HasPopped k (Some c.in-Some-entry.entry.value) c.loop-channel.open_channels.table c.pop_first.new.self =
    subst (λ o. HasPopped k o c.loop-channel.open_channels.table c.pop_first.new.self) (ap (λ o. option_map (λ b. b.value) o) c.in-Some-entry.is) c.in-Some.ensures in
    record {
      pieces = omega (arith, one, c.loop-channel.invariant.pieces, c.in_ok-add.ensures.pieces);
      gap = c.loop-channel.invariant.gap;
      ending = λ e rows first f all l is.
          let was = c.loop-channel.invariant.ending e rows first f all l is in
          let gap = c.loop-channel.invariant.gap in
          let entry = popped_live g.C.Channel.interface_of g.C.Channel.number_of g.C.Channel.represents e c.args.open_channels.now.gap c.args.end rows first c.loop-channel.open_channels.table c.pop_first.new.self was.0 k c.in-Some-entry.entry.value was.1 pop in
          let value_is =
          c.in_ok-report.ensures.value e k (rows_of rows k) entry (subst (λ n. IsPiece e.interface k (with_gap n (rows_of rows k))) (sym gap) (all k))
          ∙ ap (λ n. result_of (ended_piece c.pieces.result e c.args.end k (with_gap n (rows_of rows k)))) gap
          ∙ ap (λ n. result_of (ended_piece n e c.args.end k (items_out c.args.open_channels.now.gap rows k))) (c.pieces.ensures ∙ ap (λ p. p.pieces) was.2) in (
            was.0 ++ c.in_ok-report.report ∷ [],
            ending_more g.C.Channel.interface_of g.C.Channel.number_of g.C.Channel.represents e c.args.open_channels.now.gap c.args.end rows first c.loop-channel.open_channels.table c.pop_first.new.self was.0 k _ c.in_ok-report.report was.1 pop value_is,
            c.in_ok-add.ensures.added was.0 was.2,
          );
    }

pub loop-channel-preserved : goal.loop-channel-preserved
loop-channel-preserved g c =
    let room = c.requires.room in
    let was = c.loop-channel.invariant.ending room.0 room.1 room.2 room.3 room.4 room.5 room.6 in
    absurd (popped_some g.C.Channel.interface_of g.C.Channel.number_of g.C.Channel.represents room.0 c.args.open_channels.now.gap c.args.end room.1 room.2 c.loop-channel.open_channels.table c.pop_first.new.self was.0 c.in-Some.channel was.1
    (subst (λ o. HasPopped c.in-Some.channel o c.loop-channel.open_channels.table c.pop_first.new.self) (ap (λ o. option_map (λ b. b.value) o) c.in_default-entry.is) c.in-Some.ensures))

pub returns-clause-values : goal.returns-clause-values
returns-clause-values g c e rows first f all l is =
    let none : (c.loop-channel.open_channels.table.channels ≡ []) × (c.pop_first.new.self ≡ c.loop-channel.open_channels.table) = c.in_default.ensures in
    let was = c.loop-channel.invariant.ending e rows first f all l is in
    was.2 ∙ ap gathered (ending_all g.C.Channel.interface_of g.C.Channel.number_of g.C.Channel.represents e c.args.open_channels.now.gap c.args.end rows first c.loop-channel.open_channels.table was.0 was.1 none.0).0

pub returns-clause-emptied : goal.returns-clause-emptied
returns-clause-emptied g c e rows f all l =
    let none : (c.loop-channel.open_channels.table.channels ≡ []) × (c.pop_first.new.self ≡ c.loop-channel.open_channels.table) = c.in_default.ensures in
    let room = c.requires.room in
    let was = c.loop-channel.invariant.ending e rows room.2 f all l room.6 in (
      (ending_all g.C.Channel.interface_of g.C.Channel.number_of g.C.Channel.represents e c.args.open_channels.now.gap c.args.end rows room.2 c.pop_first.new.self was.0
          (subst (λ table. Ending g.C.Channel.interface_of g.C.Channel.number_of g.C.Channel.represents e c.args.open_channels.now.gap c.args.end rows room.2 table was.0) (sym none.1) was.1)
          (ap (λ table. table.channels) none.1 ∙ none.0)).1,
      refl,
    )

pub returns-in_err-report-clause-values : goal.returns-in_err-report-clause-values
returns-in_err-report-clause-values g c e rows first f all l is = IfOk-from_err _ _ c.from_residual.ensures.0

pub returns-in_err-report-clause-emptied : goal.returns-in_err-report-clause-emptied
returns-in_err-report-clause-emptied g c e rows f all l = IfOk-from_err _ _ c.from_residual.ensures.0

pub returns-in_err-add-clause-values : goal.returns-in_err-add-clause-values
returns-in_err-add-clause-values g c e rows first f all l is = IfOk-from_err _ _ c.from_residual-in_err-add.ensures.0

pub returns-in_err-add-clause-emptied : goal.returns-in_err-add-clause-emptied
returns-in_err-add-clause-emptied g c e rows f all l = IfOk-from_err _ _ c.from_residual-in_err-add.ensures.0
