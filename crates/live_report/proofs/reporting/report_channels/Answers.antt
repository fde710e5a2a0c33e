use Rattle.std.proofs.Common.{◌≡◌, ◌∙◌, ◌∷◌, ◌++◌, [], ap, sym, subst, refl, Err, IfErr, None, length, arith}
use Rattle.std.proofs.lemmas.Result.{IfOk-from_err, err_from_is_err_and}
use Rattle.line_model.specs.declared.fault.Fault.TheVariants.{Memory}
use Rattle.line_model.specs.pieces.Plans.{result_of}
use Rattle.trace_text.proofs.SourceLemmas.{passed_on}
use Rattle.restart_epochs.specs.Cutting.{items_out}
use Rattle.restart_epochs.specs.OpenRows.{rows_of}
use Rattle.report_merge.specs.Gathered.{gathered}
use Rattle.live_report.specs.OpenChannels.{begun_piece, ended_piece}
use Rattle.live_report.proofs.GapLemmas.{value_so_far}
use Rattle.live_report.proofs.ReportingLemmas.{reporting_none, reporting_more, reporting_all, reported_open, reported_some}
use Rattle.live_report.proofs.reporting.report_channels.Goals as goal

pub report-requires : goal.report-requires
report-requires g c =
    let room = c.requires.room in
    let k = c.in-Some.channel.now in
    record {
      represented = (
        begun_piece room.0 k (rows_of room.1 k),
        (reported_open g.C.Channel.interface_of g.C.Channel.number_of g.C.Channel.represents room.0 room.1 k c.args.open_channels.now.table c.in-Some-get.entry.now room.3 c.in-Some-get.ensures).1.live,
      );
    }

pub loop-channel-preserved-in-Continue-branch-2 : goal.loop-channel-preserved-in-Continue-branch-2
loop-channel-preserved-in-Continue-branch-2 g c =
    let next : c.loop-channel.channel-iterator ≡ c.in-Some.channel.now ∷ c.next.new.self = c.in-Some.ensures.steps in
    let one = ap (λ ks. length ks) next in
    record {
      pieces = omega (arith, one, c.loop-channel.invariant.pieces, c.in_ok-add.ensures.pieces);
      reporting = λ e rows first f l is.
          let k = c.in-Some.channel.now in
          let was = c.loop-channel.invariant.reporting e rows first f l is in
          let entry = reported_open g.C.Channel.interface_of g.C.Channel.number_of g.C.Channel.represents e rows k c.args.open_channels.now.table c.in-Some-get.entry.now f c.in-Some-get.ensures in
          let value_is =
          c.in_ok-report.ensures.value (begun_piece e k (rows_of rows k)) entry.1.live
          ∙ sym (value_so_far c.args.open_channels.now.gap (ended_piece c.pieces.result e None k (rows_of rows k)))
          ∙ ap (λ n. result_of (ended_piece n e None k (items_out c.args.open_channels.now.gap rows k))) (c.pieces.ensures ∙ ap (λ p. p.pieces) was.2) in (
            was.0 ++ c.in_ok-report.report ∷ [],
            reporting_more e c.args.open_channels.now.gap rows first was.0 c.loop-channel.channel-iterator k c.next.new.self c.in_ok-report.report was.1 next value_is,
            c.in_ok-add.ensures.added was.0 was.2,
          );
    }

pub loop-channel-init : goal.loop-channel-init
loop-channel-init g c =
    let all = c.into_iter-channel-iterator.ensures.into_iter_gives.0 ∙ c.channels-channel-items.ensures in
    record {
      pieces = omega (arith, c.requires.pieces, ap (λ ks. length ks) all);
      reporting = λ e rows first f l is. (first, reporting_none e c.args.open_channels.now.gap rows first c.into_iter-channel-iterator.result l (all ∙ f.channels), is);
    }

pub returns-clause-values : goal.returns-clause-values
returns-clause-values g c e rows first f pieces l is =
    let was = c.loop-channel.invariant.reporting e rows first f l is in
    was.2 ∙ ap gathered (reporting_all e c.args.open_channels.now.gap rows first was.0 c.loop-channel.channel-iterator was.1 c.in-None.ensures.steps.0)

pub add-requires : goal.add-requires
add-requires g c =
    let one = ap (λ ks. length ks) c.in-Some.ensures.steps in
    record { room = omega (arith, one, c.loop-channel.invariant.pieces) }

pub loop-channel-preserved : goal.loop-channel-preserved
loop-channel-preserved g c =
    let room = c.requires.room in
    let was = c.loop-channel.invariant.reporting room.0 room.1 room.2 room.3 room.5 room.6 in
    absurd (reported_some g.C.Channel.interface_of g.C.Channel.number_of g.C.Channel.represents room.0 c.args.open_channels.now.gap room.1 room.2 was.0 c.loop-channel.channel-iterator c.next.new.self c.in-Some.channel.now c.args.open_channels.now.table room.3 was.1 c.in-Some.ensures.steps c.in_default.ensures)

pub returns-in_err-report-clause-values : goal.returns-in_err-report-clause-values
returns-in_err-report-clause-values g c e rows first f pieces l is = IfOk-from_err _ _ c.from_residual.ensures.0

pub returns-in_err-report-clause-memory : goal.returns-in_err-report-clause-memory
returns-in_err-report-clause-memory g c = passed_on c.from_residual.result c.in_err-report.field-0.0 _ c.from_residual.ensures.1 c.in_err-report.ensures.memory

pub returns-in_err-add-clause-values : goal.returns-in_err-add-clause-values
returns-in_err-add-clause-values g c e rows first f pieces l is = IfOk-from_err _ _ c.from_residual-in_err-add.ensures.0

pub returns-in_err-add-clause-memory : goal.returns-in_err-add-clause-memory
returns-in_err-add-clause-memory g c =
    let p = err_from_is_err_and c.from_residual-in_err-add.result c.from_residual-in_err-add.ensures.1 in
    subst (λ r. IfErr r (λ fault. fault ≡ Memory)) (sym (p.1 ∙ ap (λ f. Err f) p.2)) refl
