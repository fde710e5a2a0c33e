use Rattle.std.proofs.Common.{◌≡◌, ◌∙◌, ◌++◌, ◌∷◌, [], List, Some, sym, subst}
use Rattle.line_model.specs.declared.event.Event.{Event}
use Rattle.line_model.specs.declared.event.What.TheVariants.{End}
use Rattle.line_model.specs.basics.Records.{Piece}
use Rattle.line_model.specs.declared.piece.PieceEnd.{PieceEnd}
use Rattle.line_model.specs.pieces.Plans.{piece_events}
use Rattle.call_accounts.specs.Counted.{IsCountable}
use Rattle.channel_run.specs.Tally.{Counts}
use Rattle.channel_run.specs.Live.{channel_so_far, so_far}
use Rattle.channel_run.proofs.LiveLemmas.{end_adds, end_adds_nothing, piece_countable}
use Rattle.channel_run.proofs.live.LiveChannel.close.Goals as goal

pub returns-then-not-is_open-clause-counted : goal.returns-then-not-is_open-clause-counted
returns-then-not-is_open-clause-counted g c = λ p s.
    let self = c.args.self.now in
    let none = end_adds_nothing p c.in-Some.end c.is_open.result (c.is_open.ensures (channel_so_far p) s.machine) c.if-not-is_open.true in
    subst (λ e. Counts self.tally p.epoch p.channel (piece_events (record p { end = e }))) (sym c.in-Some.is) (subst (Counts self.tally p.epoch p.channel) none s.counted)

pub returns-clause-counted : goal.returns-clause-counted
returns-clause-counted g c = λ p s.
    let self = c.args.self.now in
    let n : PieceEnd = c.in-Some.end in
    let restarting : c.is_restarting.result ≡ (channel_so_far p).restarting = c.is_restarting.ensures (channel_so_far p) s.machine in
    let es : List Event = piece_events (so_far p) in
    let done : Piece = record p { end = Some n } in
    let all_events : es ++ record { epoch = self.epoch; channel = self.channel; packet = n.row; what = End c.end_of_epoch.result } ∷ [] ≡ piece_events done =
    (λ j. es ++ record { epoch = s.epoch j; channel = s.channel j; packet = n.row; what = End (c.end_of_epoch.ensures j) } ∷ [])
    ∙ end_adds p n c.is_open.result c.is_restarting.result (c.is_open.ensures (channel_so_far p) s.machine) c.if-not-is_open.false restarting in
    let few = subst IsCountable (sym all_events) (piece_countable done s.small) in
    let counted_now = c.in_ok-record.ensures.recorded p.epoch p.channel es s.counted (s.epoch, s.channel) few in
    subst (λ e. Counts c.record.new.self p.epoch p.channel (piece_events (record p { end = e }))) (sym c.in-Some.is) (subst (Counts c.record.new.self p.epoch p.channel) all_events counted_now)
