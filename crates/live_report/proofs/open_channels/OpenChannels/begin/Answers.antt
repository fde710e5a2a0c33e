use Rattle.std.proofs.Common.{◌≡◌, [], ap, refl, subst, sym}
use Rattle.std.proofs.lemmas.Result.{IfOk-from_err}
use Rattle.channel_run.specs.Live.{Represents as IsLive}
use Rattle.live_report.specs.OpenChannels.{begun_piece}
use Rattle.live_report.specs.Effects.{epoch_of}
use Rattle.live_report.proofs.open_channels.OpenChannels.begin.Goals as goal

pub returns-clause-fresh : goal.returns-clause-fresh
returns-clause-fresh g c =
    let p = begun_piece (epoch_of c.args.walk.now) c.args.channel [] in
    let fresh : c.in_ok-entry.entry.value ≡ record { live = c.in_ok-live.live; last = 0 } = c.in_ok-entry.ensures.ok in
    record {
      live = subst (λ entry. IsLive g.C.Channel.interface_of g.C.Channel.number_of g.C.Channel.represents entry.live p) (sym fresh) (c.in_ok-live.ensures.represented p refl refl refl refl refl);
      last = ap (λ entry. entry.last) fresh;
    }

pub returns-in_err-list-clause-listed : goal.returns-in_err-list-clause-listed
returns-in_err-list-clause-listed g c = IfOk-from_err _ _ c.from_residual.ensures.0

pub returns-in_err-list-clause-fresh : goal.returns-in_err-list-clause-fresh
returns-in_err-list-clause-fresh g c = IfOk-from_err _ _ c.from_residual.ensures.0

pub returns-in_err-list-clause-gap : goal.returns-in_err-list-clause-gap
returns-in_err-list-clause-gap g c = IfOk-from_err _ _ c.from_residual.ensures.0

pub returns-in_err-live-clause-listed : goal.returns-in_err-live-clause-listed
returns-in_err-live-clause-listed g c = IfOk-from_err _ _ c.from_residual-in_err-live.ensures.0

pub returns-in_err-live-clause-fresh : goal.returns-in_err-live-clause-fresh
returns-in_err-live-clause-fresh g c = IfOk-from_err _ _ c.from_residual-in_err-live.ensures.0

pub returns-in_err-live-clause-gap : goal.returns-in_err-live-clause-gap
returns-in_err-live-clause-gap g c = IfOk-from_err _ _ c.from_residual-in_err-live.ensures.0

pub returns-in_err-entry-clause-listed : goal.returns-in_err-entry-clause-listed
returns-in_err-entry-clause-listed g c = IfOk-from_err _ _ c.from_residual-in_err-entry.ensures.0

pub returns-in_err-entry-clause-fresh : goal.returns-in_err-entry-clause-fresh
returns-in_err-entry-clause-fresh g c = IfOk-from_err _ _ c.from_residual-in_err-entry.ensures.0

pub returns-in_err-entry-clause-gap : goal.returns-in_err-entry-clause-gap
returns-in_err-entry-clause-gap g c = IfOk-from_err _ _ c.from_residual-in_err-entry.ensures.0
