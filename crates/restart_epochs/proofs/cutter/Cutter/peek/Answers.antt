use Rattle.std.proofs.Common.{◌≡◌, ap, subst}
use Rattle.std.specs.Prelude.{IfOk}
use Rattle.restart_epochs.specs.Cutting.{IsCutting}
use Rattle.restart_epochs.proofs.Bounds.{channel_piece}
use Rattle.restart_epochs.proofs.Peeks.{all_peeked, epoch_pieces, open_piece}
use Rattle.restart_epochs.proofs.cutter.Cutter.peek.Goals as goal

pub copy_pieces-requires-clause-pieces : goal.copy_pieces-requires-clause-pieces
copy_pieces-requires-clause-pieces g c k =
    let piece = channel_piece c.args.self.now k (subst IsCutting c.self.view_is c.self.invariant) in
    open_piece c.args.self.now c.open_epoch.result _ k c.open_epoch.ensures.interface c.open_epoch.ensures.gap (ap (λ v. v.open_rows) c.self.view_is) piece

pub returns-clause-pieces : goal.returns-clause-pieces
returns-clause-pieces g c i rows s =
    all_peeked (λ v. v.items) i rows c.args.self.now s c.copy_pieces.result
    (subst (λ ps. IfOk c.copy_pieces.result (λ pieces. pieces.items ≡ ps)) (epoch_pieces c.args.self.now c.open_epoch.result _ _ c.open_epoch.ensures.interface c.open_epoch.ensures.number c.open_epoch.ensures.start c.open_epoch.ensures.gap c.open_epoch.ensures.end (ap (λ v. v.given) c.self.view_is) (ap (λ v. v.open_rows) c.self.view_is)) c.copy_pieces.ensures.copied)
