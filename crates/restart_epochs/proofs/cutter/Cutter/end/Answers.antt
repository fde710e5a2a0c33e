use Rattle.std.proofs.lemmas.Result.{IfOk-from_err}
use Rattle.std.proofs.Common.{◌≡◌, ◌∙◌, ap, subst, refl, ◌-◌, Bool, true, false, cond, ◌++◌, [], List, length, Some, None, arith}
use Rattle.line_model.specs.basics.Records.{Piece}
use Rattle.line_model.specs.observer.Report.{gaps_among, gaps_of}
use Rattle.restart_epochs.specs.Cutting.{given_of, items_out, open_pieces, IsCutting}
use Rattle.restart_epochs.proofs.Bounds.{channel_piece}
use Rattle.restart_epochs.proofs.Peeks.{all_out, open_piece}
use Rattle.restart_epochs.proofs.Pushes.{rest_open, out-length}
use Rattle.restart_epochs.proofs.cutter.Cutter.end.Goals as goal

pub append_pieces-requires-clause-pieces : goal.append_pieces-requires-clause-pieces
append_pieces-requires-clause-pieces g c k =
    let e = c.open_epoch-epoch.ensures in
    let piece = channel_piece c.args.self k (subst IsCutting c.self.view_is c.self.invariant) in
    open_piece c.args.self c.open_epoch-epoch.result _ k e.interface e.gap (ap (λ v. v.open_rows) c.self.view_is) piece

pub returns-clause-pieces : goal.returns-clause-pieces
returns-clause-pieces g c i rows s =
    let nothing : c.reserve.new.self.items ≡ [] = c.reserve.ensures.items ∙ c.new-pieces.ensures.items in
    let e = c.open_epoch-epoch.ensures in
    ap (λ l. given_of i rows ++ l)
    (all_out c.args.self c.open_epoch-epoch.result _ _ c.reserve.new.self.items c.append_pieces.new.out.items e.interface e.number e.start e.gap e.end (ap (λ v. v.given) c.self.view_is) (ap (λ v. v.open_rows) c.self.view_is) nothing c.append_pieces.ensures.given)
    ∙ rest_open i rows c.args.self s

pub returns-clause-few : goal.returns-clause-few
returns-clause-few g c i rows s =
    let nothing : c.reserve.new.self.items ≡ [] = c.reserve.ensures.items ∙ c.new-pieces.ensures.items in
    let e = c.open_epoch-epoch.ensures in
    let v = c.args.self in
    let all : c.append_pieces.new.out.items ≡ open_pieces v None =
    all_out v c.open_epoch-epoch.result _ _ c.reserve.new.self.items c.append_pieces.new.out.items e.interface e.number e.start e.gap e.end (ap (λ u. u.given) c.self.view_is) (ap (λ u. u.open_rows) c.self.view_is) nothing c.append_pieces.ensures.given in
    let open_channels = ap (λ (l : List Piece). length l) all ∙ out-length v.interface v.epoch v.start None (items_out v.gap v.open_rows) v.given v.open_rows.channels in
    let bounds = subst IsCutting c.self.view_is c.self.invariant in
    let ids = bounds.ids in
    let packets = bounds.rows in
    let last = bounds.last in
    omega (arith, ids, packets, last, open_channels, s.given)

pub returns-clause-of_rows : goal.returns-clause-of_rows
returns-clause-of_rows g c i rows s =
    let nothing : c.reserve.new.self.items ≡ [] = c.reserve.ensures.items ∙ c.new-pieces.ensures.items in
    let e = c.open_epoch-epoch.ensures in
    let v = c.args.self in
    let all : c.append_pieces.new.out.items ≡ open_pieces v None =
    all_out v c.open_epoch-epoch.result _ _ c.reserve.new.self.items c.append_pieces.new.out.items e.interface e.number e.start e.gap e.end (ap (λ u. u.given) c.self.view_is) (ap (λ u. u.open_rows) c.self.view_is) nothing c.append_pieces.ensures.given in
    let open_channels = ap (λ (l : List Piece). length l) all ∙ out-length v.interface v.epoch v.start None (items_out v.gap v.open_rows) v.given v.open_rows.channels in
    let bounds = subst IsCutting c.self.view_is c.self.invariant in
    let ids = bounds.ids in
    omega (arith, ids, open_channels, s.given, s.packets)

pub returns-in_err-reserve-clause-pieces : goal.returns-in_err-reserve-clause-pieces
returns-in_err-reserve-clause-pieces g c i rows s = IfOk-from_err _ _ c.from_residual.ensures.0

pub returns-in_err-reserve-clause-interface_findings : goal.returns-in_err-reserve-clause-interface_findings
returns-in_err-reserve-clause-interface_findings g c i rows s = IfOk-from_err _ _ c.from_residual.ensures.0

pub returns-in_err-reserve-clause-packets : goal.returns-in_err-reserve-clause-packets
returns-in_err-reserve-clause-packets g c i rows s = IfOk-from_err _ _ c.from_residual.ensures.0

pub returns-in_err-reserve-clause-gaps : goal.returns-in_err-reserve-clause-gaps
returns-in_err-reserve-clause-gaps g c i rows s = IfOk-from_err _ _ c.from_residual.ensures.0

pub returns-in_err-reserve-clause-few : goal.returns-in_err-reserve-clause-few
returns-in_err-reserve-clause-few g c i rows s = IfOk-from_err _ _ c.from_residual.ensures.0

pub returns-in_err-reserve-clause-of_rows : goal.returns-in_err-reserve-clause-of_rows
returns-in_err-reserve-clause-of_rows g c i rows s = IfOk-from_err _ _ c.from_residual.ensures.0

pub append_pieces-requires-clause-room : goal.append_pieces-requires-clause-room
append_pieces-requires-clause-room g c = let room = c.in_ok-reserve.ensures.ok in omega (arith, room, c.len.ensures)

pub append_pieces-requires-clause-ids : goal.append_pieces-requires-clause-ids
append_pieces-requires-clause-ids g c = let ids = c.self.invariant.ids in omega (arith, ids)

pub returns-clause-interface_findings : goal.returns-clause-interface_findings
returns-clause-interface_findings g c i rows s = ap (λ v. v.findings) c.self.view_is ∙ s.findings

pub returns-clause-packets : goal.returns-clause-packets
returns-clause-packets g c i rows s = (λ j. (c.self.view_is j).packets - (c.self.view_is j).gaps) ∙ (λ j. s.packets j - s.gaps j)

pub returns-clause-gaps : goal.returns-clause-gaps
returns-clause-gaps g c i rows s = c.gaps-gaps.ensures ∙ (λ j. cond (s.interface j).gaps (Some (s.gaps j)) None) ∙ recorded_gaps i.gaps
  where
    recorded_gaps : (b : Bool) → cond b (Some (gaps_of rows)) None ≡ gaps_among b rows
    recorded_gaps true = refl
    recorded_gaps false = refl

pub returns-clause-refused : goal.returns-clause-refused
returns-clause-refused g c = tt
