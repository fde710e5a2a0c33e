use Rattle.std.proofs.Common.{◌≡◌, ◌∙◌, ap, sym, subst, ℕ, List, ◌++◌, Option}
use Rattle.line_model.specs.basics.Bounds.{IsPiece}
use Rattle.line_model.specs.basics.Records.{Item}
use Rattle.line_model.specs.packets.Says.{gap_items}
use Rattle.restart_epochs.specs.Cutting.{piece_out}
use Rattle.restart_epochs.specs.OpenRows.{gap_after, last_number, with_gap}
use Rattle.restart_epochs.proofs.channel_rows.ChannelRows.into_piece.Goals as goal

-- what a piece says: the rows, and the last gap where it came after them
says : (gap last : ℕ) (rows kept : List Item) (last_gap : Option ℕ) → last_gap ≡ gap_after gap last → last ≡ last_number rows → rows ≡ kept → rows ++ gap_items last_gap ≡ with_gap gap kept
says gap last rows kept last_gap after number same =
    ap (λ o. rows ++ gap_items o) after ∙ ap (λ n. rows ++ gap_items (gap_after gap n)) number ∙ ap (with_gap gap) same

pub returns : goal.returns
returns g c =
    ap (piece_out c.args.epoch.interface c.args.epoch.number c.args.epoch.start c.args.epoch.end c.args.id c.args.channel)
    (says c.args.epoch.gap c.self.inside.last c.self.inside.rows c.args.self c.gap_after-last_gap.result c.gap_after-last_gap.ensures c.self.invariant c.self.view_is)

pub invariant_of-result : goal.invariant_of-result
invariant_of-result g c =
    subst (IsPiece c.args.epoch.interface c.args.channel)
    (sym (says c.args.epoch.gap c.self.inside.last c.self.inside.rows c.args.self c.gap_after-last_gap.result c.gap_after-last_gap.ensures c.self.invariant c.self.view_is)) c.requires.piece
