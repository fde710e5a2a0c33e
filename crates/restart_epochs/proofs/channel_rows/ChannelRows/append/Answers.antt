use Rattle.std.proofs.Common.{rules, ◌≡◌, ◌∙◌, ap, sym, ◌==◌, cond, ◌++◌, length}
use Rattle.restart_epochs.specs.OpenRows.{last_number}
use Rattle.restart_epochs.proofs.GapRows.{both_last}
use Rattle.restart_epochs.proofs.channel_rows.ChannelRows.append.Goals as goal

pub invariant_of-self-2 : goal.invariant_of-self-2
invariant_of-self-2 g c =
    let rows = c.self.inside.rows in
    let later = c.part.inside.items in
    let last : c.if-len-eq0.last ≡ cond (length later == 0) c.self.inside.last c.part.inside.last = search rules in
    last ∙ (λ j. cond (length later == 0) (c.self.invariant j) (c.part.invariant j)) ∙ both_last rows later
    ∙ ap last_number (sym (c.in_ok-add.ensures.ok ∙ ap (λ l. rows ++ l) c.shared.ensures))
