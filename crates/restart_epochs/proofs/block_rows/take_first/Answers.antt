use Rattle.std.proofs.Common.{◌≡◌, ◌∙◌, ap, sym, subst}
use Rattle.std.specs.List.{flat_map}
use Rattle.restart_epochs.specs.OpenRows.{IsTakenOut, last_number, rows_of}
use Rattle.restart_epochs.proofs.ListedRows.{others_taken}
use Rattle.restart_epochs.proofs.SharedParts.{split_off}
use Rattle.restart_epochs.proofs.block_rows.take_first.Given.{Over}
use Rattle.restart_epochs.proofs.block_rows.take_first.Goals as goal

-- the part has the rows of the channel, and the others are left
split : (g : Over) (c : goal.In_ok-items g)
    → (c.in_ok-items.items ≡ rows_of c.args.table.now c.in-Some.channel) × (c.split_first.new.self ≡ flat_map (rows_of c.clear_first.new.table) c.clear_first.new.table.channels)
split g c =
    split_off c.in-Some.channel c.args.table.now c.clear_first.new.table c.args.rows.now c.in_ok-items.items c.split_first.new.self
    c.in-Some.ensures.2 c.requires.rows c.in_ok-items.ensures.rows (c.in_ok-items.ensures.count ∙ c.in-Some.ensures.0)

pub invariant_of-result : goal.invariant_of-result
invariant_of-result g c = c.in-Some.ensures.1 ∙ ap last_number (sym (split g c).0)

pub returns-clause-first : goal.returns-clause-first
returns-clause-first g c = subst (λ rows. IsTakenOut c.in-Some.channel rows c.args.table.now c.clear_first.new.table) (sym (split g c).0) c.in-Some.ensures.2

pub returns-clause-rows : goal.returns-clause-rows
returns-clause-rows g c = (split g c).1

pub returns-in_err-items-clause-others : goal.returns-in_err-items-clause-others
returns-in_err-items-clause-others g c = others_taken c.in-Some.channel (rows_of c.args.table.now c.in-Some.channel) c.args.table.now c.clear_first.new.table c.in-Some.ensures.2

pub returns-clause-others : goal.returns-clause-others
returns-clause-others g c = others_taken c.in-Some.channel (rows_of c.args.table.now c.in-Some.channel) c.args.table.now c.clear_first.new.table c.in-Some.ensures.2
