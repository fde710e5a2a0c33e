use Rattle.std.proofs.Common.{◌≡◌, ◌∙◌, ap, sym, subst, [], ◌∷◌, ◌++◌, append-nil}
use Rattle.std.specs.List.{AllByRecursion}
use Rattle.std.specs.Prelude.{MatchOption}
use Rattle.restart_epochs.specs.OpenRows.{IsTakenOut, OpenRows, rows_of}
use Rattle.restart_epochs.specs.BlockCuts.{parts_of, rows_on}
use Rattle.restart_epochs.proofs.GivenOut.{all_same, kept_all}
use Rattle.restart_epochs.proofs.ListedRows.{others_taken}
use Rattle.restart_epochs.proofs.TakenParts.{all_taken, none_listed, part_with, taken_with}
use Rattle.restart_epochs.proofs.block_rows.take_parts.Given.{Over}
use Rattle.restart_epochs.proofs.block_rows.take_parts.Goals as goal

pub loop-parts-init : goal.loop-parts-init
loop-parts-init g c =
    let before = c.args.table.now in
    record {
      taken = λ k. ap (λ ps. rows_on k ps ++ rows_of before k) c.in_ok-parts.ensures.items;
      others = c.requires.others;
      rest = all_same before before.channels;
      rows = c.requires.rows;
      order = ap (λ ps. ps ++ parts_of (rows_of before) before.channels) c.in_ok-parts.ensures.items;
    }

pub loop-parts-preserved : goal.loop-parts-preserved
loop-parts-preserved g c =
    let part = c.in-Some.part in
    let before = c.args.table.now in
    let now = c.loop-parts.table in
    let after = c.take_first.new.table in
    let one : IsTakenOut part.channel part.items now after = rw c.in-Some.is at c.in_ok-part.ensures.first in
    let inv = c.loop-parts.invariant in
    let rest : AllByRecursion (λ k. rows_of now k ≡ rows_of before k) (part.channel ∷ after.channels) = subst (AllByRecursion (λ k. rows_of now k ≡ rows_of before k)) one.channels inv.rest in
    record {
      taken = λ k. ap (λ ps. rows_on k ps ++ rows_of after k) c.in_ok-push.ensures.items
          ∙ taken_with k part.channel part.items before now after c.loop-parts.parts.items one (inv.taken k);
      others = others_taken part.channel part.items now after one inv.others;
      rest = kept_all before now after part.channel one.others after.channels one.once rest.1;
      rows = c.in_ok-part.ensures.rows;
      order = ap (λ ps. ps ++ parts_of (rows_of before) after.channels) c.in_ok-push.ensures.items
          ∙ part_with (rows_of before) part.channel part.items c.loop-parts.parts.items now.channels after.channels one.channels (one.items ∙ rest.0) ∙ inv.order;
    }

-- no channel is left, and nothing changed in the last turn
none_left : (g : Over) (c : goal.After-drop-rows-inside-2 g) → (c.loop-parts.table.channels ≡ []) × (c.take_first.new.table ≡ c.loop-parts.table)
none_left g c = rw c.in_default.is at c.in_ok-part.ensures.first

-- each channel has its part
all_parts : (g : Over) (c : goal.After-drop-rows-inside-2 g) → c.loop-parts.parts.items ≡ parts_of (rows_of c.args.table.now) c.args.table.now.channels
all_parts g c =
    sym (append-nil c.loop-parts.parts.items) ∙ ap (λ ks. c.loop-parts.parts.items ++ parts_of (rows_of c.args.table.now) ks) (sym (none_left g c).0) ∙ c.loop-parts.invariant.order

pub returns-clause-parts : goal.returns-clause-parts
returns-clause-parts g c = all_parts g c

pub returns-clause-out : goal.returns-clause-out
returns-clause-out g c =
    let none = (none_left g c).0 in
    let same = (none_left g c).1 in
    let inv = c.loop-parts.invariant in
    record {
      parts = λ k. ap (rows_on k) (sym (all_parts g c)) ∙ all_taken c.args.table.now c.loop-parts.table c.loop-parts.parts.items inv.taken inv.others none k;
      none = λ k. ap (λ o. rows_of o k) same ∙ none_listed c.loop-parts.table inv.others none k;
      channels = ap (λ (o : OpenRows). o.channels) same ∙ none;
    }

pub returns-clause-others : goal.returns-clause-others
returns-clause-others g c = c.take_first.ensures.others c.loop-parts.invariant.others

pub returns-in_err-part-clause-others : goal.returns-in_err-part-clause-others
returns-in_err-part-clause-others g c = c.take_first.ensures.others c.loop-parts.invariant.others

pub returns-in_err-push-clause-others : goal.returns-in_err-push-clause-others
returns-in_err-push-clause-others g c = c.take_first.ensures.others c.loop-parts.invariant.others
