use Rattle.line_model.specs.packets.Says.{item_of, items_of}
use Rattle.line_model.specs.text.Text.{rows_in}
use Rattle.descriptions.specs.RowObjects.{IsObjectWhere, circuit_recorded}
use Rattle.descriptions.proofs.LineLemmas.{object_appended, on_any}
use Rattle.descriptions.proofs.row_objects.RowObjects.print_row.Goals as goal

pub returns-in-Some-clause-object : goal.returns-in-Some-clause-object
returns-in-Some-clause-object g c i before l r text s lines head row is kept =
    object_appended c.extend_from_slice.result (IsObjectWhere c.args.picked (circuit_recorded c.args.self.now.past.recorded) i (items_of i (rows_in before)) (item_of i r)) c.in-Some.object.now c.args.out.now.items c.extend_from_slice.new.self.items c.extend_from_slice.ensures.items
    (c.in-Some.ensures.object i before l r text s lines head row is kept)

pub returns-in-None-clause-object : goal.returns-in-None-clause-object
returns-in-None-clause-object g c i before l r text s lines head row is kept = c.append_row.ensures.object i before l r text s lines head row is kept

pub returns-in-Some-clause-kept : goal.returns-in-Some-clause-kept
returns-in-Some-clause-kept g c i before l r text s lines head row is kept =
    on_any c.extend_from_slice.result (c.in-Some.ensures.kept i before l r text s lines head row is kept)

pub returns-in-None-clause-kept : goal.returns-in-None-clause-kept
returns-in-None-clause-kept g c i before l r text s lines head row is kept = c.append_row.ensures.kept i before l r text s lines head row is kept
