use Rattle.std.proofs.Common.{[]}
use Rattle.descriptions.proofs.ObjectLemmas.{object_put}
use Rattle.descriptions.proofs.row_objects.write_object.Goals as goal

pub returns : goal.returns
returns g c i earlier r h =
    let added = object_put c.args.source.now.recorded.circuit i earlier r c.args.facts.now h (c.write_head.ensures i earlier r h) c.row_members.ensures c.raw.ensures in
    record { bytes = added.bytes; put = added.put [] c.clear.ensures; formed = added.formed }
