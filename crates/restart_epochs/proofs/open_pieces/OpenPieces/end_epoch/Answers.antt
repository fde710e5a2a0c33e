use Rattle.std.proofs.Common.{◌≡◌, ◌∙◌, sym, subst, ◌+◌, length, arith}
use Rattle.std.proofs.lemmas.List.{nil_from_length}
use Rattle.restart_epochs.specs.BlockCuts.{EpochRows, HasEnded, MayEnd}
use Rattle.restart_epochs.proofs.EndedEpochs.{IsBare, bare_ended, bare_ids, bare_pieces, whole_ended, whole_ids, whole_pieces}
use Rattle.restart_epochs.proofs.open_pieces.OpenPieces.end_epoch.Goals as goal

pub append_parts-requires-clause-ids : goal.append_parts-requires-clause-ids
append_parts-requires-clause-ids g c =
    let self = c.args.self.now in
    let walk = c.args.walk.now in
    let may = subst (MayEnd walk.interface walk.epoch self.given self.gap self.rows) (sym c.ended.view_is) c.requires.rows in
    let bare : IsBare self.gap self.rows = record { none = c.if-self-eq0.true; channels = nil_from_length self.rows.channels (sym c.len.ensures ∙ c.if-len-eq0.true) } in
    bare_ids walk.interface walk.epoch self.given self.gap self.rows _ may bare

pub append_parts-requires-clause-pieces : goal.append_parts-requires-clause-pieces
append_parts-requires-clause-pieces g c =
    let self = c.args.self.now in
    let walk = c.args.walk.now in
    let may = subst (MayEnd walk.interface walk.epoch self.given self.gap self.rows) (sym c.ended.view_is) c.requires.rows in
    let bare : IsBare self.gap self.rows = record { none = c.if-self-eq0.true; channels = nil_from_length self.rows.channels (sym c.len.ensures ∙ c.if-len-eq0.true) } in
    bare_pieces walk.interface walk.epoch self.given self.gap self.rows _ c.gap_joined.result may bare c.gap_joined.ensures

pub overflow_cast-self : goal.overflow_cast-self
overflow_cast-self g c =
    let self = c.args.self.now in
    let walk = c.args.walk.now in
    let may = subst (MayEnd walk.interface walk.epoch self.given self.gap self.rows) (sym c.ended.view_is) c.requires.rows in
    let bare : IsBare self.gap self.rows = record { none = c.if-self-eq0.true; channels = nil_from_length self.rows.channels (sym c.len.ensures ∙ c.if-len-eq0.true) } in
    let ids = bare_ids walk.interface walk.epoch self.given self.gap self.rows _ may bare in
    omega (arith, ids, c.len-count.ensures)

pub overflow_add-self : goal.overflow_add-self
overflow_add-self g c =
    let self = c.args.self.now in
    let walk = c.args.walk.now in
    let may = subst (MayEnd walk.interface walk.epoch self.given self.gap self.rows) (sym c.ended.view_is) c.requires.rows in
    let bare : IsBare self.gap self.rows = record { none = c.if-self-eq0.true; channels = nil_from_length self.rows.channels (sym c.len.ensures ∙ c.if-len-eq0.true) } in
    let ids = bare_ids walk.interface walk.epoch self.given self.gap self.rows _ may bare in
    omega (arith, ids, c.len-count.ensures)

pub returns-then-self-eq0-clause-pieces : goal.returns-then-self-eq0-clause-pieces
returns-then-self-eq0-clause-pieces g c =
    let self = c.args.self.now in
    let walk = c.args.walk.now in
    let may = subst (MayEnd walk.interface walk.epoch self.given self.gap self.rows) (sym c.ended.view_is) c.requires.rows in
    let bare : IsBare self.gap self.rows = record { none = c.if-self-eq0.true; channels = nil_from_length self.rows.channels (sym c.len.ensures ∙ c.if-len-eq0.true) } in
    let out = c.args.out.now.items in
    let count : self.given + c.len-count.result ≡ self.given + length c.ended.inside.parts.items = let len = c.len-count.ensures in omega (arith, len, c.ended.inside.parts.ok) in
    subst (λ (e : EpochRows). HasEnded walk.interface walk.epoch walk.start e self.given (self.given + c.len-count.result) self.gap self.rows self.rows out c.append_parts.new.out.items) c.ended.view_is
    (bare_ended walk.interface walk.epoch walk.start self.given (self.given + c.len-count.result) self.gap self.rows _ c.start_joined.result c.gap_joined.result out c.append_parts.new.out.items may bare c.start_joined.ensures c.gap_joined.ensures count c.in_ok-append_parts.ensures)

pub give_out-requires-clause-ids : goal.give_out-requires-clause-ids
give_out-requires-clause-ids g c =
    let self = c.args.self.now in
    let walk = c.args.walk.now in
    let may = subst (MayEnd walk.interface walk.epoch self.given self.gap self.rows) (sym c.ended.view_is) c.requires.rows in
    whole_ids walk.interface walk.epoch self.given self.gap self.rows c.keep_parts.new.rows _ may c.in_ok-keep_parts.ensures

pub give_out-requires-clause-pieces : goal.give_out-requires-clause-pieces
give_out-requires-clause-pieces g c =
    let self = c.args.self.now in
    let walk = c.args.walk.now in
    let may = subst (MayEnd walk.interface walk.epoch self.given self.gap self.rows) (sym c.ended.view_is) c.requires.rows in
    whole_pieces walk.interface walk.epoch self.given self.gap self.rows c.keep_parts.new.rows _ c.gap_joined.result may c.in_ok-keep_parts.ensures c.gap_joined.ensures

pub returns-clause-pieces : goal.returns-clause-pieces
returns-clause-pieces g c =
    let self = c.args.self.now in
    let walk = c.args.walk.now in
    let may = subst (MayEnd walk.interface walk.epoch self.given self.gap self.rows) (sym c.ended.view_is) c.requires.rows in
    let out = c.args.out.now.items in
    let given = c.in_ok-give_out.ensures in
    subst (λ (e : EpochRows). HasEnded walk.interface walk.epoch walk.start e self.given c.give_out.new.self.given self.gap self.rows c.give_out.new.self.rows out c.give_out.new.out.items) c.ended.view_is
    (whole_ended walk.interface walk.epoch walk.start self.given c.give_out.new.self.given self.gap self.rows c.keep_parts.new.rows c.give_out.new.self.rows _ c.start_joined.result c.gap_joined.result out c.give_out.new.out.items may c.in_ok-keep_parts.ensures c.start_joined.ensures c.gap_joined.ensures given.rows given.count given.given)
