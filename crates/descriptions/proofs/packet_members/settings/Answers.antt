use Rattle.std.proofs.Common.{false, subst, sym}
use Rattle.descriptions.specs.Writing.{Adds, IsOpenArray}
use Rattle.descriptions.proofs.MemberLemmas.{array_end, element_put}
use Rattle.descriptions.proofs.packet_members.settings.Goals.{in-Setting, in_default}
use Rattle.descriptions.proofs.packet_members.settings.Goals as goal

pub returns : goal.returns
returns g c = array_end c.loop-event.is_first c.loop-event.invariant c.raw-2.ensures

pub loop-event-preserved : goal.loop-event-preserved
loop-event-preserved g c =
    let has = g.O.Out.has in
    let start = c.args.json.now.out in
    elim c.match-event.branch [
      | in-Setting w ↦ subst (λ f. Adds has (IsOpenArray f) start c.match-event.json.out) (sym w.is_first-is) (subst (λ j. Adds has (IsOpenArray false) start j.out) (sym w.json-is) (element_put c.loop-event.is_first c.loop-event.invariant w.separate.ensures w.setting.ensures))
      | in_default w ↦ subst (λ f. Adds has (IsOpenArray f) start c.match-event.json.out) (sym w.is_first-is) (subst (λ j. Adds has (IsOpenArray c.loop-event.is_first) start j.out) (sym w.json-is) c.loop-event.invariant)
    ]
