-- What octets begin with, by what the stream finds.
use Rattle.std.proofs.Common.{◌≡◌, ◌∙◌, ap, ◌++◌, false, List, ℕ, subst, sym}
use Rattle.xot_circuits.specs.Packets.{xot}
use Rattle.xot_circuits.specs.Streams.{IsNext}
use Rattle.xot_circuits.specs.declared.stream.Found.{Found}
use Rattle.xot_circuits.proofs.Carried.{carried_other, carried_rest, carried_then}
use Rattle.xot_circuits.proofs.exchange.follow_next.Goals as goal
use Rattle.xot_circuits.proofs.exchange.follow_next.Goals.{in-Lent+in_ok-follow-in-Lent, in-Kept+in_ok-follow-in-Kept}

pub returns-in-Partial : goal.returns-in-Partial
returns-in-Partial g c =
    let octets = c.args.stream.now.rest ++ c.args.octets.now in
    let left = c.in_ok-next.next.rest.now in
    let next = subst (λ (f : Found). IsNext octets f left c.next.new.self) c.in-Partial.is c.in_ok-next.ensures in
    carried_rest c.args.origin.now c.args.dialogue.now (g.I.Items.taken c.args.out.now) octets left c.next.new.self next

pub returns-in-OtherVersion : goal.returns-in-OtherVersion
returns-in-OtherVersion g c =
    let octets = c.args.stream.now.rest ++ c.args.octets.now in
    let left = c.in_ok-next.next.rest.now in
    let next = subst (λ (f : Found). IsNext octets f left c.next.new.self) c.in-OtherVersion.is c.in_ok-next.ensures in
    carried_other c.args.origin.now c.args.dialogue.now c.refuse.new.self (g.I.Items.taken c.args.out.now) octets left
    c.in-OtherVersion.version c.in-OtherVersion.passed c.next.new.self next c.refuse.ensures

pub returns : goal.returns
returns g c =
    let octets = c.args.stream.now.rest ++ c.args.octets.now in
    let left = c.in_ok-next.next.rest.now in
    let s = c.next.new.self in
    let taken = g.I.Items.taken in
    elim c.match-next.branch [
      | in-Lent+in_ok-follow-in-Lent w ↦ carried_then c.args.origin.now c.args.dialogue.now c.match-next.dialogue (taken c.args.out.now) (taken c.match-next.out)
          c.args.stream.now.rest c.args.octets.now w.in-Lent.packet.now left s
          (subst (λ (f : Found). IsNext octets f left s) w.in-Lent.is c.in_ok-next.ensures)
          (w.dialogue-is ∙ w.in_ok-follow-in-Lent.ensures.after) (ap taken w.out-is ∙ w.in_ok-follow-in-Lent.ensures.items)
      | in-Kept+in_ok-follow-in-Kept w ↦ carried_then c.args.origin.now c.args.dialogue.now c.match-next.dialogue (taken c.args.out.now) (taken c.match-next.out)
          c.args.stream.now.rest c.args.octets.now w.packet.result.now left s
          (subst (λ (p : List ℕ). (octets ≡ xot p ++ (s.rest ++ left)) × (s.is_sought ≡ false)) (sym w.packet.ensures)
          (subst (λ (f : Found). IsNext octets f left s) w.in-Kept.is c.in_ok-next.ensures))
          (w.dialogue-is ∙ w.in_ok-follow-in-Kept.ensures.after) (ap taken w.out-is ∙ w.in_ok-follow-in-Kept.ensures.items)
    ]
