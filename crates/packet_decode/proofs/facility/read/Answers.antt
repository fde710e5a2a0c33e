use Rattle.std.proofs.lemmas.Grind.{common_steps}
use Rattle.std.proofs.Common.{sym, ap, ◌∙◌, cond, List, ℕ, Bool, ◌-◌, length, take, drop, arith}
use Rattle.std.specs.Prelude.{◌||◌, ◌==◌}
use Rattle.line_model.specs.basics.Octets.{octet}
use Rattle.packet_decode.specs.Asked.{with_facility}
use Rattle.packet_decode.specs.declared.facility.Asked.{Asked}
use Rattle.packet_decode.proofs.AskedLemmas.{walked_step}
use Rattle.packet_decode.proofs.facility.read.Goals.{then-is_marked, else-is_marked, then-not-is_marked, else-not-is_marked}
use Rattle.packet_decode.proofs.facility.read.Goals as goal
use Rattle.line_model.proofs.DeviceLemmas.{rest_of}

pub loop-left-preserved : goal.loop-left-preserved
loop-left-preserved c =
    let left : List ℕ = c.loop-left.left.now in
    let n : ℕ = c.octets_after-size.result in
    let rest : List ℕ = take (length left - 1) (drop 1 left) in
    let chosen : Bool → Asked = λ m. cond m c.loop-left.asked (with_facility c.args.interface.now (octet 1 left) rest c.loop-left.asked) in
    record {
      read = walked_step c.args.interface.now _ left rest (take (length rest - n) (drop n rest)) n c.loop-left.is_marked c.if-is_marked.is_marked
          c.loop-left.asked c.if-not-is_marked.asked
          c.loop-left.invariant.read c.in-len1-up.len_at_least (rest_of left 1) c.octets_after-size.ensures c.if-rest-size.false (rest_of rest n)
          (elim c.if-is_marked.branch [
            | then-is_marked w ↦ w.is_marked-is ∙ w.if-is_marked.true ∙ ap (λ (m : Bool). m || (octet 1 left == 0)) (sym w.if-is_marked.true)
            | else-is_marked w ↦ w.is_marked-is ∙ ap (λ (m : Bool). m || (octet 1 left == 0)) (sym w.if-is_marked.false)
          ])
          (elim c.if-not-is_marked.branch [
            | then-not-is_marked w ↦ w.asked-is ∙ w.with-asked.ensures.value ∙ ap chosen (sym w.if-not-is_marked.true)
            | else-not-is_marked w ↦ w.asked-is ∙ ap chosen (sym w.if-not-is_marked.false)
          ]);
      in_range = elim c.if-not-is_marked.branch [
        | then-not-is_marked w ↦ rw w.asked-is w.with-asked.ensures.in_range
        | else-not-is_marked w ↦ rw w.asked-is c.loop-left.invariant.in_range
      ];
    }

pub returns-then-rest-size-clause-asked : goal.returns-then-rest-size-clause-asked
returns-then-rest-size-clause-asked c = grind (arith, common_steps)
