use Rattle.std.proofs.Common.{eqb-true, ◌≡◌, ◌∙◌, ◌+◌, ◌<◌, ◌++◌, List, Err, IfErr, ap, subst, sym, refl, length, length-append, arith}
use Rattle.std.specs.Option.{option_to_list}
use Rattle.std.proofs.lemmas.Result.{IfOk-from_err, err_from_is_err_and}
use Rattle.line_model.specs.text.Text.{early, early_rows}
use Rattle.line_model.specs.declared.fault.Fault.TheVariants.{Memory}
use Rattle.line_model.specs.declared.finding.Finding.{Finding}
use Rattle.trace_text.proofs.SourceLemmas.{passed_on}
use Rattle.line_model.specs.packets.Says.{items_of}
use Rattle.trace_text.specs.Progress.{bytes_fed}
use Rattle.trace_text.specs.Represents.{IsFaultOf, IsTextFault, ReadsChunk}
use Rattle.live_report.specs.Found.{IsFoundBy, IsFoundUpTo, found_at}
use Rattle.live_report.proofs.FollowLemmas.{fed_few}
use Rattle.live_report.proofs.FoundLemmas.{at_most_one}
use Rattle.live_report.proofs.ChunkLemmas.{ReadsRow, course_begun, course_done, course_end, course_found, course_kept, course_last, course_refused, course_row, course_stopped, course_text, header_stays, next_rows}
use Rattle.live_report.proofs.observing.observe_chunk.Goals as goal

pub loop-rest-init : goal.loop-rest-init
loop-rest-init g c = record {
  few = omega arith;
  size = refl;
  limit = fed_few c.args.lines.now c.requires.1 c.requires.2.reads;
  keeps = refl;
  course = λ i text w. course_begun g.C.Channel.interface_of g.C.Channel.number_of g.C.Channel.represents i text c.args.chunk.now c.args.lines.now c.args.observer.now c.args.found.now.items c.args.rows.now.last w;
}

pub take-requires : goal.take-requires
take-requires g c =
    let room = c.requires in
    let course = c.loop-rest.invariant.course room.0 room.1 room.2 in
    let row : ReadsRow c.loop-rest.lines c.next_row.new.self c.loop-rest.rest.now c.in-Some.after.now c.next_row.new.row = rw c.in-Some.is at c.in_ok-after.ensures.ok in
    record {
      room = (
        room.0,
        items_of room.0 (early_rows (room.1 ++ course.read)),
        course.observing.observes,
        next_rows room.0 c.loop-rest.lines c.next_row.new.self (room.1 ++ course.read) c.loop-rest.rest.now c.in-Some.after.now c.next_row.new.row course.observing.reads row
            (header_stays c.loop-rest.lines c.next_row.new.self (room.1 ++ course.read) c.loop-rest.rest.now room.0 course.observing.reads course.observing.header (c.in_ok-after.ensures.header (room.1 ++ course.read) course.observing.reads)),
      );
    }

pub loop-rest-preserved : goal.loop-rest-preserved
loop-rest-preserved g c =
    let row : ReadsRow c.loop-rest.lines c.next_row.new.self c.loop-rest.rest.now c.in-Some.after.now c.next_row.new.row = rw c.in-Some.is at c.in_ok-after.ensures.ok in
    let size : bytes_fed c.next_row.new.self + length c.in-Some.after.now ≡ bytes_fed c.loop-rest.lines + length c.loop-rest.rest.now = rw c.in-Some.is at c.in_ok-after.ensures.size in
    let shorter : length c.in-Some.after.now < length c.loop-rest.rest.now = rw c.in-Some.is at c.in_ok-after.ensures.shorter in
    let finding = c.in_ok-take.field-0 in
    let noted = c.in_ok-append_finding.ensures.ok in
    let few = c.loop-rest.invariant.few in
    record {
      few = omega (arith, few, shorter, ap (λ (xs : List Finding). length xs) noted, length-append c.loop-rest.found.items (option_to_list finding), at_most_one finding);
      size = size ∙ c.loop-rest.invariant.size;
      limit = c.in_ok-after.ensures.limit;
      keeps = c.in_ok-take.ensures.keeps ∙ c.loop-rest.invariant.keeps;
      course = λ i text w.
          let course = c.loop-rest.invariant.course i text w in
          course_kept (course_row g.C.Channel.interface_of g.C.Channel.number_of g.C.Channel.represents i text c.args.chunk.now c.loop-rest.rest.now c.in-Some.after.now c.args.rows.now.last c.loop-rest.rows.last c.next_row.new.row c.loop-rest.lines c.next_row.new.self c.loop-rest.observer c.take.new.self
          c.args.found.now.items c.loop-rest.found.items c.append_finding.new.findings.items (option_to_list finding)
          course row (c.in_ok-after.ensures.header (text ++ course.read) course.observing.reads)
          (c.in_ok-take.ensures.represented i (items_of i (early_rows (text ++ course.read))) course.observing.observes
          (next_rows i c.loop-rest.lines c.next_row.new.self (text ++ course.read) c.loop-rest.rest.now c.in-Some.after.now c.next_row.new.row course.observing.reads row
          (header_stays c.loop-rest.lines c.next_row.new.self (text ++ course.read) c.loop-rest.rest.now i course.observing.reads course.observing.header (c.in_ok-after.ensures.header (text ++ course.read) course.observing.reads))))
          noted (c.in_ok-take.ensures.finding i (items_of i (early_rows (text ++ course.read))) course.observing.observes)) (λ keeps. c.keep_next.ensures keeps);
    }

pub returns-in_default-clause-observes : goal.returns-in_default-clause-observes
returns-in_default-clause-observes g c i text w =
    let course = c.loop-rest.invariant.course i text w in
    let end : ReadsChunk c.loop-rest.lines c.next_row.new.self c.loop-rest.rest.now = rw c.in_default.is at c.in_ok-after.ensures.ok in
    course_end g.C.Channel.interface_of g.C.Channel.number_of g.C.Channel.represents i text c.args.chunk.now c.loop-rest.rest.now c.loop-rest.lines c.next_row.new.self c.loop-rest.observer _ _ _ _ course end
    (c.in_ok-after.ensures.header (text ++ course.read) course.observing.reads)

pub returns-in_default-clause-found : goal.returns-in_default-clause-found
returns-in_default-clause-found g c i text w =
    let course = c.loop-rest.invariant.course i text w in
    let end : ReadsChunk c.loop-rest.lines c.next_row.new.self c.loop-rest.rest.now = rw c.in_default.is at c.in_ok-after.ensures.ok in
    course_found g.C.Channel.interface_of g.C.Channel.number_of g.C.Channel.represents i text c.args.chunk.now c.loop-rest.rest.now c.loop-rest.lines c.next_row.new.self c.loop-rest.observer _ _ _ _ course end

pub returns-in_default-clause-last : goal.returns-in_default-clause-last
returns-in_default-clause-last g c i text w keeps =
    let course = c.loop-rest.invariant.course i text w in
    let end : ReadsChunk c.loop-rest.lines c.next_row.new.self c.loop-rest.rest.now = rw c.in_default.is at c.in_ok-after.ensures.ok in
    course_last g.C.Channel.interface_of g.C.Channel.number_of g.C.Channel.represents i text c.args.chunk.now c.loop-rest.rest.now c.loop-rest.lines c.next_row.new.self c.loop-rest.observer _ _ _ _ course end (c.loop-rest.invariant.keeps ∙ keeps)

pub returns-clause-observes : goal.returns-clause-observes
returns-clause-observes g c i text w =
    (course_done g.C.Channel.interface_of g.C.Channel.number_of g.C.Channel.represents i text c.args.chunk.now c.loop-rest.rest.now c.loop-rest.lines c.loop-rest.observer _ _ _ _ (c.loop-rest.invariant.course i text w) (eqb-true _ 0 (sym c.is_empty.ensures ∙ c.loop-rest-test.false))).0

pub returns-clause-found : goal.returns-clause-found
returns-clause-found g c i text w =
    (course_done g.C.Channel.interface_of g.C.Channel.number_of g.C.Channel.represents i text c.args.chunk.now c.loop-rest.rest.now c.loop-rest.lines c.loop-rest.observer _ _ _ _ (c.loop-rest.invariant.course i text w) (eqb-true _ 0 (sym c.is_empty.ensures ∙ c.loop-rest-test.false))).1

pub returns-clause-last : goal.returns-clause-last
returns-clause-last g c i text w keeps =
    (course_done g.C.Channel.interface_of g.C.Channel.number_of g.C.Channel.represents i text c.args.chunk.now c.loop-rest.rest.now c.loop-rest.lines c.loop-rest.observer _ _ _ _ (c.loop-rest.invariant.course i text w) (eqb-true _ 0 (sym c.is_empty.ensures ∙ c.loop-rest-test.false))).2 (c.loop-rest.invariant.keeps ∙ keeps)

pub returns-in_err-after-clause-refused : goal.returns-in_err-after-clause-refused
returns-in_err-after-clause-refused g c i text w =
    let course = c.loop-rest.invariant.course i text w in
    passed_on c.from_residual.result c.in_err-after.field-0.0 _ c.from_residual.ensures.1
    (subst (λ x. IsFaultOf (early x) c.in_err-after.field-0.0) (course_text g.C.Channel.interface_of g.C.Channel.number_of g.C.Channel.represents i text c.args.chunk.now c.loop-rest.rest.now c.loop-rest.lines c.loop-rest.observer _ _ _ _ course)
    (c.in_err-after.ensures.refused (text ++ course.read) course.observing.reads))

pub returns-in_err-after-clause-found : goal.returns-in_err-after-clause-found
returns-in_err-after-clause-found g c i text w =
    let course = c.loop-rest.invariant.course i text w in
    let p = err_from_is_err_and c.from_residual.result c.from_residual.ensures.1 in
    subst (λ r. IsFoundBy r c.args.found.now.items c.loop-rest.found.items (found_at i text) (found_at i (text ++ c.args.chunk.now))) (sym (p.1 ∙ ap (λ f. Err f) p.2))
    (course_refused g.C.Channel.interface_of g.C.Channel.number_of g.C.Channel.represents i text c.args.chunk.now c.loop-rest.rest.now c.loop-rest.lines c.loop-rest.observer _ _ _ _ c.in_err-after.field-0.0 course
    (c.in_err-after.ensures.known (text ++ course.read) course.observing.reads))

pub returns-in_err-take-clause-found : goal.returns-in_err-take-clause-found
returns-in_err-take-clause-found g c i text w =
    let p = err_from_is_err_and c.from_residual-in_err-take.result c.from_residual-in_err-take.ensures.1 in
    let memory : c.from_residual-in_err-take.result ≡ Err Memory = p.1 ∙ ap (λ f. Err f) (p.2 ∙ c.in_err-take.ensures.memory) in
    subst (λ r. IsFoundBy r c.args.found.now.items c.loop-rest.found.items (found_at i text) (found_at i (text ++ c.args.chunk.now))) (sym memory)
    (course_stopped g.C.Channel.interface_of g.C.Channel.number_of g.C.Channel.represents i text c.args.chunk.now c.loop-rest.rest.now c.loop-rest.lines c.loop-rest.observer _ _ _ _ (c.loop-rest.invariant.course i text w))

pub returns-in_err-append_finding-clause-found : goal.returns-in_err-append_finding-clause-found
returns-in_err-append_finding-clause-found g c i text w =
    let p = err_from_is_err_and c.from_residual-in_err-append_finding.result c.from_residual-in_err-append_finding.ensures.1 in
    let memory : c.from_residual-in_err-append_finding.result ≡ Err Memory = p.1 ∙ ap (λ f. Err f) p.2 in
    subst (λ r. IsFoundBy r c.args.found.now.items c.append_finding.new.findings.items (found_at i text) (found_at i (text ++ c.args.chunk.now))) (sym memory)
    (subst (λ l. IsFoundUpTo Memory c.args.found.now.items l (found_at i text) (found_at i (text ++ c.args.chunk.now))) (sym c.in_err-append_finding.ensures.refused)
    (course_stopped g.C.Channel.interface_of g.C.Channel.number_of g.C.Channel.represents i text c.args.chunk.now c.loop-rest.rest.now c.loop-rest.lines c.loop-rest.observer _ _ _ _ (c.loop-rest.invariant.course i text w)))

pub returns-in_err-after-clause-observes : goal.returns-in_err-after-clause-observes
returns-in_err-after-clause-observes g c i text w = IfOk-from_err _ _ c.from_residual.ensures.0

pub returns-in_err-after-clause-last : goal.returns-in_err-after-clause-last
returns-in_err-after-clause-last g c i text w keeps was = IfOk-from_err _ _ c.from_residual.ensures.0

pub returns-in_err-after-clause-keeps : goal.returns-in_err-after-clause-keeps
returns-in_err-after-clause-keeps g c = IfOk-from_err _ _ c.from_residual.ensures.0

pub returns-in_err-after-clause-size : goal.returns-in_err-after-clause-size
returns-in_err-after-clause-size g c = IfOk-from_err _ _ c.from_residual.ensures.0

pub returns-in_err-after-clause-limit : goal.returns-in_err-after-clause-limit
returns-in_err-after-clause-limit g c = IfOk-from_err _ _ c.from_residual.ensures.0

pub returns-in_err-after-clause-few : goal.returns-in_err-after-clause-few
returns-in_err-after-clause-few g c = omega (arith, c.loop-rest.invariant.few)

pub returns-in_err-after-clause-kinds : goal.returns-in_err-after-clause-kinds
returns-in_err-after-clause-kinds g c = passed_on c.from_residual.result c.in_err-after.field-0.0 _ c.from_residual.ensures.1 c.in_err-after.ensures.kinds

pub returns-in_err-take-clause-observes : goal.returns-in_err-take-clause-observes
returns-in_err-take-clause-observes g c i text w = IfOk-from_err _ _ c.from_residual-in_err-take.ensures.0

pub returns-in_err-take-clause-last : goal.returns-in_err-take-clause-last
returns-in_err-take-clause-last g c i text w keeps was = IfOk-from_err _ _ c.from_residual-in_err-take.ensures.0

pub returns-in_err-take-clause-keeps : goal.returns-in_err-take-clause-keeps
returns-in_err-take-clause-keeps g c = IfOk-from_err _ _ c.from_residual-in_err-take.ensures.0

pub returns-in_err-take-clause-size : goal.returns-in_err-take-clause-size
returns-in_err-take-clause-size g c = IfOk-from_err _ _ c.from_residual-in_err-take.ensures.0

pub returns-in_err-take-clause-limit : goal.returns-in_err-take-clause-limit
returns-in_err-take-clause-limit g c = IfOk-from_err _ _ c.from_residual-in_err-take.ensures.0

pub returns-in_err-take-clause-few : goal.returns-in_err-take-clause-few
returns-in_err-take-clause-few g c = omega (arith, c.loop-rest.invariant.few)

pub returns-in_err-take-clause-refused : goal.returns-in_err-take-clause-refused
returns-in_err-take-clause-refused g c i text w =
    let p = err_from_is_err_and c.from_residual-in_err-take.result c.from_residual-in_err-take.ensures.1 in
    subst (λ r. IfErr r (IsFaultOf (early (text ++ c.args.chunk.now)))) (sym (p.1 ∙ ap (λ f. Err f) (p.2 ∙ c.in_err-take.ensures.memory))) tt

pub returns-in_err-take-clause-kinds : goal.returns-in_err-take-clause-kinds
returns-in_err-take-clause-kinds g c =
    let p = err_from_is_err_and c.from_residual-in_err-take.result c.from_residual-in_err-take.ensures.1 in
    subst (λ r. IfErr r IsTextFault) (sym (p.1 ∙ ap (λ f. Err f) (p.2 ∙ c.in_err-take.ensures.memory))) tt

pub returns-in_err-append_finding-clause-observes : goal.returns-in_err-append_finding-clause-observes
returns-in_err-append_finding-clause-observes g c i text w = IfOk-from_err _ _ c.from_residual-in_err-append_finding.ensures.0

pub returns-in_err-append_finding-clause-last : goal.returns-in_err-append_finding-clause-last
returns-in_err-append_finding-clause-last g c i text w keeps was = IfOk-from_err _ _ c.from_residual-in_err-append_finding.ensures.0

pub returns-in_err-append_finding-clause-keeps : goal.returns-in_err-append_finding-clause-keeps
returns-in_err-append_finding-clause-keeps g c = IfOk-from_err _ _ c.from_residual-in_err-append_finding.ensures.0

pub returns-in_err-append_finding-clause-size : goal.returns-in_err-append_finding-clause-size
returns-in_err-append_finding-clause-size g c = IfOk-from_err _ _ c.from_residual-in_err-append_finding.ensures.0

pub returns-in_err-append_finding-clause-limit : goal.returns-in_err-append_finding-clause-limit
returns-in_err-append_finding-clause-limit g c = IfOk-from_err _ _ c.from_residual-in_err-append_finding.ensures.0

pub returns-in_err-append_finding-clause-few : goal.returns-in_err-append_finding-clause-few
returns-in_err-append_finding-clause-few g c = omega (arith, c.loop-rest.invariant.few, ap (λ (xs : List Finding). length xs) c.in_err-append_finding.ensures.refused)

pub returns-in_err-append_finding-clause-refused : goal.returns-in_err-append_finding-clause-refused
returns-in_err-append_finding-clause-refused g c i text w =
    let p = err_from_is_err_and c.from_residual-in_err-append_finding.result c.from_residual-in_err-append_finding.ensures.1 in
    subst (λ r. IfErr r (IsFaultOf (early (text ++ c.args.chunk.now)))) (sym (p.1 ∙ ap (λ f. Err f) p.2)) tt

pub returns-in_err-append_finding-clause-kinds : goal.returns-in_err-append_finding-clause-kinds
returns-in_err-append_finding-clause-kinds g c =
    let p = err_from_is_err_and c.from_residual-in_err-append_finding.result c.from_residual-in_err-append_finding.ensures.1 in
    subst (λ r. IfErr r IsTextFault) (sym (p.1 ∙ ap (λ f. Err f) p.2)) tt
