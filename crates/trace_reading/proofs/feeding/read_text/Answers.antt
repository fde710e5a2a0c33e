use Rattle.std.proofs.Common.{◌≡◌, ◌≢◌, ◌+◌, ◌++◌, ◌∙◌, ℕ, List, ap, append-nil, length, length-append, [], arith, rules, subst, sym}
use Rattle.std.proofs.lemmas.Grind.{common_steps}
use Rattle.std.proofs.lemmas.List.{nil_from_length}
use Rattle.std.proofs.lemmas.Result.{IfOk-from_err}
use Rattle.trace_text.proofs.SourceLemmas.{all_read, begins_so, begun, failed_read, given_more, passed_on, refused_at}
use Rattle.trace_reading.specs.Readings.{IsHeld, lag_of}
use Rattle.trace_reading.proofs.Courses.{fault_wider, fed_same}
use Rattle.trace_reading.proofs.Lags.{cut_sound}
use Rattle.trace_reading.proofs.Parts.{fed_both, held_more}
use Rattle.trace_reading.proofs.feeding.read_text.Goals as goal

pub loop-last_read-init : goal.loop-last_read-init
loop-last_read-init g c = record {
  calls = omega arith;
  room = let none = c.requires.nothing in omega (arith, none.size, none.few);
  failures = omega arith;
  least = omega arith;
  wide = c.requires.wide;
  reached = begun (g.S.Source.left c.args.source.now) _ c.requires.nothing;
}

pub take_read-requires-clause-plan : goal.take_read-requires-clause-plan
take_read-requires-clause-plan g c = c.requires.plan

pub take_read-requires-clause-held : goal.take_read-requires-clause-held
take_read-requires-clause-held g c =
    let r = c.loop-last_read.invariant.reached in
    let more = c.in-Ok.ensures.read.0 in
    let left = g.S.Source.left c.args.source.now in
    let next = g.S.Source.left c.read.new.source in
    let source = given_more left (g.S.Source.left c.loop-last_read.source) next r.text more r.source c.in-Ok.ensures.read.4 in
    let begins = (c.requires.expected (r.text ++ more) (begins_so left next (r.text ++ more) source)).begins in
    subst (λ xs. IsHeld g.P.TraceText.text c.loop-last_read.fed.taken.work.now.queue c.loop-last_read.pass c.loop-last_read.fed.taken.sent xs c.loop-last_read.fed.taken.text) (sym c.in-Ok.ensures.read.1)
    (held_more g.P.TraceText.text c.loop-last_read.fed.taken.work.now.queue c.loop-last_read.pass c.loop-last_read.fed.taken.sent r.text more c.loop-last_read.fed.room.items c.loop-last_read.fed.taken.text begins r.fed.size r.fed.held)

pub loop-last_read-preserved : goal.loop-last_read-preserved
loop-last_read-preserved g c =
    let inv = c.loop-last_read.invariant in
    let r = inv.reached in
    let more = c.in-Ok.ensures.read.0 in
    let left = g.S.Source.left c.args.source.now in
    let next = g.S.Source.left c.read.new.source in
    let source = given_more left (g.S.Source.left c.loop-last_read.source) next r.text more r.source c.in-Ok.ensures.read.4 in
    let begins = (c.requires.expected (r.text ++ more) (begins_so left next (r.text ++ more) source)).begins in
    let was = r.fed.size in
    let grown : length c.read.new.self.items ≡ length (c.loop-last_read.fed.room.items ++ more) = ap (λ (xs : List ℕ). length xs) c.in-Ok.ensures.read.1 in
    let room = length-append c.loop-last_read.fed.room.items more in
    let text = length-append r.text more in
    let now = c.in_ok-take_read.ensures in
    let some : c.in-Ok.last_read ≢ 0 = c.if-last_read-eq0.false in
    record {
      calls = omega (arith, inv.calls, c.read.ensures.calls, c.in-Ok.ensures.read.2, some, grown, room, now.size);
      room = now.limit;
      failures = grind (arith, common_steps);
      least = omega (arith, inv.least, c.read.ensures.calls);
      wide = now.wide;
      reached = record {
        text = r.text ++ more;
        fed = record {
          fed = fed_both c.args.pass.now c.loop-last_read.pass c.take_read.new.pass r.fed.fed c.take_read.ensures.fed;
          begins = begins;
          size = omega (arith, text, was, grown, room, now.size);
          few = omega (arith, text, was, grown, room, now.size, now.limit);
          held = now.held;
          near = omega (arith, text, was, grown, room, now.size, now.near);
        };
        source = source;
      };
    }

pub loop-last_read-smaller : goal.loop-last_read-smaller
loop-last_read-smaller g c =
    let grown : length c.read.new.self.items ≡ length (c.loop-last_read.fed.room.items ++ c.in-Ok.ensures.read.0) = ap (λ (xs : List ℕ). length xs) c.in-Ok.ensures.read.1 in
    let some : c.in-Ok.last_read ≢ 0 = c.if-last_read-eq0.false in
    omega (arith, grown, length-append c.loop-last_read.fed.room.items c.in-Ok.ensures.read.0, c.in-Ok.ensures.read.2, some, c.in_ok-take_read.ensures.size, c.in_ok-take_read.ensures.limit)

pub returns-in_err-take_read-clause-stopped : goal.returns-in_err-take_read-clause-stopped
returns-in_err-take_read-clause-stopped g c =
    let r = c.loop-last_read.invariant.reached in
    let more = c.in-Ok.ensures.read.0 in
    let fault = c.in_err-take_read.field-0.0 in
    let grown : length c.read.new.self.items ≡ length (c.loop-last_read.fed.room.items ++ more) = ap (λ (xs : List ℕ). length xs) c.in-Ok.ensures.read.1 in
    passed_on c.from_residual.result fault _ c.from_residual.ensures.1
    (refused_at (lag_of g.P.TraceText.text) (g.S.Source.left c.args.source.now) (g.S.Source.left c.loop-last_read.source) (g.S.Source.left c.read.new.source) (g.S.Source.before c.read.new.source) _ _ _ fault more
    r (cut_sound g.P.TraceText.text c.loop-last_read.fed.taken.work.now.queue c.args.pass.now c.loop-last_read.pass r.text c.loop-last_read.fed.taken.sent c.loop-last_read.fed.room.items c.loop-last_read.fed.taken.text r.fed) c.in-Ok.ensures.read.4 c.read.ensures.before (omega (arith, c.in-Ok.ensures.read.2, c.in-Ok.ensures.read.3))
    (record {
      fed = fed_both c.args.pass.now c.loop-last_read.pass c.take_read.new.pass r.fed.fed c.take_read.ensures.fed;
      refusal = fault_wider g.P.TraceText.text (c.loop-last_read.fed.taken.sent + length c.read.new.self.items) (length (r.text ++ more)) fault (omega (arith, length-append r.text more, r.fed.size, grown, length-append c.loop-last_read.fed.room.items more)) c.in_err-take_read.ensures.refused;
    }))

pub returns-in_err-take_read-clause-whole : goal.returns-in_err-take_read-clause-whole
returns-in_err-take_read-clause-whole g c = IfOk-from_err _ _ c.from_residual.ensures.0

pub returns-in_err-take_read-clause-called : goal.returns-in_err-take_read-clause-called
returns-in_err-take_read-clause-called g c = let inv = c.loop-last_read.invariant in omega (arith, inv.least, c.read.ensures.calls)

pub returns-in_default-clause-called : goal.returns-in_default-clause-called
returns-in_default-clause-called g c = let inv = c.loop-last_read.invariant in omega (arith, inv.least, c.read.ensures.calls)

pub returns-in_default-clause-stopped : goal.returns-in_default-clause-stopped
returns-in_default-clause-stopped g c =
    let r = c.loop-last_read.invariant.reached in
    let fed = fed_same g.P.TraceText.text c.loop-last_read.fed.taken.work.now.queue c.args.pass.now c.loop-last_read.pass r.text c.loop-last_read.fed.taken.sent c.loop-last_read.fed.room.items c.read.new.self.items c.loop-last_read.fed.taken.text r.fed (search rules) in
    failed_read (lag_of g.P.TraceText.text) (g.S.Source.left c.args.source.now) (g.S.Source.left c.loop-last_read.source) (g.S.Source.left c.read.new.source) (g.S.Source.before c.read.new.source) _ _
    (record { text = r.text; fed = fed; source = r.source }) (cut_sound g.P.TraceText.text _ _ _ r.text _ _ _ fed) (search rules) c.read.ensures.before

pub returns-then-last_read-eq0-clause-whole : goal.returns-then-last_read-eq0-clause-whole
returns-then-last_read-eq0-clause-whole g c =
    let r = c.loop-last_read.invariant.reached in
    let more = c.in-Ok.ensures.read.0 in
    let room = c.loop-last_read.fed.room.items in
    let none : more ≡ [] = nil_from_length more (c.in-Ok.ensures.read.2 ∙ c.if-last_read-eq0.true) in
    let fed = fed_same g.P.TraceText.text c.loop-last_read.fed.taken.work.now.queue c.args.pass.now c.loop-last_read.pass r.text c.loop-last_read.fed.taken.sent room c.read.new.self.items c.loop-last_read.fed.taken.text r.fed (c.in-Ok.ensures.read.1 ∙ ap (λ xs. room ++ xs) none ∙ append-nil room) in
    all_read (lag_of g.P.TraceText.text) (g.S.Source.left c.args.source.now) (g.S.Source.left c.loop-last_read.source) (g.S.Source.left c.read.new.source) (g.S.Source.before c.read.new.source) _ more
    (record { text = r.text; fed = fed; source = r.source }) (cut_sound g.P.TraceText.text _ _ _ r.text _ _ _ fed) c.in-Ok.ensures.read.4 c.read.ensures.before none
