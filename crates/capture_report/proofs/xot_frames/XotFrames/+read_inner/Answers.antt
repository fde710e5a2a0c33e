-- By what the whole datagram has.
use Rattle.std.proofs.Common.{◌≡◌, ◌∙◌, sym, ap, subst, ◌<◌, ◌++◌, IfOk, OnOk, arith}
use Rattle.std.specs.Result.{result_map_both}
use Rattle.std.proofs.lemmas.List.{append-nil}
use Rattle.ip_segments.specs.CarrierViews.{inner_view}
use Rattle.ip_segments.specs.Views.{datagram_view}
use Rattle.xot_circuits.specs.Recordings.{Recorder, seen_view}
use Rattle.capture_report.specs.Segments.{Further, Nothing, Reached, XotReader, Xot, after_reached, found_view, reached_items, reader_of, whole_view}
use Rattle.capture_report.proofs.SegmentLemmas.{further_less, reached_none, reached_some}
use Rattle.capture_report.proofs.xot_frames.XotFrames.+read_inner.Goals as goal

pub returns-in-Err-clause-after : goal.returns-in-Err-clause-after
returns-in-Err-clause-after g t c =
    let s = c.args.self.now in
    ap (λ q. after_reached q (reader_of s)) (sym (reached_none s.choices c.args.recorded (inner_view c.args.inner) s.fragments c.in-Err.left_out c.in_ok-whole.ensures (ap (result_map_both whole_view (λ u. u)) c.in-Err.is)))

pub returns-in-Err-clause-items : goal.returns-in-Err-clause-items
returns-in-Err-clause-items g t c =
    let s = c.args.self.now in
    let taken = g.I.Items.taken c.args.out.now in
    sym (ap (λ q. taken ++ reached_items q (reader_of s)) (reached_none s.choices c.args.recorded (inner_view c.args.inner) s.fragments c.in-Err.left_out c.in_ok-whole.ensures (ap (result_map_both whole_view (λ u. u)) c.in-Err.is)) ∙ append-nil taken)

pub returns-in-Nothing-clause-after : goal.returns-in-Nothing-clause-after
returns-in-Nothing-clause-after g t c =
    let s = c.args.self.now in
    ap (λ q. after_reached q (reader_of s))
    (sym (reached_some s.choices c.args.recorded (inner_view c.args.inner) s.fragments (Nothing c.in-Nothing.left_out) c.in_ok-whole.ensures (ap (result_map_both whole_view (λ u. u)) c.in-Ok.is) c.lent.ensures c.found.ensures (ap found_view c.in-Nothing.is)))

pub returns-in-Nothing-clause-items : goal.returns-in-Nothing-clause-items
returns-in-Nothing-clause-items g t c =
    let s = c.args.self.now in
    let taken = g.I.Items.taken c.args.out.now in
    sym (ap (λ q. taken ++ reached_items q (reader_of s))
    (reached_some s.choices c.args.recorded (inner_view c.args.inner) s.fragments (Nothing c.in-Nothing.left_out) c.in_ok-whole.ensures (ap (result_map_both whole_view (λ u. u)) c.in-Ok.is) c.lent.ensures c.found.ensures (ap found_view c.in-Nothing.is))
    ∙ append-nil taken)

-- a further datagram has room for fewer carriers
pub read_inner-requires : goal.read_inner-requires
read_inner-requires g t c κs within =
    let less = further_less c.args.self.now.choices c.args.recorded c.args.inner.left (datagram_view c.lent.result) (inner_view c.in-Further.inner) c.found.ensures (ap found_view c.in-Further.is) in
    let fewer : c.in-Further.inner.left < t = omega (arith, less, c.decreases) in
    (fewer, within)

pub returns-in-Further-clause-after : goal.returns-in-Further-clause-after
returns-in-Further-clause-after g t c =
    let s = c.args.self.now in
    let is = reached_some s.choices c.args.recorded (inner_view c.args.inner) s.fragments (Further (inner_view c.in-Further.inner)) c.in_ok-whole.ensures (ap (result_map_both whole_view (λ u. u)) c.in-Ok.is) c.lent.ensures c.found.ensures (ap found_view c.in-Further.is) in
    subst (λ q. OnOk c.read_inner.result (reader_of c.read_inner.new.self ≡ after_reached q (reader_of s))) (sym is) c.read_inner.ensures.after

pub returns-in-Further-clause-items : goal.returns-in-Further-clause-items
returns-in-Further-clause-items g t c =
    let s = c.args.self.now in
    let is = reached_some s.choices c.args.recorded (inner_view c.args.inner) s.fragments (Further (inner_view c.in-Further.inner)) c.in_ok-whole.ensures (ap (result_map_both whole_view (λ u. u)) c.in-Ok.is) c.lent.ensures c.found.ensures (ap found_view c.in-Further.is) in
    subst (λ q. OnOk c.read_inner.result (g.I.Items.taken c.read_inner.new.out ≡ g.I.Items.taken c.args.out.now ++ reached_items q (reader_of s))) (sym is) c.read_inner.ensures.items

pub returns-clause-after : goal.returns-clause-after
returns-clause-after g t c =
    let s = c.args.self.now in
    let is = reached_some s.choices c.args.recorded (inner_view c.args.inner) s.fragments (Xot (seen_view c.in-Xot.seen)) c.in_ok-whole.ensures (ap (result_map_both whole_view (λ u. u)) c.in-Ok.is) c.lent.ensures c.found.ensures (ap found_view c.in-Xot.is) in
    let with : Recorder → XotReader = λ r. record { choices = s.choices; waiting = c.complete.new.fragments; recorder = r } in
    ap with c.in_ok-read-in-Xot.ensures.after ∙ ap (λ q. after_reached q (reader_of s)) (sym is)

pub returns-clause-items : goal.returns-clause-items
returns-clause-items g t c =
    let s = c.args.self.now in
    let is = reached_some s.choices c.args.recorded (inner_view c.args.inner) s.fragments (Xot (seen_view c.in-Xot.seen)) c.in_ok-whole.ensures (ap (result_map_both whole_view (λ u. u)) c.in-Ok.is) c.lent.ensures c.found.ensures (ap found_view c.in-Xot.is) in
    c.in_ok-read-in-Xot.ensures.items ∙ ap (λ q. g.I.Items.taken c.args.out.now ++ reached_items q (reader_of s)) (sym is)

pub returns-clause-frame : goal.returns-clause-frame
returns-clause-frame g t c =
    let s = c.args.self.now in
    let is = reached_some s.choices c.args.recorded (inner_view c.args.inner) s.fragments (Xot (seen_view c.in-Xot.seen)) c.in_ok-whole.ensures (ap (result_map_both whole_view (λ u. u)) c.in-Ok.is) c.lent.ensures c.found.ensures (ap found_view c.in-Xot.is) in
    c.use_of_segment.ensures ∙ ap (λ (q : Reached). q.frame) (sym is)

pub returns-in-Err-clause-frame : goal.returns-in-Err-clause-frame
returns-in-Err-clause-frame g t c =
    let s = c.args.self.now in
    ap (λ (q : Reached). q.frame) (sym (reached_none s.choices c.args.recorded (inner_view c.args.inner) s.fragments c.in-Err.left_out c.in_ok-whole.ensures (ap (result_map_both whole_view (λ u. u)) c.in-Err.is)))

pub returns-in-Nothing-clause-frame : goal.returns-in-Nothing-clause-frame
returns-in-Nothing-clause-frame g t c =
    let s = c.args.self.now in
    ap (λ (q : Reached). q.frame)
    (sym (reached_some s.choices c.args.recorded (inner_view c.args.inner) s.fragments (Nothing c.in-Nothing.left_out) c.in_ok-whole.ensures (ap (result_map_both whole_view (λ u. u)) c.in-Ok.is) c.lent.ensures c.found.ensures (ap found_view c.in-Nothing.is)))

pub returns-in-Further-clause-frame : goal.returns-in-Further-clause-frame
returns-in-Further-clause-frame g t c =
    let s = c.args.self.now in
    let is = reached_some s.choices c.args.recorded (inner_view c.args.inner) s.fragments (Further (inner_view c.in-Further.inner)) c.in_ok-whole.ensures (ap (result_map_both whole_view (λ u. u)) c.in-Ok.is) c.lent.ensures c.found.ensures (ap found_view c.in-Further.is) in
    subst (λ (q : Reached). IfOk c.read_inner.result (λ u. u ≡ q.frame)) (sym is) c.read_inner.ensures.frame
