use Rattle.std.proofs.Common.{◌≡◌, ◌∙◌, ◌+◌, ◌<◌, ◌++◌, [], Err, true, ap, subst, sym, refl, length, arith}
use Rattle.std.specs.Prelude.{IfErr}
use Rattle.line_model.specs.text.Text.{early, early_rows}
use Rattle.std.proofs.lemmas.Result.{IfOk-from_err, err_from_is_err_and}
use Rattle.trace_text.proofs.SourceLemmas.{passed_on}
use Rattle.trace_text.specs.Progress.{bytes_fed}
use Rattle.trace_text.specs.Represents.{IsFaultOf, ReadsChunk}
use Rattle.live_report.specs.Found.{IsFoundBy, found}
use Rattle.live_report.specs.Lives.{IsLastRow, IsObserving}
use Rattle.live_report.proofs.FoundLemmas.{found_unheaded, nothing_found}
use Rattle.live_report.proofs.ChunkLemmas.{ReadsRow}
use Rattle.live_report.proofs.LiveLemmas.{at_first, chunk_text, found_headed, found_no_row, nothing_seen, ok_of_three, ok_then, on_under, represents_observing}
use Rattle.live_report.proofs.live.Live.begin.Goals as goal

pub returns-in_err-rest-clause-found : goal.returns-in_err-rest-clause-found
returns-in_err-rest-clause-found g c text s =
    let none = nothing_seen g.C.Channel.interface_of g.C.Channel.number_of g.C.Channel.represents c.args.self.now text s c.requires.bare in
    let p = err_from_is_err_and c.from_residual.result c.from_residual.ensures.1 in
    let is : c.from_residual.result ≡ Err c.in_err-rest.field-0.0 = p.1 ∙ ap (λ f. Err f) p.2 in
    subst (λ r. IsFoundBy r c.args.self.now.found.items c.args.self.now.found.items (found text) (found (text ++ c.args.chunk.now))) (sym is)
    (found_unheaded c.in_err-rest.field-0.0 text (text ++ c.args.chunk.now) c.args.self.now.found.items none (c.in_err-rest.ensures.known text s.reads))

pub returns-in-None-clause-found : goal.returns-in-None-clause-found
returns-in-None-clause-found g c text s =
    let none = nothing_seen g.C.Channel.interface_of g.C.Channel.number_of g.C.Channel.represents c.args.self.now text s c.requires.bare in
    let end : ReadsChunk c.args.self.now.lines c.next_row.new.self c.args.chunk.now = rw c.in-None.is at c.in_ok-rest.ensures.ok in
    found_no_row c.args.self.now.lines c.next_row.new.self text c.args.chunk.now c.args.self.now.found.items s.reads none end

pub observe_first-answer-requires : goal.observe_first-answer-requires
observe_first-answer-requires g c =
    let text = c.requires.fed.0 in
    let s = c.requires.fed.1 in
    let none = nothing_seen g.C.Channel.interface_of g.C.Channel.number_of g.C.Channel.represents c.args.self.now text s c.requires.bare in
    let row : ReadsRow c.args.self.now.lines c.next_row.new.self c.args.chunk.now c.in-Some.rest.now c.next_row.new.row = rw c.in-Some.is at c.in_ok-rest.ensures.ok in
    let first = at_first g.C.Channel.interface_of g.C.Channel.number_of g.C.Channel.represents c.in-Some-interface.interface text c.args.chunk.now c.in-Some.rest.now c.next_row.new.row c.args.self.now.lines c.next_row.new.self c.new-observer.result s.reads none row c.in-Some-interface.ensures.kept c.new-observer.ensures.walked in
    (c.in-Some-interface.interface, text ++ row.1.taken, first)

pub returns-clause-represented : goal.returns-clause-represented
returns-clause-represented g c text s =
    let none = nothing_seen g.C.Channel.interface_of g.C.Channel.number_of g.C.Channel.represents c.args.self.now text s c.requires.bare in
    let row : ReadsRow c.args.self.now.lines c.next_row.new.self c.args.chunk.now c.in-Some.rest.now c.next_row.new.row = rw c.in-Some.is at c.in_ok-rest.ensures.ok in
    let first = at_first g.C.Channel.interface_of g.C.Channel.number_of g.C.Channel.represents c.in-Some-interface.interface text c.args.chunk.now c.in-Some.rest.now c.next_row.new.row c.args.self.now.lines c.next_row.new.self c.new-observer.result s.reads none row c.in-Some-interface.ensures.kept c.new-observer.ensures.walked in
    let all = chunk_text c.args.self.now.lines c.next_row.new.self text c.args.chunk.now c.in-Some.rest.now c.next_row.new.row row in
    let i = c.in-Some-interface.interface in
    let o = c.observe_first-answer.new.observer in
    let lines = c.observe_first-answer.new.lines in
    let last = on_under c.observe_first-answer.result (c.args.self.now.keeps_rows ≡ true) (IsLastRow (early_rows ((text ++ row.1.taken) ++ c.in-Some.rest.now)) c.observe_first-answer.new.rows.last)
    (λ keeps. c.observe_first-answer.ensures.last i (text ++ row.1.taken) first (c.new-observer.ensures.keeps ∙ keeps)) in
    ok_of_three c.observe_first-answer.result (IsObserving g.C.Channel.interface_of g.C.Channel.number_of g.C.Channel.represents i ((text ++ row.1.taken) ++ c.in-Some.rest.now) lines o) _ _ _
    (c.observe_first-answer.ensures.observes i (text ++ row.1.taken) first) c.observe_first-answer.ensures.keeps last
    (λ observing keeps was_last.
    represents_observing g.C.Channel.interface_of g.C.Channel.number_of g.C.Channel.represents i _ (text ++ c.args.chunk.now) o (subst (λ x. IsObserving g.C.Channel.interface_of g.C.Channel.number_of g.C.Channel.represents i x lines o) all observing) c.replace.ensures.after s.running
    (keeps ∙ c.new-observer.ensures.keeps) (λ keep. subst (λ x. IsLastRow (early_rows x) c.observe_first-answer.new.rows.last) all (was_last keep)))

pub returns-clause-refused : goal.returns-clause-refused
returns-clause-refused g c text s =
    let none = nothing_seen g.C.Channel.interface_of g.C.Channel.number_of g.C.Channel.represents c.args.self.now text s c.requires.bare in
    let row : ReadsRow c.args.self.now.lines c.next_row.new.self c.args.chunk.now c.in-Some.rest.now c.next_row.new.row = rw c.in-Some.is at c.in_ok-rest.ensures.ok in
    let first = at_first g.C.Channel.interface_of g.C.Channel.number_of g.C.Channel.represents c.in-Some-interface.interface text c.args.chunk.now c.in-Some.rest.now c.next_row.new.row c.args.self.now.lines c.next_row.new.self c.new-observer.result s.reads none row c.in-Some-interface.ensures.kept c.new-observer.ensures.walked in
    let all = chunk_text c.args.self.now.lines c.next_row.new.self text c.args.chunk.now c.in-Some.rest.now c.next_row.new.row row in
    subst (λ x. IfErr c.observe_first-answer.result (IsFaultOf (early x))) all (c.observe_first-answer.ensures.refused c.in-Some-interface.interface (text ++ row.1.taken) first)

pub returns-clause-found : goal.returns-clause-found
returns-clause-found g c text s =
    let none = nothing_seen g.C.Channel.interface_of g.C.Channel.number_of g.C.Channel.represents c.args.self.now text s c.requires.bare in
    let row : ReadsRow c.args.self.now.lines c.next_row.new.self c.args.chunk.now c.in-Some.rest.now c.next_row.new.row = rw c.in-Some.is at c.in_ok-rest.ensures.ok in
    let first = at_first g.C.Channel.interface_of g.C.Channel.number_of g.C.Channel.represents c.in-Some-interface.interface text c.args.chunk.now c.in-Some.rest.now c.next_row.new.row c.args.self.now.lines c.next_row.new.self c.new-observer.result s.reads none row c.in-Some-interface.ensures.kept c.new-observer.ensures.walked in
    let all = chunk_text c.args.self.now.lines c.next_row.new.self text c.args.chunk.now c.in-Some.rest.now c.next_row.new.row row in
    let i = c.in-Some-interface.interface in
    let given = text ++ row.1.taken in
    let headed = found_headed c.next_row.new.self given c.in-Some.rest.now i first.reads first.header in
    let was = c.args.self.now.found.items in
    let now = c.observe_first-answer.new.found.items in
    subst (λ l. IsFoundBy c.observe_first-answer.result was now l (found (text ++ c.args.chunk.now))) (sym (nothing_found text none))
    (subst (λ x. IsFoundBy c.observe_first-answer.result was now [] (found x)) all
    (subst (λ m. IsFoundBy c.observe_first-answer.result was now [] m) (sym headed.1) (c.observe_first-answer.ensures.found i given first)))

pub returns-clause-few : goal.returns-clause-few
returns-clause-few g c =
    let shorter : length c.in-Some.rest.now < length c.args.chunk.now = rw c.in-Some.is at c.in_ok-rest.ensures.shorter in
    omega (arith, c.observe_first-answer.ensures.few, shorter)

pub returns-clause-size : goal.returns-clause-size
returns-clause-size g c =
    let size : bytes_fed c.next_row.new.self + length c.in-Some.rest.now ≡ bytes_fed c.args.self.now.lines + length c.args.chunk.now = rw c.in-Some.is at c.in_ok-rest.ensures.size in
    ok_then c.observe_first-answer.result _ _ (λ h. h ∙ size) c.observe_first-answer.ensures.size

pub returns-in_err-rest-clause-represented : goal.returns-in_err-rest-clause-represented
returns-in_err-rest-clause-represented g c text s = IfOk-from_err _ _ c.from_residual.ensures.0

pub returns-in_err-rest-clause-refused : goal.returns-in_err-rest-clause-refused
returns-in_err-rest-clause-refused g c text s = passed_on c.from_residual.result c.in_err-rest.field-0.0 _ c.from_residual.ensures.1 (c.in_err-rest.ensures.refused text s.reads)

pub returns-in_err-rest-clause-few : goal.returns-in_err-rest-clause-few
returns-in_err-rest-clause-few g c = omega arith

pub returns-in_err-rest-clause-size : goal.returns-in_err-rest-clause-size
returns-in_err-rest-clause-size g c = IfOk-from_err _ _ c.from_residual.ensures.0

pub returns-in_err-rest-clause-limit : goal.returns-in_err-rest-clause-limit
returns-in_err-rest-clause-limit g c = IfOk-from_err _ _ c.from_residual.ensures.0

pub returns-in_err-rest-clause-kinds : goal.returns-in_err-rest-clause-kinds
returns-in_err-rest-clause-kinds g c = passed_on c.from_residual.result c.in_err-rest.field-0.0 _ c.from_residual.ensures.1 c.in_err-rest.ensures.kinds

pub returns-in-None-clause-few : goal.returns-in-None-clause-few
returns-in-None-clause-few g c = omega arith

pub returns-in-None-clause-limit : goal.returns-in-None-clause-limit
returns-in-None-clause-limit g c = c.in_ok-rest.ensures.limit

pub returns-in-None-clause-size : goal.returns-in-None-clause-size
returns-in-None-clause-size g c = rw c.in-None.is at c.in_ok-rest.ensures.size

pub returns-clause-limit : goal.returns-clause-limit
returns-clause-limit g c = c.observe_first-answer.ensures.limit

pub returns-clause-kinds : goal.returns-clause-kinds
returns-clause-kinds g c = c.observe_first-answer.ensures.kinds

pub returns-clause-keeps : goal.returns-clause-keeps
returns-clause-keeps g c = refl
