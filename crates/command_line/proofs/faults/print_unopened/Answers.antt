use Rattle.std.proofs.Common.{Option, List, ℕ}
use Rattle.command_line.proofs.faults.print_unopened.Goals as goal

pub returns-clause-ok : goal.returns-clause-ok
returns-clause-ok g c =
    let before : Option (List ℕ) × ℕ = (g.E.Sink.taken c.args.errors.now, g.E.Sink.failures c.args.errors.now) in
    c.end.ensures.ok before _ (c.put-3.ensures before _ (c.put_open_words.ensures before _ (c.put-2.ensures before _ (c.put_name.ensures before _ (c.put.ensures before _ (c.new-out.ensures.nothing before))))))

pub returns-clause-part : goal.returns-clause-part
returns-clause-part g c =
    let before : Option (List ℕ) × ℕ = (g.E.Sink.taken c.args.errors.now, g.E.Sink.failures c.args.errors.now) in
    c.end.ensures.part before _ (c.put-3.ensures before _ (c.put_open_words.ensures before _ (c.put-2.ensures before _ (c.put_name.ensures before _ (c.put.ensures before _ (c.new-out.ensures.nothing before))))))

pub returns-clause-rising : goal.returns-clause-rising
returns-clause-rising g c =
    let before : Option (List ℕ) × ℕ = (g.E.Sink.taken c.args.errors.now, g.E.Sink.failures c.args.errors.now) in
    c.end.ensures.rising before _ (c.put-3.ensures before _ (c.put_open_words.ensures before _ (c.put-2.ensures before _ (c.put_name.ensures before _ (c.put.ensures before _ (c.new-out.ensures.nothing before))))))

pub returns-clause-cause : goal.returns-clause-cause
returns-clause-cause g c =
    let before : Option (List ℕ) × ℕ = (g.E.Sink.taken c.args.errors.now, g.E.Sink.failures c.args.errors.now) in
    c.end.ensures.cause before _ (c.put-3.ensures before _ (c.put_open_words.ensures before _ (c.put-2.ensures before _ (c.put_name.ensures before _ (c.put.ensures before _ (c.new-out.ensures.nothing before))))))
