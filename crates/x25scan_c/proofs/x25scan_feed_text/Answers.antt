use Rattle.std.proofs.Common.{◌≡◌, rules}
use Rattle.x25scan_c.proofs.x25scan_feed_text.Goals as goal

pub returns-in-Ok-clause-found : goal.returns-in-Ok-clause-found
returns-in-Ok-clause-found c before was prints two =
    let same : c.deref_mut.result.now ≡ c.in-Ok.held.value = search rules in
    let has = rw c.in-Ok.ensures.held at was in
    let rows = rw c.in-Ok.ensures.held at prints in
    let found = c.feed-answer.ensures.found before (rw (← same) at has) (rw (← same) at rows) two in
    rw (c.in-Ok.ensures.held, c.put.ensures.held) (rw same at found)

pub returns-in-Ok-clause-before : goal.returns-in-Ok-clause-before
returns-in-Ok-clause-before c before was prints two =
    let same : c.deref_mut.result.now ≡ c.in-Ok.held.value = search rules in
    let has = rw c.in-Ok.ensures.held at was in
    let rows = rw c.in-Ok.ensures.held at prints in
    let brought = c.feed-answer.ensures.before before (rw (← same) at has) (rw (← same) at rows) two in
    rw (c.in-Ok.ensures.held, c.put.ensures.held) (rw same at brought)
