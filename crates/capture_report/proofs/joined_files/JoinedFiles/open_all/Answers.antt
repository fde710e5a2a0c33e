-- The first file is whole, and the others come without their headers.
use Rattle.std.proofs.Common.{◌∙◌, ◌≤◌, ap, drop, length, map, rules}
use Rattle.std.specs.Prelude.{option_map}
use Rattle.std.specs.Fmt.{option_append}
use Rattle.capture_report.specs.JoinedFiles.{left_out, parts_left, without_headers}
use Rattle.capture_report.proofs.JoinLemmas.{all_joined}
use Rattle.capture_report.proofs.joined_files.JoinedFiles.open_all.Goals as goal

pub returns-in-Ok-clause-left : goal.returns-in-Ok-clause-left
returns-in-Ok-clause-left g c =
    let left = g.R.File.Read.remaining in
    let named = g.R.Opener.named c.args.self.now.system in
    let further = map (λ name. name.now) c.args.self.now.further.now in
    let file = c.in_ok-file.file in
    let headed = c.in_ok-headed.headed in
    let is = c.in_ok-headed.ensures.headed in
    let many : 24 ≤ length c.in_ok-headed.headed.front.items = search rules in
    c.in-Ok.ensures
    ∙ ap (λ p. option_append p (parts_left left c.in_ok-further.further.items)) (c.after.ensures (left file) is)
    ∙ ap (option_append (option_map (drop 0) (left file))) (c.in_ok-further.ensures.left ∙ ap (λ l. without_headers (left_out l) named further) c.front-2.ensures)
    ∙ all_joined named c.args.name.now further (left file) (left headed.rest) headed.front.items many c.in_ok-file.ensures.opened is.consumed
