-- One more file becomes a part.
use Rattle.std.proofs.Common.{◌≡◌, ◌∙◌, ◌+◌, ◌<◌, [], ◌∷◌, ◌++◌, ap, drop, length, map, rules}
use Rattle.std.specs.Fmt.{option_append}
use Rattle.capture_report.specs.JoinedFiles.{left_out, parts_left, without_headers}
use Rattle.capture_report.proofs.JoinLemmas.{next_part}
use Rattle.capture_report.proofs.joined_files.JoinedFiles.open_parts.Goals as goal

pub loop-name-preserved : goal.loop-name-preserved
loop-name-preserved g c =
    let left = g.R.File.Read.remaining in
    let named = g.R.Opener.named c.args.self.now.system in
    let names = c.args.self.now.further.now in
    let skipped = left_out c.args.header.now in
    let few : c.loop-name.name-index < length c.args.self.now.further.now = search rules in
    let more : c.push.new.self.items ≡ c.loop-name.parts.items ++ c.in_ok-part.part ∷ [] = search rules in
    ap (λ ps. option_append (parts_left left ps) (without_headers skipped named (map (λ name. name.now) (drop (c.loop-name.name-index + 1) names)))) more
    ∙ next_part left skipped named c.loop-name.parts.items c.in_ok-part.part _ names c.loop-name.name-index _ few c.in_ok-part.ensures.left c.loop-name.invariant
