-- The names are those that `clap` finds in the words.
use Rattle.std.proofs.Common.{◌≡◌, ◌∙◌, ap, codes, subst, sym, map, List, []}
use Rattle.std.specs.Option.{unwrap_or}
use Rattle.clap.specs.Words.{HasKind, Text, all_of, app_of, fault_of, found_of, is_simple, is_simple_and_free, matches_of}
use Rattle.clap.proofs.WalkLemmas.{raw_values-rows}
use Rattle.command_line.specs.Options.{command}
use Rattle.command_line.proofs.CommandLemmas.{is_free, is_plain}
use Rattle.command_line.proofs.options.further_names.Goals as goal

pub returns-in_ok-further_in-in-Ok-clause-kinds : goal.returns-in_ok-further_in-in-Ok-clause-kinds
returns-in_ok-further_in-in-Ok-clause-kinds c =
    let command_is : app_of c.in_ok-command.command ≡ command = c.in_ok-command.ensures in
    sym (ap (λ app. fault_of app (map (λ word. word.now) c.args.words.now)) command_is) ∙ c.in-Ok.ensures.kinds (ap is_simple_and_free command_is ∙ is_free)

pub returns-in_ok-further_in-in-Ok-clause-named : goal.returns-in_ok-further_in-in-Ok-clause-named
returns-in_ok-further_in-in-Ok-clause-named c =
    let words : List Text = map (λ word. word.now) c.args.words.now in
    let command_is : app_of c.in_ok-command.command ≡ command = c.in_ok-command.ensures in
    let rows = (c.in-Ok.ensures.matches (ap is_simple command_is ∙ is_plain)).0 in
    c.in_ok-further_in-in-Ok.ensures
    ∙ ap (λ found. unwrap_or found []) (raw_values-rows (found_of c.in-Ok.matches) (codes "further") ∙ ap (all_of (codes "further")) (rows ∙ ap (λ app. matches_of app words) command_is))

pub returns-in-Err-clause-kinds : goal.returns-in-Err-clause-kinds
returns-in-Err-clause-kinds c =
    let command_is : app_of c.in_ok-command.command ≡ command = c.in_ok-command.ensures in
    subst (λ app. HasKind (fault_of app (map (λ word. word.now) c.args.words.now)) c.in-Err.error) command_is (c.in-Err.ensures.kinds (ap is_simple_and_free command_is ∙ is_free))
