use Rattle.std.proofs.Common.{◌≡◌, ◌∙◌, ap, subst, sym, map, List}
use Rattle.clap.specs.Words.{HasKind, Text, app_of, fault_of, found_of, first_value, is_simple, is_simple_and_free, matches_of, first_of}
use Rattle.clap.proofs.WalkLemmas.{first_value-rows}
use Rattle.command_line.specs.Asked.{asked_by, unless_wrong}
use Rattle.command_line.specs.Options.{command}
use Rattle.command_line.proofs.CommandLemmas.{is_free, is_plain}
use Rattle.command_line.proofs.options.parse.Goals as goal

pub returns-in-Ok-clause-kinds : goal.returns-in-Ok-clause-kinds
returns-in-Ok-clause-kinds c =
    let command_is : app_of c.in_ok-command.command ≡ command = c.in_ok-command.ensures in
    sym (ap (λ app. fault_of app (map (λ word. word.now) c.args.words.now)) command_is) ∙ c.in-Ok.ensures.kinds (ap is_simple_and_free command_is ∙ is_free)

pub returns-in-Err-clause-kinds : goal.returns-in-Err-clause-kinds
returns-in-Err-clause-kinds c =
    let command_is : app_of c.in_ok-command.command ≡ command = c.in_ok-command.ensures in
    subst (λ app. HasKind (fault_of app (map (λ word. word.now) c.args.words.now)) c.in-Err.error) command_is (c.in-Err.ensures.kinds (ap is_simple_and_free command_is ∙ is_free))

pub returns-in-Ok-clause-asked : goal.returns-in-Ok-clause-asked
returns-in-Ok-clause-asked c =
    let words : List Text = map (λ word. word.now) c.args.words.now in
    let command_is : app_of c.in_ok-command.command ≡ command = c.in_ok-command.ensures in
    let rows = (c.in-Ok.ensures.matches (ap is_simple command_is ∙ is_plain)).0 in
    let value : (name : Text) → first_value (found_of c.in-Ok.matches) name ≡ first_of name (matches_of command words) =
    λ name. first_value-rows (found_of c.in-Ok.matches) name ∙ ap (first_of name) (rows ∙ ap (λ app. matches_of app words) command_is) in
    c.asked_in.ensures
    ∙ ap asked_by (λ i name. value name i)
    ∙ ap (λ faults. unless_wrong faults (asked_by (λ name. first_of name (matches_of command words)))) (sym (returns-in-Ok-clause-kinds c))
