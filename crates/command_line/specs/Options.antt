-- The command line: `x25scan [--workers N] [--alone] [--follow] [--json] [--annotate | --findings | --rows | --calls | --trace] [--channel N] [--call N] [--try-headers] [--progress] [--notes] [--explain [WORD]] [OPTIONS OF CAPTURES] [FILE]..` (profile).
use Rattle.std.specs.Prelude.{ℕ, Bool, false, true, List, [], ◌∷◌, Option, None, Some, codes, pos, if◌then◌else◌}
use Rattle.std.specs.Str.{bytes_eq}
use Rattle.clap.specs.Words.{App, Kinds, Rule, Text, fault_of, new_app, new_rule, with_rule}
use Rattle.clap.specs.Simple.{on_top}
use Rattle.clap.specs.declared.builder.action.ArgAction.TheVariants.{Append, Set, SetTrue}
use Rattle.clap.specs.declared.builder.value_parser.ValueParser.TheVariants.{Signed}

-- a flag of this name
abbrev pub flag_rule : Text → Rule
flag_rule name = record (new_rule name) { long = Some name; action = Some SetTrue }

-- `--explain`, with a word or without one, which is the empty text
abbrev pub explain_rule : Rule
explain_rule = record (new_rule (codes "explain")) {
  long = Some (codes "explain");
  value_names = 1;
  action = Some Set;
  range = Some (record { start_inclusive = 0; end_inclusive = 1 });
  missing = [] ∷ [];
}

-- an option whose value is a number
abbrev pub number_rule : (name : Text) → (first last : ℕ) → Rule
number_rule name first last = record (new_rule name) {
  long = Some name;
  value_names = 1;
  action = Some Set;
  parser = Some (Signed (pos first) (pos last));
}

-- an option whose value is a text
abbrev pub text_rule : (name : Text) → Rule
text_rule name = record (new_rule name) { long = Some name; value_names = 1; action = Some Set }

-- the name of the trace, which follows no option
abbrev pub file_rule : Rule
file_rule = record (new_rule (codes "file")) { value_names = 1; action = Some Set }

-- the names of the captures that follow it
abbrev pub further_rule : Rule
further_rule = record (new_rule (codes "further")) { value_names = 1; action = Some Append }

-- the program's name, with a version
abbrev pub versioned : App
versioned = on_top (λ s. record s { has_version = true }) (new_app (codes "x25scan"))

-- with the options that say how the trace is scanned
abbrev pub with_scanning : App → App
with_scanning app = with_rule (with_rule (with_rule app (number_rule (codes "workers") 1 64)) (flag_rule (codes "alone"))) (flag_rule (codes "follow"))

-- with those that say what is written, and of which rows
abbrev pub with_writing : App → App
with_writing app =
    with_rule (with_rule (with_rule (with_rule (with_rule (with_rule (with_rule (with_rule (with_rule app (flag_rule (codes "json"))) (flag_rule (codes "annotate"))) (flag_rule (codes "findings"))) (flag_rule (codes "rows"))) (flag_rule (codes "calls"))) (number_rule (codes "channel") 1 4095))
    (number_rule (codes "call") 1 999999999)) (flag_rule (codes "try-headers"))) (flag_rule (codes "trace"))

-- with those of the numbers in the header of a capture
abbrev pub with_header : App → App
with_header app =
    with_rule (with_rule (with_rule (with_rule (with_rule (with_rule (with_rule (with_rule (with_rule (with_rule app
    (text_rule (codes "mod"))) (number_rule (codes "win") 1 127)) (text_rule (codes "size")))
    (number_rule (codes "pvc") 0 4095)) (number_rule (codes "svc") 1 4095)) (number_rule (codes "in") 0 4095))
    (number_rule (codes "two") 0 4095)) (number_rule (codes "out") 1 4095)) (flag_rule (codes "join"))) (flag_rule (codes "no-join"))

-- with those of how the frames of a capture are read
abbrev pub with_capture : App → App
with_capture app =
    with_rule (with_rule (with_rule (with_rule (with_rule (with_rule (with_rule app
    (text_rule (codes "as"))) (text_rule (codes "only"))) (number_rule (codes "interface") 0 4294967295)) (number_rule (codes "port") 1 65535))
    (text_rule (codes "lapb-modulo"))) (flag_rule (codes "swap"))) (text_rule (codes "dte"))

-- with those that ask for more, and the names of the trace and of the captures that follow it
abbrev pub with_asking : App → App
with_asking app = with_rule (with_rule (with_rule (with_rule (with_rule app (flag_rule (codes "progress"))) (flag_rule (codes "notes"))) explain_rule) file_rule) further_rule

abbrev pub command : App
command = with_asking (with_capture (with_header (with_writing (with_scanning versioned))))

-- the kinds of error by the rules of `clap`, `--help` and `--version` among them
abbrev pub words_fault : List Text → Kinds
words_fault words = fault_of command words

-- whether the text of a flag says that it is set
abbrev pub is_given : Option Text → Bool
is_given None = false
is_given (Some text) = bytes_eq text (codes "true")

-- the name of a trace that a text gives: none for `-`, which means standard input
abbrev pub named_by : Option Text → Option Text
named_by None = None
named_by (Some text) = if bytes_eq text (codes "-") then None else Some text
