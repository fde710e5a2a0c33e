-- The values of arguments, and the numbers among them.
use Rattle.std.specs.Prelude.{◌-◌, ◌^◌, ℕ, Bool, false, Option, None, Some, if◌then◌else◌}
use Rattle.std.specs.Str.Parse.{digits_value, without_leading_plus}
use Rattle.clap.specs.ValueTests.{accepts}
use Rattle.clap.specs.Words.{Text}
use Rattle.clap.specs.declared.builder.value_parser.ValueParser.TheVariants.{Unsigned}
use Rattle.command_line.specs.Options.{is_given}

-- the first value of each argument, by its name
abbrev pub Values : Type 0
Values = Text → Option Text

-- whether a flag is set
abbrev pub has : Values → Text → Bool
has values name = is_given (values name)

-- the number of so many bits that a text writes; a plus may come first
abbrev pub number_of : (bits : ℕ) → Option Text → Option ℕ
number_of bits None = None
number_of bits (Some text) = if accepts false (Unsigned 0 (2 ^ bits - 1)) text then Some (digits_value 10 (without_leading_plus text)) else None
