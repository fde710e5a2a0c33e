-- The row that explains the code of a finding, a cause or a parameter: the one with its word.
use Rattle.std.specs.Prelude.{ℕ, List, ◌++◌, Option, decimal}
use Rattle.std.specs.List.{find}
use Rattle.std.specs.Str.{bytes_eq}
use Rattle.line_model.specs.declared.finding.Code.{Code}
use Rattle.line_model.specs.declared.finding.Code.TheVariants.{Number, Pad}
use Rattle.line_model.specs.observer.Report.{code_word}
use Rattle.explanations.specs.Table.{Key, flow_code_keys, packet_code_keys, message_keys, parameter_keys}

-- the first key of a word
abbrev pub with_word : List ℕ → List Key → Option Key
with_word word keys = find (λ k. bytes_eq k.word word) keys

-- the keys among which a code is looked up
abbrev pub keys_for : Code → List Key
keys_for (Number n) = flow_code_keys ++ packet_code_keys
keys_for (Pad x) = message_keys

-- the key of a code, by its word in the report
abbrev pub code_key : Code → Option Key
code_key c = with_word (code_word c) (keys_for c)

-- the key of a cause of a clear, a reset or a restart
abbrev pub cause_key : List Key → ℕ → Option Key
cause_key keys n = with_word (decimal n) keys

-- the key of a parameter
abbrev pub parameter_key : ℕ → Option Key
parameter_key n = with_word (decimal n) parameter_keys
