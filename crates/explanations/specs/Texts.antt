-- The texts of explanations (profile).
use Rattle.std.specs.Prelude.{ℕ, List, [], ◌∷◌, ◌++◌, flat_map, codes}
use Rattle.explanations.specs.declared.explanation.Explanation.{Explanation}
use Rattle.explanations.specs.declared.explanation.Topic.{Topic}
use Rattle.explanations.specs.declared.explanation.Topic.TheVariants.{Line, Side, Direction, Ending, Setting, Absent, State, Code, Message, Kind, Refusal, Status, Parameter, Field, Header, ClearingCause, ResettingCause, RestartingCause, Term}

-- what is printed of a word of a topic
abbrev pub topic_word : Topic → List ℕ
topic_word Line = codes "line of the report"
topic_word Side = codes "side"
topic_word Direction = codes "direction of a call"
topic_word Ending = codes "end of a call"
topic_word Setting = codes "word of a setting"
topic_word Absent = codes "absent value"
topic_word State = codes "state"
topic_word Code = codes "diagnostic code"
topic_word Message = codes "code of a PAD message"
topic_word Kind = codes "kind of faulty line"
topic_word Refusal = codes "refusal"
topic_word Status = codes "exit status"
topic_word Parameter = codes "PAD parameter"
topic_word Field = codes "field of the report"
topic_word Header = codes "word of the header"
topic_word ClearingCause = codes "cause of a clear"
topic_word ResettingCause = codes "cause of a reset"
topic_word RestartingCause = codes "cause of a restart"
topic_word Term = codes "term"

-- the installed document that has the words of a topic in their place
abbrev pub topic_document : Topic → List ℕ
topic_document State = codes "/usr/share/doc/x25scan/RULES.md"
topic_document Code = codes "/usr/share/doc/x25scan/RULES.md"
topic_document Message = codes "/usr/share/doc/x25scan/RULES.md"
topic_document Parameter = codes "/usr/share/doc/x25scan/RULES.md"
topic_document Kind = codes "/usr/share/doc/x25scan/TRACE.md"
topic_document Header = codes "/usr/share/doc/x25scan/TRACE.md"
topic_document Term = codes "/usr/share/doc/x25scan/CODES.md"
topic_document _ = codes "/usr/share/doc/x25scan/REPORT.md"

-- the parts of a text, one after the other
abbrev pub joined : List (List ℕ) → List ℕ
joined [] = []
joined (part ∷ []) = part
joined (part ∷ next ∷ parts) = part ++ joined (next ∷ parts)

-- the line of a word in the list of all: `1 (diagnostic code): Invalid P(S)`
abbrev pub heading : Explanation → List ℕ
heading e = joined (e.word.now ∷ codes " (" ∷ topic_word e.topic ∷ codes "): " ∷ e.name.now ∷ codes "\n" ∷ [])

-- the end of an example's line, which names the installed trace where there is one
abbrev pub place : (trace : List ℕ) → List ℕ
place [] = codes "\n"
place (c ∷ cs) = joined (codes " in /usr/share/doc/x25scan/" ∷ (c ∷ cs) ∷ codes "\n" ∷ [])

-- the lines of an explanation
abbrev pub explanation_text : Explanation → List ℕ
explanation_text e = joined
    (heading e
    ∷ codes "  " ∷ e.meaning.now
    ∷ codes "\n  When: " ∷ e.when.now
    ∷ codes "\n  Clause: " ∷ e.clause.now
    ∷ codes "\n  See: " ∷ topic_document e.topic
    ∷ codes "\n  Example: " ∷ e.example.now ∷ place e.trace.now ∷ [])

-- the text of explanations, one after the other
abbrev pub explanations_text : List Explanation → List ℕ
explanations_text es = flat_map explanation_text es

-- the text of the list of words, a line each
abbrev pub headings_text : List Explanation → List ℕ
headings_text es = flat_map heading es
