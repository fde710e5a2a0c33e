-- What was read of a source.
use Rattle.std.specs.Prelude.{◌≡◌, ◌⊎◌, ℕ, ◌≤◌, ◌^◌, List, [], ◌++◌, length, Option, Some, IfSome}
use Rattle.line_model.specs.declared.fault.Fault.{Fault}
use Rattle.line_model.specs.declared.fault.Fault.TheVariants.{Read}
use Rattle.trace_text.specs.Decided.{NoneDecidedButLast}

-- a source that shows its bytes gave these, and has the others
abbrev pub IsGiven : (before after : Option (List ℕ)) (given : List ℕ) → Type 0
IsGiven before after given = (text : List ℕ) → before ≡ Some text → (rest : List ℕ) × (text ≡ given ++ rest) × (after ≡ Some rest)

-- it gave all of them, and its last call, before which it had `asked`, gave none
abbrev pub IsAllGiven : (before after asked : Option (List ℕ)) (given : List ℕ) → Type 0
IsAllGiven before after asked given = (text : List ℕ) → before ≡ Some text → (text ≡ given) × (after ≡ Some []) × (asked ≡ Some [])

-- the text of a source that shows its bytes begins so
abbrev pub BeginsSo : (left : Option (List ℕ)) (text : List ℕ) → Type 0
BeginsSo left text = IfSome left (λ all. (rest : List ℕ) × (all ≡ text ++ rest))

-- each first part of the text of a source is one that may be fed
abbrev pub MayBeFed : (left : Option (List ℕ)) (expects : List ℕ → Type 0) → Type 0
MayBeFed left expects = (text : List ℕ) → BeginsSo left text → expects text

-- all that a source gave was fed, and except for at most the last `lag` bytes no line of it is known to be faulty
pub record IsFedAll (lag : ℕ) (left after asked : Option (List ℕ)) (was_fed : List ℕ → Type 0) : Type 0 where
  pub text : List ℕ
  pub fed : was_fed text
  pub sound : NoneDecidedButLast lag text
  pub source : IsAllGiven left after asked text

-- the last call of a source failed
pub record HasFailed (was_fed : List ℕ → Type 0) (fed last : List ℕ) (returned : Fault) : Type 0 where
  pub failure : returned ≡ Read
  pub none : last ≡ []
  pub represented : was_fed fed

-- what a source gave before its last call was fed, and except for at most the last `lag` bytes no line of it is known to be faulty; then that
-- call failed, or what it gave was refused
pub record IsFedUpTo (lag : ℕ) (left after asked : Option (List ℕ)) (was_fed : List ℕ → Type 0) (refused : (fed last : List ℕ) → Fault → Type 0) (returned : Fault) : Type 0 where
  pub fed : List ℕ
  pub last : List ℕ
  pub few : length last ≤ 2 ^ 16
  pub given : IsGiven left after (fed ++ last)
  pub before : IsGiven left asked fed
  pub sound : NoneDecidedButLast lag fed
  pub why : HasFailed was_fed fed last returned ⊎ refused fed last returned

-- the bytes that a source gave before its last call, when it had `asked`, decide no faulty line, except for at most the last `lag` of them
pub record NoneDecided (lag : ℕ) (text : List ℕ) (asked : Option (List ℕ)) : Type 0 where
  pub before : List ℕ
  pub last : List ℕ
  pub whole : text ≡ before ++ last
  pub left : asked ≡ Some last
  pub sound : NoneDecidedButLast lag before

-- a refusal by the first bytes of a text, which the source gave; the others are left. Those before its last call decide no faulty line, except
-- for at most the last `lag` of them
pub record IsRefusedBy (lag : ℕ) (why : List ℕ → List ℕ → Fault → Type 0) (text : List ℕ) (after asked : Option (List ℕ)) (returned : Fault) : Type 0 where
  pub given : List ℕ
  pub rest : List ℕ
  pub whole : text ≡ given ++ rest
  pub left : after ≡ Some rest
  pub order : (given ≡ []) ⊎ NoneDecided lag text asked
  pub refusal : why given rest returned
