-- What is printed of the lines of a trace.
use Rattle.std.specs.Prelude.{◌≡◌, ◌⊎◌, ℕ, List, [], ◌∷◌, ◌++◌, Option}
use Rattle.line_model.specs.basics.Device.{with_more}
use Rattle.line_model.specs.text.Text.{Line}

-- each line after others has its bytes in a form, and these bytes are those of all lines
abbrev pub IsPrintOf : (form : List Line → Line → List ℕ → Type 0) → (before ls : List Line) → (bytes : List ℕ) → Type 0
IsPrintOf form before [] bytes = bytes ≡ []
IsPrintOf form before (l ∷ ls) bytes = (own : List ℕ) × (rest : List ℕ) × (bytes ≡ own ++ rest) × form before l own × IsPrintOf form (before ++ l ∷ []) ls rest

-- bytes of a form were appended
pub record HasAppended (form : List ℕ → Type 0) (before after : List ℕ) : Type 0 where
  pub bytes : List ℕ
  pub appended : after ≡ before ++ bytes
  pub formed : form bytes

-- a sink accepted bytes of a form
pub record HasTaken (form : List ℕ → Type 0) (before after : Option (List ℕ)) : Type 0 where
  pub bytes : List ℕ
  pub taken : after ≡ with_more before bytes
  pub formed : form bytes

-- a sink accepted a first part of bytes of a form
pub record HasTakenFirst (form : List ℕ → Type 0) (before after : Option (List ℕ)) : Type 0 where
  pub bytes : List ℕ
  pub front : List ℕ
  pub left : List ℕ
  pub whole : bytes ≡ front ++ left
  pub taken : after ≡ with_more before front
  pub formed : form bytes

-- a sink accepted a first part of these bytes
pub record HasFirstPart (bytes : List ℕ) (before after : Option (List ℕ)) : Type 0 where
  pub front : List ℕ
  pub left : List ℕ
  pub whole : bytes ≡ front ++ left
  pub taken : after ≡ with_more before front

-- a sink accepted a first part of what was held, or all of it and a first part of bytes of a form
abbrev pub StopsClosing : (form : List ℕ → Type 0) (held : List ℕ) (before after : Option (List ℕ)) → Type 0
StopsClosing form held before after = HasFirstPart held before after ⊎ HasTakenFirst form (with_more before held) after
