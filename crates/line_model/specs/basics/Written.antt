-- What of a text a sink has accepted, and what a buffer still holds of it.
use Rattle.std.specs.Prelude.{◌≡◌, ℕ, ◌≤◌, ◌<◌, Bool, true, false, List, ◌++◌, Option}
use Rattle.line_model.specs.basics.Device.{with_more}
use Rattle.line_model.specs.declared.device.Sink.{Ghosts as Sink}
use Rattle.line_model.specs.declared.write_buffer.WriteBuffer.{WriteBuffer}

-- what was accepted has a first part of a text after what was accepted before
abbrev pub HasFront : (before after : Option (List ℕ)) (text : List ℕ) → Type 0
HasFront before after text = (front : List ℕ) × (rest : List ℕ) × (text ≡ front ++ rest) × (after ≡ with_more before front)

-- a sink accepted all of a text
abbrev pub TakesAll : {W : Type 0} → Sink W → (before after : W) (text : List ℕ) → Type 0
TakesAll kind before after text = kind.taken after ≡ with_more (kind.taken before) text

-- a sink accepted a first part of a text
abbrev pub TakesFront : {W : Type 0} → Sink W → (before after : W) (text : List ℕ) → Type 0
TakesFront kind before after text = HasFront (kind.taken before) (kind.taken after) text

-- the bytes that a buffer holds
abbrev pub held_bytes : WriteBuffer → List ℕ
held_bytes b = b.bytes.items

-- whether the sink of a buffer has failed
abbrev pub has_failed : WriteBuffer → Bool
has_failed b = b.failed

-- the bytes and the failures of a sink: it accepted a first part of the text; what it did not accept is held, unless it failed
pub record Writes (before taken : Option (List ℕ) × ℕ) (b : WriteBuffer) (text : List ℕ) : Type 0 where
  pub sent : List ℕ
  pub left : List ℕ
  pub took : taken.0 ≡ with_more before.0 sent
  pub whole : sent ++ left ≡ text
  pub held : b.failed ≡ false → left ≡ b.bytes.items
  pub rising : before.1 ≤ taken.1
  pub cause : b.failed ≡ true → before.1 < taken.1

-- some bytes more were put: whatever text was on its way, now it has them after it
abbrev pub Puts : (before after : Option (List ℕ) × ℕ) (old new : WriteBuffer) (bytes : List ℕ) → Type 0
Puts before after old new bytes =
    (start : Option (List ℕ) × ℕ) (text : List ℕ) → Writes start before old text → Writes start after new (text ++ bytes)

-- the same with a sink of any kind
abbrev pub PutsTo : {W : Type 0} → Sink W → (before after : W) (old new : WriteBuffer) (bytes : List ℕ) → Type 0
PutsTo kind before after old new bytes = Puts (kind.taken before, kind.failures before) (kind.taken after, kind.failures after) old new bytes

-- whatever text was on its way to a sink, it still is
abbrev pub KeepsText : {W : Type 0} → Sink W → (before after : W) (old new : WriteBuffer) → Type 0
KeepsText kind before after old new =
    (start : Option (List ℕ) × ℕ) (text : List ℕ) → Writes start (kind.taken before, kind.failures before) old text → Writes start (kind.taken after, kind.failures after) new text

-- of any text that is on its way to a sink, and what the sink had accepted before it and had failed
abbrev pub OfWriting : {W : Type 0} → Sink W → W → WriteBuffer → (Option (List ℕ) × ℕ → List ℕ → Type 0) → Type 0
OfWriting kind sink b Fact = (start : Option (List ℕ) × ℕ) (text : List ℕ) → Writes start (kind.taken sink, kind.failures sink) b text → Fact start text
