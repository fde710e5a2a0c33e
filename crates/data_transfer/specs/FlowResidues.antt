-- What is kept of the counts of a channel: residues, and the counts that they represent.
use Rattle.std.specs.Prelude.{ℕ, Bool, true, false, ◌%◌, ◌+◌, ◌-◌, ◌*◌, ◌^◌, Some, None, Result, Ok, Err, ◌≡◌, ◌≤◌, ◌<◌, ◌⊎◌, ◌==◌}
use Rattle.line_model.specs.channels.Channels.{Sides}
use Rattle.line_model.specs.channels.FlowControl.{Counts, count_acknowledged}

-- how many packets are unacknowledged, by the residues of two counts that differ by less than the modulus
abbrev pub outstanding : (modulus sent acknowledged : ℕ) → ℕ
outstanding m sent acknowledged = (sent + (m - acknowledged)) % m

-- two counts and their residues: no more is outstanding than the modulus allows
pub record Residues (m s a sent acknowledged : ℕ) : Type 0 where
  pub sent_is : s % m ≡ sent
  pub acknowledged_is : a % m ≡ acknowledged
  pub ordered : a ≤ s
  pub below : s < a + m

-- whether a P(R) acknowledges a count
abbrev pub IsAcknowledged : Bool → (m s a n : ℕ) → Type 0
IsAcknowledged true m s a n = (k : ℕ) × (count_acknowledged m s a n ≡ Some k) × (k % m ≡ n) × (a ≤ k) × (k ≤ s)
IsAcknowledged false m s a n = count_acknowledged m s a n ≡ None

-- what is kept of the counts: the residues, with the modulus and the windows
pub record FlowResidues : Type 0 where
  pub modulus : ℕ
  pub windows : Sides ℕ
  pub sent : Sides ℕ
  pub acknowledged : Sides ℕ
  pub unconfirmed : Sides Bool

-- a direction in range: a window, two residues, and no more unacknowledged than the window
pub record IsDirection (m window sent acknowledged : ℕ) : Type 0 where
  pub window_above : 1 ≤ window
  pub window_below : window < m
  pub sent_below : sent < m
  pub acknowledged_below : acknowledged < m
  pub within : outstanding m sent acknowledged ≤ window

-- what a channel can keep
pub record AreFlowResidues (k : FlowResidues) : Type 0 where
  pub eight : (k.modulus ≡ 8) ⊎ (k.modulus ≡ 128)
  pub of_t : IsDirection k.modulus k.windows.of_t k.sent.of_t k.acknowledged.of_t
  pub of_n : IsDirection k.modulus k.windows.of_n k.sent.of_n k.acknowledged.of_n

-- the residues of one direction, with no more outstanding than its window
pub record DirectionRepresents (m w s a sent acknowledged : ℕ) : Type 0 where
  pub sent_is : s % m ≡ sent
  pub acknowledged_is : a % m ≡ acknowledged
  pub ordered : a ≤ s
  pub within : s ≤ a + w

-- what is kept represents some counts
pub record ResiduesRepresent (f : FlowResidues) (c : Counts) : Type 0 where
  pub of_t : DirectionRepresents f.modulus f.windows.of_t c.sent.of_t c.acknowledged.of_t f.sent.of_t f.acknowledged.of_t
  pub of_n : DirectionRepresents f.modulus f.windows.of_n c.sent.of_n c.acknowledged.of_n f.sent.of_n f.acknowledged.of_n
  pub unconfirmed : f.unconfirmed ≡ c.unconfirmed

-- a result is that of the counts; a refusal leaves what is kept
abbrev pub Answers : {A : Type 0} → Result A ℕ → (old new : FlowResidues) → Result Counts ℕ → Type 0
Answers (Ok u) old new (Ok c) = ResiduesRepresent new c
Answers (Err e) old new (Err n) = (e ≡ n) × (new ≡ old)
Answers (Ok u) old new (Err n) = ⊥
Answers (Err e) old new (Ok c) = ⊥

-- a bit
abbrev pub bit : Bool → ℕ
bit true = 1
bit false = 0

-- what is kept as one word, bits from 0 up: 0 is 1 at modulo 128; 1 to 7 the number sent of T, 8 to 14 that
-- acknowledged of T, 15 to 21 and 22 to 28 the same of N; 29 to 35 the window of T, 36 to 42 that of N; 43 and 44
-- an unconfirmed interrupt of T and of N (profile)
abbrev pub word_of : FlowResidues → ℕ
word_of k =
    bit (k.modulus == 128)
    + k.sent.of_t * 2 ^ 1 + k.acknowledged.of_t * 2 ^ 8
    + k.sent.of_n * 2 ^ 15 + k.acknowledged.of_n * 2 ^ 22
    + k.windows.of_t * 2 ^ 29 + k.windows.of_n * 2 ^ 36
    + bit k.unconfirmed.of_t * 2 ^ 43 + bit k.unconfirmed.of_n * 2 ^ 44
