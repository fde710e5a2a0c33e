-- The logical channels of circuits.
use Rattle.std.proofs.Common.{◌≡◌, ◌∙◌, arith, refl, sym, ap, ℕ, ◌+◌, ◌<◌, ◌≤◌, ◌==◌, Bool, true, false, cond, List, [], ◌∷◌, ◌++◌, append-nil, append_assoc, drop, get_or, length, Option, None, Some}
use Rattle.std.proofs.lemmas.Bool.Decides.{nat_tests}
use Rattle.std.proofs.lemmas.List.{at_drop_all, at_drop_more}
use Rattle.std.specs.BTreeMap.{is_at}
use Rattle.std.specs.List.{cons_option, filter_map}
use Rattle.std.specs.Option.{IfSome, option_or, option_to_list}
use Rattle.std.specs.Ordering.{nat_cmp}
use Rattle.line_model.specs.declared.interface.Interface.{Interface}
use Rattle.xot_circuits.specs.Plans.{AreWithin, IsWithin}
use Rattle.xot_circuits.specs.declared.channels.Given.{Given}
use Rattle.xot_circuits.specs.declared.channels.Purpose.TheVariants.{Permanent}
use Rattle.capture_report.specs.CircuitChannels.{channel_of}
use Rattle.capture_report.specs.Circuits.{channel_by, channel_if, no_end}
use Rattle.capture_report.specs.declared.circuits.SeenCircuit.{SeenCircuit}

-- one more of what a function gives of a list
joined : {X : Type 0} (o : Option X) (kept rest : List X) → (kept ++ option_to_list o) ++ rest ≡ kept ++ cons_option o rest
joined None kept rest = ap (λ l. l ++ rest) (append-nil kept)
joined (Some x) kept rest = append_assoc kept (x ∷ []) rest

pub one_more : {X : Type 0} (h : ℕ → Option X) (order : List ℕ) (i : ℕ) (kept new all : List X) → i < length order → new ≡ kept ++ option_to_list (h (get_or order i 0))
    → kept ++ filter_map h (drop i order) ≡ all → new ++ filter_map h (drop (i + 1) order) ≡ all
one_more h order i kept new all here is k =
    ap (λ l. l ++ filter_map h (drop (i + 1) order)) is
    ∙ (joined (h (get_or order i 0)) kept (filter_map h (drop (i + 1) order))
    ∙ (ap (λ l. kept ++ l) (sym (at_drop_more (filter_map h) order i 0 here)) ∙ k))

-- a circuit has no channel, or one, and those that have one are kept
pub given_none : (rest kept : Option ℕ) (b : Bool) → option_or (option_or rest (channel_if None b)) kept ≡ option_or rest kept
given_none None kept b = refl
given_none (Some c) kept b = refl

pub given_some : (rest kept : Option ℕ) (b : Bool) (g : Given) → option_or (option_or rest (channel_if (Some g) b)) kept ≡ option_or rest (cond b (Some g.channel) kept)
given_some (Some c) kept b g = refl
given_some None kept true g = refl
given_some None kept false g = refl

-- each is one of the interface
abbrev IsOf : Interface → Option ℕ → Type 0
IsOf i o = IfSome o (λ c. (1 ≤ c) × (c ≤ i.svc))

either : (i : Interface) (rest : Option ℕ) (g : Option Given) (b : Bool) → IsOf i rest → IsWithin i g → IsOf i (option_or rest (channel_if g b))
either i (Some c) g b h k = h
either i None None b h k = tt
either i None (Some g) true h k = k
either i None (Some g) false h k = tt

pub within_by : (i : Interface) (cs : List SeenCircuit) (gs : List (Option Given)) (n : ℕ) → AreWithin i gs → IfSome (channel_by cs gs n) (λ c. (1 ≤ c) × (c ≤ i.svc))
within_by i [] gs n h = tt
within_by i (x ∷ xs) [] n h = tt
within_by i (x ∷ xs) (g ∷ gs) n h = either i (channel_by xs gs n) g (x.connection == n) (within_by i xs gs n h.1) h.0

-- ---- one circuit more

-- what was given to the circuits from one on, and what is kept of those before
abbrev pub IsKept : List SeenCircuit → List (Option Given) → (all : ℕ → Option ℕ) → List (ℕ × ℕ) → Type 0
IsKept cs gs all kept = (n : ℕ) → option_or (channel_by cs gs n) (channel_of kept n) ≡ all n

abbrev pub no_circuit : SeenCircuit
no_circuit = record { connection = 0; wanted = record { purpose = Permanent; first = 0; last = 0; is_clear = false }; ends = record { dte = no_end; dce = no_end }; alone = None }

pub kept_none : (x : SeenCircuit) (cs : List SeenCircuit) (g : Option Given) (gs : List (Option Given)) (all : ℕ → Option ℕ) (kept new : List (ℕ × ℕ)) → g ≡ None → new ≡ kept
    → IsKept (x ∷ cs) (g ∷ gs) all kept → IsKept cs gs all new
kept_none x cs g gs all kept new is same k = λ n.
    ap (λ l. option_or (channel_by cs gs n) (channel_of l n)) same
    ∙ (sym (given_none (channel_by cs gs n) (channel_of kept n) (x.connection == n))
    ∙ (ap (λ o. option_or (option_or (channel_by cs gs n) (channel_if o (x.connection == n))) (channel_of kept n)) (sym is) ∙ k n))

-- none is left
pub kept_all : (cs : List SeenCircuit) (gs : List (Option Given)) (kept : List (ℕ × ℕ)) (i : ℕ) → length cs ≤ i → IsKept (drop i cs) (drop i gs) (channel_by cs gs) kept → (n : ℕ) → channel_of kept n ≡ channel_by cs gs n
kept_all cs gs kept i over k n = sym (at_drop_all (λ l. option_or (channel_by l (drop i gs) n) (channel_of kept n)) cs i over) ∙ k n

-- a channel is found at its connection
at_connection : (a n : ℕ) → is_at (nat_cmp a) n ≡ (a == n)
at_connection a n = grind (arith, nat_tests)

pub kept_some : (x : SeenCircuit) (cs : List SeenCircuit) (g : Option Given) (h : Given) (gs : List (Option Given)) (all : ℕ → Option ℕ) (kept new : List (ℕ × ℕ)) → g ≡ Some h
    → ((n : ℕ) → channel_of new n ≡ cond (is_at (nat_cmp x.connection) n) (Some h.channel) (channel_of kept n)) → IsKept (x ∷ cs) (g ∷ gs) all kept → IsKept cs gs all new
kept_some x cs g h gs all kept new is put k = λ n.
    ap (λ o. option_or (channel_by cs gs n) o) (put n ∙ ap (λ b. cond b (Some h.channel) (channel_of kept n)) (at_connection x.connection n))
    ∙ (sym (given_some (channel_by cs gs n) (channel_of kept n) (x.connection == n) h)
    ∙ (ap (λ o. option_or (option_or (channel_by cs gs n) (channel_if o (x.connection == n))) (channel_of kept n)) (sym is) ∙ k n))
