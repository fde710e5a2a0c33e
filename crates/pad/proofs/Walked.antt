-- Pairs that are read one after another.
use Rattle.std.proofs.Common.{◌≡◌, ℕ, Bool, true, false, cond, refl, sym, ◌∙◌, ap, subst, List, [], ◌∷◌, ◌++◌, length, append_assoc, append-nil}
use Rattle.std.specs.Prelude.{◌==◌, map, filter, flat_map}
use Rattle.line_model.specs.declared.state.Side.{Side}
use Rattle.line_model.specs.declared.event.What.{What}
use Rattle.line_model.specs.basics.Octets.{bits}
use Rattle.line_model.specs.channels.Pad.{Pair, is_parameter, indicated, asked}
use Rattle.pad.specs.Pairs.{pairs_before}
use Rattle.pad.specs.declared.settings.Settings.{Settings}
use Rattle.pad.specs.Represents.{HasEntries}
use Rattle.pad.specs.MessageEvents.{set_events, set_events_by}
use Rattle.pad.specs.Effects.{indicated_one, asked_one, all_indicated, all_asked}

-- settings along the pairs: those read so far say what they say, and with those left they are all
pub record IsWalked (f : Side → Pair → List What) (start s : Settings) (left all : List Pair) : Type 0 where
  pub pad : s.pad ≡ start.pad
  pub asked : s.asked ≡ start.asked
  pub has_entries : (ws : List What) → HasEntries start ws →
      (done : List What) × HasEntries s (ws ++ done) × (done ++ flat_map (f start.pad) left ≡ flat_map (f start.pad) all)

pub walked_none : (f : Side → Pair → List What) (s : Settings) (left all : List Pair) → left ≡ all → IsWalked f s s left all
walked_none f s left all e = record {
  pad = refl;
  asked = refl;
  has_entries = λ ws h. ([], subst (HasEntries s) (sym (append-nil ws)) h, ap (λ l. flat_map (f s.pad) l) e);
}

pub walked_one : (f : Side → Pair → List What) (start s new : Settings) (p : Pair) (left more all : List Pair) → IsWalked f start s left all →
    left ≡ p ∷ more → new.pad ≡ s.pad → new.asked ≡ s.asked → ((ws : List What) → HasEntries s ws → HasEntries new (ws ++ f s.pad p)) →
    IsWalked f start new more all
walked_one f start s new p left more all h e pad_is asked_is has_entries = record {
  pad = pad_is ∙ h.pad;
  asked = asked_is ∙ h.asked;
  has_entries = λ ws start_has.
      let (done, s_has, whole) = h.has_entries ws start_has in (
        done ++ f s.pad p,
        subst (HasEntries new) (append_assoc ws done (f s.pad p)) (has_entries (ws ++ done) s_has),
        ap (λ x. (done ++ f x p) ++ flat_map (f start.pad) more) h.pad
            ∙ append_assoc done (f start.pad p) (flat_map (f start.pad) more)
            ∙ ap (λ l. done ++ flat_map (f start.pad) l) (sym e) ∙ whole,
      );
}

pub walked_all : (f : Side → Pair → List What) (start s : Settings) (left all : List Pair) → IsWalked f start s left all → left ≡ [] →
    (ws : List What) → HasEntries start ws → HasEntries s (ws ++ flat_map (f start.pad) all)
walked_all f start s left all h e ws start_has =
    let (done, s_has, whole) = h.has_entries ws start_has in
    let same : done ≡ flat_map (f start.pad) all =
    sym (append-nil done) ∙ ap (λ l. done ++ flat_map (f start.pad) l) (sym e) ∙ whole in
    subst (λ vs. HasEntries s (ws ++ vs)) same s_has

-- those that pass a test, one after another
pub passed : (test : Pair → Bool) (g : Pair → What) (ps : List Pair) →
    flat_map (λ p. cond (test p) (g p ∷ []) []) ps ≡ map g (filter test ps)
passed test g [] = refl
passed test g (p ∷ ps) = by (test p) (passed test g ps)
  where
    by : (b : Bool) → flat_map (λ q. cond (test q) (g q ∷ []) []) ps ≡ map g (filter test ps) →
        cond b (g p ∷ []) [] ++ flat_map (λ q. cond (test q) (g q ∷ []) []) ps ≡ map g (cond b (p ∷ filter test ps) (filter test ps))
    by true rest = ap (λ l. g p ∷ l) rest
    by false rest = rest

-- all pairs of an indication, and of a set
pub indicated_all : (s new : Settings) (octets : List ℕ) (ps : List Pair) → ps ≡ pairs_before true octets →
    ((ws : List What) → HasEntries s ws → HasEntries new (ws ++ flat_map (indicated_one s.pad) ps)) →
    (ws : List What) → HasEntries s ws → HasEntries new (ws ++ all_indicated s.pad octets)
indicated_all s new octets ps e has_entries ws h =
    let all : flat_map (indicated_one s.pad) ps ≡ all_indicated s.pad octets =
    ap (λ l. flat_map (indicated_one s.pad) l) e
    ∙ passed (λ p. is_parameter (bits 7 1 p.reference)) (indicated s.pad) (pairs_before true octets) in
    subst (λ vs. HasEntries new (ws ++ vs)) all (has_entries ws h)

asked_all : (s new : Settings) (octets : List ℕ) (ps : List Pair) → ps ≡ pairs_before false octets →
    ((ws : List What) → HasEntries s ws → HasEntries new (ws ++ flat_map (asked_one s.pad) ps)) →
    (ws : List What) → HasEntries s ws → HasEntries new (ws ++ all_asked s.pad octets)
asked_all s new octets ps e has_entries ws h =
    let all : flat_map (asked_one s.pad) ps ≡ all_asked s.pad octets =
    ap (λ l. flat_map (asked_one s.pad) l) e
    ∙ passed (λ p. is_parameter p.reference) (asked s.pad) (pairs_before false octets) in
    subst (λ vs. HasEntries new (ws ++ vs)) all (has_entries ws h)

-- the octets after the code of a set, where there are any
pub set_all : (s new : Settings) (octets : List ℕ) (ps : List Pair) → (length octets == 0) ≡ false → ps ≡ pairs_before false octets →
    ((ws : List What) → HasEntries s ws → HasEntries new (ws ++ flat_map (asked_one s.pad) ps)) →
    (ws : List What) → HasEntries s ws → HasEntries new (ws ++ set_events s.pad octets)
set_all s new octets ps some e has_entries ws h =
    subst (λ vs. HasEntries new (ws ++ vs)) (ap (λ b. set_events_by b s.pad octets) (sym some)) (asked_all s new octets ps e has_entries ws h)
