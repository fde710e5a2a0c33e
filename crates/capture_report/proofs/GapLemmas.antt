-- Ranges that are passed one by one.
use Rattle.std.specs.Prelude.{◌≡◌, ℕ, ◌+◌, ◌<◌, ◌≤◌, ◌||◌, Bool, true, false, List, Option, None, Some, length, take, drop, refl}
use Rattle.std.specs.List.{slice_index_or}
use Rattle.std.proofs.Common.{sym, ◌∙◌, ap, arith}
use Rattle.std.proofs.lemmas.List.{get_or-drop, length-drop, take-append-drop}
use Rattle.std.proofs.lemmas.List.Folds.{list_any-append, list_any_more, list_any_none}
use Rattle.capture_report.specs.Gaps.{ArePassed, InOrder, IsNextBefore, NoneBefore, further, holds_frame, is_in, reaches}
use Rattle.capture_report.specs.declared.gaps.LostRange.{LostRange}
use Rattle.capture_report.specs.declared.gaps.Passed.{Passed}

-- a range that begins before a frame reaches so far
pub reaches_further : (o : Option ℕ) (r : LostRange) (f : ℕ) → r.since < f → (reaches o f || holds_frame f r) ≡ reaches (further o r) f
reaches_further None r f h = grind (arith, h)
reaches_further (Some k) r f h = grind (arith, h)

pub one_more : (ranges : List LostRange) (frame : ℕ) (p q : Passed) (r : LostRange) → ArePassed ranges frame p → IsNextBefore ranges frame p.count r → q.count ≡ p.count + 1 → q.reach ≡ further p.reach r → ArePassed ranges frame q
one_more ranges frame p q r s next count reach = record {
  within = let low = next.0 in omega (arith, low, count);
  same = λ f h.
      let before : r.since < f = let b = next.2 in omega (arith, b, h) in
      ap (λ n. is_in (take n ranges) f) count
      ∙ (list_any_more (holds_frame f) ranges p.count r next.0
      ∙ (ap (λ b. b || holds_frame f (slice_index_or ranges p.count r)) (s.same f h)
      ∙ (ap (λ x. reaches p.reach f || holds_frame f x) (sym next.1)
      ∙ (reaches_further p.reach r f before
      ∙ ap (λ o. reaches o f) (sym reach)))));
}

-- no later range has a frame
pub none_later : (ranges : List LostRange) (frame place : ℕ) → InOrder ranges → place ≤ length ranges → NoneBefore ranges frame place → is_in (drop place ranges) frame ≡ false
none_later ranges frame place order low none = list_any_none (holds_frame frame) (drop place ranges) (λ k d h.
    let there : place + k < length ranges = let n = length-drop place ranges in omega (arith, n, h, low) in
    let first : frame ≤ (slice_index_or ranges place d).since = none d (omega (arith, there)) in
    let later : (slice_index_or ranges place d).since ≤ (slice_index_or ranges (place + k) d).since = order place (place + k) d (omega arith) there in
    let is = get_or-drop place ranges k d in
    ap (λ (r : LostRange). holds_frame frame r) is ∙ at (slice_index_or ranges (place + k) d) (omega (arith, first, later)))
  where
    at : (r : LostRange) → frame ≤ r.since → holds_frame frame r ≡ false
    at r h = grind (arith, h)

or_false : (b : Bool) → (b || false) ≡ b
or_false true = refl
or_false false = refl

pub all_passed : (ranges : List LostRange) (frame : ℕ) (p : Passed) → InOrder ranges → ArePassed ranges frame p → NoneBefore ranges frame p.count → is_in ranges frame ≡ reaches p.reach frame
all_passed ranges frame p order s none =
    ap (λ rs. is_in rs frame) (sym (take-append-drop p.count ranges))
    ∙ (list_any-append (holds_frame frame) (take p.count ranges) (drop p.count ranges)
    ∙ (ap (λ b. is_in (take p.count ranges) frame || b) (none_later ranges frame p.count order s.within none)
    ∙ (or_false (is_in (take p.count ranges) frame)
    ∙ s.same frame (omega arith))))

-- what begins before a frame begins before a later one
pub still_passed : (ranges : List LostRange) (last frame : ℕ) (p : Passed) → last ≤ frame → ArePassed ranges last p → ArePassed ranges frame p
still_passed ranges last frame p h s = record { within = s.within; same = λ f g. s.same f (omega (arith, h, g)) }
