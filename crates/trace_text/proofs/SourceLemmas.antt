-- What a source gave, call by call.
use Rattle.std.proofs.Common.{◌≡◌, ◌∙◌, sym, ap, subst, refl, ℕ, ◌≤◌, ◌^◌, List, [], ◌++◌, length, Option, Some, None, Result, Ok, Err, IfErr, IsErrAnd, append-nil, append_assoc, arith, inl, inr}
use Rattle.line_model.specs.basics.Device.{Gives}
use Rattle.line_model.specs.text.Text.{begun_line, early, ended_lines, size_of}
use Rattle.line_model.specs.declared.fault.Fault.{Fault}
use Rattle.line_model.specs.declared.fault.Fault.TheVariants.{Read}
use Rattle.line_model.proofs.TextLemmas.{size_kind-none, size_of-ended}
use Rattle.trace_text.proofs.FeedLemmas.{size-sound}
use Rattle.trace_text.specs.Decided.{NoneDecidedButLast}
use Rattle.trace_text.specs.Sources.{BeginsSo, IsFedAll, IsFedUpTo, IsGiven, NoneDecided}

-- what a source gave so far was fed
pub record Reached (left after : Option (List ℕ)) (was_fed : List ℕ → Type 0) : Type 0 where
  pub text : List ℕ
  pub fed : was_fed text
  pub source : IsGiven left after text

pub begun : (left : Option (List ℕ)) (was_fed : List ℕ → Type 0) → was_fed [] → Reached left left was_fed
begun left was_fed fed = record { text = []; fed = fed; source = λ text shown. (text, refl, shown) }

pub given_more : (left after next : Option (List ℕ)) (given bytes : List ℕ) → IsGiven left after given → Gives after next bytes → IsGiven left next (given ++ bytes)
given_more left after next given bytes source gives text shown =
    let before = source text shown in
    let more = gives.shown before.0 before.2 in
    (more.0, before.1 ∙ ap (λ xs. given ++ xs) more.2 ∙ sym (append_assoc given bytes more.0), more.1)

pub begins_so : (left after : Option (List ℕ)) (given : List ℕ) → IsGiven left after given → BeginsSo left given
begins_so None after given source = tt
begins_so (Some all) after given source = let g = source all refl in (g.0, g.1)

-- the source gave nothing more
pub all_read : (lag : ℕ) (left after next asked : Option (List ℕ)) (was_fed : List ℕ → Type 0) (bytes : List ℕ) → (r : Reached left after was_fed) → NoneDecidedButLast lag r.text → Gives after next bytes → asked ≡ after → bytes ≡ [] → IsFedAll lag left next asked was_fed
all_read lag left after next asked was_fed bytes r sound gives same none = record {
  text = r.text;
  fed = r.fed;
  sound = sound;
  source = λ text shown.
      let before = r.source text shown in
      let rest = gives.end before.0 before.2 none in
      let more = gives.shown before.0 before.2 in (
        before.1 ∙ ap (λ xs. r.text ++ xs) rest ∙ append-nil r.text,
        more.1 ∙ ap (λ xs. Some xs) (sym (ap (λ xs. xs ++ more.0) none) ∙ sym more.2 ∙ rest),
        same ∙ before.2 ∙ ap (λ xs. Some xs) rest,
      );
}

-- what the last call gave was refused
pub refused_at : (lag : ℕ) (left after next asked : Option (List ℕ)) (had_fed was_fed : List ℕ → Type 0) (refused : (fed last : List ℕ) → Fault → Type 0) (shown : Fault) (last : List ℕ) → (r : Reached left after had_fed) → NoneDecidedButLast lag r.text → Gives after next last → asked ≡ after → length last ≤ 2 ^ 16
    → refused r.text last shown → IsFedUpTo lag left next asked was_fed refused shown
refused_at lag left after next asked had_fed was_fed refused shown last r sound gives same few why = record {
  fed = r.text;
  last = last;
  few = few;
  given = given_more left after next r.text last r.source gives;
  before = subst (λ o. IsGiven left o r.text) (sym same) r.source;
  sound = sound;
  why = inr why;
}

-- the last call failed
pub failed_read : (lag : ℕ) (left after next asked : Option (List ℕ)) (was_fed : List ℕ → Type 0) (refused : (fed last : List ℕ) → Fault → Type 0) → (r : Reached left after was_fed) → NoneDecidedButLast lag r.text → next ≡ after → asked ≡ after → IsFedUpTo lag left next asked was_fed refused Read
failed_read lag left after next asked was_fed refused r sound kept same = record {
  fed = r.text;
  last = [];
  few = omega arith;
  given = subst (λ xs. IsGiven left next xs) (sym (append-nil r.text)) (subst (λ o. IsGiven left o r.text) (sym kept) r.source);
  before = subst (λ o. IsGiven left o r.text) (sym same) r.source;
  sound = sound;
  why = inl (record { failure = refl; none = refl; represented = r.fed });
}

-- a text of which no line is faulty so far is no longer than a text may be
pub few_bytes : (x : List ℕ) → early x ≡ None → length x ≤ 2 ^ 30
few_bytes x sound = omega (arith, (size_kind-none (size_of (ended_lines x)) 0 (length (begun_line x)) (size-sound x sound)).1, size_of-ended x)

-- what was given before the last call shows no faulty line
none_decided : (lag : ℕ) (left asked : Option (List ℕ)) (fed text : List ℕ) → IsGiven left asked fed → NoneDecidedButLast lag fed → left ≡ Some text → NoneDecided lag text asked
none_decided lag left asked fed text source sound shown = let g = source text shown in record { before = fed; last = g.0; whole = g.1; left = g.2; sound = sound }

-- so it is where the last call gave nothing
pub all_sound : (lag : ℕ) (left after asked : Option (List ℕ)) (was_fed : List ℕ → Type 0) (text : List ℕ) → IsFedAll lag left after asked was_fed → left ≡ Some text → NoneDecided lag text asked
all_sound lag left after asked was_fed text w shown =
    let all = w.source text shown in
    record { before = w.text; last = []; whole = all.0 ∙ sym (append-nil w.text); left = all.2; sound = w.sound }

-- and where what it gave was refused, or it failed
pub sound_before : (lag : ℕ) (left after asked : Option (List ℕ)) (was_fed : List ℕ → Type 0) (refused : (fed last : List ℕ) → Fault → Type 0) (shown : Fault) (text : List ℕ) → IsFedUpTo lag left after asked was_fed refused shown → left ≡ Some text → NoneDecided lag text asked
sound_before lag left after asked was_fed refused shown text u e = none_decided lag left asked u.fed text u.before u.sound e

-- ---- a fault that a `?` passes on

pub passed_on : {T E : Type 0} (r : Result T E) (f : E) (P : E → Type 0) → IsErrAnd r (λ e. e ≡ f) → P f → IfErr r P
passed_on (Ok x) f P is h = tt
passed_on (Err e) f P is h = subst P (sym is) h

pub same_fault : {T E : Type 0} (r : Result T E) (f e : E) → IsErrAnd r (λ y. y ≡ f) → r ≡ Err e → f ≡ e
same_fault (Ok x) f e is h = absurd is
same_fault (Err y) f e is h = sym is ∙ (let same : y ≡ e = cc in same)
