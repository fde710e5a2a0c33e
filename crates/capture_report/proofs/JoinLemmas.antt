-- Several captures that are opened as one.
use Rattle.std.proofs.Math.Seq.{drop-cons}
use Rattle.std.proofs.Common.{◌≡◌, ◌∙◌, ℕ, suc, ◌<◌, ◌≤◌, ◌+◌, List, [], ◌∷◌, ◌++◌, Option, None, Some, true, drop, length, map, sym, ap, refl, arith, append-nil, slice_index_or, Bor}
use Rattle.std.specs.Prelude.{◌==◌, flat_map, if◌then◌else◌, option_map}
use Rattle.std.specs.Fmt.{option_append}
use Rattle.std.specs.Io.KnownBytes.{Consumes}
use Rattle.std.specs.Option.{option_and_then}
use Rattle.std.proofs.lemmas.List.{append_assoc}
use Rattle.capture_files.proofs.RecordLemmas.{number_more}
use Rattle.capture_report.specs.JoinedFiles.{all_named, joined, joined_named, left_out, part_left, parts_left, without_headers}
use Rattle.capture_report.specs.declared.joined_file.JoinedPart.{JoinedPart}

-- ---- texts that may be hidden

append_none : (p : Option (List ℕ)) → option_append p (Some []) ≡ p
append_none None = refl
append_none (Some xs) = ap Some (append-nil xs)

none_first : (p : Option (List ℕ)) → option_append (Some []) p ≡ p
none_first None = refl
none_first (Some xs) = refl

append_grouped : (p q r : Option (List ℕ)) → option_append (option_append p q) r ≡ option_append p (option_append q r)
append_grouped None q r = refl
append_grouped (Some xs) None r = refl
append_grouped (Some xs) (Some ys) None = refl
append_grouped (Some xs) (Some ys) (Some zs) = ap Some (append_assoc xs ys zs)

-- ---- parts

parts_more : {F : Type 0} (left : F → Option (List ℕ)) (ps : List (JoinedPart F)) (p : JoinedPart F) → parts_left left (ps ++ p ∷ []) ≡ option_append (parts_left left ps) (part_left left p)
parts_more left [] p = append_none (part_left left p) ∙ sym (none_first (part_left left p))
parts_more left (q ∷ ps) p = ap (option_append (part_left left q)) (parts_more left ps p) ∙ sym (append_grouped (part_left left q) (parts_left left ps) (part_left left p))

-- ---- the files of names

headers_of : (skipped : ℕ) (named : List ℕ → Option (List ℕ)) (file : Option (List ℕ)) (names : List (List ℕ)) → option_map (flat_map (drop skipped)) (option_and_then (λ f. option_map (λ files. f ∷ files) (all_named named names)) file) ≡ option_append (option_map (drop skipped) file) (without_headers skipped named names)
headers_of skipped named None names = refl
headers_of skipped named (Some f) names = at (all_named named names)
  where
    at : (all : Option (List (List ℕ))) → option_map (flat_map (drop skipped)) (option_map (λ files. f ∷ files) all) ≡ option_append (Some (drop skipped f)) (option_map (flat_map (drop skipped)) all)
    at None = refl
    at (Some files) = refl

-- the file of one more name
one_more : (skipped : ℕ) (named : List ℕ → Option (List ℕ)) (so_far file : Option (List ℕ)) (name : List ℕ) (names : List (List ℕ)) → file ≡ option_map (drop skipped) (named name)
    → option_append (option_append so_far file) (without_headers skipped named names) ≡ option_append so_far (without_headers skipped named (name ∷ names))
one_more skipped named so_far file name names e =
    ap (λ f. option_append (option_append so_far f) (without_headers skipped named names)) e
    ∙ append_grouped so_far (option_map (drop skipped) (named name)) (without_headers skipped named names)
    ∙ ap (option_append so_far) (sym (headers_of skipped named (named name) names))

same_left_out : (front rest : List ℕ) → 24 ≤ length front → left_out (front ++ rest) ≡ left_out front
same_left_out front rest many = ap (λ n. if n == 168627466 then 0 else 24) (number_more true front rest 0 (omega (arith, many)))

-- a file, and those that follow it without their headers, are one
pub all_joined : (named : List ℕ → Option (List ℕ)) (name : List ℕ) (further : List (List ℕ)) (file now : Option (List ℕ)) (front : List ℕ) → 24 ≤ length front → file ≡ named name → Consumes file now front
    → option_append (option_map (drop 0) file) (without_headers (left_out front) named further) ≡ joined_named named name further
all_joined named name further file now front many e h = at file now e h
  where
    with_all : (xs : List ℕ) (all : Option (List (List ℕ))) → left_out xs ≡ left_out front → option_append (Some xs) (option_map (flat_map (drop (left_out front))) all) ≡ option_map (joined xs) all
    with_all xs None same = refl
    with_all xs (Some files) same = ap (λ k. Some (xs ++ flat_map (drop k) files)) (sym same)

    at : (file now : Option (List ℕ)) → file ≡ named name → Consumes file now front → option_append (option_map (drop 0) file) (without_headers (left_out front) named further) ≡ joined_named named name further
    at None now e h = ap (λ f. option_and_then (λ first. option_map (joined first) (all_named named further)) f) e
    at (Some xs) None e h = absurd h
    at (Some xs) (Some rest) e h = with_all xs (all_named named further) (ap left_out h ∙ same_left_out front rest many) ∙ ap (λ f. option_and_then (λ first. option_map (joined first) (all_named named further)) f) e

-- the file of the name at a place becomes a part
pub next_part : {F : Type 0} (left : F → Option (List ℕ)) (skipped : ℕ) (named : List ℕ → Option (List ℕ)) (ps : List (JoinedPart F)) (p : JoinedPart F) (all : Option (List ℕ)) (names : List (Bor (List ℕ))) (k : ℕ) (d : Bor (List ℕ)) → k < length names → part_left left p ≡ option_map (drop skipped) (named (slice_index_or names k d).now)
    → option_append (parts_left left ps) (without_headers skipped named (map (λ name. name.now) (drop k names))) ≡ all → option_append (parts_left left (ps ++ p ∷ [])) (without_headers skipped named (map (λ name. name.now) (drop (k + 1) names))) ≡ all
next_part left skipped named ps p all names k d few e h =
    let rest = drop (k + 1) names in
    let next : suc k ≡ k + 1 = omega arith in
    let split : drop k names ≡ slice_index_or names k d ∷ rest = drop-cons names k d few ∙ ap (λ j. slice_index_or names k d ∷ drop j names) next in
    ap (λ o. option_append o (without_headers skipped named (map (λ name. name.now) rest))) (parts_more left ps p)
    ∙ one_more skipped named (parts_left left ps) (part_left left p) (slice_index_or names k d).now (map (λ name. name.now) rest) e
    ∙ ap (λ l. option_append (parts_left left ps) (without_headers skipped named (map (λ name. name.now) l))) (sym split)
    ∙ h
