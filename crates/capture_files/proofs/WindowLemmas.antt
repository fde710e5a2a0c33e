-- Octets that are read behind those ahead, and files that are read in steps.
use Rattle.std.proofs.Common.{◌≡◌, ◌∙◌, sym, ap, ℕ, ◌+◌, ◌-◌, ◌≤◌, List, [], ◌∷◌, ◌++◌, Option, None, Some, append_assoc, arith, drop, length, length-take-le, refl, take, take-take}
use Rattle.std.proofs.lemmas.List.{drop-append-le, drop-take, nil_from_length, take-append-drop}
use Rattle.streams.proofs.ByteRunLemmas.{filled}
use Rattle.line_model.specs.basics.Device.{Gives}
use Rattle.capture_files.specs.Windows.{Passes, still}

-- the first n bytes were written after the first a, in the place of others
read_behind : (bytes now more post rest : List ℕ) (a n size : ℕ) → now ≡ bytes → a ≤ length bytes → n ≤ length more → a + n ≤ size → take (a + n) (take size (take a now ++ (more ++ post) ++ rest)) ≡ take a bytes ++ take n more
read_behind bytes now more post rest a n size same there few within =
    take-take (a + n) size (take a now ++ (more ++ post) ++ rest) within
    ∙ ap (λ xs. take (a + n) (take a xs ++ (more ++ post) ++ rest)) same
    ∙ ap (take (a + n)) (append_assoc (take a bytes) (more ++ post) rest ∙ ap (λ xs. take a bytes ++ xs) (append_assoc more post rest))
    ∙ filled bytes more (post ++ rest) a n there few

-- the same of those from a place on
pub read_ahead : (bytes now more post rest : List ℕ) (at a n size : ℕ) → now ≡ bytes → at ≤ a → a ≤ length bytes → n ≤ length more → a + n ≤ size → take (a + n - at) (drop at (take size (take a now ++ (more ++ post) ++ rest))) ≡ take (a - at) (drop at bytes) ++ take n more
read_ahead bytes now more post rest at a n size same le there few within =
    let all : at + (a + n - at) ≡ a + n = omega (arith, le) in
    let front : at + (a - at) ≡ a = omega (arith, le) in
    let whole : at ≤ length (take a bytes) = omega (arith, le, length-take-le a bytes there) in
    sym (drop-take at (a + n - at) (take size (take a now ++ (more ++ post) ++ rest)))
    ∙ ap (λ k. drop at (take k (take size (take a now ++ (more ++ post) ++ rest)))) all
    ∙ ap (drop at) (read_behind bytes now more post rest a n size same there few within)
    ∙ drop-append-le at (take a bytes) (take n more) whole
    ∙ ap (λ xs. xs ++ take n more) (ap (λ k. drop at (take k bytes)) (sym front) ∙ drop-take at (a - at) bytes)

-- steps that follow each other
pub two_steps : (a b c : Option (List ℕ)) (xs ys : List ℕ) → Passes a b xs → Passes b c ys → Passes a c (xs ++ ys)
two_steps a b c xs ys first second file is =
    let one = first file is in
    let two = second one.0 one.1 in
    (two.0, two.1, one.2 ∙ ap (λ zs. xs ++ zs) two.2 ∙ sym (append_assoc xs ys two.0))

-- a source that gave nothing has nothing left
pub at_end : (ahead more rest : List ℕ) (before after : Option (List ℕ)) → still ahead before ≡ Some rest → Gives before after more → length more ≡ 0 → after ≡ Some []
at_end ahead more rest None after is gives none = cc
at_end ahead [] rest (Some xs) after is gives none =
    let shown = gives.shown xs refl in
    let empty : xs ≡ [] = gives.end xs refl refl in
    shown.1 ∙ ap Some (sym shown.2 ∙ empty)
at_end ahead (x ∷ more) rest (Some xs) after is gives none = cc (nil_from_length (x ∷ more) none)

-- octets that are consumed after a fill are those that come first
pub taken : (before left : Option (List ℕ)) (ahead last next : List ℕ) (n : ℕ) → Passes before (still ahead left) [] → last ≡ take n ahead → next ≡ drop n ahead → Passes before (still next left) last
taken before None ahead last next n passes is_last is_next file is = cc (passes file is).1
taken before (Some xs) ahead last next n passes is_last is_next file is =
    let filled = passes file is in
    let whole : ahead ++ xs ≡ filled.0 = cc filled.1 in
    let parts : last ++ next ≡ ahead = ap (λ ys. ys ++ next) is_last ∙ ap (λ ys. take n ahead ++ ys) is_next ∙ take-append-drop n ahead in
    (next ++ xs, refl, filled.2 ∙ sym whole ∙ ap (λ ys. ys ++ xs) (sym parts) ∙ append_assoc last next xs)
