-- Bytes that are read into a room, and rooms that are split.
use Rattle.std.proofs.Common.{◌≡◌, ◌∙◌, sym, ap, ℕ, ◌+◌, ◌-◌, ◌≤◌, List, ◌++◌, append_assoc, arith, drop, length, length-drop, take, take_all, take-take}
use Rattle.std.proofs.lemmas.List.{take-append-drop}
use Rattle.streams.proofs.ByteRunLemmas.{filled}

-- the first n bytes were written after the first a, in the place of others
pub read_behind : (bytes now more post rest : List ℕ) (a n size : ℕ) → now ≡ bytes → a ≤ length bytes → n ≤ length more → a + n ≤ size → take (a + n) (take size (take a now ++ (more ++ post) ++ rest)) ≡ take a bytes ++ take n more
read_behind bytes now more post rest a n size same there few within =
    take-take (a + n) size (take a now ++ (more ++ post) ++ rest) within
    ∙ ap (λ xs. take (a + n) (take a xs ++ (more ++ post) ++ rest)) same
    ∙ ap (take (a + n)) (append_assoc (take a bytes) (more ++ post) rest ∙ ap (λ xs. take a bytes ++ xs) (append_assoc more post rest))
    ∙ filled bytes more (post ++ rest) a n there few

-- lists of which each begins with the same are cut alike
pub split_at : (items bytes first next : List ℕ) (len count : ℕ) → take len bytes ≡ items → count ≤ length items → count ≤ len → first ≡ take count bytes → next ≡ drop count items → items ≡ first ++ next
split_at items bytes first next len count is few le front back =
    sym (take-append-drop count items) ∙ ap (λ xs. xs ++ drop count items) (ap (take count) (sym is) ∙ take-take count len bytes le ∙ sym front) ∙ ap (λ xs. first ++ xs) (sym back)

-- what comes after the first of them
pub all_behind : (items : List ℕ) (count : ℕ) → take (length items - count) (drop count items) ≡ drop count items
all_behind items count = take_all (length items - count) (drop count items) (omega (arith, length-drop count items))
