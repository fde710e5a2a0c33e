-- The trials of all headers, one after the other.
use Rattle.std.proofs.Common.{◌≡◌, ◌∙◌, sym, ap, subst, refl, ℕ, zero, suc, ◌+◌, ◌<◌, ◌≤◌, ◌==◌, Bool, true, false, cond, length-append, List, [], ◌∷◌, ◌++◌, length, map, set, get_or, arith, append-nil, append_assoc, take, drop, Option, Some, None}
use Rattle.std.specs.List.{cons_option, filter, filter_map, flat_map}
use Rattle.std.specs.Prelude.{IfSome}
use Rattle.line_model.specs.basics.Octets.{bits, octet}
use Rattle.line_model.proofs.Pieces.{filter_append}
use Rattle.header_trials.specs.Headers.{IsLike, rows_with_format}
use Rattle.std.specs.Option.{option_to_list}
use Rattle.std.proofs.lemmas.Grind.{flat_map-append}
use Rattle.std.proofs.lemmas.List.{take_more}
use Rattle.std.proofs.lemmas.List.Elements.{filter_map-append}
use Rattle.line_model.specs.declared.interface.Interface.{Interface}
use Rattle.line_model.specs.basics.Records.{Row, ReadRow}
use Rattle.line_model.specs.packets.Says.{is_unqualified, items_of, read_octets, read_row}
use Rattle.line_model.proofs.Saying.{said_count}
use Rattle.line_model.specs.basics.Bounds.{AreRows, IsGapRow}
use Rattle.line_model.specs.text.Text.{early, early_head, early_rows, fault, head, rows}
use Rattle.line_model.proofs.TextRows.{first_rows_law, rows_law}
use Rattle.trace_text.specs.Progress.{Progress}
use Rattle.trace_text.specs.Represents.{Represents}
use Rattle.trace_text.proofs.RefusalLemmas.{head_represents}
use Rattle.trace_text.proofs.RowsOfText.{early_numbers, early_octets, early_rises, text_numbers, text_octets, text_rises}
use Rattle.live_report.proofs.ChunkLemmas.{items_sound}
use Rattle.channel_run.specs.declared.run.Channel.{Ghosts as Machine}
use Rattle.header_trials.specs.Reactions.{reactions_in}
use Rattle.header_trials.specs.Tried.{HasWalked}
use Rattle.header_trials.specs.TriedLines.{tried_by, tried_with}
use Rattle.header_trials.specs.Trials.{AreTrials, IsTrace, IsTraceUnder, SaidRows, with_row}
use Rattle.header_trials.specs.declared.trial.Trial.{Trial}
use Rattle.line_model.proofs.Saying.{row_said}
use Rattle.header_trials.proofs.WalkedLemmas.{few_rows}

-- one more header
pub trials_push : {A C : Type 0} (m : Machine C A) (own : Interface) (items : SaidRows) (is : List Interface) (ts : List (Trial A C)) (i : Interface) (t : Trial A C) → AreTrials m own items is ts → HasWalked m i (items i) t → IsLike own i → AreTrials m own items (is ++ i ∷ []) (ts ++ t ∷ [])
trials_push m own items [] [] i t all w like = (w, like, tt)
trials_push m own items [] (u ∷ ts) i t all w like = absurd all
trials_push m own items (j ∷ is) [] i t all w like = absurd all
trials_push m own items (j ∷ is) (u ∷ ts) i t all w like = (all.0, all.1, trials_push m own items is ts i t all.2 w like)

-- the first n trials walked a row more
abbrev pub AreOnWay : {A C : Type 0} → Machine C A → (n : ℕ) → (own : Interface) → SaidRows → SaidRows → List Interface → List (Trial A C) → Type 0
AreOnWay m zero own items more is ts = AreTrials m own items is ts
AreOnWay m (suc n) own items more [] [] = Unit {0}
AreOnWay m (suc n) own items more (i ∷ is) (t ∷ ts) = HasWalked m i (more i) t × IsLike own i × AreOnWay m n own items more is ts
AreOnWay m (suc n) own items more _ _ = ⊥

-- the header of the next one, and that it has not received the row
pub record IsNext {A C : Type 0} (m : Machine C A) (own : Interface) (items : SaidRows) (t : Trial A C) : Type 0 where
  pub header : Interface
  pub walked : HasWalked m header (items header) t
  pub like : IsLike own header

pub next_on_way : {A C : Type 0} (m : Machine C A) (n : ℕ) (own : Interface) (items more : SaidRows) (is : List Interface) (ts : List (Trial A C)) (d : Trial A C) → n < length ts → AreOnWay m n own items more is ts → IsNext m own items (get_or ts n d)
next_on_way m zero own items more [] [] d lt all = absurd (omega arith)
next_on_way m zero own items more (i ∷ is) (t ∷ ts) d lt all = record { header = i; walked = all.0; like = all.1 }
next_on_way m zero own items more [] (t ∷ ts) d lt all = absurd all
next_on_way m zero own items more (i ∷ is) [] d lt all = absurd all
next_on_way m (suc n) own items more [] [] d lt all = absurd (omega arith)
next_on_way m (suc n) own items more (i ∷ is) (t ∷ ts) d lt all = next_on_way m n own items more is ts d (omega arith) all.2
next_on_way m (suc n) own items more [] (t ∷ ts) d lt all = absurd all
next_on_way m (suc n) own items more (i ∷ is) [] d lt all = absurd all

-- it receives the row
pub one_on_way : {A C : Type 0} (m : Machine C A) (n : ℕ) (own : Interface) (items more : SaidRows) (is : List Interface) (ts : List (Trial A C)) (d t : Trial A C) → n < length ts → AreOnWay m n own items more is ts
    → ((i : Interface) → IsLike own i → HasWalked m i (items i) (get_or ts n d) → HasWalked m i (more i) t) → AreOnWay m (suc n) own items more is (set ts n t)
one_on_way m zero own items more [] [] d t lt all next = absurd (omega arith)
one_on_way m zero own items more (i ∷ is) (u ∷ ts) d t lt all next = (next i all.1 all.0, all.1, all.2)
one_on_way m zero own items more [] (u ∷ ts) d t lt all next = absurd all
one_on_way m zero own items more (i ∷ is) [] d t lt all next = absurd all
one_on_way m (suc n) own items more [] [] d t lt all next = absurd (omega arith)
one_on_way m (suc n) own items more (i ∷ is) (u ∷ ts) d t lt all next = (all.0, all.1, one_on_way m n own items more is ts d t (omega arith) all.2 next)
one_on_way m (suc n) own items more [] (u ∷ ts) d t lt all next = absurd all
one_on_way m (suc n) own items more (i ∷ is) [] d t lt all next = absurd all

-- all received it
pub all_on_way : {A C : Type 0} (m : Machine C A) (n : ℕ) (own : Interface) (items more : SaidRows) (is : List Interface) (ts : List (Trial A C)) → length ts ≤ n → AreOnWay m n own items more is ts → AreTrials m own more is ts
all_on_way m zero own items more [] [] le all = tt
all_on_way m zero own items more (i ∷ is) (t ∷ ts) le all = absurd (omega arith)
all_on_way m zero own items more [] (t ∷ ts) le all = absurd all
all_on_way m zero own items more (i ∷ is) [] le all = absurd all
all_on_way m (suc n) own items more [] [] le all = tt
all_on_way m (suc n) own items more (i ∷ is) (t ∷ ts) le all = (all.0, all.1, all_on_way m n own items more is ts (omega arith) all.2)
all_on_way m (suc n) own items more [] (t ∷ ts) le all = absurd all
all_on_way m (suc n) own items more (i ∷ is) [] le all = absurd all

-- what they counted
pub tried_all : {A C : Type 0} (m : Machine C A) (own : Interface) (items : SaidRows) (is : List Interface) (ts : List (Trial A C)) → AreTrials m own items is ts → map tried_by ts ≡ map (λ (h : Interface). tried_with h (items h)) is
tried_all m own items [] [] all = refl
tried_all m own items (i ∷ is) (t ∷ ts) all =
    let here : tried_by t ≡ tried_with i (items i) = λ j. record { header = all.0.interface j; tally = all.0.tally j; reactions = reactions_in (all.0.watch j) } in
    (λ j. here j ∷ tried_all m own items is ts all.2 j)
tried_all m own items [] (t ∷ ts) all = absurd all
tried_all m own items (i ∷ is) [] all = absurd all

-- what rows say, and one more, under each header
pub rows_said : (rs : List Row) (r : Row) (row : ReadRow) → row ≡ read_row r → with_row (λ i. items_of i rs) row ≡ (λ i. items_of i (rs ++ r ∷ []))
rows_said rs r row is = λ k i. row_said i rs r row is k

-- ---- rows of a text, under headers with its channels

like_gap : (own i : Interface) (r : Row) (gap : Option (Option ℕ)) → IsLike own i → IfSome gap (IsGapRow own r) → IfSome gap (IsGapRow i r)
like_gap own i r None like h = tt
like_gap own i r (Some c) like h = record { recorded = like.gaps ∙ h.recorded; within = subst (λ n. IfSome c (λ k. (1 ≤ k) × (k ≤ n))) (sym like.svc) h.within; side = h.side; octets = h.octets }

like_rows : (own i : Interface) (rs : List Row) → IsLike own i → AreRows own rs → AreRows i rs
like_rows own i [] like h = tt
like_rows own i (r ∷ rs) like h = (like_gap own i r r.gap like h.0, like_rows own i rs like h.1)

early_under : (own : Interface) (text : List ℕ) → early text ≡ None → early_head text ≡ Some own → IsTrace own (early_rows text)
early_under own text sound head = λ i like. items_sound i (early_rows text) (like_rows own i (early_rows text) like (first_rows_law text own head)) (early_rises text sound) (early_numbers text sound) (early_octets text sound)

-- the rows of the lines that were read
pub read_under : (lines : Progress) (text : List ℕ) → Represents lines text → IsTraceUnder lines.interface (early_rows text)
read_under lines text s = at lines.interface (sym (head_represents lines text s))
  where
    at : (o : Option Interface) → early_head text ≡ o → IsTraceUnder o (early_rows text)
    at None h = tt
    at (Some i) h = early_under i text s.sound h

-- all rows
pub whole_under : (own : Interface) (text : List ℕ) → fault text ≡ None → head text ≡ Some own → IsTrace own (rows text)
whole_under own text sound header = λ i like. items_sound i (rows text) (like_rows own i (rows text) like (rows_law text own header)) (text_rises text sound) (text_numbers text sound) (text_octets text sound)

-- a trace has few rows
pub few_rows_next : (i : Interface) (rs : List Row) (r : Row) → IsTrace i (rs ++ r ∷ []) → length rs + 1 ≤ 999999999
few_rows_next i rs r sound =
    let few = few_rows i (items_of i (rs ++ r ∷ [])) (sound i (record { svc = refl; gaps = refl })) in
    omega (arith, few, said_count i (rs ++ r ∷ []), length-append rs (r ∷ []))

-- the front of a row is read
pub front_kept : (format : ℕ) (xs : List ℕ) → (bits 6 5 (octet 1 (read_octets xs)) == format) ≡ (bits 6 5 (octet 1 xs) == format)
front_kept format xs = ap (λ n. bits 6 5 n == format) (at (is_unqualified xs) xs)
  where
    at : (b : Bool) (ys : List ℕ) → octet 1 (cond b (take 4 ys) ys) ≡ octet 1 ys
    at true [] = refl
    at true (y ∷ ys) = refl
    at false ys = refl

-- ---- the headers, one after the other

one_kept : {X Y : Type 0} (f : X → Option Y) (x : X) → filter_map f (x ∷ []) ≡ option_to_list (f x)
one_kept {X} {Y} f x = at (f x)
  where
    at : (o : Option Y) → cons_option o [] ≡ option_to_list o
    at None = refl
    at (Some y) = refl

pub kept_more : {X Y : Type 0} (f : X → Option Y) (xs : List X) (i : ℕ) (d : X) → i < length xs → filter_map f (take (i + 1) xs) ≡ filter_map f (take i xs) ++ option_to_list (f (get_or xs i d))
kept_more f xs i d lt = ap (filter_map f) (take_more xs i d lt) ∙ filter_map-append f (take i xs) (get_or xs i d ∷ []) ∙ ap (λ l. filter_map f (take i xs) ++ l) (one_kept f (get_or xs i d))

pub mapped_more : {X Y : Type 0} (f : X → List Y) (xs : List X) (i : ℕ) (d : X) → i < length xs → flat_map f (take (i + 1) xs) ≡ flat_map f (take i xs) ++ f (get_or xs i d)
mapped_more f xs i d lt = ap (flat_map f) (take_more xs i d lt) ∙ flat_map-append f (take i xs) (get_or xs i d ∷ []) ∙ ap (λ l. flat_map f (take i xs) ++ l) (append-nil (f (get_or xs i d)))

pub headers_more : {A C : Type 0} (m : Machine C A) (own : Interface) (headers first later all : List Interface) (ts : List (Trial A C)) → all ≡ first ++ later → AreTrials m own (λ _. []) ((headers ++ first) ++ later) ts → AreTrials m own (λ _. []) (headers ++ all) ts
headers_more m own headers first later all ts is h = subst (λ hs. AreTrials m own (λ _. []) hs ts) (append_assoc headers first later ∙ ap (λ l. headers ++ l) (sym is)) h

-- a list that was written in place has its length
none_left : {X : Type 0} (xs : List X) (n : ℕ) → length xs ≤ n → drop n xs ≡ []
none_left [] zero le = refl
none_left [] (suc n) le = refl
none_left (x ∷ xs) zero le = absurd (omega arith)
none_left (x ∷ xs) (suc n) le = none_left xs n (omega arith)

all_left : {X : Type 0} (xs : List X) (n : ℕ) → length xs ≤ n → take n xs ≡ xs
all_left [] zero le = refl
all_left [] (suc n) le = refl
all_left (x ∷ xs) zero le = absurd (omega arith)
all_left (x ∷ xs) (suc n) le = ap (λ l. x ∷ l) (all_left xs n (omega arith))

pub written : {X : Type 0} (xs old : List X) (n : ℕ) → n ≡ length old → length xs ≡ length old → take n (xs ++ drop (length xs) old) ≡ xs
written xs old n len same =
    ap (λ l. take n (xs ++ l)) (none_left old (length xs) (omega (arith, same))) ∙ ap (λ l. take n l) (append-nil xs) ∙ all_left xs n (omega (arith, len, same))

-- ---- the format identifiers of some rows

one_counted : {X : Type 0} (p : X → Bool) (x : X) → length (filter p (x ∷ [])) ≡ cond (p x) 1 0
one_counted p x = at (p x)
  where
    at : (b : Bool) → length (cond b (x ∷ []) []) ≡ cond b 1 0
    at true = refl
    at false = refl

pub format_more : (format : ℕ) (rs : List Row) (r : Row) → rows_with_format format (rs ++ r ∷ []) ≡ rows_with_format format rs + cond (bits 6 5 (octet 1 r.octets) == format) 1 0
format_more format rs r =
    let p : Row → Bool = λ x. bits 6 5 (octet 1 x.octets) == format in
    ap (λ (l : List Row). length l) (filter_append p rs (r ∷ [])) ∙ length-append (filter p rs) (filter p (r ∷ [])) ∙ ap (λ n. rows_with_format format rs + n) (one_counted p r)

format_first : (format : ℕ) (r : Row) (rs : List Row) → rows_with_format format (r ∷ rs) ≤ 1 + rows_with_format format rs
format_first format r rs = at (bits 6 5 (octet 1 r.octets) == format)
  where
    at : (b : Bool) → length (cond b (r ∷ filter (λ (x : Row). bits 6 5 (octet 1 x.octets) == format) rs) (filter (λ (x : Row). bits 6 5 (octet 1 x.octets) == format) rs)) ≤ 1 + rows_with_format format rs
    at true = omega arith
    at false = omega arith

pub few_formats : (format : ℕ) (rs : List Row) → rows_with_format format rs ≤ length rs
few_formats format [] = omega arith
few_formats format (r ∷ rs) =
    let more = few_formats format rs in
    let first = format_first format r rs in
    omega (arith, more, first)
