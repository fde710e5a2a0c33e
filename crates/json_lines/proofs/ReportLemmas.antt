-- The lines of a report have room for their words, and begin with known letters.
use Rattle.std.proofs.Common.{◌≡◌, ◌∙◌, sym, ap, refl, ℕ, ◌+◌, ◌<◌, ◌≤◌, Bool, true, false, List, [], ◌∷◌, ◌++◌, length, map, ◌||◌, Option, Some, None, arith, append_assoc, append-nil, length-append}
use Rattle.std.specs.Prelude.{◌==◌, IfSome, codes, decimal}
use Rattle.std.specs.List.{AllByRecursion, enumerate_from, flat_map, list_any}
use Rattle.std.specs.Str.Parse.{AllDigits}
use Rattle.std.proofs.lemmas.Fmt.{digits_decimal, length-decimal-le}
use Rattle.std.proofs.lemmas.Grind.{flat_map-append}
use Rattle.std.proofs.lemmas.Str.Parse.{numerals_by_value, tells_digits}
use Rattle.line_model.specs.basics.Records.{CallRecord, Report}
use Rattle.line_model.specs.declared.call.Account.{Account}
use Rattle.line_model.specs.declared.event.Entry.{Entry}
use Rattle.line_model.specs.declared.event.Entry.TheVariants.{Unknown, Asked, Said, Refused}
use Rattle.line_model.specs.declared.event.How.{How}
use Rattle.line_model.specs.declared.event.How.TheVariants as how
use Rattle.line_model.specs.declared.finding.Code.{Code}
use Rattle.line_model.specs.declared.finding.Code.TheVariants.{Number, Pad}
use Rattle.line_model.specs.declared.finding.Finding.{Finding}
use Rattle.line_model.specs.declared.finding.Xcode.TheVariants.{X1, X2, X3, X4, XL}
use Rattle.line_model.specs.declared.report.Peak.{Peak}
use Rattle.line_model.specs.declared.state.Side.{Side}
use Rattle.line_model.specs.declared.state.Side.TheVariants.{T, N}
use Rattle.line_model.specs.declared.state.StateName.{StateName}
use Rattle.line_model.specs.declared.state.StateName.TheVariants.{Dash, R1, R2, R3, P1, P2, P3, P4, P5, P6, P7, D1, D2, D3}
use Rattle.line_model.specs.declared.totals.Summary.{Summary}
use Rattle.line_model.specs.observer.Report.{account_line, address_word, call_line, code_word, direction_word, entry_words, finding_line, gap_lines, how_word, line, number_word, peak_line, setting_lines, side_word, state_word, summary_line, text_of}
use Rattle.trace_text.specs.Cuts.{Lacks}
use Rattle.json_lines.specs.Cuts.{IsLine, IsPlain}
use Rattle.json_lines.specs.Json.{json_text, object_of}
use Rattle.json_lines.proofs.ObjectLemmas.{lines_objects}
use Rattle.json_lines.specs.Reports.{IsAccount, IsAddress, IsCall, IsCode, IsDigit, IsEntry, IsFinding, IsHeld, IsKnown, IsNumber, IsPeak, IsSetting, IsSmall, IsSummary, account_words, all_setting_words, call_words, finding_words, gap_words, peak_words, report_words, setting_words, summary_words}

-- ---- the text by its words

lines_of : {A : Type 0} → (words : A → List (List ℕ)) (xs : List A) → flat_map (λ x. line (words x)) xs ≡ flat_map line (map words xs)
lines_of words [] = refl
lines_of words (x ∷ xs) = ap (λ l. line (words x) ++ l) (lines_of words xs)

settings_of : (ps : List (ℕ × CallRecord)) → flat_map setting_lines ps ≡ flat_map line (flat_map all_setting_words ps)
settings_of [] = refl
settings_of (p ∷ ps) =
    ap (λ l. l ++ flat_map setting_lines ps) (lines_of (setting_words p.0) p.1.settings) ∙ ap (λ l. flat_map line (all_setting_words p) ++ l) (settings_of ps)
    ∙ sym (flat_map-append line (all_setting_words p) (flat_map all_setting_words ps))

-- the lines up to each part of a report
findings_and_calls : (r : Report) → flat_map line (map finding_words r.findings ++ map call_words (enumerate_from 1 r.calls)) ≡ flat_map finding_line r.findings ++ flat_map call_line (enumerate_from 1 r.calls)
findings_and_calls r =
    flat_map-append line (map finding_words r.findings) (map call_words (enumerate_from 1 r.calls))
    ∙ λ t. sym (lines_of finding_words r.findings) t ++ sym (lines_of call_words (enumerate_from 1 r.calls)) t

and_settings : (r : Report) → flat_map line (map finding_words r.findings ++ map call_words (enumerate_from 1 r.calls) ++ flat_map all_setting_words (enumerate_from 1 r.calls)) ≡ flat_map finding_line r.findings ++ flat_map call_line (enumerate_from 1 r.calls) ++ flat_map setting_lines (enumerate_from 1 r.calls)
and_settings r =
    flat_map-append line (map finding_words r.findings ++ map call_words (enumerate_from 1 r.calls)) (flat_map all_setting_words (enumerate_from 1 r.calls))
    ∙ λ t. findings_and_calls r t ++ sym (settings_of (enumerate_from 1 r.calls)) t

and_accounts : (r : Report) → flat_map line (map finding_words r.findings ++ map call_words (enumerate_from 1 r.calls) ++ flat_map all_setting_words (enumerate_from 1 r.calls) ++ map account_words r.accounts) ≡ flat_map finding_line r.findings ++ flat_map call_line (enumerate_from 1 r.calls) ++ flat_map setting_lines (enumerate_from 1 r.calls) ++ flat_map account_line r.accounts
and_accounts r =
    flat_map-append line (map finding_words r.findings ++ map call_words (enumerate_from 1 r.calls) ++ flat_map all_setting_words (enumerate_from 1 r.calls)) (map account_words r.accounts)
    ∙ λ t. and_settings r t ++ sym (lines_of account_words r.accounts) t

-- the lines of the gaps and the sums
and_sums : (gaps : Option ℕ) (s : Summary) → gap_lines gaps ++ summary_line s ≡ flat_map line (gap_words gaps ++ summary_words s ∷ [])
and_sums None s = sym (append-nil (summary_line s))
and_sums (Some n) s = ap (λ l. line (codes "G" ∷ decimal n ∷ []) ++ l) (sym (append-nil (summary_line s)))

pub text_words : (r : Report) → text_of r ≡ flat_map line (report_words r)
text_words r =
    let before : List ℕ = flat_map finding_line r.findings ++ flat_map call_line (enumerate_from 1 r.calls) ++ flat_map setting_lines (enumerate_from 1 r.calls) ++ flat_map account_line r.accounts in
    let words : List (List (List ℕ)) = map finding_words r.findings ++ map call_words (enumerate_from 1 r.calls) ++ flat_map all_setting_words (enumerate_from 1 r.calls) ++ map account_words r.accounts in
    append_assoc (before ++ peak_line r.peak) (gap_lines r.gaps) (summary_line r.summary)
    ∙ append_assoc before (peak_line r.peak) (gap_lines r.gaps ++ summary_line r.summary)
    ∙ (λ t. sym (and_accounts r) t ++ (peak_line r.peak ++ and_sums r.gaps r.summary t))
    ∙ sym (flat_map-append line words (peak_words r.peak ∷ (gap_words r.gaps ++ summary_words r.summary ∷ [])))

-- ---- words

-- a plain word, and how long it is at most
record IsWord (n : ℕ) (word : List ℕ) : Type 0 where
  pub plain : IsPlain word
  pub few : length word ≤ n

digits_lack : (byte : ℕ) (ds : List ℕ) → byte < 48 → AllByRecursion IsDigit ds → Lacks byte ds
digits_lack byte [] low h = refl
digits_lack byte (d ∷ ds) low h = ap (λ v. v || list_any (λ b. b == byte) ds) (other d h.0.0) ∙ digits_lack byte ds low h.1
  where
    other : (d : ℕ) → 48 ≤ d → (d == byte) ≡ false
    other d high = grind (arith, high, low)

are_digits : (ds : List ℕ) → AllDigits 10 ds → AllByRecursion IsDigit ds
are_digits [] h = tt
are_digits (d ∷ ds) h =
    let parts = tells_digits.parts d ds h in
    ((parts.0.0, omega (arith, parts.0.1)), are_digits ds parts.1)

digits_plain : (ds : List ℕ) → AllByRecursion IsDigit ds → IsPlain ds
digits_plain ds h = (digits_lack 32 ds (omega arith) h, digits_lack 10 ds (omega arith) h)

number : (n : ℕ) → IsNumber n → IsWord 20 (decimal n)
number n h = record {
  plain = digits_plain (decimal n) (are_digits (decimal n) (digits_decimal (numerals_by_value (AllDigits 10) tells_digits) n h));
  few = length-decimal-le 20 n (omega arith) (omega (arith, h)) h;
}

small : (n : ℕ) → IsSmall n → IsWord 10 (decimal n)
small n h = record {
  plain = (number n (omega (arith, h))).plain;
  few = length-decimal-le 10 n (omega arith) (omega (arith, h)) (omega (arith, h));
}

maybe : (o : Option ℕ) → IfSome o IsSmall → IsWord 10 (number_word o)
maybe None h = record { plain = (refl, refl); few = omega arith }
maybe (Some n) h = small n h

address : (a : List ℕ) → IsAddress a → IsWord 15 (address_word a)
address [] h = record { plain = (refl, refl); few = omega arith }
address (d ∷ ds) h = record { plain = digits_plain (d ∷ ds) h.0; few = h.1 }

side : (s : Side) → IsWord 1 (side_word s)
side T = record { plain = (refl, refl); few = omega arith }
side N = record { plain = (refl, refl); few = omega arith }

state : (s : StateName) → IsWord 2 (state_word s)
state Dash = record { plain = (refl, refl); few = omega arith }
state R1 = record { plain = (refl, refl); few = omega arith }
state R2 = record { plain = (refl, refl); few = omega arith }
state R3 = record { plain = (refl, refl); few = omega arith }
state P1 = record { plain = (refl, refl); few = omega arith }
state P2 = record { plain = (refl, refl); few = omega arith }
state P3 = record { plain = (refl, refl); few = omega arith }
state P4 = record { plain = (refl, refl); few = omega arith }
state P5 = record { plain = (refl, refl); few = omega arith }
state P6 = record { plain = (refl, refl); few = omega arith }
state P7 = record { plain = (refl, refl); few = omega arith }
state D1 = record { plain = (refl, refl); few = omega arith }
state D2 = record { plain = (refl, refl); few = omega arith }
state D3 = record { plain = (refl, refl); few = omega arith }

code : (c : Code) → IsCode c → IsWord 20 (code_word c)
code (Number n) h = number n h
code (Pad X1) h = record { plain = (refl, refl); few = omega arith }
code (Pad X2) h = record { plain = (refl, refl); few = omega arith }
code (Pad X3) h = record { plain = (refl, refl); few = omega arith }
code (Pad X4) h = record { plain = (refl, refl); few = omega arith }
code (Pad XL) h = record { plain = (refl, refl); few = omega arith }

direction : (out : Bool) → IsWord 3 (direction_word out)
direction true = record { plain = (refl, refl); few = omega arith }
direction false = record { plain = (refl, refl); few = omega arith }

ending : (h : Option How) → IsWord 9 (how_word h)
ending None = record { plain = (refl, refl); few = omega arith }
ending (Some how.T) = record { plain = (refl, refl); few = omega arith }
ending (Some how.N) = record { plain = (refl, refl); few = omega arith }
ending (Some how.Collision) = record { plain = (refl, refl); few = omega arith }
ending (Some how.Restart) = record { plain = (refl, refl); few = omega arith }
ending (Some how.Gap) = record { plain = (refl, refl); few = omega arith }

-- ---- lines

-- plain words, and how long their line is at most
record IsLineWithin (n : ℕ) (words : List (List ℕ)) : Type 0 where
  pub plain : AllByRecursion IsPlain words
  pub few : length (line words) ≤ n

last : (n : ℕ) (word : List ℕ) → IsWord n word → IsLineWithin (n + 1) (word ∷ [])
last n word h = record { plain = (h.plain, tt); few = omega (arith, h.few, length-append word (10 ∷ [])) }

then : (n m : ℕ) (word next : List ℕ) (words : List (List ℕ)) → IsWord n word → IsLineWithin m (next ∷ words) → IsLineWithin (n + 1 + m) (word ∷ next ∷ words)
then n m word next words h k = record {
  plain = (h.plain, k.plain);
  few = omega (arith, h.few, k.few, length-append word (32 ∷ line (next ∷ words)));
}

-- the letter of a line comes first
lettered : (m : ℕ) (letter next : List ℕ) (words : List (List ℕ)) → IsPlain letter → length letter ≤ 1 → m ≤ 254 → IsLineWithin m (next ∷ words) → IsLine (letter ∷ next ∷ words)
lettered m letter next words plain one room h = ((plain, h.plain), omega (arith, one, room, h.few, length-append letter (32 ∷ line (next ∷ words))))

finding : (f : Finding) → IsFinding f → IsLine (finding_words f)
finding f h =
    lettered 47 (codes "F") _ _ (refl, refl) (omega arith) (omega arith)
    (then 20 _ _ _ _ (number f.packet h.packet) (then 1 _ _ _ _ (side f.side) (then 2 _ _ _ _ (state f.state) (last 20 _ (code f.code h.code)))))

call : (p : ℕ × CallRecord) → IsCall p → IsLine (call_words p)
call p h =
    lettered 227 (codes "C") _ _ (refl, refl) (omega arith) (omega arith)
    (then 20 _ _ _ _ (number p.0 h.place) (then 10 _ _ _ _ (small p.1.epoch h.epoch) (then 10 _ _ _ _ (small p.1.channel h.channel) (then 3 _ _ _ _ (direction p.1.out)
    (then 15 _ _ _ _ (address p.1.called h.called) (then 15 _ _ _ _ (address p.1.calling h.calling)
    (then 10 _ _ _ _ (small p.1.opened h.opened) (then 10 _ _ _ _ (maybe p.1.up h.up) (then 10 _ _ _ _ (maybe p.1.ended h.ended) (then 9 _ _ _ _ (ending p.1.how)
    (then 20 _ _ _ _ (number p.1.data_t h.data_t) (then 20 _ _ _ _ (number p.1.oct_t h.oct_t) (then 20 _ _ _ _ (number p.1.data_n h.data_n) (then 20 _ _ _ _ (number p.1.oct_n h.oct_n) (last 20 _ (number p.1.segments h.segments))))))))))))))))

entry_word : (word : List ℕ) (n place parameter : ℕ) (s : Side) → IsNumber place → IsNumber parameter → IsNumber n → IsWord 7 word → IsLine (codes "S" ∷ decimal place ∷ side_word s ∷ decimal parameter ∷ word ∷ decimal n ∷ [])
entry_word word n place parameter s hp hq hn w =
    lettered 73 (codes "S") _ _ (refl, refl) (omega arith) (omega arith)
    (then 20 _ _ _ _ (number place hp) (then 1 _ _ _ _ (side s) (then 20 _ _ _ _ (number parameter hq) (then 7 _ _ _ _ w (last 20 _ (number n hn))))))

setting_by : (place parameter : ℕ) (s : Side) (e : Entry) → IsNumber place → IsNumber parameter → IsEntry e → IsLine ((codes "S" ∷ decimal place ∷ side_word s ∷ decimal parameter ∷ []) ++ entry_words e)
setting_by place parameter s Unknown hp hq h =
    lettered 44 (codes "S") _ _ (refl, refl) (omega arith) (omega arith) (then 20 _ _ _ _ (number place hp) (then 1 _ _ _ _ (side s) (last 20 _ (number parameter hq))))
setting_by place parameter s (Asked v) hp hq h = entry_word (codes "asked") v place parameter s hp hq h (record { plain = (refl, refl); few = omega arith })
setting_by place parameter s (Said v) hp hq h = entry_word (codes "said") v place parameter s hp hq h (record { plain = (refl, refl); few = omega arith })
setting_by place parameter s (Refused v) hp hq h = entry_word (codes "refused") v place parameter s hp hq h (record { plain = (refl, refl); few = omega arith })

account : (a : Account) → IsAccount a → IsLine (account_words a)
account a h =
    lettered 58 (codes "A") _ _ (refl, refl) (omega arith) (omega arith)
    (then 15 _ _ _ _ (address a.address h.address) (then 20 _ _ _ _ (number a.calls h.calls) (last 20 _ (number a.segments h.segments))))

peak : (p : Peak) → IsPeak p → IsLine (peak_words p)
peak p h = lettered 32 (codes "P") _ _ (refl, refl) (omega arith) (omega arith) (then 20 _ _ _ _ (number p.count h.count) (last 10 _ (maybe p.packet h.packet)))

gaps : (n : Option ℕ) → IfSome n IsNumber → AllByRecursion IsLine (gap_words n)
gaps None h = tt
gaps (Some n) h = (lettered 21 (codes "G") _ _ (refl, refl) (omega arith) (omega arith) (last 20 _ (number n h)), tt)

summary : (s : Summary) → IsSummary s → IsLine (summary_words s)
summary s h =
    lettered 105 (codes "Z") _ _ (refl, refl) (omega arith) (omega arith)
    (then 20 _ _ _ _ (number s.packets h.packets) (then 20 _ _ _ _ (number s.findings h.findings) (then 20 _ _ _ _ (number s.calls h.calls) (then 20 _ _ _ _ (number s.octets h.octets) (last 20 _ (number s.segments h.segments))))))

-- ---- all lines

each : {A B : Type 0} → (P : A → Type 0) (Q : B → Type 0) (f : A → B) → ((x : A) → P x → Q (f x)) → (xs : List A) → AllByRecursion P xs → AllByRecursion Q (map f xs)
each P Q f to [] h = tt
each P Q f to (x ∷ xs) h = (to x h.0, each P Q f to xs h.1)

any : {A B : Type 0} → (Q : B → Type 0) (f : A → B) → ((x : A) → Q (f x)) → (xs : List A) → AllByRecursion Q (map f xs)
any Q f to [] = tt
any Q f to (x ∷ xs) = (to x, any Q f to xs)

both : {A : Type 0} → (P : A → Type 0) (xs ys : List A) → AllByRecursion P xs → AllByRecursion P ys → AllByRecursion P (xs ++ ys)
both P [] ys h k = k
both P (x ∷ xs) ys h k = (h.0, both P xs ys h.1 k)

settings : (ps : List (ℕ × CallRecord)) → AllByRecursion IsCall ps → AllByRecursion IsLine (flat_map all_setting_words ps)
settings [] h = tt
settings (p ∷ ps) h =
    both IsLine (all_setting_words p) (flat_map all_setting_words ps)
    (each IsSetting IsLine (setting_words p.0) (λ s k. setting_by p.0 s.parameter s.pad s.entry h.0.place k.parameter k.entry) p.1.settings h.0.settings) (settings ps h.1)

pub are_lines : (r : Report) → IsHeld r → AllByRecursion IsLine (report_words r)
are_lines r h =
    both IsLine _ (peak_words r.peak ∷ (gap_words r.gaps ++ summary_words r.summary ∷ []))
    (both IsLine _ (map account_words r.accounts)
    (both IsLine _ (flat_map all_setting_words (enumerate_from 1 r.calls))
    (both IsLine (map finding_words r.findings) (map call_words (enumerate_from 1 r.calls)) (each IsFinding IsLine finding_words finding r.findings h.findings) (each IsCall IsLine call_words call (enumerate_from 1 r.calls) h.calls))
    (settings (enumerate_from 1 r.calls) h.calls))
    (each IsAccount IsLine account_words account r.accounts h.accounts))
    (peak r.peak h.peak, both IsLine (gap_words r.gaps) (summary_words r.summary ∷ []) (gaps r.gaps h.gaps) (summary r.summary h.summary, tt))

-- the report has the objects of its words
pub report_objects : (r : Report) → IsHeld r → json_text (text_of r) ≡ flat_map object_of (report_words r)
report_objects r h = ap json_text (text_words r) ∙ lines_objects (report_words r) (are_lines r h)

known_gaps : (n : Option ℕ) → AllByRecursion IsKnown (gap_words n)
known_gaps None = tt
known_gaps (Some n) = ((λ none. cc), tt)

known_settings : (ps : List (ℕ × CallRecord)) → AllByRecursion IsKnown (flat_map all_setting_words ps)
known_settings [] = tt
known_settings (p ∷ ps) = both IsKnown (all_setting_words p) (flat_map all_setting_words ps) (any IsKnown (setting_words p.0) (λ s none. cc) p.1.settings) (known_settings ps)

pub are_known : (r : Report) → AllByRecursion IsKnown (report_words r)
are_known r =
    both IsKnown _ (peak_words r.peak ∷ (gap_words r.gaps ++ summary_words r.summary ∷ []))
    (both IsKnown _ (map account_words r.accounts)
    (both IsKnown _ (flat_map all_setting_words (enumerate_from 1 r.calls))
    (both IsKnown (map finding_words r.findings) (map call_words (enumerate_from 1 r.calls)) (any IsKnown finding_words (λ f none. cc) r.findings) (any IsKnown call_words (λ p none. cc) (enumerate_from 1 r.calls)))
    (known_settings (enumerate_from 1 r.calls)))
    (any IsKnown account_words (λ a none. cc) r.accounts))
    ((λ none. cc), both IsKnown (gap_words r.gaps) (summary_words r.summary ∷ []) (known_gaps r.gaps) ((λ none. cc), tt))
