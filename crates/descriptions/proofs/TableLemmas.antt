-- The lines of the table of calls.
use Rattle.std.proofs.Common.{◌≡◌, ◌≢◌, sym, ap, refl, subst, ℕ, zero, suc, ◌+◌, ◌<◌, ◌≤◌, get_or, List, [], ◌∷◌, ◌++◌, take, drop, length, append_assoc, append-nil, arith, ne_eqb}
use Rattle.std.specs.Prelude.{if◌then◌else◌}
use Rattle.std.specs.List.{enumerate_from}
use Rattle.std.proofs.lemmas.List.{drop_all}
use Rattle.line_model.specs.basics.Records.{CallRecord}
use Rattle.descriptions.specs.CallTable.{AreEntries, Hosting, IsEntry, trimmed, with_digit}
use Rattle.descriptions.specs.declared.call_columns.TableForm.{TableForm}

-- ---- zeros at the end

-- the first of some digits
first_kept : (d : ℕ) → d ≢ 48 → with_digit d [] ≡ d ∷ []
first_kept d other = ap (λ b. if b then [] else d ∷ []) (ne_eqb d 48 other)

pub trimmed_last : (ds : List ℕ) (n : ℕ) → length ds ≡ suc n → get_or ds n 0 ≢ 48 → trimmed ds ≡ ds
trimmed_last [] n size other = absurd (omega arith)
trimmed_last (d ∷ []) zero size other = first_kept d other
trimmed_last (d ∷ []) (suc n) size other = absurd (omega arith)
trimmed_last (d ∷ e ∷ ds) zero size other = absurd (omega arith)
trimmed_last (d ∷ e ∷ ds) (suc n) size other = ap (λ l. with_digit d l) (trimmed_last (e ∷ ds) n (omega arith) other)

pub trimmed_front : (ds : List ℕ) (n : ℕ) → length ds ≡ suc n → get_or ds n 0 ≡ 48 → trimmed (take n ds) ≡ trimmed ds
trimmed_front [] n size last = absurd (omega arith)
trimmed_front (d ∷ []) zero size last = sym (ap (λ n. with_digit n []) last)
trimmed_front (d ∷ []) (suc n) size last = absurd (omega arith)
trimmed_front (d ∷ e ∷ ds) zero size last = absurd (omega arith)
trimmed_front (d ∷ e ∷ ds) (suc n) size last = ap (λ l. with_digit d l) (trimmed_front (e ∷ ds) n (omega arith) last)

-- ---- the entries of calls

dropped : {X : Type 0} → (xs : List X) (i : ℕ) (x : X) → i < length xs → x ≡ get_or xs i x → drop i xs ≡ x ∷ drop (i + 1) xs
dropped [] i x lt is = absurd (omega arith)
dropped (y ∷ ys) zero x lt is = ap (λ z. z ∷ ys) (sym is)
dropped (y ∷ ys) (suc i) x lt is =
    let e : suc i + 1 ≡ suc (i + 1) = omega arith in
    subst (λ k. drop i ys ≡ x ∷ drop k (y ∷ ys)) (sym e) (dropped ys i x (omega arith) is)

pub entry_more : (form : TableForm) (F S : ℕ → ℕ) (H : Hosting) (xs : List CallRecord) (i : ℕ) (x : CallRecord) (done own : List ℕ) → i < length xs → x ≡ get_or xs i x
    → ((entries : List ℕ) → AreEntries form F S H (enumerate_from (i + 1) (drop i xs)) entries → AreEntries form F S H (enumerate_from 1 xs) (done ++ entries)) → IsEntry form F S H (i + 1, x) own
    → (entries : List ℕ) → AreEntries form F S H (enumerate_from (i + 1 + 1) (drop (i + 1) xs)) entries → AreEntries form F S H (enumerate_from 1 xs) ((done ++ own) ++ entries)
entry_more form F S H xs i x done own lt is before h entries rest =
    subst (λ l. AreEntries form F S H (enumerate_from 1 xs) l) (sym (append_assoc done own entries))
    (before (own ++ entries) (subst (λ ys. AreEntries form F S H (enumerate_from (i + 1) ys) (own ++ entries)) (sym (dropped xs i x lt is)) (own, entries, refl, h, rest)))

pub entries_end : (form : TableForm) (F S : ℕ → ℕ) (H : Hosting) (xs : List CallRecord) (i : ℕ) (done : List ℕ) → length xs ≤ i
    → ((entries : List ℕ) → AreEntries form F S H (enumerate_from (i + 1) (drop i xs)) entries → AreEntries form F S H (enumerate_from 1 xs) (done ++ entries)) → AreEntries form F S H (enumerate_from 1 xs) done
entries_end form F S H xs i done ge before =
    subst (λ l. AreEntries form F S H (enumerate_from 1 xs) l) (append-nil done)
    (before [] (subst (λ ys. AreEntries form F S H (enumerate_from (i + 1) ys) []) (sym (drop_all i xs ge)) refl))
