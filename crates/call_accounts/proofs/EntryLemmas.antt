-- Entries made of calls one after the other, and added up one after the other.
use Rattle.std.proofs.Common.{◌≡◌, ◌∙◌, ℕ, ◌+◌, ◌<◌, true, false, List, [], ◌∷◌, ◌++◌, length, get_or, map, take, drop, sym, ap, append_assoc}
use Rattle.std.specs.List.{AllByRecursion}
use Rattle.std.proofs.lemmas.Bool.{eq-eqb, ne_eqb}
use Rattle.std.proofs.lemmas.List.{at_drop_more, map-append, take_more}
use Rattle.line_model.specs.basics.Records.{CallRecord}
use Rattle.line_model.specs.declared.call.Account.{Account}
use Rattle.call_accounts.specs.declared.account.AccountEntry.{AccountEntry}
use Rattle.call_accounts.specs.Entries.{account_of_call, account_of_entry, sum_of, summed_from}

pub all_more : (P : AccountEntry → Type 0) (es : List AccountEntry) (e : AccountEntry) → AllByRecursion P es → P e → AllByRecursion P (es ++ e ∷ [])
all_more P [] e h p = (p, tt)
all_more P (d ∷ es) e h p = (h.0, all_more P es e h.1 p)

pub entries_more : (es grown : List AccountEntry) (e : AccountEntry) (calls : List CallRecord) (i : ℕ) (call : CallRecord) → i < length calls → call ≡ get_or calls i call → grown ≡ es ++ e ∷ [] →
    account_of_entry e ≡ account_of_call call → map account_of_entry es ≡ map account_of_call (take i calls) → map account_of_entry grown ≡ map account_of_call (take (i + 1) calls)
entries_more es grown e calls i call lt is g same h =
    ap (map account_of_entry) g ∙ map-append account_of_entry es (e ∷ []) ∙ ap (λ l. l ++ account_of_entry e ∷ []) h
    ∙ ap (λ a. map account_of_call (take i calls) ++ a ∷ []) (same ∙ ap account_of_call is)
    ∙ sym (map-append account_of_call (take i calls) (get_or calls i call ∷ [])) ∙ ap (map account_of_call) (sym (take_more calls i call lt))

-- the entry that is next
pub next_entry : (rest : List AccountEntry) (i : ℕ) (e : AccountEntry) → i < length rest → e ≡ get_or rest i e → drop i rest ≡ e ∷ drop (i + 1) rest
next_entry rest i e lt is = at_drop_more (λ (l : List AccountEntry). l) rest i e lt ∙ ap (λ x. x ∷ drop (i + 1) rest) (sym is)

-- it is added to the last account, or begins another
pub same_rank : (accounts : List Account) (last : Account) (rank : ℕ) (e : AccountEntry) (es : List AccountEntry) (all : List Account) → e.rank ≡ rank →
    accounts ++ summed_from last rank (e ∷ es) ≡ all → accounts ++ summed_from (sum_of last (account_of_entry e)) rank es ≡ all
same_rank accounts last rank e es all h k =
    sym (ap (λ b. accounts ++ elim b [ true ↦ summed_from (sum_of last (account_of_entry e)) rank es | false ↦ last ∷ summed_from (account_of_entry e) e.rank es ]) (eq-eqb rank e.rank (sym h))) ∙ k

pub other_rank : (accounts grown : List Account) (last : Account) (rank : ℕ) (e : AccountEntry) (es : List AccountEntry) (all : List Account) → (e.rank ≡ rank → ⊥) → grown ≡ accounts ++ last ∷ [] →
    accounts ++ summed_from last rank (e ∷ es) ≡ all → grown ++ summed_from (account_of_entry e) e.rank es ≡ all
other_rank accounts grown last rank e es all n g k =
    ap (λ l. l ++ summed_from (account_of_entry e) e.rank es) g ∙ append_assoc accounts (last ∷ []) (summed_from (account_of_entry e) e.rank es)
    ∙ sym (ap (λ b. accounts ++ elim b [ true ↦ summed_from (sum_of last (account_of_entry e)) rank es | false ↦ last ∷ summed_from (account_of_entry e) e.rank es ]) (ne_eqb rank e.rank (λ h. n (sym h)))) ∙ k
