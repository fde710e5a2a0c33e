-- What each address pays for, by accounts put into a list one after the other.
use Rattle.std.proofs.Common.{◌≡◌, ◌≢◌, ℕ, suc, ◌+◌, ◌<◌, ◌≤◌, ◌==◌, Bool, true, false, cond, List, [], ◌∷◌, ◌++◌, length, get_or, map, filter, sum_by, refl, sym, ap, ◌∙◌, subst, arith}
use Rattle.std.specs.List.{AllByRecursion}
use Rattle.std.specs.List.Sorted.{IsPermutation, IsNonDecreasingBy}
use Rattle.std.proofs.lemmas.List.Sorted.{IsPermutation-map}
use Rattle.std.specs.Cmp.{alike_right}
use Rattle.std.specs.declared.cmp.Ordering.{Ordering}
use Rattle.std.proofs.Common.{Less, Equal, Greater}
use Rattle.std.specs.Ordering.{match_ordering}
use Rattle.std.proofs.lemmas.Bool.{eqb-true, eqb-false}
use Rattle.std.proofs.lemmas.Map.Lookups.{exact_bytes}
use Rattle.std.proofs.lemmas.List.Sums.{sum_by-cons}
use Rattle.line_model.specs.basics.Records.{CallRecord}
use Rattle.line_model.specs.declared.call.Account.{Account}
use Rattle.line_model.specs.observer.Accounts.{payer, payers, account, accounts_of, with_address, is_same_address}
use Rattle.line_model.proofs.Rearranged.{Rearranged, rearranged-from_IsPermutation}
use Rattle.line_model.proofs.Rising.{all_rearranged}
use Rattle.call_accounts.proofs.AddressLemmas.{order, order_total, is_same-refl, apart_from-less, same_from-apart, less_from-greater, equal_from-same, greater_from-less, all_below, Placed, placed, Ascends, ascends, all_apart, all_from_with}
use Rattle.call_accounts.proofs.RankLemmas.{less_from-ranks, same_from-ranks}
use Rattle.call_accounts.specs.declared.account.AccountEntry.{AccountEntry}
use Rattle.call_accounts.specs.Entries.{IsRank, IsRanked, account_of_call, account_of_entry, sum_of, summed_from, summed}

-- ---- the accounts of one more call

account-other : (c : CallRecord) (cs : List CallRecord) (b : List ℕ) → payer c ≢ b → account (c ∷ cs) b ≡ account cs b
account-other c cs b h =
    let own : List CallRecord = filter (λ d. is_same_address (payer d) b) cs in
    ap (λ s. record { address = b; calls = length (cond s (c ∷ own) own); segments = sum_by (λ d. d.segments) (cond s (c ∷ own) own) }) (same_from-apart (payer c) b h)

account-own : (c : CallRecord) (cs : List CallRecord)
    → account (c ∷ cs) (payer c) ≡ record { address = payer c; calls = (account cs (payer c)).calls + 1; segments = (account cs (payer c)).segments + c.segments }
account-own c cs =
    let a : List ℕ = payer c in
    let own : List CallRecord = filter (λ d. is_same_address (payer d) a) cs in
    let f : filter (λ d. is_same_address (payer d) a) (c ∷ cs) ≡ c ∷ own = ap (λ b. cond b (c ∷ own) own) (is_same-refl a) in
    let e1 : length (c ∷ own) ≡ length own + 1 = omega arith in
    let e2 : sum_by (λ d. d.segments) (c ∷ own) ≡ sum_by (λ d. d.segments) own + c.segments = omega (arith, sum_by-cons (λ (d : CallRecord). d.segments) c own) in
    ap (λ l. record { address = a; calls = length l; segments = sum_by (λ d. d.segments) l }) f
    ∙ ap (λ n. record { address = a; calls = n; segments = sum_by (λ d. d.segments) (c ∷ own) }) e1
    ∙ ap (λ n. record { address = a; calls = length own + 1; segments = n }) e2

all_same : (a : List ℕ) (bs : List (List ℕ)) (f g : List ℕ → Account) → ((b : List ℕ) → a ≢ b → g b ≡ f b) → AllByRecursion (λ x. order a x ≡ Less) bs → map g bs ≡ map f bs
all_same a [] f g h all = refl
all_same a (b ∷ bs) f g h all =
    let e = h b (apart_from-less a b all.0) in
    let later = all_same a bs f g h all.1 in
    cc

none_paid : (a : List ℕ) (cs : List CallRecord) → AllByRecursion (λ b. a ≢ b) (payers cs) → account cs a ≡ record { address = a; calls = 0; segments = 0 }
none_paid a [] h = refl
none_paid a (c ∷ cs) h =
    let w = all_from_with (λ b. a ≢ b) (payer c) (payers cs) h in
    account-other c cs a (λ same. w.0 (sym same)) ∙ none_paid a cs w.1

-- ---- accounts put into an ordered list

abbrev put : Account → List Account → List Account
put e [] = e ∷ []
put e (k ∷ ks) = match_ordering (order e.address k.address) (e ∷ k ∷ ks) (sum_of k e ∷ ks) (k ∷ put e ks)

put-by : (o : Ordering) (e k : Account) (ks : List Account) → order e.address k.address ≡ o → put e (k ∷ ks) ≡ match_ordering o (e ∷ k ∷ ks) (sum_of k e ∷ ks) (k ∷ put e ks)
put-by o e k ks h = ap (λ o. match_ordering o (e ∷ k ∷ ks) (sum_of k e ∷ ks) (k ∷ put e ks)) h

sum_of-comm : (d e : Account) → d.address ≡ e.address → sum_of e d ≡ sum_of d e
sum_of-comm d e same =
    let calls : e.calls + d.calls ≡ d.calls + e.calls = omega arith in
    let segments : e.segments + d.segments ≡ d.segments + e.segments = omega arith in
    ap (λ a. record { address = a; calls = e.calls + d.calls; segments = e.segments + d.segments }) (sym same)
    ∙ ap (λ n. record { address = d.address; calls = n; segments = e.segments + d.segments }) calls
    ∙ ap (λ n. record { address = d.address; calls = d.calls + e.calls; segments = n }) segments

sum_of-assoc : (k e d : Account) → sum_of (sum_of k e) d ≡ sum_of k (sum_of e d)
sum_of-assoc k e d =
    let calls : k.calls + e.calls + d.calls ≡ k.calls + (e.calls + d.calls) = omega arith in
    let segments : k.segments + e.segments + d.segments ≡ k.segments + (e.segments + d.segments) = omega arith in
    ap (λ n. record { address = k.address; calls = n; segments = k.segments + e.segments + d.segments }) calls
    ∙ ap (λ n. record { address = k.address; calls = k.calls + (e.calls + d.calls); segments = n }) segments

-- two accounts of one address are put as their sum
put-sum : (d e : Account) (ks : List Account) → d.address ≡ e.address → put d (put e ks) ≡ put (sum_of e d) ks
put-sum d e [] same = put-by Equal d e [] (equal_from-same d.address e.address same)
put-sum d e (k ∷ ks) same = at (order e.address k.address) refl (put-sum d e ks same)
  where
    at : (o : Ordering) → order e.address k.address ≡ o → put d (put e ks) ≡ put (sum_of e d) ks → put d (put e (k ∷ ks)) ≡ put (sum_of e d) (k ∷ ks)
    at Less h later =
        ap (put d) (put-by Less e k ks h) ∙ put-by Equal d e (k ∷ ks) (equal_from-same d.address e.address same) ∙ sym (put-by Less (sum_of e d) k ks h)
    at Equal h later =
        ap (put d) (put-by Equal e k ks h) ∙ put-by Equal d (sum_of k e) ks (subst (λ a. order a k.address ≡ Equal) (sym same) h)
        ∙ ap (λ s. s ∷ ks) (sum_of-assoc k e d) ∙ sym (put-by Equal (sum_of e d) k ks h)
    at Greater h later =
        ap (put d) (put-by Greater e k ks h) ∙ put-by Greater d k (put e ks) (subst (λ a. order a k.address ≡ Greater) (sym same) h)
        ∙ ap (λ l. k ∷ l) later ∙ sym (put-by Greater (sum_of e d) k ks h)

-- an account comes before a list
abbrev IsFirst : Account → List Account → Type 0
IsFirst d [] = Unit {0}
IsFirst d (k ∷ ks) = order d.address k.address ≡ Less

put-first : (d : Account) (ks : List Account) → IsFirst d ks → put d ks ≡ d ∷ ks
put-first d [] h = refl
put-first d (k ∷ ks) h = put-by Less d k ks h

first-put : (d e : Account) (ks : List Account) → order d.address e.address ≡ Less → IsFirst d ks → IsFirst d (put e ks)
first-put d e [] less h = less
first-put d e (k ∷ ks) less h = at (order e.address k.address)
  where
    at : (o : Ordering) → IsFirst d (match_ordering o (e ∷ k ∷ ks) (sum_of k e ∷ ks) (k ∷ put e ks))
    at Less = less
    at Equal = h
    at Greater = h

swap-first : (d e : Account) (ks : List Account) → order d.address e.address ≡ Less → IsFirst d ks → put d (put e ks) ≡ put e (put d ks)
swap-first d e ks less h =
    put-first d (put e ks) (first-put d e ks less h)
    ∙ sym (ap (put e) (put-first d ks h) ∙ put-by Greater e d ks (greater_from-less d.address e.address less))

swap-less : (d e : Account) (ks : List Account) → order d.address e.address ≡ Less → put d (put e ks) ≡ put e (put d ks)
swap-less d e [] less = swap-first d e [] less tt
swap-less d e (k ∷ ks) less = at (order d.address k.address) refl (swap-less d e ks less)
  where
    at : (o : Ordering) → order d.address k.address ≡ o → put d (put e ks) ≡ put e (put d ks) → put d (put e (k ∷ ks)) ≡ put e (put d (k ∷ ks))
    at Less h later = swap-first d e (k ∷ ks) less h
    at Equal h later =
        let above : order e.address k.address ≡ Greater = sym (alike_right order_total d.address k.address e.address h) ∙ greater_from-less d.address e.address less in
        ap (put d) (put-by Greater e k ks above) ∙ put-by Equal d k (put e ks) h
        ∙ sym (ap (put e) (put-by Equal d k ks h) ∙ put-by Greater e (sum_of k d) ks above)
    at Greater h later =
        let above : order e.address k.address ≡ Greater =
        greater_from-less k.address e.address (order_total.trans k.address d.address e.address (less_from-greater d.address k.address h) less) in
        ap (put d) (put-by Greater e k ks above) ∙ put-by Greater d k (put e ks) h ∙ ap (λ l. k ∷ l) later
        ∙ sym (ap (put e) (put-by Greater d k ks h) ∙ put-by Greater e k (put d ks) above)

put-swap : (d e : Account) (ks : List Account) → put d (put e ks) ≡ put e (put d ks)
put-swap d e ks = at (order d.address e.address) refl
  where
    at : (o : Ordering) → order d.address e.address ≡ o → put d (put e ks) ≡ put e (put d ks)
    at Less h = swap-less d e ks h
    at Equal h =
        let same : d.address ≡ e.address = exact_bytes d.address e.address h in
        put-sum d e ks same ∙ ap (λ s. put s ks) (sum_of-comm d e same) ∙ sym (put-sum e d ks (sym same))
    at Greater h = sym (swap-less e d ks (less_from-greater d.address e.address h))

-- ---- accounts of one call each, put into a list in any order

abbrev ledger : List Account → List Account
ledger [] = []
ledger (e ∷ es) = put e (ledger es)

ledger-middle : (front back : List Account) (e : Account) → ledger (front ++ e ∷ back) ≡ put e (ledger (front ++ back))
ledger-middle [] back e = refl
ledger-middle (d ∷ front) back e = ap (put d) (ledger-middle front back e) ∙ put-swap d e (ledger (front ++ back))

ledger-rearranged : (xs ys : List Account) → Rearranged xs ys → ledger ys ≡ ledger xs
ledger-rearranged [] ys h = ap ledger h
ledger-rearranged (x ∷ xs) ys h =
    ap ledger h.2 ∙ ledger-middle h.0 h.1 x ∙ ap (put x) (ledger-rearranged xs (h.0 ++ h.1) h.3)

with-put : (bs : List (List ℕ)) (f g : List ℕ → Account) (e : Account)
    → ((b : List ℕ) → (f b).address ≡ b) → ((b : List ℕ) → e.address ≢ b → g b ≡ f b) → g e.address ≡ sum_of (f e.address) e
    → (AllByRecursion (λ b. e.address ≢ b) bs → g e.address ≡ e) → Ascends bs → map g (with_address e.address bs) ≡ put e (map f bs)
with-put [] f g e names other own new up = ap (λ x. x ∷ []) (new tt)
with-put (b ∷ bs) f g e names other own new up = at (order e.address b) refl (with-put bs f g e names other own)
  where
    named : (o : Ordering) → order e.address b ≡ o → order e.address (f b).address ≡ o
    named o h = subst (λ x. order e.address x ≡ o) (sym (names b)) h

    at : (o : Ordering) → order e.address b ≡ o → ((AllByRecursion (λ b. e.address ≢ b) bs → g e.address ≡ e) → Ascends bs → map g (with_address e.address bs) ≡ put e (map f bs))
        → map g (with_address e.address (b ∷ bs)) ≡ put e (map f (b ∷ bs))
    at Less h later =
        let w : with_address e.address (b ∷ bs) ≡ e.address ∷ b ∷ bs = subst (Placed e.address b bs) h (placed e.address b bs) in
        let above : AllByRecursion (λ x. order e.address x ≡ Less) (b ∷ bs) = (h, all_below e.address b bs h up.0) in
        let e1 : map g (b ∷ bs) ≡ map f (b ∷ bs) = all_same e.address (b ∷ bs) f g other above in
        let e2 : g e.address ≡ e = new (all_apart e.address (b ∷ bs) above) in
        let e3 : map g (e.address ∷ b ∷ bs) ≡ e ∷ map f (b ∷ bs) = cc in
        ap (map g) w ∙ e3 ∙ sym (put-by Less e (f b) (map f bs) (named Less h))
    at Equal h later =
        let w : (with_address e.address (b ∷ bs) ≡ b ∷ bs) × (e.address ≡ b) = subst (Placed e.address b bs) h (placed e.address b bs) in
        let e1 : map g bs ≡ map f bs = all_same e.address bs f g other (subst (λ x. AllByRecursion (λ y. order x y ≡ Less) bs) (sym w.1) up.0) in
        let e2 : g b ≡ sum_of (f b) e = subst (λ x. g x ≡ sum_of (f x) e) w.1 own in
        let e3 : map g (b ∷ bs) ≡ sum_of (f b) e ∷ map f bs = cc in
        ap (map g) w.0 ∙ e3 ∙ sym (put-by Equal e (f b) (map f bs) (named Equal h))
    at Greater h later =
        let w : with_address e.address (b ∷ bs) ≡ b ∷ with_address e.address bs = subst (Placed e.address b bs) h (placed e.address b bs) in
        let apart : e.address ≢ b = λ same. apart_from-less b e.address (less_from-greater e.address b h) (sym same) in
        let e1 : g b ≡ f b = other b apart in
        let e2 : map g (with_address e.address bs) ≡ put e (map f bs) = later (λ all. new (apart, all)) up.1 in
        let e3 : map g (b ∷ with_address e.address bs) ≡ f b ∷ put e (map f bs) = cc in
        ap (map g) w ∙ e3 ∙ sym (put-by Greater e (f b) (map f bs) (named Greater h))

-- the sum with what an address pays for that pays for no call
sum_of-nothing : (e : Account) → sum_of (record { address = e.address; calls = 0; segments = 0 }) e ≡ e
sum_of-nothing e =
    let calls : 0 + e.calls ≡ e.calls = omega arith in
    let segments : 0 + e.segments ≡ e.segments = omega arith in
    ap (λ n. record { address = e.address; calls = n; segments = 0 + e.segments }) calls
    ∙ ap (λ n. record { address = e.address; calls = e.calls; segments = n }) segments

ledger-calls : (cs : List CallRecord) → accounts_of cs ≡ ledger (map account_of_call cs)
ledger-calls [] = refl
ledger-calls (c ∷ cs) =
    let call : Account = account_of_call c in
    with-put (payers cs) (account cs) (account (c ∷ cs)) call (λ b. refl) (λ b apart. account-other c cs b apart) (account-own c cs)
    (λ apart. account-own c cs ∙ ap (λ k. sum_of k call) (none_paid (payer c) cs apart) ∙ sum_of-nothing call) (ascends cs)
    ∙ ap (put call) (ledger-calls cs)

-- ---- sorted entries

-- ranks that do not fall, from r on
abbrev Climbs : ℕ → List AccountEntry → Type 0
Climbs r [] = Unit {0}
Climbs r (e ∷ es) = (r ≤ e.rank) × Climbs e.rank es

climbs_from : (r : ℕ) (es : List AccountEntry) → ((d : AccountEntry) → 0 < length es → r ≤ (get_or es 0 d).rank) → IsNonDecreasingBy (λ e. e.rank) es → Climbs r es
climbs_from r [] first h = tt
climbs_from r (e ∷ es) first h = (
  first e (omega arith),
  climbs_from e.rank es (λ d some. h 0 1 d (omega arith) (omega arith)) (λ i j d le lt. h (suc i) (suc j) d (omega arith) (omega arith)),
)

-- an account of a lower rank comes before the accounts of entries
first-ledger : (k : Account) (r s : ℕ) (es : List AccountEntry) → IsRank r k.address → r < s → Climbs s es → AllByRecursion IsRanked es → IsFirst k (ledger (map account_of_entry es))
first-ledger k r s [] h lt up ranked = tt
first-ledger k r s (e ∷ es) h lt up ranked =
    let lower : r < e.rank = let le = up.0 in omega (arith, le) in
    first-put k (account_of_entry e) (ledger (map account_of_entry es)) (less_from-ranks r e.rank k.address e.address h ranked.0 lower)
    (first-ledger k r e.rank es h lower up.1 ranked.1)

summed_from-ledger : (es : List AccountEntry) (k : Account) (r : ℕ) → IsRank r k.address → Climbs r es → AllByRecursion IsRanked es → summed_from k r es ≡ ledger (k ∷ map account_of_entry es)
summed_from-ledger [] k r h up ranked = refl
summed_from-ledger (e ∷ es) k r h up ranked =
    at (r == e.rank) refl
    (λ same. summed_from-ledger es (sum_of k own) r h (subst (λ s. Climbs s es) (sym same) up.1) ranked.1)
    (summed_from-ledger es own e.rank ranked.0 up.1 ranked.1)
  where
    own : Account
    own = account_of_entry e

    rest : List Account
    rest = ledger (map account_of_entry es)

    at : (b : Bool) → (r == e.rank) ≡ b → (r ≡ e.rank → summed_from (sum_of k own) r es ≡ put (sum_of k own) rest) → summed_from own e.rank es ≡ put own rest
        → elim b [ true ↦ summed_from (sum_of k own) r es | false ↦ k ∷ summed_from own e.rank es ] ≡ put k (put own rest)
    at true t joined apart =
        let same : r ≡ e.rank = eqb-true r e.rank t in
        let address : k.address ≡ e.address = same_from-ranks r e.rank k.address e.address h ranked.0 same in
        joined same ∙ ap (λ s. put s rest) (sum_of-comm own k (sym address)) ∙ sym (put-sum k own rest address)
    at false t joined apart =
        let le : r ≤ e.rank = up.0 in
        let other : r ≢ e.rank = eqb-false r e.rank t in
        let lower : r < e.rank = omega arith in
        ap (λ l. k ∷ l) apart
        ∙ sym (put-first k (put own rest) (first-put k own rest (less_from-ranks r e.rank k.address e.address h ranked.0 lower) (first-ledger k r e.rank es h lower up.1 ranked.1)))

summed-ledger : (es : List AccountEntry) → IsNonDecreasingBy (λ e. e.rank) es → AllByRecursion IsRanked es → summed es ≡ ledger (map account_of_entry es)
summed-ledger [] up ranked = refl
summed-ledger (e ∷ es) up ranked =
    summed_from-ledger es (account_of_entry e) e.rank ranked.0 (climbs_from e.rank (e ∷ es) (λ d some. omega arith) up).1 ranked.1

-- the sums of the calls' entries, sorted, are the accounts
pub summed-accounts : (cs : List CallRecord) (es sorted : List AccountEntry) → map account_of_entry es ≡ map account_of_call cs → AllByRecursion IsRanked es → IsPermutation es sorted
    → IsNonDecreasingBy (λ e. e.rank) sorted → summed sorted ≡ accounts_of cs
summed-accounts cs es sorted same ranked moved up =
    let moved' : Rearranged (map account_of_entry es) (map account_of_entry sorted) =
    rearranged-from_IsPermutation (map account_of_entry es) (map account_of_entry sorted) (IsPermutation-map account_of_entry es sorted moved) in
    summed-ledger sorted up (all_rearranged IsRanked es sorted (rearranged-from_IsPermutation es sorted moved) ranked)
    ∙ ledger-rearranged (map account_of_entry es) (map account_of_entry sorted) moved'
    ∙ ap ledger same ∙ sym (ledger-calls cs)

pub segments-entries : (cs : List CallRecord) (es : List AccountEntry) → map account_of_entry es ≡ map account_of_call cs → sum_by (λ e. e.segments) es ≡ sum_by (λ c. c.segments) cs
segments-entries [] [] h = refl
segments-entries [] (e ∷ es) h = absurd (cc)
segments-entries (c ∷ cs) [] h = absurd (cc)
segments-entries (c ∷ cs) (e ∷ es) h =
    let first : account_of_entry e ≡ account_of_call c = cc in
    let later = segments-entries cs es cc in
    omega (arith, sum_by-cons (λ (d : CallRecord). d.segments) c cs, sum_by-cons (λ (d : AccountEntry). d.segments) e es, ap (λ a. a.segments) first, later)
