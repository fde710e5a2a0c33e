-- One more event of a call, after those that are counted.
use Rattle.std.proofs.Common.{◌≡◌, ℕ, zero, suc, ◌+◌, ◌-◌, ◌/◌, ◌≤◌, Bool, true, false, cond, List, [], ◌∷◌, ◌++◌, length, map, reverse, filter_map, sum, refl, sym, ap, ◌∙◌, arith, Option, Some, None, unwrap_or, append_assoc, if◌then◌else◌}
use Rattle.std.specs.Prelude.{option_map, find}
use Rattle.std.specs.List.{slice_get, cons_option, filter, flat_map, range_with_len}
use Rattle.std.proofs.lemmas.List.{reverse-append, append-nil, length-append, map-append}
use Rattle.std.proofs.lemmas.List.Elements.{filter_map-append, filter-append}
use Rattle.std.proofs.lemmas.List.Sums.{sum_by-append}
use Rattle.line_model.specs.declared.state.Side.{Side}
use Rattle.line_model.specs.declared.state.Side.TheVariants.{T, N}
use Rattle.line_model.specs.declared.event.Entry.{Entry}
use Rattle.line_model.specs.declared.event.Entry.TheVariants.{Unknown}
use Rattle.line_model.specs.declared.event.What.TheVariants.{Data}
use Rattle.line_model.specs.declared.event.Event.{Event}
use Rattle.line_model.specs.declared.call.SettingRecord.{SettingRecord}
use Rattle.line_model.specs.channels.FlowControl.{is_side}
use Rattle.line_model.specs.observer.Calls.{is_up, lengths_from, all_lengths, segments_of, entry_said, entry_of, settings_of, is_known}
use Rattle.line_model.proofs.EventWeights.{octets_weight, segments_weight, sides_weight, fewer_segments}
use Rattle.call_accounts.specs.declared.pad_table.PadTable.{PadTable}
use Rattle.call_accounts.specs.declared.counts.CallCounts.{CallCounts}
use Rattle.call_accounts.specs.Counted.{entry_at, settings_in, HasSettings, Counts, Adds, first_up, IsCountable}

abbrev one_more : List Event → Event → List Event
one_more own e = own ++ e ∷ []

-- ---- settings

entry-more : (pad : Side) (n : ℕ) (own : List Event) (e : Event) → entry_of pad n (one_more own e) ≡ unwrap_or (entry_said pad n e) (entry_of pad n own)
entry-more pad n own e = ap (λ l. unwrap_or (slice_get (filter_map f l) 0) Unknown) (reverse-append own (e ∷ [])) ∙ at (f e)
  where
    f : Event → Option Entry
    f v = entry_said pad n v

    at : (o : Option Entry) → unwrap_or (slice_get (cons_option o (filter_map f (reverse own))) 0) Unknown ≡ unwrap_or o (entry_of pad n own)
    at (Some x) = refl
    at None = refl

settings_more : (pad : Side) (old new : PadTable) (own : List Event) (e : Event) → HasSettings pad old own → ((n : ℕ) → 1 ≤ n → n ≤ 22 → entry_at new n ≡ unwrap_or (entry_said pad n e) (entry_at old n)) → HasSettings pad new (one_more own e)
settings_more pad old new own e h more n low high =
    more n low high ∙ ap (λ x. unwrap_or (entry_said pad n e) x) (h n low high) ∙ sym (entry-more pad n own e)

-- ---- sums

lengths-more : (x : Side) (own : List Event) (e : Event) → lengths_from x (one_more own e) ≡ lengths_from x own ++ lengths_from x (e ∷ [])
lengths-more x own e = filter_map-append (λ (v : Event). elim v.what [ Data y n ↦ (if is_side x y then Some n else None) | _ ↦ None ]) own (e ∷ [])

all_lengths-more : (own : List Event) (e : Event) → all_lengths (one_more own e) ≡ all_lengths own ++ all_lengths (e ∷ [])
all_lengths-more own e = filter_map-append (λ (v : Event). elim v.what [ Data y n ↦ Some n | _ ↦ None ]) own (e ∷ [])

up-more : (own : List Event) (e : Event) → option_map (λ v. v.packet) (find is_up (one_more own e)) ≡ first_up (option_map (λ v. v.packet) (find is_up own)) e
up-more [] e = at (is_up e)
  where
    at : (b : Bool) → option_map (λ v. v.packet) (cond b (Some e) None) ≡ (if b then Some e.packet else None)
    at true = refl
    at false = refl
up-more (v ∷ own) e = at (is_up v) (up-more own e)
  where
    at : (b : Bool) → option_map (λ v. v.packet) (find is_up (one_more own e)) ≡ first_up (option_map (λ v. v.packet) (find is_up own)) e
        → option_map (λ v. v.packet) (cond b (Some v) (find is_up (one_more own e))) ≡ first_up (option_map (λ v. v.packet) (cond b (Some v) (find is_up own))) e
    at true h = refl
    at false h = h

pub sum-more : (xs ys : List ℕ) → sum (xs ++ ys) ≡ sum xs + sum ys
sum-more xs ys = sum_by-append (λ (n : ℕ). n) xs ys

segments-more : (xs ys : List ℕ) → segments_of (xs ++ ys) ≡ segments_of xs + segments_of ys
segments-more xs ys = ap sum (map-append (λ (n : ℕ). (n + 63) / 64) xs ys) ∙ sum-more (map (λ n. (n + 63) / 64) xs) (map (λ n. (n + 63) / 64) ys)

-- of each side there are no more than of both
shorter : (x : Side) (own : List Event) → length (lengths_from x own) ≤ length (all_lengths own)
shorter x [] = omega arith
shorter x (e ∷ own) = at e (shorter x own)
  where
    of_side : (b : Bool) (n : ℕ) → length (lengths_from x own) ≤ length (all_lengths own) → length (cons_option (cond b (Some n) None) (lengths_from x own)) ≤ length (n ∷ all_lengths own)
    of_side true n h = omega arith
    of_side false n h = omega arith

    at : (v : Event) → length (lengths_from x own) ≤ length (all_lengths own) → length (lengths_from x (v ∷ own)) ≤ length (all_lengths (v ∷ own))
    at v h = elim v.what as (λ w. length (lengths_from x (record { epoch = v.epoch; channel = v.channel; packet = v.packet; what = w } ∷ own)) ≤ length (all_lengths (record { epoch = v.epoch; channel = v.channel; packet = v.packet; what = w } ∷ own))) [ Data y n ↦ of_side (is_side x y) n h | _ ↦ h ]

pub counts_more : (old new : CallCounts) (own : List Event) (e : Event) → Counts old own → Adds old new e → IsCountable (one_more own e) → Counts new (one_more own e)
counts_more old new own e h a few =
    let all : List Event = one_more own e in
    let of_t = lengths-more T own e in
    let of_n = lengths-more N own e in
    let both = all_lengths-more own e in
    let octets = octets_weight all in
    let sides = sides_weight all in
    let segments = segments_weight all in
    let rounded = fewer_segments all in
    let packets_t = ap length of_t ∙ length-append (lengths_from T own) (lengths_from T (e ∷ [])) in
    let packets_n = ap length of_n ∙ length-append (lengths_from N own) (lengths_from N (e ∷ [])) in
    let octets_t = ap sum of_t ∙ sum-more (lengths_from T own) (lengths_from T (e ∷ [])) in
    let octets_n = ap sum of_n ∙ sum-more (lengths_from N own) (lengths_from N (e ∷ [])) in
    let loads = ap segments_of both ∙ segments-more (all_lengths own) (all_lengths (e ∷ [])) in
    record {
      up = a.up ∙ ap (λ o. first_up o e) h.up ∙ sym (up-more own e);
      data_t = a.data_t (omega (arith, h.data_t, packets_t, shorter T all, few.packets)) ∙ omega (arith, h.data_t, packets_t);
      oct_t = a.oct_t (omega (arith, h.oct_t, octets_t, octets, sides, few.octets)) ∙ omega (arith, h.oct_t, octets_t);
      data_n = a.data_n (omega (arith, h.data_n, packets_n, shorter N all, few.packets)) ∙ omega (arith, h.data_n, packets_n);
      oct_n = a.oct_n (omega (arith, h.oct_n, octets_n, octets, sides, few.octets)) ∙ omega (arith, h.oct_n, octets_n);
      segments = a.segments (omega (arith, h.segments, loads, octets, segments, rounded, few.octets)) ∙ omega (arith, h.segments, loads);
      settings_t = settings_more T old.settings_t new.settings_t own e h.settings_t a.settings_t;
      settings_n = settings_more N old.settings_n new.settings_n own e h.settings_n a.settings_n;
    }

-- ---- settings that are known

pub known-step : (pad : Side) (t : PadTable) (p k : ℕ) → k ≡ 22 - p → p ≤ 22
    → settings_in pad t (range_with_len p (23 - p))
    ≡ (if is_known (entry_at t p) then record { pad = pad; parameter = p; entry = entry_at t p } ∷ settings_in pad t (range_with_len (p + 1) k) else settings_in pad t (range_with_len (p + 1) k))
known-step pad t p k e le =
    let e' : 23 - p ≡ suc k = omega arith in
    ap (λ j. settings_in pad t (range_with_len p j)) e'

abbrev settings_at : Side → List Event → List ℕ → List SettingRecord
settings_at pad own ns = map (λ n. record { pad = pad; parameter = n; entry = entry_of pad n own }) ns

known_as : (pad : Side) (t : PadTable) (own : List Event) → HasSettings pad t own → (from len : ℕ) → 1 ≤ from → from + len ≤ 23
    → map (λ n. record { pad = pad; parameter = n; entry = entry_at t n }) (range_with_len from len) ≡ settings_at pad own (range_with_len from len)
known_as pad t own s from zero low high = refl
known_as pad t own s from (suc len) low high =
    let later = known_as pad t own s (from + 1) len (omega arith) (omega arith) in
    let e : entry_at t from ≡ entry_of pad from own = s from low (omega arith) in
    ap (λ x. record { pad = pad; parameter = from; entry = x } ∷ map (λ n. record { pad = pad; parameter = n; entry = entry_at t n }) (range_with_len (from + 1) len)) e
    ∙ ap (λ l. record { pad = pad; parameter = from; entry = entry_of pad from own } ∷ l) later

split : (ns : List ℕ) (own : List Event) → filter (λ s. is_known s.entry) (flat_map (λ pad. settings_at pad own ns) (T ∷ N ∷ [])) ≡ filter (λ s. is_known s.entry) (settings_at T own ns) ++ filter (λ s. is_known s.entry) (settings_at N own ns)
split ns own = ap (λ l. filter (λ s. is_known s.entry) (settings_at T own ns ++ l)) (append-nil (settings_at N own ns)) ∙ filter-append (λ (s : SettingRecord). is_known s.entry) (settings_at T own ns) (settings_at N own ns)

pub settings_known : (c : CallCounts) (own : List Event) → Counts c own → settings_in T c.settings_t (range_with_len 1 22) ++ settings_in N c.settings_n (range_with_len 1 22) ≡ settings_of own
settings_known c own g =
    let keep : List SettingRecord → List SettingRecord = filter (λ s. is_known s.entry) in
    let e = known_as T c.settings_t own g.settings_t 1 22 (omega arith) (omega arith) in
    let f = known_as N c.settings_n own g.settings_n 1 22 (omega arith) (omega arith) in
    ap (λ l. keep l ++ settings_in N c.settings_n (range_with_len 1 22)) e ∙ ap (λ l. keep (settings_at T own (range_with_len 1 22)) ++ keep l) f ∙ sym (split (range_with_len 1 22) own)

pub known_pushed : (pad : Side) (t : PadTable) (p : ℕ) (e : Entry) (items new all : List SettingRecord) → p ≤ 22 → e ≡ entry_at t p → is_known e ≡ true
    → items ++ settings_in pad t (range_with_len p (23 - p)) ≡ all → new ≡ items ++ record { pad = pad; parameter = p; entry = e } ∷ [] → new ++ settings_in pad t (range_with_len (p + 1) (23 - (p + 1))) ≡ all
known_pushed pad t p e items new all le is known h step =
    let k : ℕ = 23 - (p + 1) in
    let rest : List SettingRecord = settings_in pad t (range_with_len (p + 1) k) in
    let known' : is_known (entry_at t p) ≡ true = ap is_known (sym is) ∙ known in
    let all_of : settings_in pad t (range_with_len p (23 - p)) ≡ record { pad = pad; parameter = p; entry = entry_at t p } ∷ rest =
    known-step pad t p k (omega arith) le ∙ ap (λ b. cond b (record { pad = pad; parameter = p; entry = entry_at t p } ∷ rest) rest) known' in
    ap (λ l. l ++ rest) step
    ∙ append_assoc items (record { pad = pad; parameter = p; entry = e } ∷ []) rest
    ∙ ap (λ x. items ++ record { pad = pad; parameter = p; entry = x } ∷ rest) is
    ∙ ap (λ l. items ++ l) (sym all_of)
    ∙ h

pub known_skipped : (pad : Side) (t : PadTable) (p : ℕ) (e : Entry) (items new all : List SettingRecord) → p ≤ 22 → e ≡ entry_at t p → is_known e ≡ false
    → items ++ settings_in pad t (range_with_len p (23 - p)) ≡ all → new ≡ items → new ++ settings_in pad t (range_with_len (p + 1) (23 - (p + 1))) ≡ all
known_skipped pad t p e items new all le is known h step =
    let k : ℕ = 23 - (p + 1) in
    let rest : List SettingRecord = settings_in pad t (range_with_len (p + 1) k) in
    let known' : is_known (entry_at t p) ≡ false = ap is_known (sym is) ∙ known in
    let all_of : settings_in pad t (range_with_len p (23 - p)) ≡ rest =
    known-step pad t p k (omega arith) le ∙ ap (λ b. cond b (record { pad = pad; parameter = p; entry = entry_at t p } ∷ rest) rest) known' in
    ap (λ l. l ++ rest) step ∙ ap (λ l. items ++ l) (sym all_of) ∙ h

-- a part of events that can be counted
pub countable_part : (before own : List Event) → IsCountable (before ++ own) → IsCountable own
countable_part before own few =
    let both : all_lengths (before ++ own) ≡ all_lengths before ++ all_lengths own = filter_map-append (λ (v : Event). elim v.what [ Data y n ↦ Some n | _ ↦ None ]) before own in
    record {
      packets = omega (arith, ap length both, length-append (all_lengths before) (all_lengths own), few.packets);
      octets = omega (arith, ap sum both, sum-more (all_lengths before) (all_lengths own), few.octets);
    }
