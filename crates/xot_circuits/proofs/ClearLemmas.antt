-- What a channel in p1 went through.
use Rattle.std.proofs.Common.{◌≡◌, ◌∙◌, ◌⊎◌, ◌==◌, ◌&&◌, ◌||◌, ℕ, Bool, true, false, cond, not, List, [], ◌∷◌, ap, inl, inr, refl, sym, true≢false}
use Rattle.std.proofs.lemmas.Bool.{and_parts, or_left, or_right}
use Rattle.std.specs.List.{AllByRecursion}
use Rattle.line_model.specs.channels.Channels.{other}
use Rattle.line_model.specs.declared.state.Side.{Side}
use Rattle.line_model.specs.declared.state.Side.TheVariants.{T, N}
use Rattle.xot_circuits.specs.Calls.{ClearIsAnswered, IsAnswered, IsOfN, Step, Sent, Missed, after_gap, after_packet, after_step, after_steps, answered, clearing_by, is_clear, is_confirmed, is_t, new_call, spoils}
use Rattle.xot_circuits.specs.declared.call.Call.{Call}
use Rattle.xot_circuits.specs.declared.call.Head.{Head}
use Rattle.xot_circuits.specs.declared.call.Clearing.{Clearing}
use Rattle.xot_circuits.specs.declared.call.Clearing.TheVariants.{Open, By, Confirmed}

-- what may have left p1 stays so
spoiled_step : (s : Step) (c : Call) → c.is_spoiled ≡ true → (after_step s c).is_spoiled ≡ true
spoiled_step (Sent s h) c e = or_left c.is_spoiled (spoils s h c.clearing) e
spoiled_step Missed c e = or_left c.is_spoiled (is_confirmed c.clearing) e

spoiled_stays : (ss : List Step) (c : Call) → c.is_spoiled ≡ true → (after_steps ss c).is_spoiled ≡ true
spoiled_stays [] c e = e
spoiled_stays (s ∷ ss) c e = spoiled_stays ss (after_step s c) (spoiled_step s c e)

not_spoiled : (ss : List Step) (c : Call) → is_clear (after_steps ss c) ≡ true → c.is_spoiled ≡ true → ⊥
not_spoiled ss c clear e =
    let last = after_steps ss c in
    let parts = and_parts (not last.is_spoiled) (not last.is_permanent) (and_parts (is_confirmed last.clearing) (not last.is_spoiled && not last.is_permanent) clear).1 in
    let no : not last.is_spoiled ≡ false = ap not (spoiled_stays ss c e) in
    true≢false (sym parts.0 ∙ no)

answers_other : (s t : Side) → is_confirmed (answered s t) ≡ true → t ≡ other s
answers_other T T e = absurd (true≢false (sym e))
answers_other T N e = refl
answers_other N T e = refl
answers_other N N e = absurd (true≢false (sym e))

-- a packet after which the clear is confirmed: it was before, or the packet answers
abbrev Confirms : Side → (kind : ℕ) → Clearing → Type 0
Confirms s kind c = ((c ≡ Confirmed) × ((kind == 0x0B) ≡ false)) ⊎ ((c ≡ By (other s)) × ((kind == 0x13 || kind == 0x17) ≡ true))

by_open : (s : Side) (b : Bool) → is_confirmed (cond b (By s) Open) ≡ true → ⊥
by_open s true e = true≢false (sym e)
by_open s false e = true≢false (sym e)

by_clear : (s t : Side) (b : Bool) → is_confirmed (cond b (answered s t) (By t)) ≡ true → (b ≡ true) × (t ≡ other s)
by_clear s t true e = (refl, answers_other s t e)
by_clear s t false e = absurd (true≢false (sym e))

confirms_by : (s : Side) (kind : ℕ) (c : Clearing) → (kind == 0x0B) ≡ false → is_confirmed (clearing_by s kind c) ≡ true → Confirms s kind c
confirms_by s kind Open k e = absurd (by_open s (kind == 0x13) e)
confirms_by s kind (By t) k e =
    let is = by_clear s t (kind == 0x13 || kind == 0x17) e in
    inr (ap By is.1, is.0)
confirms_by s kind Confirmed k e = inl (refl, k)

confirms_at : (s : Side) (kind : ℕ) (c : Clearing) (b : Bool) → (kind == 0x0B) ≡ b → is_confirmed (cond b Open (clearing_by s kind c)) ≡ true → Confirms s kind c
confirms_at s kind c true k e = absurd (true≢false (sym e))
confirms_at s kind c false k e = confirms_by s kind c k e

-- the DTE after a confirmed clear
t_spoils : (h : Head) (c : Call) → c.clearing ≡ Confirmed → (h.kind == 0x0B) ≡ false → (after_packet T h c).is_spoiled ≡ true
t_spoils h c e k =
    let is : is_confirmed c.clearing ≡ true = ap is_confirmed e in
    let call : not (h.kind == 0x0B) ≡ true = ap not k in
    let both : (is_confirmed c.clearing && (is_t T && not (h.kind == 0x0B))) ≡ true = ap (λ b. b && (is_t T && not (h.kind == 0x0B))) is ∙ call in
    or_right c.is_spoiled (spoils T h c.clearing) (or_right (h.kind == 0x13 && not h.is_long) (is_confirmed c.clearing && (is_t T && not (h.kind == 0x0B))) both)

abbrev Goes : List Step → Call → Type 0
Goes ss c = ((c.clearing ≡ Confirmed) × AllByRecursion IsOfN ss) ⊎ IsAnswered ss c

confirmed_is : (c : Clearing) → is_confirmed c ≡ true → c ≡ Confirmed
confirmed_is Open e = absurd (true≢false (sym e))
confirmed_is (By s) e = absurd (true≢false (sym e))
confirmed_is Confirmed e = refl

quiet_on : (s : Step) (ss : List Step) (c : Call) → is_clear (after_steps ss (after_step s c)) ≡ true → (after_step s c).clearing ≡ Confirmed → AllByRecursion IsOfN ss → Goes (s ∷ ss) c
quiet_on Missed ss c clear e quiet =
    absurd (not_spoiled ss (after_gap c) clear (or_right c.is_spoiled (is_confirmed c.clearing) (ap is_confirmed e)))
quiet_on (Sent s h) ss c clear e quiet = by s (confirms_at s h.kind c.clearing (h.kind == 0x0B) refl (ap is_confirmed e)) clear where
  by : (s : Side) → Confirms s h.kind c.clearing → is_clear (after_steps ss (after_packet s h c)) ≡ true → Goes (Sent s h ∷ ss) c
  by s (inr a) clear = inr (record { before = []; after = ss; side = s; head = h; steps_are = refl; cleared = a.0; answers = a.1; quiet = quiet })
  by N (inl a) clear = inl (a.0, (tt, quiet))
  by T (inl a) clear = absurd (not_spoiled ss (after_packet T h c) clear (t_spoils h c a.0 a.1))

answered_on : (s : Step) (ss : List Step) (c : Call) → IsAnswered ss (after_step s c) → IsAnswered (s ∷ ss) c
answered_on s ss c a = record {
  before = s ∷ a.before;
  after = a.after;
  side = a.side;
  head = a.head;
  steps_are = ap (λ xs. s ∷ xs) a.steps_are;
  cleared = a.cleared;
  answers = a.answers;
  quiet = a.quiet;
}

goes : (ss : List Step) (c : Call) → is_clear (after_steps ss c) ≡ true → Goes ss c
goes [] c clear = inl (confirmed_is c.clearing (and_parts (is_confirmed c.clearing) (not c.is_spoiled && not c.is_permanent) clear).0, tt)
goes (s ∷ ss) c clear = by (goes ss (after_step s c) clear) where
  by : Goes ss (after_step s c) → Goes (s ∷ ss) c
  by (inl q) = quiet_on s ss c clear q.0 q.1
  by (inr a) = inr (answered_on s ss c a)

not_open : Open ≡ Confirmed → ⊥
not_open e = cc e

pub clear_is_answered : ClearIsAnswered
clear_is_answered ss called clear = by (goes ss (new_call called) clear) where
  by : Goes ss (new_call called) → IsAnswered ss (new_call called)
  by (inl q) = absurd (not_open q.0)
  by (inr a) = a
