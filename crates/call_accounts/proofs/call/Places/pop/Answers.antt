use Rattle.std.proofs.lemmas.Result.{IfOk-from_err}
use Rattle.std.proofs.Common.{◌≡◌, ◌∙◌, ◌==◌, ◌&&◌, ℕ, false, subst, sym}
use Rattle.call_accounts.specs.Places.{IsFound, calls_at, own_calls}
use Rattle.call_accounts.proofs.PlaceLemmas.{last_call_of, on_result, one_less}
use Rattle.call_accounts.proofs.call.Places.pop.Goals as goal

pub returns-clause-popped : goal.returns-clause-popped
returns-clause-popped g c cs r left epoch channel =
    let old = c.args.self.now in
    let t = c.select.new.self in
    let found = subst (λ e. IsFound (calls_at old e r.channel) t.here) (sym epoch) (subst (λ k. IsFound (calls_at old c.args.epoch k) t.here) (sym channel) c.in_ok-select.ensures.here) in
    c.pop.ensures.popped (own_calls r.epoch r.channel cs) r (last_call_of old t.here cs r left found)

pub returns-clause-left : goal.returns-clause-left
returns-clause-left g c cs r left epoch channel =
    let old = c.args.self.now in
    let t = c.select.new.self in
    let current = c.in_ok-select.ensures in
    let found = subst (λ e. IsFound (calls_at old e r.channel) t.here) (sym epoch) (subst (λ k. IsFound (calls_at old c.args.epoch k) t.here) (sym channel) current.here) in
    let others : (e k : ℕ) → (r.epoch == e && r.channel == k) ≡ false → calls_at t e k ≡ calls_at old e k =
    λ e k other. current.others e k (subst (λ x. (x == e && c.args.channel == k) ≡ false) epoch (subst (λ x. (r.epoch == e && x == k) ≡ false) channel other)) in
    on_result c.pop.result
    (λ ok. one_less old t c.pop.new.self cs r (current.current.0 ∙ sym epoch) (current.current.1 ∙ sym channel) others left
    (ok _ (c.pop.ensures.left (own_calls r.epoch r.channel cs) r (last_call_of old t.here cs r left found))))

pub returns-in_err-select-clause-popped : goal.returns-in_err-select-clause-popped
returns-in_err-select-clause-popped g c cs r left epoch channel = IfOk-from_err _ _ c.from_residual.ensures.0

pub returns-in_err-select-clause-left : goal.returns-in_err-select-clause-left
returns-in_err-select-clause-left g c cs r left epoch channel = IfOk-from_err _ _ c.from_residual.ensures.0
