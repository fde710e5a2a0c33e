use Rattle.std.proofs.Common.{◌≡◌, ◌∙◌, ◌-◌, sym, ap, arith, length}
use Rattle.std.proofs.lemmas.Bool.{eqb-true}
use Rattle.std.specs.Vec.{vec_len}
use Rattle.trace_text.specs.Progress.{Progress}
use Rattle.trace_text.proofs.Passing.{ends_block}
use Rattle.trace_text.proofs.lines.Lines.end_block.Goals as goal

pub returns-clause-span : goal.returns-clause-span
returns-clause-span g c i heading block is s first =
    let none : length c.args.self.now.begun ≡ 0 = let none : vec_len c.self.inside.begun ≡ 0 = eqb-true (vec_len c.self.inside.begun) 0 (sym c.if-not-is_empty.ensures) in
    omega (arith, none, ap (λ (p : Progress). length p.begun) c.self.view_is, c.self.inside.begun.ok) in
    ends_block i heading block c.args.self.now _ is s none first (ap (λ (p : Progress). p.last) c.self.view_is) (c.saturating_sub.ensures ∙ ap (λ (p : Progress). p.ended - 2) c.self.view_is) (c.saturating_sub-2.ensures ∙ ap (λ (p : Progress). p.start - 200) c.self.view_is)
