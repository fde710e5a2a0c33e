use Rattle.std.proofs.Common.{ap, refl, ◌∙◌, ◌++◌, ◌∷◌, []}
use Rattle.std.specs.Prelude.{is_ok}
use Rattle.annotated_trace.specs.Wording.{plain}
use Rattle.annotated_trace.proofs.WordingLemmas.{appended_ok, may_be_added, more_added, none_added, plain_step}
use Rattle.annotated_trace.proofs.notes.append_plain.Goals as goal

pub loop-front-init : goal.loop-front-init
loop-front-init g c = record { rest = refl; kept = none_added c.args.out.now.items }

pub loop-front-preserved : goal.loop-front-preserved
loop-front-preserved g c =
    let front = c.in-Some.front.now in
    let back = c.in-Some.back.now in
    record {
      rest = ap (λ xs. xs ++ plain back) (c.in_ok-push.ensures.items ∙ ap (λ xs. xs ++ 32 ∷ []) c.in_ok-extend_from_slice.ensures.items)
          ∙ plain_step c.loop-front.out.items front back c.loop-front.rest.now (c.args.out.now.items ++ plain c.args.words.now) c.loop-front.invariant.rest c.in-Some.ensures.0 c.in-Some.ensures.1;
      kept = more_added c.args.out.now.items c.extend_from_slice.new.self.items (32 ∷ []) c.push.new.self.items
          (more_added c.args.out.now.items c.loop-front.out.items front c.extend_from_slice.new.self.items c.loop-front.invariant.kept c.in_ok-extend_from_slice.ensures.items) c.in_ok-push.ensures.items;
    }

pub returns-clause-ok : goal.returns-clause-ok
returns-clause-ok g c =
    appended_ok c.extend_from_slice-2.result c.extend_from_slice-2.new.self.items c.loop-front.out.items c.loop-front.rest.now (c.args.out.now.items ++ plain c.args.words.now) c.extend_from_slice-2.ensures.items c.loop-front.invariant.rest c.in_default.ensures

pub returns-clause-kept : goal.returns-clause-kept
returns-clause-kept g c = may_be_added (is_ok c.extend_from_slice-2.result) c.args.out.now.items c.loop-front.out.items c.loop-front.rest.now c.extend_from_slice-2.new.self.items c.loop-front.invariant.kept c.extend_from_slice-2.ensures.items
