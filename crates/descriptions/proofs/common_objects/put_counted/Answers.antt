use Rattle.std.proofs.Common.{subst}
use Rattle.descriptions.specs.CommonObjects.{amount_word}
use Rattle.descriptions.specs.Facts.{IsFateOf}
use Rattle.descriptions.specs.Lines.{Puts}
use Rattle.descriptions.proofs.LineLemmas.{counted_put, puts_then}
use Rattle.descriptions.proofs.common_objects.put_counted.Goals as goal

pub returns-in-Counted : goal.returns-in-Counted
returns-in-Counted c lengths h =
    counted_put lengths c.in-Counted.octets c.in-Counted.segments _ _ (subst (IsFateOf lengths) c.in-Counted.is h)
    (subst (λ word. Puts word c.args.line.now c.put-in-Counted-2.new.self) (λ t. amount_word (c.from.ensures t) c.in-Counted.segments)
    (puts_then _ _ _ _ _ (puts_then _ _ _ _ _ (puts_then _ _ _ _ _ (puts_then _ _ _ _ _ c.put.ensures c.number.ensures) c.put-in-Counted.ensures) c.number-in-Counted.ensures) c.put-in-Counted-2.ensures))
