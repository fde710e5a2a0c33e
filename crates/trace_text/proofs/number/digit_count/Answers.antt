use Rattle.std.proofs.Common.{arith}
use Rattle.trace_text.proofs.RowTextLemmas.{digits_are}
use Rattle.trace_text.proofs.number.digit_count.Goals as goal

pub returns-in-0-to-9-clause-value : goal.returns-in-0-to-9-clause-value
returns-in-0-to-9-clause-value c = digits_are 0 c.args.number (omega (arith, c.requires.some)) (omega (arith, c.in-0-to-9, c.requires.small)) c.requires.small

pub returns-in-10-to-99-clause-value : goal.returns-in-10-to-99-clause-value
returns-in-10-to-99-clause-value c = digits_are 1 c.args.number (omega (arith, c.in-10-to-99)) (omega (arith, c.in-10-to-99, c.requires.small)) c.requires.small

pub returns-in-100-to-999-clause-value : goal.returns-in-100-to-999-clause-value
returns-in-100-to-999-clause-value c = digits_are 2 c.args.number (omega (arith, c.in-100-to-999)) (omega (arith, c.in-100-to-999, c.requires.small)) c.requires.small

pub returns-in-1000-to-9999-clause-value : goal.returns-in-1000-to-9999-clause-value
returns-in-1000-to-9999-clause-value c = digits_are 3 c.args.number (omega (arith, c.in-1000-to-9999)) (omega (arith, c.in-1000-to-9999, c.requires.small)) c.requires.small

pub returns-in-10000-to-99999-clause-value : goal.returns-in-10000-to-99999-clause-value
returns-in-10000-to-99999-clause-value c = digits_are 4 c.args.number (omega (arith, c.in-10000-to-99999)) (omega (arith, c.in-10000-to-99999, c.requires.small)) c.requires.small

pub returns-in-100000-to-999999-clause-value : goal.returns-in-100000-to-999999-clause-value
returns-in-100000-to-999999-clause-value c = digits_are 5 c.args.number (omega (arith, c.in-100000-to-999999)) (omega (arith, c.in-100000-to-999999, c.requires.small)) c.requires.small

pub returns-in-1000000-to-9999999-clause-value : goal.returns-in-1000000-to-9999999-clause-value
returns-in-1000000-to-9999999-clause-value c = digits_are 6 c.args.number (omega (arith, c.in-1000000-to-9999999)) (omega (arith, c.in-1000000-to-9999999, c.requires.small)) c.requires.small

pub returns-in-10000000-to-99999999-clause-value : goal.returns-in-10000000-to-99999999-clause-value
returns-in-10000000-to-99999999-clause-value c = digits_are 7 c.args.number (omega (arith, c.in-10000000-to-99999999)) (omega (arith, c.in-10000000-to-99999999, c.requires.small)) c.requires.small

pub returns-in_default-clause-value : goal.returns-in_default-clause-value
returns-in_default-clause-value c = digits_are 8 c.args.number (omega (arith, c.in_default)) (omega (arith, c.in_default, c.requires.small)) c.requires.small
