use Rattle.std.proofs.Common.{rules, sym, arith}
use Rattle.lettering.proofs.Puts.{wrote_append, wrote_same, wrote_within}
use Rattle.paper.proofs.Lines.{decimal_small, decimal_large, decimal_shorter, decimal_ten}
use Rattle.lettering.proofs.Pen.+put_decimal.Goals as goal

pub returns-then-x-lt10 : goal.returns-then-x-lt10
returns-then-x-lt10 t c = wrote_same (sym (decimal_small _ (search rules))) (omega arith) c.put_byte.ensures

pub put_byte-requires-else-x-lt10 : goal.put_byte-requires-else-x-lt10
put_byte-requires-else-x-lt10 t c = omega (arith, decimal_shorter c.args.x (search rules))

pub returns-else-x-lt10 : goal.returns-else-x-lt10
returns-else-x-lt10 t c =
    wrote_within (sym (decimal_large c.args.x (search rules) (search rules))) (decimal_ten c.args.x)
    (wrote_append c.put_decimal.ensures c.put_byte-else-x-lt10.ensures)
