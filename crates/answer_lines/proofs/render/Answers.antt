-- `answer_lines::render` meets its contract: a test for each reason to print nothing.
use mathlib.Core.Path.{◌≡◌, refl}
use borrow.Author.Rules.{rules}
use native.Mathlib.Omega.{arith}
use mathlib.Core.Bool.{true, false}
use Rattle.answer_lines.specs.Printing.{overlong}
use Rattle.answer_lines.proofs.Looked.{long_told}
use Rattle.answer_lines.proofs.Prints.{prints_none, prints_done, no_room, no_table, many, is_long, is_printable, has_room}
use Rattle.answer_lines.proofs.render.Goals as goal

pub returns-then-out-lt4311 : goal.returns-then-out-lt4311
returns-then-out-lt4311 c = prints_none (no_room _ _ _ c.if-out-lt4311.true)

pub returns-then-legs-lt320 : goal.returns-then-legs-lt320
returns-then-legs-lt320 c = prints_none (no_table _ _ _ c.if-out-lt4311.false c.if-legs-lt320.true)

pub returns-then-answer-gt9 : goal.returns-then-answer-gt9
returns-then-answer-gt9 c = prints_none (many _ _ _ c.if-out-lt4311.false c.if-legs-lt320.false c.if-answer-gt9.true)

pub returns-then-is_overlong : goal.returns-then-is_overlong
returns-then-is_overlong c =
    let long : overlong c.args.answer.count c.args.answer.entries ≡ true =
    long_told _ (omega (arith, c.if-answer-gt9.false)) c.is_overlong.ensures c.if-is_overlong.true in
    prints_none (is_long _ _ _ c.if-out-lt4311.false c.if-legs-lt320.false c.if-answer-gt9.false long)

pub put_answer-requires : goal.put_answer-requires
put_answer-requires c =
    let short : overlong c.args.answer.count c.args.answer.entries ≡ false =
    long_told _ (omega (arith, c.if-answer-gt9.false)) c.is_overlong.ensures c.if-is_overlong.false in
    has_room refl c.if-out-lt4311.false c.if-legs-lt320.false c.if-answer-gt9.false short

pub returns : goal.returns
returns c =
    let short : overlong c.args.answer.count c.args.answer.entries ≡ false =
    long_told _ (omega (arith, c.if-answer-gt9.false)) c.is_overlong.ensures c.if-is_overlong.false in
    let fits = is_printable c.args.answer _ _ c.if-out-lt4311.false c.if-legs-lt320.false c.if-answer-gt9.false short in
    prints_done fits c.put_answer.ensures refl (search rules)
