-- `question_line::parse` meets its contract: the first number that is not read, or the length, or all five.
use mathlib.Core.Path.{◌∙◌}
use borrow.Author.Tests.{le-leb, lt-leb}
use Rattle.question_line.proofs.Chain.{chain, parse_is}
use Rattle.question_line.proofs.parse.Goals as goal

pub returns-in_err-start : goal.returns-in_err-start
unfolding chain
returns-in_err-start c =
    c.from_residual.ensures
    ∙ rw (← c.in_err-start.ensures) at (parse_is c.args.input.now)

pub returns-in_err-target : goal.returns-in_err-target
unfolding chain
returns-in_err-target c =
    c.from_residual-in_err-target.ensures
    ∙ rw (← c.in_ok-start.ensures, ← c.in_err-target.ensures) at (parse_is c.args.input.now)

pub returns-in_err-time : goal.returns-in_err-time
unfolding chain
returns-in_err-time c =
    c.from_residual-in_err-time.ensures
    ∙ rw (
      ← c.in_ok-start.ensures,
      ← c.in_ok-target.ensures,
      ← c.in_err-time.ensures,
    ) at (parse_is c.args.input.now)

pub returns-in_err-limit : goal.returns-in_err-limit
unfolding chain
returns-in_err-limit c =
    c.from_residual-in_err-limit.ensures
    ∙ rw (
      ← c.in_ok-start.ensures,
      ← c.in_ok-target.ensures,
      ← c.in_ok-time.ensures,
      ← c.in_err-limit.ensures,
    ) at (parse_is c.args.input.now)

pub returns-in_err-budget : goal.returns-in_err-budget
unfolding chain
returns-in_err-budget c =
    c.from_residual-in_err-budget.ensures
    ∙ rw (
      ← c.in_ok-start.ensures,
      ← c.in_ok-target.ensures,
      ← c.in_ok-time.ensures,
      ← c.in_ok-limit.ensures,
      ← c.in_err-budget.ensures,
    ) at (parse_is c.args.input.now)

pub returns-then-long : goal.returns-then-long
unfolding chain
returns-then-long c =
    rw (
      ← c.in_ok-start.ensures,
      ← c.in_ok-target.ensures,
      ← c.in_ok-time.ensures,
      ← c.in_ok-limit.ensures,
      ← c.in_ok-budget.ensures,
      lt-leb _ _ c.if-long.true,
    ) at (parse_is c.args.input.now)

pub returns : goal.returns
unfolding chain
returns c =
    rw (
      ← c.in_ok-start.ensures,
      ← c.in_ok-target.ensures,
      ← c.in_ok-time.ensures,
      ← c.in_ok-limit.ensures,
      ← c.in_ok-budget.ensures,
      le-leb _ _ c.if-long.false,
    ) at (parse_is c.args.input.now)
