use mathlib.Core.Path.{sym, ◌∙◌}
use borrow.Author.Rules.{rules}
use native.Mathlib.Omega.{arith}
use Rattle.paper.specs.Lines.{is_digit}
use Rattle.question_line.proofs.Scanned.{scanned_end, scanned_stop, scanned_empty, scanned_other, scanned_large, scanned_step}
use Rattle.question_line.proofs.number_at.Goals as goal

pub returns-then-at-i : goal.returns-then-at-i
returns-then-at-i c = scanned_stop c.loop-i.invariant (search rules) c.if-byte-stop.true c.if-at-i.true

pub returns-else-at-i : goal.returns-else-at-i
returns-else-at-i c = scanned_empty c.loop-i.invariant (search rules) c.if-byte-stop.true c.if-at-i.false

pub returns-then-not-is_ascii_digit : goal.returns-then-not-is_ascii_digit
unfolding is_digit
returns-then-not-is_ascii_digit c =
    scanned_other c.loop-i.invariant (search rules) c.if-byte-stop.false
    (sym c.is_ascii_digit.ensures.value ∙ c.if-not-is_ascii_digit.true)

pub returns-in_err-checked_mul : goal.returns-in_err-checked_mul
returns-in_err-checked_mul c =
    c.from_residual.ensures
    ∙ scanned_large c.loop-i.invariant (search rules) c.if-byte-stop.false c.if-not-is_ascii_digit.ensures.cases
    (omega (arith, c.in_err-checked_mul.ensures))

pub returns-in_err-value : goal.returns-in_err-value
returns-in_err-value c =
    c.from_residual-in_err-value.ensures
    ∙ scanned_large c.loop-i.invariant (search rules) c.if-byte-stop.false c.if-not-is_ascii_digit.ensures.cases
    (omega (arith, c.in_err-value.ensures, c.in_ok-checked_mul.ensures, c.from-digit.ensures))

pub loop-i-preserved : goal.loop-i-preserved
loop-i-preserved c =
    scanned_step c.loop-i.invariant (search rules) c.if-byte-stop.false c.if-not-is_ascii_digit.ensures.cases
    (omega (arith, c.in_ok-value.ensures, c.in_ok-checked_mul.ensures, c.from-digit.ensures))
    (omega (arith, c.in_ok-value.ensures))

pub returns : goal.returns
returns c = scanned_end c.loop-i.invariant (search rules)
