-- `answer_lines::put_answer` meets its contract, by the verdict.
use native.Mathlib.Omega.{arith}
use Rattle.answer_lines.proofs.Prints.{put_answered, put_refusal}
use Rattle.answer_lines.proofs.put_answer.Goals as goal

pub returns-in-Ok : goal.returns-in-Ok
returns-in-Ok c =
    put_answered _ _ c.in-Ok.is (omega (arith, c.requires.nine)) c.put_journeys.ensures c.put_entries.ensures

pub returns-in-Err : goal.returns-in-Err
returns-in-Err c = put_refusal _ _ c.in-Err.is c.put_refused.ensures
