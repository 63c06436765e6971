use Rattle.lettering.proofs.Puts.{along_start, along_step, along_end}
use borrow.Author.Rules.{rules}
use Rattle.answer_lines.proofs.put_entries.Goals as goal

pub loop-entry-init : goal.loop-entry-init
loop-entry-init c = along_start _ _ _ (search rules)

pub put_entry-requires : goal.put_entry-requires
put_entry-requires c =
    record { room = search rules; table = search rules; few = c.requires.few c.loop-entry.entry-index (search rules) }

pub loop-entry-preserved : goal.loop-entry-preserved
loop-entry-preserved c = along_step c.loop-entry.invariant (search rules) c.put_entry.ensures

pub returns : goal.returns
returns c = along_end 4275 c.loop-entry.invariant (search rules) (search rules)
