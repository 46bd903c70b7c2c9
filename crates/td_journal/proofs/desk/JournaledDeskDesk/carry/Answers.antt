use Rattle.std.proofs.Common.{inl, ◌∙◌, rules}
use Rattle.td_journal.proofs.desk.JournaledDeskDesk.carry.Goals as goal

pub returns-in_default-write_behind-clause-call : goal.returns-in_default-write_behind-clause-call
returns-in_default-write_behind-clause-call g c = record {
  text = c.cut-is_cut.ensures.text ∙ c.write_behind.ensures.text;
  next = c.cut-is_cut.ensures.next ∙ c.write_behind.ensures.next;
  tight = λ opened. c.cut-is_cut.ensures.tight (search rules);
  durable = λ opened. c.cut-is_cut.ensures.durable (search rules);
  safe = λ safe. c.cut-is_cut.ensures.safe (c.write_behind.ensures.safe safe);
  store = λ is. search rules;
  ahead = λ clean live bytes x may left. inl ((c.requires.settled clean live).only x left);
}
