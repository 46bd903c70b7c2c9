use Rattle.td_time.proofs.DayTexts.{date_is_ascii}
use Rattle.td_time.proofs.day.DayDisplay.fmt.Goals as goal

pub write_ascii-requires : goal.write_ascii-requires
write_ascii-requires g c =
    let civil = c.civil_of-civil.result in
    rw c.text_of-text.ensures (date_is_ascii civil.year civil.month civil.day)
