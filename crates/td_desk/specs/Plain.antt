-- The plain desk's rows.
use Rattle.td_desk.specs.declared.plain.PlainDesk.{PlainDesk}
use Rattle.td_model.specs.Content.{Content}

abbrev pub plain_content : PlainDesk → Content
plain_content d = record { country = d.country; holders = d.holders.items }
