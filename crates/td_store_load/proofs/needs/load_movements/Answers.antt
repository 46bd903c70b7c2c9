use Rattle.std.proofs.Common.{◌∙◌, sym}
use Rattle.td_store_load.proofs.needs.load_movements.Goals as goal

pub returns-clause-loaded : goal.returns-clause-loaded
returns-clause-loaded g c clean content holds at row = record {
  country = c.row_alone-loaded.ensures.country ∙ sym at;
  holder = c.row_alone-loaded.ensures.row ∙ sym row;
  things = c.in_ok-listed.ensures.found clean content holds row;
}
