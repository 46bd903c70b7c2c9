-- When the fields of a row are in the ranges that they are read in, row by row. What a rule asks beside that, of the whole of a
-- holder's rows, stands with the rules: that a GRN or an MRN is that of its row, that a reference amount isn't nothing, the
-- days of a state, the numbers and the amounts of lines.
use Rattle.std.specs.Prelude.{ℕ, ◌<◌, ◌^◌, List, IfSome}
use Rattle.td_base.specs.Codes.{IsAccessCode, IsLrn, IsOfficeNo, IsHolderNumber}
use Rattle.td_base.specs.References.{IsGrn, IsMrn}
use Rattle.td_money.specs.Money.{IsCents, IsCover}
use Rattle.td_time.specs.Days.{IsDay}
use Rattle.td_guarantee.specs.declared.guarantee.Guarantee.{Guarantee}
use Rattle.td_movement.specs.declared.movement.Movement.{Movement}
use Rattle.td_table_model.specs.Tables.{Keyed, LineCells}

-- the key begins with a holder's number and a serial of 32 bits
pub record HasKey {R : Type 0} (r : Keyed R) : Type 0 where
  pub holder : IsHolderNumber r.holder
  pub serial : r.serial < 2 ^ 32

-- a guarantee
pub record AreGuaranteeFields (g : Keyed Guarantee) : Type 0 where
  pub key : HasKey g
  pub grn : IsGrn g.row.grn
  pub reference : IsCents g.row.reference
  pub cover : IsCover g.row.cover
  pub ends : IfSome g.row.ends IsDay

-- a code
pub record AreCodeFields (c : Keyed (List ℕ)) : Type 0 where
  pub key : HasKey c
  pub code : IsAccessCode c.row

-- a movement
pub record AreMovementFields (m : Keyed Movement) : Type 0 where
  pub key : HasKey m
  pub mrn : IsMrn m.row.mrn
  pub lrn : IsLrn m.row.lrn
  pub departure : IsOfficeNo m.row.departure
  pub destination : IsOfficeNo m.row.destination
  pub accepted : IsDay m.row.accepted
  pub limit : IfSome m.row.limit IsDay
  pub arrival : IfSome m.row.arrival IsDay
  pub actual : IfSome m.row.actual IsOfficeNo

-- a line
pub record AreLineFields (l : Keyed LineCells) : Type 0 where
  pub key : HasKey l
  pub no : l.row.no < 2 ^ 32
  pub guarantee : l.row.guarantee < 2 ^ 32
  pub cents : IsCents l.row.cents
