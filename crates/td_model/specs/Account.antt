-- What a desk keeps of one holder: the model's only view of the records.
use Rattle.std.specs.Prelude.{◌≡◌, ◌≢◌, ℕ, List, [], AllPairs, Option, None, IfSome, find, if◌then◌else◌}
use Rattle.std.specs.Option.{option_map, option_map_or}
use Rattle.std.specs.Str.{bytes_eq}
use Rattle.td_model.specs.declared.holder_row.HolderRow.{HolderRow}
use Rattle.td_guarantee.specs.declared.guarantee.Guarantee.{Guarantee}
use Rattle.td_guarantee.specs.Codes.{with_code, without_code}
use Rattle.td_guarantee.specs.Usage.{used_on}
use Rattle.td_movement.specs.declared.movement.Movement.{Movement}

-- the desk's country, the holder's row if the holder is registered, and the holder's guarantees and
-- movements by serial
pub record Account : Type 0 where
  pub country : List ℕ
  pub holder : Option HolderRow
  pub guarantees : List Guarantee
  pub movements : List Movement

-- nothing is kept: the account of a number that isn't registered, and of a command that nobody owns
abbrev pub empty_account : List ℕ → Account
empty_account country = record { country = country; holder = None; guarantees = []; movements = [] }

-- a registered holder's row, and the holder's own guarantees and movements by serial
pub record HolderRows : Type 0 where
  pub row : HolderRow
  pub guarantees : List Guarantee
  pub movements : List Movement

-- the number under which they stand: the holder's own
abbrev pub holder_key : HolderRows → ℕ
holder_key h = h.row.holder

-- the account of a holder with these rows, or of a number that isn't registered
abbrev pub account_with : List ℕ → Option HolderRows → Account
account_with country found = record {
  country = country;
  holder = option_map (λ (h : HolderRows). h.row) found;
  guarantees = option_map_or (λ (h : HolderRows). h.guarantees) found [];
  movements = option_map_or (λ (h : HolderRows). h.movements) found [];
}

-- the row is that of that number
pub record IsAccountOf (H : ℕ) (account : Account) : Type 0 where
  pub number : IfSome account.holder (λ row. row.holder ≡ H)

-- no two guarantees have one GRN, and no two movements one MRN
pub record ReferencesDiffer (account : Account) : Type 0 where
  pub grns : AllPairs (λ a b. a.grn ≢ b.grn) account.guarantees
  pub mrns : AllPairs (λ a b. a.mrn ≢ b.mrn) account.movements

-- the guarantee with exactly this GRN
abbrev pub guarantee_by_grn : List ℕ → List Guarantee → Option Guarantee
guarantee_by_grn grn guarantees = find (λ g. bytes_eq g.grn grn) guarantees

-- the guarantee with exactly this GRN, and the amount in use on it
abbrev pub entry_in : Account → List ℕ → Option (Guarantee × ℕ)
entry_in account grn =
    option_map (λ g. (g, used_on g.grn account.movements)) (guarantee_by_grn grn account.guarantees)

-- the movement with exactly this MRN
abbrev pub movement_by_mrn : List ℕ → List Movement → Option Movement
movement_by_mrn mrn movements = find (λ m. bytes_eq m.mrn mrn) movements

-- the movement with this LRN
abbrev pub movement_by_lrn : List ℕ → List Movement → Option Movement
movement_by_lrn lrn movements = find (λ m. bytes_eq m.lrn lrn) movements

-- what is made of the guarantee with this GRN; any other stays as it is
abbrev pub at_grn : List ℕ → (Guarantee → Guarantee) → Guarantee → Guarantee
at_grn grn made g = if bytes_eq g.grn grn then made g else g

-- what is made of the movement with this MRN; any other stays as it is
abbrev pub at_mrn : List ℕ → (Movement → Movement) → Movement → Movement
at_mrn mrn made m = if bytes_eq m.mrn mrn then made m else m

-- a guarantee with one access code more, and with one less
abbrev pub coded : List ℕ → Guarantee → Guarantee
coded code g = record g { codes = with_code code g.codes }

abbrev pub uncoded : List ℕ → Guarantee → Guarantee
uncoded code g = record g { codes = without_code code g.codes }
