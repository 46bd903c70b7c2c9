-- A holder's book: what was kept at the start, and the changes that were accepted since. Everything that a
-- desk says of the holder is read from the book alone, from its beginning, in passes in which a later act
-- overrides what earlier ones said.
use Rattle.std.specs.Prelude.{ℕ, ◌+◌, List, [], ◌∷◌, ◌++◌, map, Option}
use Rattle.std.specs.Option.{option_map, option_map_or, option_or}
use Rattle.td_model.specs.declared.holder_row.HolderRow.{HolderRow}
use Rattle.td_guarantee.specs.declared.guarantee.Guarantee.{Guarantee}
use Rattle.td_movement.specs.declared.movement.Movement.{Movement}
use Rattle.td_commands.specs.declared.command.Command.{Command}
use Rattle.td_model.specs.Account.{Account}
use Rattle.td_model.specs.Effects.{eori_given, openings, declarations, opened_by, declared_by, guarantee_said, movement_said}

-- an accepted change and its moment
pub record Act : Type 0 where
  pub at : ℕ
  pub command : Command

pub record Book : Type 0 where
  pub opening : Account
  pub acts : List Act

-- that EORI, else the one known before
abbrev pub eori_after : Option (List ℕ) → Command → Option (List ℕ)
eori_after known command = option_or (eori_given command) known

-- the holder's EORI after all acts: none where nobody was registered
abbrev pub eori_in : Option (List ℕ) → List Act → Option (List ℕ)
eori_in known [] = known
eori_in known (a ∷ acts) = eori_in (eori_after known a.command) acts

-- the moment of the last act
abbrev pub last_in : ℕ → List Act → ℕ
last_in at [] = at
last_in at (a ∷ acts) = last_in a.at acts

-- the serial that is reached after all acts, where each act uses up so many
abbrev pub serial_in : (Command → ℕ) → ℕ → List Act → ℕ
serial_in uses n [] = n
serial_in uses n (a ∷ acts) = serial_in uses (n + uses a.command) acts

-- The rows after all acts, where n serials are used before: each act says anew what it says of the rows before it,
-- and what it makes stands behind them.
abbrev pub rows_after_acts : {R : Type 0} → (ℕ → Command → R → R) → (ℕ → ℕ → Command → List R) → (Command → ℕ)
    → ℕ → List R → List Act → List R
rows_after_acts said made uses n rows [] = rows
rows_after_acts said made uses n rows (a ∷ acts) =
    rows_after_acts said made uses (n + uses a.command) (map (said a.at a.command) rows ++ made n a.at a.command) acts

abbrev pub eori_of : Book → Option (List ℕ)
eori_of book = eori_in (option_map (λ (r : HolderRow). r.eori) book.opening.holder) book.acts

-- the moment of the holder's last accepted change
abbrev pub last_of : Book → ℕ
last_of book = last_in (option_map_or (λ (r : HolderRow). r.last_at) book.opening.holder 0) book.acts

-- the last serials at the start
abbrev pub grn_count_before : Book → ℕ
grn_count_before book = option_map_or (λ (r : HolderRow). r.grn_count) book.opening.holder 0

abbrev pub mrn_count_before : Book → ℕ
mrn_count_before book = option_map_or (λ (r : HolderRow). r.mrn_count) book.opening.holder 0

-- the last serial of the holder's guarantees
abbrev pub grn_count_of : Book → ℕ
grn_count_of book = serial_in openings (grn_count_before book) book.acts

-- the last serial of the holder's movements
abbrev pub mrn_count_of : Book → ℕ
mrn_count_of book = serial_in declarations (mrn_count_before book) book.acts

-- guarantee n: that of the start, else the n-th opening
abbrev pub guarantees_of : ℕ → Book → List Guarantee
guarantees_of H book =
    rows_after_acts guarantee_said (opened_by book.opening.country H) openings
    (grn_count_before book) book.opening.guarantees book.acts

-- movement n: that of the start, else the n-th declaration, in the state that the last act naming it says
abbrev pub movements_of : ℕ → Book → List Movement
movements_of H book =
    rows_after_acts movement_said (declared_by book.opening.country H) declarations
    (mrn_count_before book) book.opening.movements book.acts

-- the account of these parts
abbrev pub account_made : ℕ → List ℕ → Option (List ℕ) → ℕ → ℕ → ℕ → List Guarantee → List Movement → Account
account_made H country eori at grns mrns guarantees movements = record {
  country = country;
  holder =
      option_map (λ e. record { holder = H; eori = e; last_at = at; grn_count = grns; mrn_count = mrns }) eori;
  guarantees = guarantees;
  movements = movements;
}

-- what the book says of holder H
abbrev pub account_of : ℕ → Book → Account
account_of H book =
    account_made H book.opening.country (eori_of book) (last_of book) (grn_count_of book)
    (mrn_count_of book) (guarantees_of H book) (movements_of H book)

-- the book that begins with an account
abbrev pub fresh_book : Account → Book
fresh_book account = record { opening = account; acts = [] }
