-- What one more accepted change does to what a book says.
use Rattle.std.proofs.Common.{◌≡◌, ℕ, ◌+◌, Bool, true, false, List, [], ◌∷◌, ◌++◌, map, Option, Some, None, refl, sym, ◌∙◌, ap, subst, append_assoc}
use Rattle.std.proofs.lemmas.List.{append-nil}
use Rattle.std.specs.Prelude.{IfSome, if◌then◌else◌}
use Rattle.std.specs.Option.{option_map, option_or}
use Rattle.td_base.specs.Days.{moment_of}
use Rattle.td_model.specs.declared.holder_row.HolderRow.{HolderRow}
use Rattle.td_guarantee.specs.declared.guarantee.Guarantee.{Guarantee}
use Rattle.td_movement.specs.declared.movement.Movement.{Movement}
use Rattle.td_commands.specs.declared.command.Command.{Command}
use Rattle.td_commands.specs.declared.command.Stamped.{Stamped}
use Rattle.td_model.specs.declared.change.Change.TheVariants as change
use Rattle.td_model.specs.Account.{Account, IsAccountOf, ReferencesDiffer}
use Rattle.td_model.specs.Book.{Book, Act, eori_after, eori_in, last_in, serial_in, rows_after_acts, eori_of, last_of, grn_count_before, mrn_count_before, grn_count_of, mrn_count_of, guarantees_of, movements_of, account_made, account_of, fresh_book}
use Rattle.td_model.specs.Effects.{eori_given, guarantee_said, movement_said, openings, declarations, opened_by, declared_by}
use Rattle.td_commands.specs.Commands.{owner_of}
use Rattle.td_model.specs.Machine.{is_accepted_at, appended, book_after, book_after_at, AreAccepted, IsGrown}
use Rattle.td_model.specs.Changes.{account_after}
use Rattle.td_acts.specs.Deciding.{decision_on, change_in, change_of}
use Rattle.td_acts.proofs.EachCommand.{accepted_unregistered, step_made}

-- the EORI after one more act
eori_in-append : (known : Option (List ℕ)) (acts : List Act) (a : Act) → eori_in known (acts ++ a ∷ []) ≡ eori_after (eori_in known acts) a.command
eori_in-append known [] a = refl
eori_in-append known (b ∷ acts) a = eori_in-append (eori_after known b.command) acts a

-- the last moment is that of the last act
last_in-append : (at : ℕ) (acts : List Act) (a : Act) → last_in at (acts ++ a ∷ []) ≡ a.at
last_in-append at [] a = refl
last_in-append at (b ∷ acts) a = last_in-append b.at acts a

-- one more act uses up its serials
serial_in-append : (uses : Command → ℕ) (n : ℕ) (acts : List Act) (a : Act) → serial_in uses n (acts ++ a ∷ []) ≡ serial_in uses n acts + uses a.command
serial_in-append uses n [] a = refl
serial_in-append uses n (b ∷ acts) a = serial_in-append uses (n + uses b.command) acts a

-- one more act says its own of all rows before, and what it makes stands behind them
rows_in-append : {R : Type 0} (said : ℕ → Command → R → R) (made : ℕ → ℕ → Command → List R) (uses : Command → ℕ) (n : ℕ) (rows : List R) (acts : List Act) (a : Act)
    → rows_after_acts said made uses n rows (acts ++ a ∷ []) ≡ map (said a.at a.command) (rows_after_acts said made uses n rows acts) ++ made (serial_in uses n acts) a.at a.command
rows_in-append said made uses n rows [] a = refl
rows_in-append said made uses n rows (b ∷ acts) a = rows_in-append said made uses (n + uses b.command) (map (said b.at b.command) rows ++ made n b.at b.command) acts a

-- what the book with one more act says
account_of-appended : (H : ℕ) (book : Book) (t : ℕ) (command : Command) → account_of H (appended book t command)
    ≡ account_made H book.opening.country (eori_after (eori_of book) command) t (grn_count_of book + openings command) (mrn_count_of book + declarations command)
    (map (guarantee_said t command) (guarantees_of H book) ++ opened_by book.opening.country H (grn_count_of book) t command)
    (map (movement_said t command) (movements_of H book) ++ declared_by book.opening.country H (mrn_count_of book) t command)
account_of-appended H book t command =
    let a : Act = record { at = t; command = command } in
    let country = book.opening.country in
    rw (
      eori_in-append _ book.acts a,
      last_in-append _ book.acts a,
      serial_in-append openings _ book.acts a,
      serial_in-append declarations _ book.acts a,
      rows_in-append guarantee_said (opened_by country H) openings (grn_count_before book) book.opening.guarantees book.acts a,
      rows_in-append movement_said (declared_by country H) declarations (mrn_count_before book) book.opening.movements book.acts a,
    ) refl

-- a book in which nobody is registered is empty
abbrev IsBegun : Book → Type 0
IsBegun book = eori_of book ≡ None → (book.acts ≡ []) × (book.opening.holder ≡ None)

-- who isn't registered has used no serial
none_used : (book : Book) → IsBegun book → eori_of book ≡ None → (grn_count_of book ≡ 0) × (mrn_count_of book ≡ 0)
none_used book begun none = let h = begun none in (rw (h.0, h.1) refl, rw (h.0, h.1) refl)

-- what the book with an accepted command says is the account with the rows of the command
account_step : (H : ℕ) (book : Book) (t : ℕ) (command : Command) → IsBegun book → owner_of book.opening.country command ≡ Some H
    → is_accepted_at (account_of H book) t command ≡ true → account_of H (appended book t command) ≡ account_after (change_of (account_of H book) t command) (account_of H book)
account_step H book t command begun own accepted =
    account_of-appended H book t command
    ∙ step_made H book.opening.country (eori_of book) (last_of book) (grn_count_of book) (mrn_count_of book) t (guarantees_of H book) (movements_of H book) command (none_used book begun) own accepted

-- the same where there may be no moment
account_said_after_at : (H : ℕ) (book : Book) (m : Option ℕ) (command : Command) → IsBegun book → owner_of book.opening.country command ≡ Some H
    → account_of H (book_after_at H book m command) ≡ account_after (change_in m (account_of H book) command) (account_of H book)
account_said_after_at H book None command begun own = refl
account_said_after_at H book (Some t) command begun own = by_test (is_accepted_at (account_of H book) t command) refl
  where
    by_test : (b : Bool) → is_accepted_at (account_of H book) t command ≡ b → account_of H (if b then appended book t command else book) ≡ account_after (if b then change_of (account_of H book) t command else change.Nothing) (account_of H book)
    by_test true accepted = account_step H book t command begun own accepted
    by_test false other = refl

-- an EORI that is known stays known
known_still : (given : Option (List ℕ)) (e : List ℕ) → option_or given (Some e) ≡ None → ⊥
known_still None e none = cc
known_still (Some x) e none = cc

-- who changes something is registered then
registered_made : (H : ℕ) (country : List ℕ) (e : Option (List ℕ)) (at g m t : ℕ) (gs : List Guarantee) (ms : List Movement) (command : Command) → is_accepted_at (account_made H country e at g m gs ms) t command ≡ true → eori_after e command ≡ None → ⊥
registered_made H country None at g m t gs ms command accepted none =
    let r = accepted_unregistered country gs ms t command accepted in
    let given : eori_after None command ≡ Some r.1 = ap (eori_after None) r.2 in
    cc
registered_made H country (Some e) at g m t gs ms command accepted none = known_still (eori_given command) e none

-- a book stays begun
begun_step : (H : ℕ) (book : Book) (a : Act) → is_accepted_at (account_of H book) a.at a.command ≡ true → IsBegun (appended book a.at a.command)
begun_step H book a accepted = λ none.
    absurd (registered_made H book.opening.country (eori_of book) (last_of book) (grn_count_of book) (mrn_count_of book) a.at (guarantees_of H book) (movements_of H book) a.command accepted (sym (eori_in-append _ book.acts a) ∙ none))

-- the book with more acts
abbrev with_acts : Book → List Act → Book
with_acts book acts = record { opening = book.opening; acts = acts }

begun_on : (H : ℕ) (book : Book) (acts : List Act) → IsBegun book → AreAccepted H book acts → IsBegun (with_acts book (book.acts ++ acts))
begun_on H book [] begun accepted = subst (λ acts. IsBegun (with_acts book acts)) (sym (append-nil book.acts)) begun
begun_on H book (a ∷ acts) begun accepted =
    subst (λ acts. IsBegun (with_acts book acts)) (append_assoc book.acts (a ∷ []) acts) (begun_on H (appended book a.at a.command) acts (begun_step H book a accepted.1) accepted.2)

none_known : (o : Option HolderRow) → option_map (λ (r : HolderRow). r.eori) o ≡ None → o ≡ None
none_known None e = refl
none_known (Some r) e = cc

-- a book that has grown is empty where nobody is registered in it
begun_from_grown : (H : ℕ) (book : Book) → IsGrown H book → IsBegun book
begun_from_grown H book grown = begun_on H (fresh_book book.opening) book.acts (λ none. (refl, none_known book.opening.holder none)) grown

-- what the book says after a command is the account with what is written for it
pub account_said_after : (H : ℕ) (book : Book) (s : Stamped) → IsGrown H book → ReferencesDiffer (account_of H book) → owner_of book.opening.country s.command ≡ Some H
    → account_of H (book_after H book s) ≡ account_after (decision_on (account_of H book) s.at s.command).change (account_of H book)
account_said_after H book s grown differ own = account_said_after_at H book (moment_of s.at) s.command (begun_from_grown H book grown) own

-- one more act that was accepted
grown_on : (H : ℕ) (book : Book) (acts : List Act) (a : Act) → AreAccepted H book acts → owner_of book.opening.country a.command ≡ Some H
    → is_accepted_at (account_of H (with_acts book (book.acts ++ acts))) a.at a.command ≡ true → AreAccepted H book (acts ++ a ∷ [])
grown_on H book [] a before own accepted = (own, subst (λ acts. is_accepted_at (account_of H (with_acts book acts)) a.at a.command ≡ true) (append-nil book.acts) accepted, tt)
grown_on H book (b ∷ acts) a before own accepted = (
  before.0,
  before.1,
  grown_on H (appended book b.at b.command) acts a before.2 own
      (subst (λ acts. is_accepted_at (account_of H (with_acts book acts)) a.at a.command ≡ true) (sym (append_assoc book.acts (b ∷ []) acts)) accepted),
)

-- the same where there may be no moment
grown_after_at : (H : ℕ) (book : Book) (m : Option ℕ) (command : Command) → IsGrown H book → owner_of book.opening.country command ≡ Some H → IsGrown H (book_after_at H book m command)
grown_after_at H book None command grown own = grown
grown_after_at H book (Some t) command grown own = by_test (is_accepted_at (account_of H book) t command) refl
  where
    by_test : (b : Bool) → is_accepted_at (account_of H book) t command ≡ b → IsGrown H (if b then appended book t command else book)
    by_test true accepted = grown_on H (fresh_book book.opening) book.acts (record { at = t; command = command }) grown own accepted
    by_test false other = grown

-- a book goes on growing
pub grown_after : (H : ℕ) (book : Book) (s : Stamped) → IsGrown H book → owner_of book.opening.country s.command ≡ Some H → IsGrown H (book_after H book s)
grown_after H book s grown own = grown_after_at H book (moment_of s.at) s.command grown own

fresh_made : (H : ℕ) (country : List ℕ) (o : Option HolderRow) (gs : List Guarantee) (ms : List Movement) → IfSome o (λ row. row.holder ≡ H)
    → account_of H (fresh_book (record { country = country; holder = o; guarantees = gs; movements = ms })) ≡ record { country = country; holder = o; guarantees = gs; movements = ms }
fresh_made H country None gs ms is = refl
fresh_made H country (Some row) gs ms is = rw (← is) refl

-- a book that begins with an account says that account
pub account_fresh_book : (H : ℕ) (account : Account) → IsAccountOf H account → account_of H (fresh_book account) ≡ account
account_fresh_book H account is = fresh_made H account.country account.holder account.guarantees account.movements is.number
