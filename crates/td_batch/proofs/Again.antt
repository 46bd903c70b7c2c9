-- A declaration that is sent again: it isn't accepted once more, and what was answered to it is answered again.
use Rattle.std.proofs.Common.{◌≡◌, ◌⊎◌, inl, inr, ℕ, ℤ, ◌+◌, ◌≤◌, Bool, true, false, List, [], ◌∷◌, ◌++◌, map, Option, Some, None, refl, sym, ◌∙◌, ap, subst, arith}
use Rattle.std.proofs.lemmas.Bool.{eq-eqb}
use Rattle.std.proofs.lemmas.Bool.Decides.{nat_tests}
use Rattle.std.proofs.lemmas.List.{append-nil, map-append}
use Rattle.std.proofs.lemmas.List.Folds.{find-append}
use Rattle.std.proofs.lemmas.Slice.Eq.{bytes_eq-Decides}
use Rattle.std.specs.Prelude.{if◌then◌else◌, nat_le, nat_lt}
use Rattle.std.specs.Option.{option_map, option_or}
use Rattle.std.specs.List.{AllByRecursion}
use Rattle.std.specs.Str.{bytes_eq}
use Rattle.std.specs.Cmp.Lexicographic.{pointwise}
use Rattle.td_base.specs.Days.{day_of_moment, moment_of}
use Rattle.td_base.specs.References.{mrn_text}
use Rattle.td_movement.specs.declared.line.Line.{Line}
use Rattle.td_movement.specs.declared.movement.Movement.{Movement}
use Rattle.td_commands.specs.Lines.{line_of}
use Rattle.td_commands.specs.Commands.{owner_of}
use Rattle.td_commands.specs.declared.command.Command.{Command}
use Rattle.td_commands.specs.declared.command.Command.TheVariants.{Register, OpenGuarantee, Amend, Revoke, AddCode, RemoveCode, Ie015, Ie014, Ie029, Ie007, Ie018, Ie045, Ie140, SeeHolder, SeeMovement, SeeMovements, SeeGuarantee, SeeGuarantees}
use Rattle.td_commands.specs.declared.command.Stamped.{Stamped}
use Rattle.td_commands.specs.declared.said.Answer.{Answer}
use Rattle.td_commands.specs.declared.said.Answer.TheVariants as answer
use Rattle.td_commands.specs.declared.said.Refusal.{Refusal}
use Rattle.td_commands.specs.declared.said.Refusal.TheVariants.{ClockBack, LrnUsed, SerialsSpent}
use Rattle.td_commands.specs.declared.said.Said.TheVariants.{Answered, Refused}
use Rattle.td_model.specs.Account.{Account, movement_by_lrn}
use Rattle.td_model.specs.Book.{Book, Act, eori_after, eori_in, serial_in, rows_after_acts, grn_count_before, mrn_count_before, eori_of, last_of, grn_count_of, mrn_count_of, guarantees_of, movements_of, account_made, account_of}
use Rattle.td_model.specs.Declaring.{has_contents, first_refusal, is_same_line}
use Rattle.td_model.specs.Effects.{eori_given, guarantee_said, movement_said, openings, declarations, opened_by, declared_by, year2_at, greatest_mrn_given, new_movement}
use Rattle.td_model.specs.Table.{said_at, said_in, if_lrn_new, if_not_refused}
use Rattle.td_model.specs.Machine.{is_accepted_at, is_accepted_in, is_accepted, verdict, appended, book_after_at, book_after, machine_book}
use Rattle.td_acts.proofs.Accepted.{lodged_facts}
use Rattle.td_model.proofs.Joined.{AllByRecursion-map, AllByRecursion-weaker}
use Rattle.td_model.proofs.Steps.{map-id}
use Rattle.td_batch_rows.specs.Declarations.{IsDeclaration}
use Rattle.td_batch.specs.Runs.{at_moment}
use Rattle.td_batch.specs.Again.{IsDeclaredAt}

-- ---- declarations

-- the parts of one
record Parts : Type 0 where
  holder : ℕ
  lrn : List ℕ
  departure : List ℕ
  destination : List ℕ
  lines : List (Line × List ℕ)

abbrev ie015 : Parts → Command
ie015 p = Ie015 p.holder p.lrn p.departure p.destination p.lines

-- the lines of its movement
abbrev its_lines : Parts → List Line
its_lines p = map line_of p.lines

-- the movement of this LRN has its contents
abbrev is_repeat : Parts → Movement → Bool
is_repeat p m = has_contents p.departure p.destination (its_lines p) m

-- what holds of every Ie015 holds of a declaration
declaration_is : (P : Command → Type 0) → ((p : Parts) → P (ie015 p)) → (d : Command) → IsDeclaration d → P d
declaration_is P each (Ie015 holder lrn departure destination lines) is =
    each (record { holder = holder; lrn = lrn; departure = departure; destination = destination; lines = lines })
declaration_is P each (Register _ _) is = absurd is
declaration_is P each (OpenGuarantee _ _ _ _) is = absurd is
declaration_is P each (Amend _ _ _) is = absurd is
declaration_is P each (Revoke _) is = absurd is
declaration_is P each (Ie014 _ _) is = absurd is
declaration_is P each (AddCode _ _ _) is = absurd is
declaration_is P each (RemoveCode _ _ _) is = absurd is
declaration_is P each (Ie029 _ _) is = absurd is
declaration_is P each (Ie007 _ _) is = absurd is
declaration_is P each (Ie018 _ _) is = absurd is
declaration_is P each (Ie045 _ _) is = absurd is
declaration_is P each (Ie140 _) is = absurd is
declaration_is P each (SeeHolder _) is = absurd is
declaration_is P each (SeeMovement _ _) is = absurd is
declaration_is P each (SeeMovements _) is = absurd is
declaration_is P each (SeeGuarantee _ _) is = absurd is
declaration_is P each (SeeGuarantees _) is = absurd is

-- ---- what a book says after one act more

eori_in-append : (known : Option (List ℕ)) (acts : List Act) (a : Act)
    → eori_in known (acts ++ a ∷ []) ≡ eori_after (eori_in known acts) a.command
eori_in-append known [] a = refl
eori_in-append known (b ∷ acts) a = eori_in-append (eori_after known b.command) acts a

serial_in-append : (uses : Command → ℕ) (n : ℕ) (acts : List Act) (a : Act)
    → serial_in uses n (acts ++ a ∷ []) ≡ serial_in uses n acts + uses a.command
serial_in-append uses n [] a = refl
serial_in-append uses n (b ∷ acts) a = serial_in-append uses (n + uses b.command) acts a

rows_in-append : {R : Type 0} (said : ℕ → Command → R → R) (made : ℕ → ℕ → Command → List R) (uses : Command → ℕ) (n : ℕ) (rows : List R)
    (acts : List Act) (a : Act) → rows_after_acts said made uses n rows (acts ++ a ∷ [])
    ≡ map (said a.at a.command) (rows_after_acts said made uses n rows acts) ++ made (serial_in uses n acts) a.at a.command
rows_in-append said made uses n rows [] a = refl
rows_in-append said made uses n rows (b ∷ acts) a =
    rows_in-append said made uses (n + uses b.command) (map (said b.at b.command) rows ++ made n b.at b.command) acts a

module _ (H : ℕ) (book : Book) (t : ℕ) (command : Command) where
  eori_with : eori_of (appended book t command) ≡ eori_after (eori_of book) command
  eori_with = eori_in-append _ book.acts (record { at = t; command = command })

  mrn_count_with : mrn_count_of (appended book t command) ≡ mrn_count_of book + declarations command
  mrn_count_with = serial_in-append declarations (mrn_count_before book) book.acts (record { at = t; command = command })

  guarantees_with : guarantees_of H (appended book t command)
      ≡ map (guarantee_said t command) (guarantees_of H book) ++ opened_by book.opening.country H (grn_count_of book) t command
  guarantees_with =
      rows_in-append guarantee_said (opened_by book.opening.country H) openings (grn_count_before book) book.opening.guarantees book.acts
      (record { at = t; command = command })

  movements_with : movements_of H (appended book t command)
      ≡ map (movement_said t command) (movements_of H book) ++ declared_by book.opening.country H (mrn_count_of book) t command
  movements_with =
      rows_in-append movement_said (declared_by book.opening.country H) declarations (mrn_count_before book) book.opening.movements book.acts
      (record { at = t; command = command })

  -- what is found by an LRN: among the movements before, or what the act makes
  found_with : (lrn : List ℕ) → movement_by_lrn lrn (movements_of H (appended book t command))
      ≡ option_or (movement_by_lrn lrn (map (movement_said t command) (movements_of H book)))
      (movement_by_lrn lrn (declared_by book.opening.country H (mrn_count_of book) t command))
  found_with lrn =
      ap (movement_by_lrn lrn) movements_with
      ∙ find-append (λ (m : Movement). bytes_eq m.lrn lrn) (map (movement_said t command) (movements_of H book))
      (declared_by book.opening.country H (mrn_count_of book) t command)

bytes_same : (xs : List ℕ) → bytes_eq xs xs ≡ true
bytes_same xs = (bytes_eq-Decides xs xs).1 refl

module _ (H t : ℕ) (book : Book) (p : Parts) where
  -- the MRN of a declaration of H's own
  abbrev next_mrn : List ℕ
  next_mrn = mrn_text (year2_at t) book.opening.country H (mrn_count_of book + 1)

  -- the movement that a declaration makes
  abbrev lodged_movement : Movement
  lodged_movement = new_movement next_mrn p.lrn p.departure p.destination (day_of_moment t) (its_lines p)

  -- what is found by an LRN after a declaration is what was found before, or the new movement
  found_before : (lrn : List ℕ) → movement_by_lrn lrn (movements_of H (appended book t (ie015 p)))
      ≡ option_or (movement_by_lrn lrn (movements_of H book)) (if bytes_eq p.lrn lrn then Some lodged_movement else None)
  found_before lrn =
      found_with H book t (ie015 p) lrn
      ∙ ap (λ ms. option_or (movement_by_lrn lrn ms) (if bytes_eq p.lrn lrn then Some lodged_movement else None)) (map-id (movements_of H book))

  -- under its own LRN one is found
  found_after : movement_by_lrn p.lrn (movements_of H (appended book t (ie015 p)))
      ≡ option_or (movement_by_lrn p.lrn (movements_of H book)) (Some lodged_movement)
  found_after =
      found_before p.lrn
      ∙ ap (λ (b : Bool). option_or (movement_by_lrn p.lrn (movements_of H book)) (if b then Some lodged_movement else None)) (bytes_same p.lrn)

-- ---- when a declaration is accepted

-- nothing refuses it at the moment, and its LRN is new
record IsLodged (H t : ℕ) (book : Book) (p : Parts) : Type 0 where
  eori : List ℕ
  registered : eori_of book ≡ Some eori
  clock : nat_lt t (last_of book) ≡ false
  fresh : movement_by_lrn p.lrn (movements_of H book) ≡ None
  left : nat_le greatest_mrn_given (mrn_count_of book) ≡ false
  fine : first_refusal (day_of_moment t) (guarantees_of H book) p.lines ≡ None

module _ (H t : ℕ) (book : Book) (p : Parts) where
  -- H's account, where this is the EORI
  abbrev with_eori : Option (List ℕ) → Account
  with_eori o =
      account_made H book.opening.country o (last_of book) (grn_count_of book) (mrn_count_of book) (guarantees_of H book) (movements_of H book)

  lodged : is_accepted_at (account_of H book) t (ie015 p) ≡ true → IsLodged H t book p
  lodged accepted = by_eori (eori_of book) refl accepted
    where
      by_eori : (o : Option (List ℕ)) → eori_of book ≡ o → is_accepted_at (with_eori o) t (ie015 p) ≡ true → IsLodged H t book p
      by_eori None none accepted = cc
      by_eori (Some e) is accepted =
          let h = lodged_facts (nat_lt t (last_of book)) (movement_by_lrn p.lrn (movements_of H book)) (is_repeat p)
          (nat_le greatest_mrn_given (mrn_count_of book)) (first_refusal (day_of_moment t) (guarantees_of H book) p.lines)
          (answer.Ie028 p.lrn (mrn_text (year2_at t) book.opening.country p.holder (mrn_count_of book + 1))) accepted in
          record { eori = e; registered = is; clock = h.0; fresh = h.1; left = h.2; fine = h.3 }

  accepted_if : IsLodged H t book p → is_accepted_at (account_of H book) t (ie015 p) ≡ true
  accepted_if is = rw (is.registered, is.clock, is.fresh, is.left, is.fine) refl

-- ---- at the same moment

-- A book to which another came by declarations at moment t: what can be declared then over the later book can be declared over the earlier one.
record ComesAfter (H t : ℕ) (old new : Book) : Type 0 where
  eori : eori_of new ≡ eori_of old
  clock : nat_lt t (last_of new) ≡ false → nat_lt t (last_of old) ≡ false
  known : (lrn : List ℕ) → movement_by_lrn lrn (movements_of H new) ≡ None → movement_by_lrn lrn (movements_of H old) ≡ None
  left : mrn_count_of old ≤ mrn_count_of new
  guarantees : guarantees_of H new ≡ guarantees_of H old

lodged_before : (H t : ℕ) (old new : Book) (p : Parts) → ComesAfter H t old new → IsLodged H t new p → IsLodged H t old p
lodged_before H t old new p after is = record {
  eori = is.eori;
  registered = sym after.eori ∙ is.registered;
  clock = after.clock is.clock;
  fresh = after.known p.lrn is.fresh;
  left = (let here = is.left in let more = after.left in grind (arith, nat_tests));
  fine = ap (λ gs. first_refusal (day_of_moment t) gs p.lines) (sym after.guarantees) ∙ is.fine;
}

same_book : (H t : ℕ) (book : Book) → ComesAfter H t book book
same_book H t book = record { eori = refl; clock = λ h. h; known = λ l h. h; left = omega arith; guarantees = refl }

comes_later : (H t : ℕ) (old mid new : Book) → ComesAfter H t old mid → ComesAfter H t mid new → ComesAfter H t old new
comes_later H t old mid new a b = record {
  eori = b.eori ∙ a.eori;
  clock = λ h. a.clock (b.clock h);
  known = λ l h. a.known l (b.known l h);
  left = (let x = a.left in let y = b.left in omega arith);
  guarantees = b.guarantees ∙ a.guarantees;
}

-- what is found in neither part isn't found in the first
none_before : {X : Type 0} (a b : Option X) → option_or a b ≡ None → a ≡ None
none_before None b is = refl
none_before (Some x) b is = cc

-- what stands in the second part is found
some_in : {X : Type 0} (a : Option X) (x : X) → option_or a (Some x) ≡ None → ⊥
some_in None x is = cc
some_in (Some y) x is = cc

module _ (H t : ℕ) (book : Book) (p : Parts) where
  lodged_comes : nat_lt t (last_of book) ≡ false → ComesAfter H t book (appended book t (ie015 p))
  lodged_comes clock = record {
    eori = eori_with H book t (ie015 p);
    clock = λ _. clock;
    known = λ l none. none_before (movement_by_lrn l (movements_of H book)) _ (sym (found_before H t book p l) ∙ none);
    left = (let e = mrn_count_with H book t (ie015 p) in omega (arith, e));
    guarantees = guarantees_with H book t (ie015 p) ∙ append-nil _ ∙ map-id (guarantees_of H book);
  }

  -- a declaration is accepted, or the book stays
  declared_comes : (b : Bool) → is_accepted_at (account_of H book) t (ie015 p) ≡ b
      → ComesAfter H t book (if b then appended book t (ie015 p) else book)
  declared_comes true accepted = lodged_comes (lodged H t book p accepted).clock
  declared_comes false other = same_book H t book

  -- what was accepted isn't accepted over what comes after it
  not_lodged : (b : Bool) → is_accepted_at (account_of H book) t (ie015 p) ≡ b → (new : Book)
      → ComesAfter H t (if b then appended book t (ie015 p) else book) new → IsLodged H t new p → ⊥
  not_lodged true first new after end =
      some_in (movement_by_lrn p.lrn (movements_of H book)) (lodged_movement H t book p) (sym (found_after H t book p) ∙ after.known p.lrn end.fresh)
  not_lodged false first new after end = let again = accepted_if H t book p (lodged_before H t book new p after end) in cc

  not_again : (new : Book) → ComesAfter H t (book_after_at H book (Some t) (ie015 p)) new
      → (b : Bool) → is_accepted_at (account_of H new) t (ie015 p) ≡ b → b ≡ false
  not_again new after true end =
      absurd (not_lodged (is_accepted_at (account_of H book) t (ie015 p)) refl new after (lodged H t new p end))
  not_again new after false end = refl

one_comes : (H t : ℕ) (book : Book) (d : Command) → IsDeclaration d → ComesAfter H t book (book_after_at H book (Some t) d)
one_comes H t book =
    declaration_is (λ d. ComesAfter H t book (book_after_at H book (Some t) d))
    (λ p. declared_comes H t book p (is_accepted_at (account_of H book) t (ie015 p)) refl)

-- the book after declarations at a moment that the clock shows
all_come : (H t : ℕ) (at : ℤ) (book : Book) (list : List Stamped) → moment_of at ≡ Some t → AllByRecursion (IsDeclaredAt at) list
    → ComesAfter H t book (machine_book H book list)
all_come H t at book [] shown are = same_book H t book
all_come H t at book (s ∷ list) shown are =
    let next : ComesAfter H t book (book_after H book s) =
    subst (λ m. ComesAfter H t book (book_after_at H book m s.command)) (sym (ap moment_of are.0.0 ∙ shown))
    (one_comes H t book s.command are.0.1) in
    comes_later H t book (book_after H book s) (machine_book H book (s ∷ list)) next (all_come H t at (book_after H book s) list shown are.1)

not_accepted_at : (H t : ℕ) (book new : Book) (d : Command) → IsDeclaration d → ComesAfter H t (book_after_at H book (Some t) d) new
    → is_accepted_at (account_of H new) t d ≡ false
not_accepted_at H t book new =
    declaration_is (λ d. ComesAfter H t (book_after_at H book (Some t) d) new → is_accepted_at (account_of H new) t d ≡ false)
    (λ p after. not_again H t book p new after (is_accepted_at (account_of H new) t (ie015 p)) refl)

-- where the clock shows no moment nothing is accepted
not_accepted_in : (H : ℕ) (book : Book) (at : ℤ) (d : Command) (after : List Stamped) (m : Option ℕ) → moment_of at ≡ m
    → IsDeclaration d → AllByRecursion (IsDeclaredAt at) after
    → is_accepted (account_of H (machine_book H (book_after H book (at_moment at d)) after)) at d ≡ false
not_accepted_in H book at d after None shown is are = rw shown refl
not_accepted_in H book at d after (Some t) shown is are =
    let first = book_after H book (at_moment at d) in
    let new = machine_book H first after in
    let comes : ComesAfter H t (book_after_at H book (Some t) d) new =
    subst (λ m. ComesAfter H t (book_after_at H book m d) new) shown (all_come H t at first after shown are) in
    subst (λ m. is_accepted_in m (account_of H new) d ≡ false) (sym shown) (not_accepted_at H t book new d is comes)

-- the book after a list, in two parts
machine_book-parts : (H : ℕ) (book : Book) (list more : List Stamped)
    → machine_book H book (list ++ more) ≡ machine_book H (machine_book H book list) more
machine_book-parts H book [] more = refl
machine_book-parts H book (s ∷ list) more = machine_book-parts H (book_after H book s) list more

-- A declaration that was sent is not accepted at the same moment again, where only declarations were sent at that moment since:
-- whatever was done before, and whether it was accepted when it came or not.
pub not_accepted_since : (H : ℕ) (book : Book) (at : ℤ) (before : List Stamped) (d : Command) (after : List Stamped)
    → IsDeclaration d → AllByRecursion (IsDeclaredAt at) after
    → is_accepted (account_of H (machine_book H book (before ++ at_moment at d ∷ after))) at d ≡ false
not_accepted_since H book at before d after is are =
    rw (machine_book-parts H book before (at_moment at d ∷ after))
    (not_accepted_in H (machine_book H book before) at d after (moment_of at) refl is are)

-- Sent again at once, at the same moment, no declaration of a list is accepted.
pub not_accepted_again : (H : ℕ) (book : Book) (at : ℤ) (before : List Command) (d : Command) (after : List Command)
    → IsDeclaration d → AllByRecursion IsDeclaration after
    → is_accepted (account_of H (machine_book H book (map (at_moment at) (before ++ d ∷ after)))) at d ≡ false
not_accepted_again H book at before d after is are =
    rw (map-append (at_moment at) before (d ∷ after))
    (not_accepted_since H book at (map (at_moment at) before) d (map (at_moment at) after) is
    (AllByRecursion-map (at_moment at) (IsDeclaredAt at) after (AllByRecursion-weaker IsDeclaration _ (λ c is. (refl, is)) after are)))

-- ---- at any later moment

-- two movements of one LRN, one MRN and the same contents
record IsSameMovement (m n : Movement) : Type 0 where
  lrn : n.lrn ≡ m.lrn
  mrn : n.mrn ≡ m.mrn
  departure : n.departure ≡ m.departure
  destination : n.destination ≡ m.destination
  lines : n.lines ≡ m.lines

same_movement : (m : Movement) → IsSameMovement m m
same_movement m = record { lrn = refl; mrn = refl; departure = refl; destination = refl; lines = refl }

same_at : (b : Bool) (m n : Movement) → IsSameMovement m n → IsSameMovement m (if b then n else m)
same_at true m n same = same
same_at false m n same = same_movement m

-- no act says anything of these parts
same_said : (t : ℕ) (command : Command) (m : Movement) → IsSameMovement m (movement_said t command m)
same_said t (Ie014 holder mrn) m = same_at _ m _ (record { lrn = refl; mrn = refl; departure = refl; destination = refl; lines = refl })
same_said t (Ie029 mrn limit) m = same_at _ m _ (record { lrn = refl; mrn = refl; departure = refl; destination = refl; lines = refl })
same_said t (Ie007 mrn office) m = same_at _ m _ (record { lrn = refl; mrn = refl; departure = refl; destination = refl; lines = refl })
same_said t (Ie018 mrn result) m = same_at _ m _ (record { lrn = refl; mrn = refl; departure = refl; destination = refl; lines = refl })
same_said t (Ie045 mrn cause) m = same_at _ m _ (record { lrn = refl; mrn = refl; departure = refl; destination = refl; lines = refl })
same_said t (Ie140 mrn) m = same_at _ m _ (record { lrn = refl; mrn = refl; departure = refl; destination = refl; lines = refl })
same_said t (Register holder eori) m = same_movement m
same_said t (OpenGuarantee holder reference cover code) m = same_movement m
same_said t (Amend grn reference cover) m = same_movement m
same_said t (Revoke grn) m = same_movement m
same_said t (Ie015 holder lrn departure destination lines) m = same_movement m
same_said t (AddCode holder grn code) m = same_movement m
same_said t (RemoveCode holder grn code) m = same_movement m
same_said t (SeeHolder holder) m = same_movement m
same_said t (SeeMovement holder mrn) m = same_movement m
same_said t (SeeMovements holder) m = same_movement m
same_said t (SeeGuarantee holder grn) m = same_movement m
same_said t (SeeGuarantees holder) m = same_movement m

-- what is found by an LRN is found in its place, whatever is said of it
found_said : (f : Movement → Movement) → ((m : Movement) → (f m).lrn ≡ m.lrn) → (lrn : List ℕ) (ms : List Movement)
    → movement_by_lrn lrn (map f ms) ≡ option_map f (movement_by_lrn lrn ms)
found_said f same lrn [] = refl
found_said f same lrn (m ∷ ms) =
    ap (λ (l : List ℕ). if bytes_eq l lrn then Some (f m) else movement_by_lrn lrn (map f ms)) (same m)
    ∙ by_test (bytes_eq m.lrn lrn) (found_said f same lrn ms)
  where
    by_test : (b : Bool) → movement_by_lrn lrn (map f ms) ≡ option_map f (movement_by_lrn lrn ms)
        → (if b then Some (f m) else movement_by_lrn lrn (map f ms)) ≡ option_map f (if b then Some m else movement_by_lrn lrn ms)
    by_test true more = refl
    by_test false more = more

-- who is registered stays so
registered_still : (given : Option (List ℕ)) (e : List ℕ) → (x : List ℕ) × (option_or given (Some e) ≡ Some x)
registered_still None e = (e, refl)
registered_still (Some x) e = (x, refl)

-- a movement stands first under the LRN, of the same contents, and this is its answer
abbrev IsFound : Parts → Answer → Option Movement → Type 0
IsFound p a found = (m : Movement) × (found ≡ Some m) × (is_repeat p m ≡ true) × (a ≡ answer.Ie028 m.lrn m.mrn)

-- the holder is registered, and these contents were declared under this LRN, with this answer
record IsKept (H : ℕ) (book : Book) (p : Parts) (a : Answer) : Type 0 where
  eori : List ℕ
  registered : eori_of book ≡ Some eori
  movement : IsFound p a (movement_by_lrn p.lrn (movements_of H book))

module _ (H : ℕ) (p : Parts) (a : Answer) where
  -- so it is after one act more
  kept_with : (book : Book) (t : ℕ) (command : Command) → IsKept H book p a → IsKept H (appended book t command) p a
  kept_with book t command is =
      let said = movement_said t command in
      let here = same_said t command is.movement.0 in
      let still = registered_still (eori_given command) is.eori in
      let found : movement_by_lrn p.lrn (map said (movements_of H book)) ≡ Some (said is.movement.0) =
      found_said said (λ m. (same_said t command m).lrn) p.lrn (movements_of H book) ∙ ap (option_map said) is.movement.1 in
      record {
        eori = still.0;
        registered = eori_with H book t command ∙ ap (λ o. eori_after o command) is.registered ∙ still.1;
        movement = (
          said is.movement.0,
          found_with H book t command p.lrn
              ∙ ap (λ o. option_or o (movement_by_lrn p.lrn (declared_by book.opening.country H (mrn_count_of book) t command))) found,
          rw (here.departure, here.destination, here.lines) is.movement.2,
          rw (here.lrn, here.mrn) is.movement.3,
        );
      }

  -- after a command
  kept_at : (book : Book) (m : Option ℕ) (command : Command) → IsKept H book p a → IsKept H (book_after_at H book m command) p a
  kept_at book None command is = is
  kept_at book (Some t) command is = by_test (is_accepted_at (account_of H book) t command)
    where
      by_test : (b : Bool) → IsKept H (if b then appended book t command else book) p a
      by_test true = kept_with book t command is
      by_test false = is

  -- and after a list
  kept_by : (book : Book) (list : List Stamped) → IsKept H book p a → IsKept H (machine_book H book list) p a
  kept_by book [] is = is
  kept_by book (s ∷ list) is = kept_by (book_after H book s) list (kept_at book (moment_of s.at) s.command is)

  -- the answer is given again, and nothing more is accepted
  answered_then : (book : Book) (t : ℕ) → IsKept H book p a → nat_lt t (last_of book) ≡ false
      → (said_at (account_of H book) t (ie015 p) ≡ Answered a) × (is_accepted_at (account_of H book) t (ie015 p) ≡ false)
  answered_then book t is clock = (
    rw (is.registered, clock, is.movement.1, is.movement.2) (ap (λ x. Answered x) (sym is.movement.3)),
    rw (is.registered, clock, is.movement.1, is.movement.2) refl,
  )

-- A declaration is answered where the clock doesn't refuse it, with the answer of the movement that is found or with a new one.
answered_facts : (p : Parts) (back : Bool) (known : Option Movement) (spent : Bool) (refusal : Option Refusal) (new a : Answer)
    → (if back then Refused ClockBack
    else if_lrn_new known (is_repeat p) (if spent then Refused SerialsSpent else if_not_refused refusal (Answered new))) ≡ Answered a
    → (back ≡ false) × (IsFound p a known ⊎ ((known ≡ None) × (spent ≡ false) × (refusal ≡ None) × (a ≡ new)))
answered_facts p true known spent refusal new a is = cc
answered_facts p false None true refusal new a is = cc
answered_facts p false None false (Some why) new a is = cc
answered_facts p false None false None new a is = (refl, inr (refl, refl, refl, cc))
answered_facts p false (Some m) spent refusal new a is = (refl, inl (by_contents (is_repeat p m) refl is))
  where
    by_contents : (b : Bool) → is_repeat p m ≡ b → (if b then Answered (answer.Ie028 m.lrn m.mrn) else Refused LrnUsed) ≡ Answered a
        → IsFound p a (Some m)
    by_contents true here is = (m, refl, here, cc)
    by_contents false other is = cc

-- lines are the same as themselves
line_same : (l : Line) → is_same_line l l ≡ true
line_same l = rw (bytes_same l.grn) (eq-eqb l.cents l.cents refl)

lines_same : (lines : List Line) → pointwise is_same_line lines lines ≡ true
lines_same [] = refl
lines_same (l ∷ lines) = rw (line_same l) (lines_same lines)

module _ (H t : ℕ) (book : Book) (p : Parts) (a : Answer) (own : p.holder ≡ H) where
  -- the answer is that of a movement that stood there, and the book stays
  kept_known : IsKept H book p a → nat_lt t (last_of book) ≡ false → IsKept H (book_after_at H book (Some t) (ie015 p)) p a
  kept_known is clock =
      subst (λ (b : Bool). IsKept H (if b then appended book t (ie015 p) else book) p a) (sym (answered_then H p a book t is clock).1) is

  -- or that of the movement that it made
  kept_lodged : IsLodged H t book p → a ≡ answer.Ie028 p.lrn (mrn_text (year2_at t) book.opening.country p.holder (mrn_count_of book + 1))
      → IsKept H (book_after_at H book (Some t) (ie015 p)) p a
  kept_lodged is told =
      let made : IsKept H (appended book t (ie015 p)) p a = record {
        eori = is.eori;
        registered = eori_with H book t (ie015 p) ∙ is.registered;
        movement = (
          lodged_movement H t book p,
          found_after H t book p ∙ ap (λ o. option_or o (Some (lodged_movement H t book p))) is.fresh,
          rw (bytes_same p.departure, bytes_same p.destination) (lines_same (its_lines p)),
          told ∙ ap (λ n. answer.Ie028 p.lrn (mrn_text (year2_at t) book.opening.country n (mrn_count_of book + 1))) own,
        );
      } in
      subst (λ (b : Bool). IsKept H (if b then appended book t (ie015 p) else book) p a) (sym (accepted_if H t book p is)) made

  -- a declaration that is answered is kept
  kept_first : said_at (account_of H book) t (ie015 p) ≡ Answered a → IsKept H (book_after_at H book (Some t) (ie015 p)) p a
  kept_first is = by_eori (eori_of book) refl is
    where
      by_eori : (o : Option (List ℕ)) → eori_of book ≡ o → said_at (with_eori H t book p o) t (ie015 p) ≡ Answered a
          → IsKept H (book_after_at H book (Some t) (ie015 p)) p a
      by_eori None none is = cc
      by_eori (Some e) registered is =
          let mrn = mrn_text (year2_at t) book.opening.country p.holder (mrn_count_of book + 1) in
          let h = answered_facts p (nat_lt t (last_of book)) (movement_by_lrn p.lrn (movements_of H book))
          (nat_le greatest_mrn_given (mrn_count_of book)) (first_refusal (day_of_moment t) (guarantees_of H book) p.lines)
          (answer.Ie028 p.lrn mrn) a is in
          elim h.1 [
            | inl found ↦ kept_known (record { eori = e; registered = registered; movement = found }) h.0
            | inr new ↦
                kept_lodged (record { eori = e; registered = registered; clock = h.0; fresh = new.0; left = new.1; fine = new.2 }) new.3
          ]

-- the same where there may be no moment
kept_in : (H : ℕ) (book : Book) (m : Option ℕ) (p : Parts) (a : Answer) → p.holder ≡ H → said_in m (account_of H book) (ie015 p) ≡ Answered a
    → IsKept H (book_after_at H book m (ie015 p)) p a
kept_in H book None p a own is = cc
kept_in H book (Some t) p a own is = kept_first H t book p a own is

same_owner : (a b : ℕ) → Some a ≡ Some b → a ≡ b
same_owner a b is = cc

-- the clock doesn't refuse it
not_back : (last t : ℕ) → last ≤ t → nat_lt t last ≡ false
not_back last t since = grind (arith, nat_tests)

-- what is said to a command is said again after these others
abbrev IsToldAgain : ℕ → Book → ℤ → ℤ → List Stamped → Answer → ℕ → Command → Type 0
IsToldAgain H book at later between a t d =
    verdict H book at d ≡ Answered a
    → let end = machine_book H (book_after H book (at_moment at d)) between in
    moment_of later ≡ Some t → last_of end ≤ t
    → (verdict H end later d ≡ Answered a) × (is_accepted (account_of H end) later d ≡ false)

again_at : (H : ℕ) (book : Book) (at later : ℤ) (p : Parts) (between : List Stamped) (a : Answer) (t : ℕ) → p.holder ≡ H
    → IsToldAgain H book at later between a t (ie015 p)
again_at H book at later p between a t own said shown since =
    let first = book_after H book (at_moment at (ie015 p)) in
    let end = machine_book H first between in
    let kept : IsKept H end p a = kept_by H p a first between (kept_in H book (moment_of at) p a own said) in
    let account = account_of H end in
    subst (λ (m : Option ℕ). (said_in m account (ie015 p) ≡ Answered a) × (is_accepted_in m account (ie015 p) ≡ false)) (sym shown)
    (answered_then H p a end t kept (not_back (last_of end) t since))

-- What was answered to a declaration of the holder's own is answered again at any later moment, whatever the holder did in between:
-- and nothing more is accepted.
pub answered_again : (H : ℕ) (book : Book) (at later : ℤ) (d : Command) (between : List Stamped) (a : Answer) (t : ℕ)
    → IsDeclaration d → owner_of book.opening.country d ≡ Some H → verdict H book at d ≡ Answered a
    → let end = machine_book H (book_after H book (at_moment at d)) between in
    moment_of later ≡ Some t → last_of end ≤ t
    → (verdict H end later d ≡ Answered a) × (is_accepted (account_of H end) later d ≡ false)
answered_again H book at later d between a t is =
    declaration_is (λ d. owner_of book.opening.country d ≡ Some H → IsToldAgain H book at later between a t d)
    (λ p own. again_at H book at later p between a t (same_owner p.holder H own)) d is
