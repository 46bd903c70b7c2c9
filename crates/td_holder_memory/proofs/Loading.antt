-- What a verdict needs, taken out of a holder's rows: it is found there as among all.
use Rattle.std.proofs.Common.{◌≡◌, ℕ, Bool, true, false, List, [], ◌∷◌, ◌++◌, Option, Some, None, refl, sym, ◌∙◌, ap, subst}
use Rattle.std.specs.Prelude.{map, option_map, filter_map, option_to_list, IfSome, IsSome, if◌then◌else◌}
use Rattle.std.specs.List.{AllByRecursion, cons_option}
use Rattle.std.specs.Str.{bytes_eq}
use Rattle.std.proofs.lemmas.List.Elements.{filter_map-append}
use Rattle.std.proofs.lemmas.Slice.Eq.{bytes_eq-Decides}
use Rattle.td_movement.specs.declared.line.Line.{Line}
use Rattle.td_movement.specs.declared.movement.Movement.{Movement}
use Rattle.td_movement.specs.Movements.{without_lines}
use Rattle.td_guarantee.specs.declared.guarantee.Guarantee.{Guarantee}
use Rattle.td_acts.specs.declared.rows.Loaded.{Loaded}
use Rattle.td_guarantee.specs.Terms.{without_codes}
use Rattle.td_guarantee.specs.Usage.{used_on}
use Rattle.td_model.specs.Account.{Account, guarantee_by_grn, movement_by_mrn, movement_by_lrn}
use Rattle.td_acts.specs.Deciding.{IsLookedUp, entry_by_grn, terms_alone}
use Rattle.td_commands.specs.Commands.{lodging, movement, status, release, guarantee}
use Rattle.td_acts.proofs.Lodging.{named_entry}
use Rattle.td_holder_memory.proofs.Found.{with_key, found_has, found_alone}
use Rattle.td_model.proofs.Joined.{AllByRecursion-weaker}

-- one thing that is found, or not
more_found : {X Y : Type 0} (seek : X → Option Y) (x : X) (o : Option Y) → seek x ≡ o → filter_map seek (x ∷ []) ≡ option_to_list o
more_found seek x None none = rw none refl
more_found seek x (Some y) some = rw some refl

-- what is found of one more
pub one_more : {X Y : Type 0} (seek : X → Option Y) (xs : List X) (x : X) (o : Option Y) (found new : List Y) → seek x ≡ o → found ≡ filter_map seek xs → new ≡ found ++ option_to_list o → new ≡ filter_map seek (xs ++ x ∷ [])
one_more seek xs x o found new sought is added =
    added ∙ ap (λ l. l ++ option_to_list o) is ∙ ap (λ l. filter_map seek xs ++ l) (sym (more_found seek x o sought)) ∙ sym (filter_map-append seek xs (x ∷ []))

-- Things that are sought by names, one for each of a list: each is found among those that were found as it is found among all.
module _ {E L : Type 0} (key : E → List ℕ) (seek : List ℕ → Option E) (has : (k : List ℕ) → IfSome (seek k) (λ e. key e ≡ k)) (name : L → List ℕ) where
  -- those that are found
  abbrev found_of : List L → List E
  found_of ls = filter_map (λ l. seek (name l)) ls

  -- what is found is found in more
  some_in_more : (k : List ℕ) (o : Option E) (es : List E) → IsSome (with_key key k es) → IsSome (with_key key k (cons_option o es))
  some_in_more k None es some = some
  some_in_more k (Some e) es some = by_test (bytes_eq (key e) k)
    where
      by_test : (b : Bool) → IsSome (if◌then◌else◌ {A = Option E} b (Some e) (with_key key k es))
      by_test true = refl
      by_test false = some

  -- a thing is found in front under its own name
  some_in_front : (k : List ℕ) (o : Option E) (es : List E) → IfSome o (λ e. key e ≡ k) → IsSome o → IsSome (with_key key k (cons_option o es))
  some_in_front k None es named some = cc
  some_in_front k (Some e) es named some = rw ((bytes_eq-Decides (key e) k).1 named) refl

  -- two look-ups agree where what the one finds is what the other finds, and the one finds something where the other does
  agree : (o a : Option E) → IfSome o (λ e. a ≡ Some e) → (IsSome a → IsSome o) → o ≡ a
  agree None None is some = refl
  agree None (Some e) is some = let no = some refl in cc
  agree (Some e) a is some = sym is

  -- what is found among them is what is found among all
  found_is : (ls : List L) (k : List ℕ) → IfSome (with_key key k (found_of ls)) (λ e. seek k ≡ Some e)
  found_is [] k = tt
  found_is (l ∷ ls) k = by_first (seek (name l)) refl (has (name l)) (found_is ls k)
    where
      by_first : (o : Option E) → seek (name l) ≡ o → IfSome (seek (name l)) (λ e. key e ≡ name l) → IfSome (with_key key k (found_of ls)) (λ e. seek k ≡ Some e) → IfSome (with_key key k (cons_option o (found_of ls))) (λ e. seek k ≡ Some e)
      by_first None none named later = later
      by_first (Some e) some named later = by_test (bytes_eq (key e) k) refl (subst (λ (o : Option E). IfSome o (λ x. key x ≡ name l)) some named) some later
        where
          by_test : (b : Bool) → bytes_eq (key e) k ≡ b → key e ≡ name l → seek (name l) ≡ Some e → IfSome (with_key key k (found_of ls)) (λ x. seek k ≡ Some x) → IfSome (if◌then◌else◌ {A = Option E} b (Some e) (with_key key k (found_of ls))) (λ x. seek k ≡ Some x)
          by_test true same own some later = ap seek (sym ((bytes_eq-Decides (key e) k).0 same) ∙ own) ∙ some
          by_test false other own some later = later

  -- and each is there, if it is among all
  each_there : (ls : List L) → AllByRecursion (λ l. IsSome (seek (name l)) → IsSome (with_key key (name l) (found_of ls))) ls
  each_there [] = tt
  each_there (l ∷ ls) = (
    λ some. some_in_front (name l) (seek (name l)) (found_of ls) (has (name l)) some,
    AllByRecursion-weaker (λ m. IsSome (seek (name m)) → IsSome (with_key key (name m) (found_of ls))) (λ m. IsSome (seek (name m)) → IsSome (with_key key (name m) (cons_option (seek (name l)) (found_of ls)))) (λ m there some. some_in_more (name m) (seek (name l)) (found_of ls) (there some)) ls (each_there ls),
  )

  -- each is found among them as among all
  pub each_found : (ls : List L) → AllByRecursion (λ l. with_key key (name l) (found_of ls) ≡ seek (name l)) ls
  each_found ls =
      AllByRecursion-weaker (λ l. IsSome (seek (name l)) → IsSome (with_key key (name l) (found_of ls))) (λ l. with_key key (name l) (found_of ls) ≡ seek (name l)) (λ l there. agree (with_key key (name l) (found_of ls)) (seek (name l)) (found_is ls (name l)) there) ls (each_there ls)

-- the guarantee of a line, and those of lines
abbrev pub look : List Guarantee → Line × List ℕ → Option Guarantee
look all l = guarantee_by_grn l.0.grn all

abbrev pub taken : List Guarantee → List (Line × List ℕ) → List Guarantee
taken all lines = filter_map (look all) lines

-- the guarantee and the amount in use on it, if it is found
abbrev pub entry_of : Account → List ℕ → Option (Guarantee × ℕ)
entry_of account grn = option_map (λ g. (g, used_on g.grn account.movements)) (guarantee_by_grn grn account.guarantees)

-- an entry has the GRN that its guarantee was found by
entry_has : (account : Account) (grn : List ℕ) (o : Option Guarantee) → IfSome o (λ g. g.grn ≡ grn) → IfSome (option_map (λ g. (g, used_on g.grn account.movements)) o) (λ (e : Guarantee × ℕ). e.0.grn ≡ grn)
entry_has account grn None has = tt
entry_has account grn (Some g) has = has

-- each line's guarantee is found among the entries as among all
entries_found : (gs : List Guarantee) (es : List (Guarantee × ℕ)) (lines : List (Line × List ℕ)) → AllByRecursion (λ l. guarantee_by_grn l.0.grn (map (λ e. e.0) es) ≡ guarantee_by_grn l.0.grn gs) lines
    → AllByRecursion (λ l. option_map (λ e. e.0) (entry_by_grn l.0.grn es) ≡ guarantee_by_grn l.0.grn gs) lines
entries_found gs es lines = AllByRecursion-weaker (λ l. guarantee_by_grn l.0.grn (map (λ e. e.0) es) ≡ guarantee_by_grn l.0.grn gs) (λ l. option_map (λ e. e.0) (entry_by_grn l.0.grn es) ≡ guarantee_by_grn l.0.grn gs) (λ l found. sym (named_entry l.0.grn es) ∙ found) lines

-- a movement's LRN and lines' guarantees are looked up
pub lodging_looked_up : (account : Account) (loaded : Loaded) (lrn : List ℕ) (lines : List (Line × List ℕ))
    → loaded.movements.items ≡ option_to_list (movement_by_lrn lrn account.movements) → map (λ e. e.0) loaded.guarantees.items ≡ taken account.guarantees lines
    → IsLookedUp account (lodging lrn lines) loaded
lodging_looked_up account loaded lrn lines movements guarantees = (
  ap (movement_by_lrn lrn) movements ∙ found_alone (λ m. m.lrn) lrn (movement_by_lrn lrn account.movements) (found_has (λ m. m.lrn) lrn account.movements),
  entries_found account.guarantees loaded.guarantees.items lines (subst (λ (gs : List Guarantee). AllByRecursion (λ l. guarantee_by_grn l.0.grn gs ≡ guarantee_by_grn l.0.grn account.guarantees) lines) (sym guarantees) (each_found (λ (g : Guarantee). g.grn) (λ k. guarantee_by_grn k account.guarantees) (λ k. found_has (λ g. g.grn) k account.guarantees) (λ (l : Line × List ℕ). l.0.grn) lines)),
)

-- a movement is looked up by its MRN
pub movement_looked_up : (account : Account) (loaded : Loaded) (mrn : List ℕ) → loaded.movements.items ≡ option_to_list (movement_by_mrn mrn account.movements) → IsLookedUp account (movement mrn) loaded
movement_looked_up account loaded mrn movements =
    ap (movement_by_mrn mrn) movements ∙ found_alone (λ m. m.mrn) mrn (movement_by_mrn mrn account.movements) (found_has (λ m. m.mrn) mrn account.movements)

-- and so is its row without its lines
pub status_looked_up : (account : Account) (loaded : Loaded) (mrn : List ℕ) → loaded.movements.items ≡ option_to_list (option_map without_lines (movement_by_mrn mrn account.movements)) → IsLookedUp account (status mrn) loaded
status_looked_up account loaded mrn movements =
    ap (movement_by_mrn mrn) movements ∙ found_alone (λ m. m.mrn) mrn (option_map without_lines (movement_by_mrn mrn account.movements)) (row_has (movement_by_mrn mrn account.movements) (found_has (λ m. m.mrn) mrn account.movements))
  where
    row_has : (o : Option Movement) → IfSome o (λ m. m.mrn ≡ mrn) → IfSome (option_map without_lines o) (λ m. m.mrn ≡ mrn)
    row_has None has = tt
    row_has (Some m) has = has

-- and a guarantee with the amount in use on it
pub guarantee_looked_up : (account : Account) (loaded : Loaded) (grn : List ℕ) → loaded.guarantees.items ≡ option_to_list (entry_of account grn) → IsLookedUp account (guarantee grn) loaded
guarantee_looked_up account loaded grn guarantees =
    ap (entry_by_grn grn) guarantees ∙ found_alone (λ (e : Guarantee × ℕ). e.0.grn) grn (entry_of account grn) (entry_has account grn (guarantee_by_grn grn account.guarantees) (found_has (λ g. g.grn) grn account.guarantees))

-- its terms alone
abbrev pub terms_of : Account → List ℕ → Option (Guarantee × ℕ)
terms_of account grn = option_map (λ g. (without_codes g, used_on g.grn account.movements)) (guarantee_by_grn grn account.guarantees)

-- they have the GRN too, and are those of the entry
terms_have : (account : Account) (grn : List ℕ) (o : Option Guarantee) → IfSome o (λ g. g.grn ≡ grn) → IfSome (option_map (λ g. (without_codes g, used_on g.grn account.movements)) o) (λ (e : Guarantee × ℕ). e.0.grn ≡ grn)
terms_have account grn None has = tt
terms_have account grn (Some g) has = has

pub terms_are : (account : Account) (o : Option Guarantee) → option_map (λ g. (without_codes g, used_on g.grn account.movements)) o ≡ option_map terms_alone (option_map (λ g. (g, used_on g.grn account.movements)) o)
terms_are account None = refl
terms_are account (Some g) = refl

-- a movement by its MRN, and its lines' guarantees without codes, with the amounts in use on them
pub release_looked_up : (account : Account) (loaded : Loaded) (mrn : List ℕ) → loaded.movements.items ≡ option_to_list (movement_by_mrn mrn account.movements)
    → IfSome (movement_by_mrn mrn account.movements) (λ m. loaded.guarantees.items ≡ filter_map (λ l. terms_of account l.grn) m.lines) → IsLookedUp account (release mrn) loaded
release_looked_up account loaded mrn movements guarantees = (movement_looked_up account loaded mrn movements, each_entry (movement_by_mrn mrn account.movements) guarantees)
  where
    each_entry : (o : Option Movement) → IfSome o (λ m. loaded.guarantees.items ≡ filter_map (λ l. terms_of account l.grn) m.lines) → IfSome o (λ m. AllByRecursion (λ l. entry_by_grn l.grn loaded.guarantees.items ≡ option_map terms_alone (entry_of account l.grn)) m.lines)
    each_entry None none = tt
    each_entry (Some m) is =
        subst (λ (es : List (Guarantee × ℕ)). AllByRecursion (λ l. entry_by_grn l.grn es ≡ option_map terms_alone (entry_of account l.grn)) m.lines) (sym is)
        (AllByRecursion-weaker (λ (l : Line). entry_by_grn l.grn (filter_map (λ (l : Line). terms_of account l.grn) m.lines) ≡ terms_of account l.grn) (λ (l : Line). entry_by_grn l.grn (filter_map (λ (l : Line). terms_of account l.grn) m.lines) ≡ option_map terms_alone (entry_of account l.grn))
        (λ (l : Line) found. found ∙ terms_are account (guarantee_by_grn l.grn account.guarantees)) m.lines
        (each_found (λ (e : Guarantee × ℕ). e.0.grn) (terms_of account) (λ k. terms_have account k (guarantee_by_grn k account.guarantees) (found_has (λ g. g.grn) k account.guarantees)) (λ (l : Line). l.grn) m.lines))
