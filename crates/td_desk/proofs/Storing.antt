-- A change written into a holder's file, or into a new one in its place.
use Rattle.std.proofs.Common.{◌≡◌, ◌≢◌, ℕ, ◌<◌, List, [], length, get_or, set, Some, Result, Ok, Err, sym, ◌∙◌, ap, subst, arith}
use Rattle.std.specs.Prelude.{insert, OnOk, OnErr}
use Rattle.std.specs.declared.alloc.AllocError.{AllocError}
use Rattle.td_model.specs.declared.holder_row.HolderRow.{HolderRow}
use Rattle.td_model.specs.declared.change.Change.{Change}
use Rattle.td_model.specs.Account.{HolderRows, holder_key}
use Rattle.td_model.specs.Changes.{row_in, rows_after, rows_or_new}
use Rattle.keyed_rows.specs.Rows.{Rises, row_at, put_row}
use Rattle.td_acts.proofs.Following.{row_after}
use Rattle.keyed_rows.proofs.Putting.{Rises-put_row}
use Rattle.keyed_rows.proofs.Places.{below, found_by, missed_by, set_by, insert_by}

-- the files with a change in them
abbrev pub files_with : List HolderRows → HolderRow → Change → List HolderRows
files_with files row c = put_row holder_key (rows_after c (rows_or_new row (row_at holder_key row.holder files))) files

module _ (files : List HolderRows) (row : HolderRow) (c : Change) (n : ℕ) (rise : Rises holder_key 0 files) (has : row_in c ≡ Some row) (place : n ≡ below holder_key row.holder files) where
  -- a file that stands in the place of the row's holder, set there
  set_is : (new old : HolderRows) → n < length files → old ≡ get_or files n old → old.row.holder ≡ row.holder → new.row.holder ≡ row.holder → set files n new ≡ put_row holder_key new files
  set_is new old within at same key =
      set_by holder_key new files n old (place ∙ ap (λ k. below holder_key k files) (sym key)) within (ap holder_key (sym at) ∙ same ∙ sym key)

  -- the holder's file with the change is in the place of the one before
  pub stored_in_place : (new old : HolderRows) → n < length files → old ≡ get_or files n old → old.row.holder ≡ row.holder → new ≡ rows_after c old → set files n new ≡ files_with files row c
  stored_in_place new old within at same is =
      let key : new.row.holder ≡ row.holder = ap holder_key is ∙ ap (λ (r : HolderRow). r.holder) (row_after c row old has) in
      set_is new old within at same key
      ∙ ap (λ h. put_row holder_key h files) (is ∙ ap (λ o. rows_after c (rows_or_new row o)) (sym (found_by holder_key row.holder files n old rise place within at same)))

  -- the order stays, whether the change was written or not
  pub order_stays : (r : Result (Unit {0}) AllocError) (new old : HolderRows) → n < length files → old ≡ get_or files n old → old.row.holder ≡ row.holder → OnOk r (new ≡ rows_after c old) → OnErr r (new ≡ old) → Rises holder_key 0 (set files n new)
  order_stays r new old within at same ok err =
      let key : new.row.holder ≡ row.holder = by_result r ok err in
      subst (Rises holder_key 0) (sym (set_is new old within at same key)) (Rises-put_row holder_key new 0 files rise (omega arith))
    where
      by_result : (r : Result (Unit {0}) AllocError) → OnOk r (new ≡ rows_after c old) → OnErr r (new ≡ old) → new.row.holder ≡ row.holder
      by_result (Ok x) is err = ap holder_key is ∙ ap (λ (r : HolderRow). r.holder) (row_after c row old has)
      by_result (Err e) ok is = ap holder_key is ∙ same

  -- a new holder's file goes into the place
  put_is : (new : HolderRows) → ((d : HolderRows) → n < length files → (get_or files n d).row.holder ≢ row.holder) → new.row.holder ≡ row.holder → insert files n new ≡ put_row holder_key new files
  put_is new other key = insert_by holder_key new files n new (place ∙ ap (λ k. below holder_key k files) (sym key)) (λ within same. other new within (same ∙ key))

  -- the new holder's number
  key_new : (new : HolderRows) → new ≡ rows_after c (record { row = row; guarantees = []; movements = [] }) → new.row.holder ≡ row.holder
  key_new new is = ap holder_key is ∙ ap (λ (r : HolderRow). r.holder) (row_after c row (record { row = row; guarantees = []; movements = [] }) has)

  -- the files with the new one are those with the change
  pub stored_new : (new : HolderRows) → ((d : HolderRows) → n < length files → (get_or files n d).row.holder ≢ row.holder) → new ≡ rows_after c (record { row = row; guarantees = []; movements = [] }) → insert files n new ≡ files_with files row c
  stored_new new other is =
      put_is new other (key_new new is)
      ∙ ap (λ h. put_row holder_key h files) (is ∙ ap (λ o. rows_after c (rows_or_new row o)) (sym (missed_by holder_key row.holder files n rise place other)))

  -- and the order stays
  pub order_new : (new : HolderRows) → ((d : HolderRows) → n < length files → (get_or files n d).row.holder ≢ row.holder) → new ≡ rows_after c (record { row = row; guarantees = []; movements = [] }) → Rises holder_key 0 (insert files n new)
  order_new new other is = subst (Rises holder_key 0) (sym (put_is new other (key_new new is))) (Rises-put_row holder_key new 0 files rise (omega arith))
