-- What a desk contains: the desk's country, and the rows of each registered holder, in ascending order of
-- the holders' numbers.
-- The rules that a desk's rows keep.
use Rattle.std.specs.Prelude.{ℕ, List, [], Option, Some, None}
use Rattle.td_model.specs.declared.holder_row.HolderRow.{HolderRow}
use Rattle.td_model.specs.declared.change.Change.{Change}
use Rattle.td_model.specs.Account.{Account, HolderRows, account_with, holder_key}
use Rattle.td_model.specs.Book.{Book, fresh_book}
use Rattle.td_model.specs.Changes.{row_in, rows_after, rows_or_new}
use Rattle.keyed_rows.specs.Rows.{row_at, put_row, Rises}
use Rattle.std.specs.List.{AllByRecursion}
use Rattle.td_base.specs.Codes.{IsCountry}
use Rattle.td_model.specs.Sound.{AreHolderRows}

pub record Content : Type 0 where
  pub country : List ℕ
  pub holders : List HolderRows

-- H's rows
abbrev pub rows_of : ℕ → Content → Option HolderRows
rows_of H rows = row_at holder_key H rows.holders

-- what the desk keeps of H
abbrev pub account_in : ℕ → Content → Account
account_in H rows = account_with rows.country (rows_of H rows)

-- the book that begins with H's rows as they are now
abbrev pub fresh : ℕ → Content → Book
fresh H rows = fresh_book (account_in H rows)

-- a desk of that country with no holders
abbrev pub empty_content : List ℕ → Content
empty_content country = record { country = country; holders = [] }

-- the content after a change of the holder of this row
abbrev pub content_after_row : Option HolderRow → Change → Content → Content
content_after_row None change content = content
content_after_row (Some row) change content =
    let rows = rows_or_new row (rows_of row.holder content) in
    record content { holders = put_row holder_key (rows_after change rows) content.holders }

-- the content after a change
abbrev pub content_after : Change → Content → Content
content_after change content = content_after_row (row_in change) change content

-- the rows keep their rules
pub record IsSound (rows : Content) : Type 0 where
  pub country : IsCountry rows.country
  pub order : Rises holder_key 0 rows.holders
  pub holders : AllByRecursion (AreHolderRows rows.country) rows.holders
