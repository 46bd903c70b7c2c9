-- Books that are tied to a part of a content, or to two contents in one, and what work over a file of it tells.
use Rattle.std.proofs.Common.{◌≡◌, ◌∙◌, ℕ, Bool, true, false, List, refl, subst, sym}
use Rattle.std.specs.Prelude.{if◌then◌else◌, is_some}
use Rattle.sqlite_disk.specs.declared.Disk.{Ghosts}
use Rattle.td_model.specs.Account.{Account, empty_account}
use Rattle.td_model.specs.Book.{Book, account_of}
use Rattle.td_model.specs.Machine.{IsGrown}
use Rattle.td_model.specs.Content.{Content, account_in, fresh, rows_of}
use Rattle.td_desk.specs.Laws.{FreshBooksAreTied}
use Rattle.td_desk.specs.Runs.{IsTied}
use Rattle.td_extract.specs.Between.{content_between, is_between}
use Rattle.td_extract.specs.Laws.{AccountsAreOfTheRange}
use Rattle.td_files.specs.Found.{FileSeen, over_file}
use Rattle.td_join.specs.Joined.{joined}
use Rattle.td_join.specs.Laws.{AccountsAreOfEither}
use Rattle.td_cli.specs.PartLaws.{JoinedAreTied, PartsAreTied, HoldersGoOnAfterExtract, HoldersGoOnAfterJoin, HoldersGoOnAtAJoin, HoldersGoOnAtAPart, books_between, books_joined}
use Rattle.td_cli.specs.Parts.{IsWork, Part, heard_of, machine_tells, told_of}
use Rattle.td_cli.proofs.Runs.{found_left}

-- a book of one of two, by a test
module _ (H : ℕ) (x y : Account) (book other : Book) where
  one_of_two : (b : Bool) → (b ≡ true → x ≡ account_of H book) → (b ≡ false → y ≡ account_of H other)
      → (if b then x else y) ≡ account_of H (if b then book else other)
  one_of_two true is not = is refl
  one_of_two false is not = not refl

grown_of_two : (H : ℕ) (book other : Book) (b : Bool) → IsGrown H book → IsGrown H other → IsGrown H (if b then book else other)
grown_of_two H book other true one two = one
grown_of_two H book other false one two = two

-- the account of a number out of the range is that of a fresh book of the part
out_of_range : (first last : ℕ) (whole : Content) (H : ℕ) (b : Bool) → is_between first last H ≡ b
    → account_in H (content_between first last whole) ≡ (if b then account_in H whole else empty_account whole.country)
    → b ≡ false → empty_account whole.country ≡ account_in H (content_between first last whole)
out_of_range first last whole H true is said out = absurd (let e = out in cc)
out_of_range first last whole H false is said out = sym said

pub parts_tied : FreshBooksAreTied → AccountsAreOfTheRange → PartsAreTied
parts_tied fresh_tied accounts first last whole books tied = record {
  each = λ H.
      accounts first last whole H
      ∙ one_of_two H (account_in H whole) (empty_account whole.country) (books H) (fresh H part) (is_between first last H) (λ is. tied.each H)
      (λ out. out_of_range first last whole H (is_between first last H) refl (accounts first last whole H) out ∙ (fresh_tied part).each H);
  grown = λ H. grown_of_two H (books H) (fresh H part) (is_between first last H) (tied.grown H) ((fresh_tied part).grown H);
}
  where
    part : Content
    part = content_between first last whole

pub joined_tied : AccountsAreOfEither → JoinedAreTied
joined_tied accounts c d books others same tied tied_others = record {
  each = λ H.
      accounts c d same H
      ∙ one_of_two H (account_in H c) (account_in H d) (books H) (others H) (is_some (rows_of H c)) (λ is. tied.each H) (λ out. tied_others.each H);
  grown = λ H. grown_of_two H (books H) (others H) (is_some (rows_of H c)) (tied.grown H) (tied_others.grown H);
}

module _ {S : Type 0} (disk : Ghosts S) where
  -- what work tells by books of the content that it began with
  by_books : (country : List ℕ) (opened left : FileSeen disk) (parts : List Part) (content : Content) (books : ℕ → Book) → IsTied content books
      → over_file.content opened ≡ content → IsWork country opened parts left → (H : ℕ)
      → told_of country H parts ≡ machine_tells H (books H) (heard_of country H parts)
  by_books country opened left parts content books tied is work H = (work.private books (subst (λ c. IsTied c books) (sym is) tied)).answers H

  pub go_on_at_part : PartsAreTied → HoldersGoOnAtAPart disk
  go_on_at_part are_tied country first last whole books opened left parts tied is work H between =
      subst (λ b. told_of country H parts ≡ machine_tells H (if b then books H else fresh H (content_between first last whole)) (heard_of country H parts)) between
      (by_books country opened left parts (content_between first last whole) (books_between first last whole books) (are_tied first last whole books tied) is work H)

  pub go_on_at_join : JoinedAreTied → HoldersGoOnAtAJoin disk
  go_on_at_join are_tied country c d books others opened left parts same tied tied_others is work H =
      by_books country opened left parts (joined c d) (books_joined c books others) (are_tied c d books others same tied tied_others) is work H

  -- the next run begins with the content of what `extract` and `join` left
  pub go_on_after_extract : HoldersGoOnAtAPart disk → HoldersGoOnAfterExtract disk
  go_on_after_extract go_on country first last whole books found made opened left parts tied shows goes work =
      go_on country first last whole books opened left parts tied (found_left country made opened goes ∙ shows.content) work

  pub go_on_after_join : HoldersGoOnAtAJoin disk → HoldersGoOnAfterJoin disk
  go_on_after_join go_on country c d books others both opened left parts same tied tied_others told goes work =
      go_on country c d books others opened left parts same tied tied_others (found_left country both opened goes ∙ told.3) work
