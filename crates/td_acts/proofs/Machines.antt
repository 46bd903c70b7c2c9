-- What one more command does to a machine's list and its book.
use Rattle.std.proofs.Common.{◌≡◌, ℕ, List, [], ◌∷◌, ◌++◌, refl, ap}
use Rattle.td_commands.specs.declared.command.Stamped.{Stamped}
use Rattle.td_model.specs.Book.{Book}
use Rattle.td_model.specs.Machine.{verdict, book_after, machine_says, machine_book}

-- one more command at the end of a machine's list
pub machine_book-append : (H : ℕ) (book : Book) (list : List Stamped) (s : Stamped) → machine_book H book (list ++ s ∷ []) ≡ book_after H (machine_book H book list) s
machine_book-append H book [] s = refl
machine_book-append H book (r ∷ list) s = machine_book-append H (book_after H book r) list s

pub machine_says-append : (H : ℕ) (book : Book) (list : List Stamped) (s : Stamped) → machine_says H book (list ++ s ∷ []) ≡ machine_says H book list ++ verdict H (machine_book H book list) s.at s.command ∷ []
machine_says-append H book [] s = refl
machine_says-append H book (r ∷ list) s = ap (λ words. verdict H book r.at r.command ∷ words) (machine_says-append H (book_after H book r) list s)
