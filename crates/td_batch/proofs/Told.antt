-- One command of a run, and the same command later.
use Rattle.std.proofs.Common.{◌≡◌, ◌∙◌, suc, ℕ, Bool, true, false, List, [], ◌∷◌, ◌++◌, length, refl, sym, ap, arith}
use Rattle.std.specs.Prelude.{if◌then◌else◌}
use Rattle.td_commands.specs.Commands.{owner_of}
use Rattle.td_commands.specs.declared.command.Stamped.{Stamped}
use Rattle.td_commands.specs.declared.said.Said.{Said}
use Rattle.td_model.specs.Book.{Book}
use Rattle.td_model.specs.Machine.{book_after, machine_book, machine_says, verdict}
use Rattle.td_desk.specs.declared.running.Outcome.{Outcome}
use Rattle.td_desk.specs.declared.running.Outcome.TheVariants as outcome
use Rattle.td_model.specs.Content.{Content}
use Rattle.td_desk.specs.Runs.{heard, is_holder, told, IsRun}

-- ---- lists

-- what stands behind two parts of one length
behind_parts : {X : Type 0} (xs ys : List X) (x y : X) (more others : List X) → length xs ≡ length ys → xs ++ x ∷ more ≡ ys ++ y ∷ others → x ≡ y
behind_parts [] [] x y more others same is = cc
behind_parts [] (b ∷ ys) x y more others same is = absurd (omega (arith, same))
behind_parts (a ∷ xs) [] x y more others same is = absurd (omega (arith, same))
behind_parts (a ∷ xs) (b ∷ ys) x y more others same is = behind_parts xs ys x y more others (omega (arith, same)) rest
  where
    rest : xs ++ x ∷ more ≡ ys ++ y ∷ others
    rest = cc

-- ---- a machine

machine_says-parts : (H : ℕ) (book : Book) (xs ys : List Stamped) → machine_says H book (xs ++ ys) ≡ machine_says H book xs ++ machine_says H (machine_book H book xs) ys
machine_says-parts H book [] ys = refl
machine_says-parts H book (x ∷ xs) ys = ap (λ words. verdict H book x.at x.command ∷ words) (machine_says-parts H (book_after H book x) xs ys)

pub machine_book-parts : (H : ℕ) (book : Book) (xs ys : List Stamped) → machine_book H book (xs ++ ys) ≡ machine_book H (machine_book H book xs) ys
machine_book-parts H book [] ys = refl
machine_book-parts H book (x ∷ xs) ys = machine_book-parts H (book_after H book x) xs ys

length-machine_says : (H : ℕ) (book : Book) (xs : List Stamped) → length (machine_says H book xs) ≡ length xs
length-machine_says H book [] = refl
length-machine_says H book (x ∷ xs) = ap (λ n. suc n) (length-machine_says H (book_after H book x) xs)

-- ---- a run

module _ (country : List ℕ) (H : ℕ) where
  -- one command more in front, which was answered
  heard_one : (s : Stamped) (w : Said) (list : List Stamped) (outcomes : List Outcome) (b : Bool) → is_holder H (owner_of country s.command) ≡ b
      → heard country H (s ∷ list) (outcome.Said w ∷ outcomes) ≡ (if b then s ∷ heard country H list outcomes else heard country H list outcomes)
  heard_one s w list outcomes true is = rw is refl
  heard_one s w list outcomes false is = rw is refl

  told_one : (s : Stamped) (w : Said) (list : List Stamped) (outcomes : List Outcome) (b : Bool) → is_holder H (owner_of country s.command) ≡ b
      → told country H (s ∷ list) (outcome.Said w ∷ outcomes) ≡ (if b then w ∷ told country H list outcomes else told country H list outcomes)
  told_one s w list outcomes true is = rw is refl
  told_one s w list outcomes false is = rw is refl

  -- as much was told as was heard
  same_number_by : (s : Stamped) (w : Said) (list : List Stamped) (outcomes : List Outcome) (b : Bool) → is_holder H (owner_of country s.command) ≡ b
      → length (told country H list outcomes) ≡ length (heard country H list outcomes)
      → length (told country H (s ∷ list) (outcome.Said w ∷ outcomes)) ≡ length (heard country H (s ∷ list) (outcome.Said w ∷ outcomes))
  same_number_by s w list outcomes true is same = rw (told_one s w list outcomes true is, heard_one s w list outcomes true is) (ap (λ n. suc n) same)
  same_number_by s w list outcomes false is same = rw (told_one s w list outcomes false is, heard_one s w list outcomes false is) same

  same_number : (list : List Stamped) (outcomes : List Outcome) → length (told country H list outcomes) ≡ length (heard country H list outcomes)
  same_number [] outcomes = refl
  same_number (s ∷ list) [] = refl
  same_number (s ∷ list) (outcome.Said w ∷ outcomes) = same_number_by s w list outcomes (is_holder H (owner_of country s.command)) refl (same_number list outcomes)
  same_number (s ∷ list) (outcome.Failed f ∷ outcomes) = same_number list outcomes

  -- what was heard of a list in two parts, and what was told
  heard_parts_by : (s : Stamped) (w : Said) (xs ys : List Stamped) (os ps : List Outcome) (b : Bool) → is_holder H (owner_of country s.command) ≡ b
      → heard country H (xs ++ ys) (os ++ ps) ≡ heard country H xs os ++ heard country H ys ps
      → heard country H ((s ∷ xs) ++ ys) ((outcome.Said w ∷ os) ++ ps) ≡ heard country H (s ∷ xs) (outcome.Said w ∷ os) ++ heard country H ys ps
  heard_parts_by s w xs ys os ps true is rest = rw (heard_one s w (xs ++ ys) (os ++ ps) true is, heard_one s w xs os true is) (ap (λ more. s ∷ more) rest)
  heard_parts_by s w xs ys os ps false is rest = rw (heard_one s w (xs ++ ys) (os ++ ps) false is, heard_one s w xs os false is) rest

  pub heard_parts : (xs ys : List Stamped) (os ps : List Outcome) → length os ≡ length xs
      → heard country H (xs ++ ys) (os ++ ps) ≡ heard country H xs os ++ heard country H ys ps
  heard_parts [] ys [] ps same = refl
  heard_parts [] ys (o ∷ os) ps same = absurd (omega (arith, same))
  heard_parts (s ∷ xs) ys [] ps same = absurd (omega (arith, same))
  heard_parts (s ∷ xs) ys (outcome.Said w ∷ os) ps same =
      heard_parts_by s w xs ys os ps (is_holder H (owner_of country s.command)) refl (heard_parts xs ys os ps (omega (arith, same)))
  heard_parts (s ∷ xs) ys (outcome.Failed f ∷ os) ps same = heard_parts xs ys os ps (omega (arith, same))

  told_parts_by : (s : Stamped) (w : Said) (xs ys : List Stamped) (os ps : List Outcome) (b : Bool) → is_holder H (owner_of country s.command) ≡ b
      → told country H (xs ++ ys) (os ++ ps) ≡ told country H xs os ++ told country H ys ps
      → told country H ((s ∷ xs) ++ ys) ((outcome.Said w ∷ os) ++ ps) ≡ told country H (s ∷ xs) (outcome.Said w ∷ os) ++ told country H ys ps
  told_parts_by s w xs ys os ps true is rest = rw (told_one s w (xs ++ ys) (os ++ ps) true is, told_one s w xs os true is) (ap (λ more. w ∷ more) rest)
  told_parts_by s w xs ys os ps false is rest = rw (told_one s w (xs ++ ys) (os ++ ps) false is, told_one s w xs os false is) rest

  told_parts : (xs ys : List Stamped) (os ps : List Outcome) → length os ≡ length xs
      → told country H (xs ++ ys) (os ++ ps) ≡ told country H xs os ++ told country H ys ps
  told_parts [] ys [] ps same = refl
  told_parts [] ys (o ∷ os) ps same = absurd (omega (arith, same))
  told_parts (s ∷ xs) ys [] ps same = absurd (omega (arith, same))
  told_parts (s ∷ xs) ys (outcome.Said w ∷ os) ps same =
      told_parts_by s w xs ys os ps (is_holder H (owner_of country s.command)) refl (told_parts xs ys os ps (omega (arith, same)))
  told_parts (s ∷ xs) ys (outcome.Failed f ∷ os) ps same = told_parts xs ys os ps (omega (arith, same))

  -- what was said to a command of H's is the verdict of H's machine, which goes on from there
  module _ (books : ℕ → Book) (xs : List Stamped) (e : Stamped) (ys : List Stamped) (os : List Outcome) (w : Said) (ps : List Outcome) (c : Content)
      (run : IsRun country books (xs ++ e ∷ ys) (os ++ outcome.Said w ∷ ps) c) (same : length os ≡ length xs) (own : is_holder H (owner_of country e.command) ≡ true) where
    pub said_by_machine : w ≡ verdict H (machine_book H (books H) (heard country H xs os)) e.at e.command
    said_by_machine =
        let book = machine_book H (books H) (heard country H xs os) in
        let all_told : told country H (xs ++ e ∷ ys) (os ++ outcome.Said w ∷ ps) ≡ told country H xs os ++ w ∷ told country H ys ps =
        told_parts xs (e ∷ ys) os (outcome.Said w ∷ ps) same ∙ ap (λ more. told country H xs os ++ more) (told_one e w ys ps true own) in
        let all_heard : heard country H (xs ++ e ∷ ys) (os ++ outcome.Said w ∷ ps) ≡ heard country H xs os ++ e ∷ heard country H ys ps =
        heard_parts xs (e ∷ ys) os (outcome.Said w ∷ ps) same ∙ ap (λ more. heard country H xs os ++ more) (heard_one e w ys ps true own) in
        let says : machine_says H (books H) (heard country H (xs ++ e ∷ ys) (os ++ outcome.Said w ∷ ps))
        ≡ machine_says H (books H) (heard country H xs os) ++ verdict H book e.at e.command ∷ machine_says H (book_after H book e) (heard country H ys ps) =
        ap (machine_says H (books H)) all_heard ∙ machine_says-parts H (books H) (heard country H xs os) (e ∷ heard country H ys ps) in
        behind_parts (told country H xs os) (machine_says H (books H) (heard country H xs os)) w (verdict H book e.at e.command) (told country H ys ps) _
        (same_number xs os ∙ sym (length-machine_says H (books H) (heard country H xs os))) (sym all_told ∙ run.answers H ∙ says)

    pub goes_on : machine_book H (books H) (heard country H (xs ++ e ∷ ys) (os ++ outcome.Said w ∷ ps))
        ≡ machine_book H (book_after H (machine_book H (books H) (heard country H xs os)) e) (heard country H ys ps)
    goes_on =
        ap (machine_book H (books H)) (heard_parts xs (e ∷ ys) os (outcome.Said w ∷ ps) same ∙ ap (λ more. heard country H xs os ++ more) (heard_one e w ys ps true own))
        ∙ machine_book-parts H (books H) (heard country H xs os) (e ∷ heard country H ys ps)
