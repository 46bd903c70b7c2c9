-- What is done over a file by runs of the program, and what each holder is told of it, whether requests come over HTTP or as rows.
use Rattle.std.specs.Prelude.{◌≡◌, ℕ, Bool, List, [], ◌∷◌, map, IsTrue}
use Rattle.std.specs.List.{flat_map}
use Rattle.sqlite_disk.specs.declared.Disk.{Ghosts}
use Rattle.sqlite.specs.Files.{file_state}
use Rattle.td_commands.specs.declared.command.Stamped.{Stamped}
use Rattle.td_commands.specs.declared.said.Said.{Said}
use Rattle.td_model.specs.Book.{Book}
use Rattle.td_model.specs.Machine.{book_after, machine_book, verdict}
use Rattle.td_desk.specs.declared.running.Outcome.{Outcome}
use Rattle.td_model.specs.Content.{Content, IsSound}
use Rattle.td_desk.specs.Runs as desk
use Rattle.td_answers.specs.Answers.{said_reply}
use Rattle.http_wire.specs.Stream.{Exchange}
use Rattle.td_http.specs.Serving.{heard_in, told_in}
use Rattle.td_files.specs.Found.{FileSeen, over_file}

-- a part of what is done: the exchanges of a stream, or the rows that a batch tried, each with its moment and how it ended
pub data Part : Type 0 where
  stream : List Exchange → Part
  rows : List Stamped → List Outcome → Part

-- how a command came: over a stream, where its reply may have to tell that the stream stops, or as a row
pub data Way : Type 0 where
  over_stream : Bool → Way
  as_row : Way

-- what is told to a command: the bytes of its reply, or what its result row tells
pub data Told : Type 0 where
  reply : List ℕ → Told
  result : Said → Told

-- what is told where that is said
abbrev pub told_by : Said → Way → Told
told_by said (over_stream close) = reply (said_reply said close)
told_by said as_row = result said

-- a command with its moment, and how it came
abbrev pub Ask : Type 0
Ask = Stamped × Way

-- H's commands that did not fail
abbrev pub heard_part : List ℕ → ℕ → Part → List Ask
heard_part country H (stream es) = map (λ r. (r.0, over_stream r.1)) (heard_in country H 0 es)
heard_part country H (rows list outcomes) = map (λ s. (s, as_row)) (desk.heard country H list outcomes)

-- what was told to them
abbrev pub told_part : List ℕ → ℕ → Part → List Told
told_part country H (stream es) = map (λ bytes. reply bytes) (told_in country H 0 es)
told_part country H (rows list outcomes) = map (λ said. result said) (desk.told country H list outcomes)

-- the same over parts, in their order
abbrev pub heard_of : List ℕ → ℕ → List Part → List Ask
heard_of country H parts = flat_map (heard_part country H) parts

abbrev pub told_of : List ℕ → ℕ → List Part → List Told
told_of country H parts = flat_map (told_part country H) parts

-- what H's own machine tells to a list of H's commands
abbrev pub machine_tells : ℕ → Book → List Ask → List Told
machine_tells H book [] = []
machine_tells H book (ask ∷ list) = told_by (verdict H book ask.0.at ask.0.command) ask.1 ∷ machine_tells H (book_after H book ask.0) list

-- the book that it ends with
abbrev pub book_of : ℕ → Book → List Ask → Book
book_of H book list = machine_book H book (map (λ ask. ask.0) list)

-- To each holder at once, what was told over all parts is what the holder's own machine tells to the holder's commands that did not
-- fail, in their order; in the end the content is sound, and tied to the books that the machines end with.
pub record ArePartsTold (country : List ℕ) (books : ℕ → Book) (parts : List Part) (new : Content) : Type 0 where
  pub answers : (H : ℕ) → told_of country H parts ≡ machine_tells H (books H) (heard_of country H parts)
  pub country_stays : new.country ≡ country
  pub sound : IsSound new
  pub tied : desk.IsTied new (λ H. book_of H (books H) (heard_of country H parts))

module _ {S : Type 0} {disk : Ghosts S} where
  -- Runs over a file, one after another: from the desk that the first one opened to what the last one left, by the parts of all. To each
  -- holder they told what the holder's own machine tells, from any books that say what the file held at first; and what is left has
  -- just the content after that, which is sound.
  pub record IsWork (country : List ℕ) (opened : FileSeen disk) (parts : List Part) (left : FileSeen disk) : Type 0 where
    pub live : IsTrue (file_state opened).is_open
    pub country_is : (over_file.content opened).country ≡ country
    pub sound : IsSound (over_file.content opened)
    pub private : (books : ℕ → Book) → desk.IsTied (over_file.content opened) books → ArePartsTold country books parts (over_file.content left)
