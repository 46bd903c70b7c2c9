use Rattle.std.proofs.Common.{◌∙◌, ◌∷◌, ◌++◌, [], inl, inr, refl, arith, length}
use Rattle.std.proofs.lemmas.List.{length-append}
use Rattle.td_journal_lines.specs.Rows.{numbered}
use Rattle.td_replay.proofs.Followed.{error_is, followed_given, followed_none, followed_row}
use Rattle.td_replay.specs.Following.{IsNextRow, IsNextLine, IsNoNextRow, HasNoMore}
use Rattle.td_replay.proofs.following.follow.Goals as goal

pub loop-init : goal.loop-init
loop-init g c = ([], rw c.new-bytes.ensures.items (followed_none g.D.Desk.seen g.R.Read.remaining c.args.desk.now c.args.input.now), refl, refl, omega arith)

pub returns-in_err-line : goal.returns-in_err-line
returns-in_err-line g c =
    let (rows, was, count, turns, few) = c.loop.invariant in
    rw (error_is c.from_residual.result c.in_err-line.field-0.0 c.from_residual.ensures.1)
    (inr (inr (record { rows = rows; rest = c.loop.bytes.items; read = c.loop.input; followed = was; none = c.in_err-line.ensures.failed })))

pub returns-in_default : goal.returns-in_default
returns-in_default g c =
    let (rows, was, count, turns, few) = c.loop.invariant in
    let more : HasNoMore g.R.Read.remaining c.loop.input c.next_line.new.input c.loop.bytes.items c.next_line.new.bytes.items =
    rw c.in_default.is at c.in_ok-line.ensures.line in
    record {
      rows = rows;
      rest = c.next_line.new.bytes.items;
      read = more.read;
      followed = rw more.bytes_are (followed_given g.D.Desk.seen g.R.Read.remaining c.args.desk.now c.args.input.now rows c.loop.bytes.items more.given c.loop.desk c.loop.input more.read was more.gave);
      torn = more.torn;
      ended = more.ended;
      count_is = count;
    }

pub returns-in_err-row : goal.returns-in_err-row
returns-in_err-row g c =
    let (rows, was, count, turns, few) = c.loop.invariant in
    let line = c.in-Some.line.items in
    let next : IsNextLine g.R.Read.remaining c.loop.input c.next_line.new.input c.loop.bytes.items c.next_line.new.bytes.items line =
    rw c.in-Some.is at c.in_ok-line.ensures.line in
    let bad : IsNoNextRow line (length rows) c.in_err-row.field-0.0 = rw (c.deref.ensures.value, count) at c.in_err-row.ensures.none in
    rw (error_is c.from_residual-in_err-row.result c.in_err-row.field-0.0 c.from_residual-in_err-row.ensures.1)
    (inl (record {
      rows = rows;
      line = line;
      rest = c.next_line.new.bytes.items;
      followed = rw (← next.bytes_are) (followed_given g.D.Desk.seen g.R.Read.remaining c.args.desk.now c.args.input.now rows c.loop.bytes.items next.given c.loop.desk c.loop.input c.next_line.new.input was next.read);
      one = next.one;
      bad = bad;
    }))

pub returns-in_err-done : goal.returns-in_err-done
returns-in_err-done g c =
    let (rows, was, count, turns, few) = c.loop.invariant in
    let line = c.in-Some.line.items in
    let next : IsNextLine g.R.Read.remaining c.loop.input c.next_line.new.input c.loop.bytes.items c.next_line.new.bytes.items line =
    rw c.in-Some.is at c.in_ok-line.ensures.line in
    let is : IsNextRow line (length rows) (numbered c.in_ok-row.row) = rw (c.deref.ensures.value, count) at c.in_ok-row.ensures.row in
    rw (error_is c.from_residual-in_err-done.result c.in_err-done.field-0.0 c.from_residual-in_err-done.ensures.1)
    (inr (inl (record {
      rows = rows;
      line = line;
      rest = c.next_line.new.bytes.items;
      row = numbered c.in_ok-row.row;
      desk = c.loop.desk;
      followed = rw (← next.bytes_are) (followed_given g.D.Desk.seen g.R.Read.remaining c.args.desk.now c.args.input.now rows c.loop.bytes.items next.given c.loop.desk c.loop.input c.next_line.new.input was next.read);
      next = is;
      fails = c.in_err-done.ensures.failed;
    })))

pub loop-preserved : goal.loop-preserved
loop-preserved g c =
    let (rows, was, count, turns, few) = c.loop.invariant in
    let line = c.in-Some.line.items in
    let next : IsNextLine g.R.Read.remaining c.loop.input c.next_line.new.input c.loop.bytes.items c.next_line.new.bytes.items line =
    rw c.in-Some.is at c.in_ok-line.ensures.line in
    let row = numbered c.in_ok-row.row in
    let is : IsNextRow line (length rows) row = rw (c.deref.ensures.value, count) at c.in_ok-row.ensures.row in
    let size = length-append rows (row ∷ []) in
    let few_rows = is.is.is_row.number in (
      rows ++ row ∷ [],
      followed_row g.D.Desk.seen g.R.Read.remaining c.args.desk.now c.args.input.now rows line c.next_line.new.bytes.items row c.loop.desk c.do_next.new.desk c.next_line.new.input
          (rw (← next.bytes_are) (followed_given g.D.Desk.seen g.R.Read.remaining c.args.desk.now c.args.input.now rows c.loop.bytes.items next.given c.loop.desk c.loop.input c.next_line.new.input was next.read))
          is c.in_ok-done.ensures.done,
      c.in_ok-done.ensures.number ∙ omega (arith, is.number, size),
      omega (arith, turns, c.in_ok-done.ensures.number, is.number, count),
      omega (arith, c.in_ok-done.ensures.number, few_rows),
    )
