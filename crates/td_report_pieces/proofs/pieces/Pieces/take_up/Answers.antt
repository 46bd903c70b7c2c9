use Rattle.std.proofs.Common.{refl, sym, arith, ◌≡◌, ◌∙◌, ◌+◌, ◌++◌, string_bytes}
use Rattle.td_report_pieces.specs.declared.fault.ReportFault.TheVariants.{Store, NoMemory}
use Rattle.td_report_pieces.proofs.Taking.{not_taken, has_no_line, line_waits, piece_written, told_no_memory}
use Rattle.td_report_pieces.proofs.pieces.Pieces.take_up.Goals.{else-len-ge-PIECE-via-then-len-ge-PIECE+else-not-write_text, else-len-ge-PIECE-via-else-len-ge-PIECE}
use Rattle.td_report_pieces.proofs.pieces.Pieces.take_up.Goals as goal

pub returns-in_err-line : goal.returns-in_err-line
returns-in_err-line g c =
    rw (told_no_memory _ c.from_residual.ensures.1) (not_taken _ _ _ _ _ _ refl NoMemory (λ e. cc e) (λ e. absurd (cc e)) refl refl)

pub returns-in_default : goal.returns-in_default
returns-in_default g c =
    let said = rw c.in_default.is at c.in_ok-line.ensures.line in
    has_no_line _ _ _ _ _ _ refl (sym said) refl refl refl

pub returns-in_default-checked_add : goal.returns-in_default-checked_add
returns-in_default-checked_add g c = not_taken _ _ _ _ _ _ refl Store (λ e. cc e) (λ _. omega (arith, c.in_default-checked_add.ensures)) refl refl

pub returns-in_err-push_str : goal.returns-in_err-push_str
returns-in_err-push_str g c =
    rw (told_no_memory _ c.from_residual-in_err-push_str.ensures.1) (not_taken _ _ _ _ _ _ refl NoMemory (λ e. cc e) (λ e. absurd (cc e)) refl c.in_err-push_str.ensures.bytes)

pub returns : goal.returns
returns g c =
    let said = rw c.in-Some.is at c.in_ok-line.ensures.line in
    let pushed : string_bytes c.push_str.new.self ≡ string_bytes c.args.self.now.text ++ string_bytes c.in-Some.line =
    rw c.as_str.ensures.value at c.in_ok-push_str.ensures.bytes in
    let counted : c.in-Some-checked_add.lines ≡ c.args.self.now.lines + 1 = omega (arith, c.in-Some-checked_add.ensures) in
    elim c.else-len-ge-PIECE.branch [
      | else-len-ge-PIECE-via-then-len-ge-PIECE+else-not-write_text w ↦
          let wrote = rw pushed at (w.write_text.ensures.whole w.if-not-write_text.false) in
          rw (w.self-is, w.writer-is) (piece_written _ _ _ _ _ _ w.write_text.ensures.report (string_bytes c.in-Some.line) (sym said) wrote w.write_text.ensures.none
          (w.write_text.ensures.lines ∙ counted) (rw (sym pushed) (omega arith)))
      | else-len-ge-PIECE-via-else-len-ge-PIECE w ↦
          rw (w.self-is, w.writer-is) (line_waits _ _ _ _ _ _ refl (string_bytes c.in-Some.line) (sym said) refl pushed counted (omega arith))
    ]
