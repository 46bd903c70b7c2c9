use Rattle.std.proofs.Common.{◌≡◌, ◌∙◌, [], take, drop, string_bytes}
use Rattle.std.proofs.lemmas.List.{take-append-drop}
use Rattle.td_report_pieces.proofs.Chains.{nothing_written}
use Rattle.td_report_pieces.proofs.pieces.Pieces.write_text.Goals as goal

pub returns-clause-part : goal.returns-clause-part
returns-clause-part g c = λ failed.
    let cut = rw c.as_bytes.ensures.value at (c.write_whole-is_written.ensures.cut failed) in
    (take cut.taken (string_bytes c.args.self.now.text), drop cut.taken (string_bytes c.args.self.now.text), take-append-drop cut.taken (string_bytes c.args.self.now.text), cut.wrote)

pub returns-clause-still : goal.returns-clause-still
returns-clause-still g c = λ none.
    let text : c.as_bytes.result.now ≡ [] = c.as_bytes.ensures.value ∙ none in
    nothing_written g.W.Write.contents c.args.writer.now c.write_whole-is_written.new.writer c.as_bytes.result.now text c.write_whole-is_written.result
    c.write_whole-is_written.ensures.chain c.write_whole-is_written.ensures.cut
