use Rattle.std.proofs.Common.{codes}
use Rattle.clap.specs.Words.{first_of, found_of, rows_of}
use Rattle.td_words.proofs.Asked.{none_up}
use Rattle.td_words.specs.Words.{IsDecimal, IsListening, Means, MeansOr}
use Rattle.td_words.proofs.words.listening_in.Goals as goal

pub returns-in_err-port-clause-none : goal.returns-in_err-port-clause-none
returns-in_err-port-clause-none c =
    let rows = rows_of (found_of c.args.matches.now) in
    none_up (Means (IsDecimal 1 65535) (first_of (codes "port") rows)) (IsListening rows) (λ l h. (l.port, h.port)) c.from_residual.result
    c.in_err-port.field-0.0 c.from_residual.ensures.1 c.in_err-port.ensures.none

pub returns-in_err-connections-clause-none : goal.returns-in_err-connections-clause-none
returns-in_err-connections-clause-none c =
    let rows = rows_of (found_of c.args.matches.now) in
    none_up (Means (IsDecimal 1 1000000) (first_of (codes "connections") rows)) (IsListening rows) (λ l h. (l.connections, h.connections))
    c.from_residual-in_err-connections.result c.in_err-connections.field-0.0 c.from_residual-in_err-connections.ensures.1
    c.in_err-connections.ensures.none

pub returns-in_err-idle-clause-none : goal.returns-in_err-idle-clause-none
returns-in_err-idle-clause-none c =
    let rows = rows_of (found_of c.args.matches.now) in
    none_up (MeansOr 2 (IsDecimal 1 3600) (first_of (codes "idle") rows)) (IsListening rows) (λ l h. (l.idle, h.idle)) _
    c.in_err-idle.field-0.0 c.from_residual-in_err-idle.ensures.1 c.in_err-idle.ensures.none
