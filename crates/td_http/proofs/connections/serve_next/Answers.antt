use Rattle.std.proofs.Common.{refl}
use Rattle.td_http.proofs.connections.serve_next.Goals as goal

pub returns : goal.returns
returns g c =
    let stream = c.serve_stream-end in (
      record {
        reader = c.new-reader.result;
        writer = c.new-writer.result;
        reader_left = stream.new.reader;
        writer_left = stream.new.writer;
        end = stream.result;
        exchanges = stream.ensures.0.run.exchanges;
      },
      record {
        busy = c.accept.new.self;
        came = rw (c.new-reader.ensures.inner, c.new-writer.ensures.inner) c.in_ok-reader.ensures;
        unread = (c.new-reader.ensures.calls, c.new-reader.ensures.failed);
        unwritten = (c.new-writer.ensures.calls, c.new-writer.ensures.failed);
        served = stream.ensures.0;
        exchanges = refl;
        went = rw (c.into_inner.ensures, c.into_inner-2.ensures) at c.close.ensures;
      },
    )
