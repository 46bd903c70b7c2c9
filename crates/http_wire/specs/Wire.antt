-- Requests as bytes: heads as `httparse` prints them, bodies, and what may stand where no request does.
use Rattle.std.specs.Prelude.{◌≡◌, ℕ, ◌+◌, ◌<◌, ◌≤◌, ◌⊎◌, Bool, List, ◌++◌, length, map, codes, All, Ok, Err}
use Rattle.std.specs.List.{flat_map}
use Rattle.httparse.specs.Grammar.{RequestHead, IsRequestHead, print_request, HasNoRequest, NeverHasRequest, MayBecomeRequest}
use Rattle.httparse.specs.Spans.{name_and_value, RequestExceeds, RequestOverflows}
use Rattle.http_wire.specs.declared.framing.FramingError.{FramingError}
use Rattle.http_wire.specs.declared.framing.FramingError.TheVariants.{BadHead, HeadTooLarge, TransferEncoding, BadLength, BodyTooLarge}
use Rattle.http_wire.specs.declared.request.Request.{Request}
use Rattle.http_wire.specs.declared.next.Next.{Next}
use Rattle.http_wire.specs.declared.next.Next.TheVariants.{Whole, Head, Refused, More}
use Rattle.http_wire.specs.Framing.{body_length, closes}

-- the parts of a request that an answer may depend on
pub record Asked : Type 0 where
  pub method : List ℕ
  pub target : List ℕ
  pub body : List ℕ
  pub close : Bool

-- the parts of this one
abbrev pub asked : Request → Asked
asked r = record { method = r.method; target = r.target.items; body = r.body.items; close = r.close }

-- the names and values of a head's fields
abbrev pub fields_of : RequestHead → List (List ℕ × List ℕ)
fields_of h = map name_and_value h.fields

-- the head asks that the stream stop after the reply
abbrev pub asks_close : RequestHead → Bool
asks_close h = closes h.minor (fields_of h)

-- the method is HEAD, which is answered before the body
abbrev pub IsHeadMethod : RequestHead → Type 0
IsHeadMethod h = h.method ≡ codes "HEAD"

-- a head that the parser takes: at most 64 fields, at most 8,192 bytes
pub record IsGoodHead (h : RequestHead) : Type 0 where
  pub head : IsRequestHead h
  pub fields : length h.fields ≤ 64
  pub size : length (print_request h) ≤ 8192

-- a request as it is sent: a head and a body
pub record WireRequest : Type 0 where
  pub head : RequestHead
  pub body : List ℕ

-- its bytes
abbrev pub wire_bytes : WireRequest → List ℕ
wire_bytes w = print_request w.head ++ w.body

-- the head is a good one, not of a HEAD request, and the body has the length that the head says
pub record IsWireRequest (w : WireRequest) : Type 0 where
  pub head : IsGoodHead w.head
  pub method : ¬ (IsHeadMethod w.head)
  pub body : body_length (fields_of w.head) ≡ Ok (length w.body)

-- the bytes are whole requests, one after another, and then a rest
pub record Splits (bytes : List ℕ) (wires : List WireRequest) (rest : List ℕ) : Type 0 where
  pub whole : bytes ≡ flat_map wire_bytes wires ++ rest
  pub each : All IsWireRequest wires

-- the parts of a request are those of the wire
pub record IsRequestOn (w : WireRequest) (r : Request) : Type 0 where
  pub method : r.method ≡ w.head.method
  pub target : r.target.items ≡ w.head.target
  pub body : r.body.items ≡ w.body
  pub close : r.close ≡ asks_close w.head

-- a good head stands in front
pub record HasHead (bytes : List ℕ) (h : RequestHead) (rest : List ℕ) : Type 0 where
  pub good : IsGoodHead h
  pub bytes_are : bytes ≡ print_request h ++ rest

-- A prefix of at most 8,192 bytes is refused: no bytes can follow that make a head of it, or its fields are
-- too many. Either way no good head can come of it.
pub record IsBadHead (bytes : List ℕ) : Type 0 where
  pub front : List ℕ
  pub more : List ℕ
  pub bytes_are : bytes ≡ front ++ more
  pub size : length front ≤ 8192
  pub refused : NeverHasRequest front ⊎ RequestExceeds 64 front
  pub never_good : RequestOverflows 64 front

-- the first 8,192 bytes have no whole head, and nothing is wrong with them
pub record IsHeadTooLarge (bytes : List ℕ) : Type 0 where
  pub front : List ℕ
  pub more : List ℕ
  pub bytes_are : bytes ≡ front ++ more
  pub size : length front ≡ 8192
  pub none : HasNoRequest front
  pub may : MayBecomeRequest front

-- a good head stands in front, whose fields refuse the body
abbrev pub HasBadBody : List ℕ → FramingError → Type 0
HasBadBody bytes e =
    (h : RequestHead) × (rest : List ℕ) × HasHead bytes h rest × (body_length (fields_of h) ≡ Err e)

-- why the bytes are refused
abbrev pub IsRefusedFor : FramingError → List ℕ → Type 0
IsRefusedFor BadHead bytes = IsBadHead bytes
IsRefusedFor HeadTooLarge bytes = IsHeadTooLarge bytes
IsRefusedFor TransferEncoding bytes = HasBadBody bytes TransferEncoding
IsRefusedFor BadLength bytes = HasBadBody bytes BadLength
IsRefusedFor BodyTooLarge bytes = HasBadBody bytes BodyTooLarge

-- the head of a HEAD request for that target stands in front, and says a good length
abbrev pub IsHeadRequest : List ℕ → List ℕ → Type 0
IsHeadRequest target bytes =
    (h : RequestHead) × (rest : List ℕ) × (n : ℕ) × HasHead bytes h rest × IsHeadMethod h
    × (h.target ≡ target) × (body_length (fields_of h) ≡ Ok n)

-- the head isn't whole yet, and nothing is wrong with it
pub record IsHeadOpen (bytes : List ℕ) : Type 0 where
  pub none : HasNoRequest bytes
  pub may : MayBecomeRequest bytes
  pub size : length bytes < 8192

-- the head is whole, and the body isn't yet
abbrev pub IsBodyOpen : List ℕ → Type 0
IsBodyOpen bytes =
    (h : RequestHead) × (rest : List ℕ) × (n : ℕ) × HasHead bytes h rest × ¬ (IsHeadMethod h)
    × (body_length (fields_of h) ≡ Ok n) × (length rest < n)

-- no whole request yet, and nothing wrong
abbrev pub IsOpen : List ℕ → Type 0
IsOpen bytes = IsHeadOpen bytes ⊎ IsBodyOpen bytes

-- no whole request, and nothing wrong, as long as there are fewer than n bytes
pub record IsOpenBelow (n : ℕ) (bytes : List ℕ) : Type 0 where
  pub below : length bytes < n
  pub bound : n ≤ 8192 + 65536
  pub still : (more : List ℕ) → length (bytes ++ more) < n → IsOpen (bytes ++ more)

-- a request stands in front that is served: a whole one, or the head of a HEAD request
abbrev pub BeginsServed : List ℕ → Type 0
BeginsServed bytes =
    ((w : WireRequest) × (rest : List ℕ) × IsWireRequest w × (bytes ≡ wire_bytes w ++ rest))
    ⊎ ((target : List ℕ) × IsHeadRequest target bytes)

-- the bytes begin with this request, of so many bytes
pub record BeginsWith (bytes : List ℕ) (len : ℕ) (r : Request) : Type 0 where
  pub wire : WireRequest
  pub rest : List ℕ
  pub is_wire : IsWireRequest wire
  pub request : IsRequestOn wire r
  pub bytes_are : bytes ≡ wire_bytes wire ++ rest
  pub len_is : len ≡ length (wire_bytes wire)

-- what stands at the front of the bytes
abbrev pub IsNext : List ℕ → Next → Type 0
IsNext bytes (Whole request len) = BeginsWith bytes len request
IsNext bytes (Head target) = IsHeadRequest target.items bytes
IsNext bytes (Refused e) = IsRefusedFor e bytes
IsNext bytes (More n) = IsOpenBelow n bytes
