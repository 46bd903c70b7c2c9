-- The bytes of replies.
use Rattle.std.specs.Prelude.{ℕ, Bool, true, false, List, [], ◌++◌, length, codes, decimal, Option, None, Some}
use Rattle.http.specs.StatusCode.{status_text}
use Rattle.http_wire.specs.declared.framing.FramingError.{FramingError}
use Rattle.http_wire.specs.declared.framing.FramingError.TheVariants.{BadHead, HeadTooLarge, TransferEncoding, BadLength, BodyTooLarge}
use Rattle.http_wire.specs.declared.reply.Reply.{Reply}
use Rattle.http_wire.specs.declared.reply.Reply.TheVariants.{Made, NoMemory, Store}

-- the line of the allowed methods, if they are told
abbrev pub allow_line : Option (List ℕ) → List ℕ
allow_line None = []
allow_line (Some methods) = codes "Allow: " ++ (methods ++ codes "\r\n")

-- the line by which the stream's end is told
abbrev pub close_line : Bool → List ℕ
close_line false = []
close_line true = codes "Connection: close\r\n"

-- the first lines of a reply with a JSON body, up to the body's length
abbrev pub json_head : ℕ → List ℕ
json_head status =
    codes "HTTP/1.1 " ++ (status_text status ++ codes "\r\nContent-Type: application/json\r\nContent-Length: ")

-- a reply with a body
abbrev pub reply_text : ℕ → Option (List ℕ) → Bool → List ℕ → List ℕ
reply_text status allow close body =
    codes "HTTP/1.1 " ++ (status_text status
    ++ (codes "\r\nContent-Type: application/json\r\nContent-Length: " ++ (decimal (length body)
    ++ (codes "\r\n" ++ (allow_line allow ++ (close_line close ++ (codes "\r\n" ++ body)))))))

-- the reply to a HEAD request: no method but those of `allow` is served, and the stream stops
abbrev pub head_text : Option (List ℕ) → List ℕ
head_text allow =
    codes "HTTP/1.1 " ++ (status_text 405
    ++ (codes "\r\n" ++ (allow_line allow ++ (close_line true ++ codes "\r\n"))))

-- the body that names an error
abbrev pub error_text : List ℕ → List ℕ
error_text name = codes "{\"error\":\"" ++ (name ++ codes "\"}")

-- the status of a refused framing
abbrev pub framing_status : FramingError → ℕ
framing_status BadHead = 400
framing_status HeadTooLarge = 431
framing_status TransferEncoding = 501
framing_status BadLength = 400
framing_status BodyTooLarge = 413

-- its name
abbrev pub framing_name : FramingError → List ℕ
framing_name BadHead = codes "bad-head"
framing_name HeadTooLarge = codes "head-too-large"
framing_name TransferEncoding = codes "transfer-encoding"
framing_name BadLength = codes "bad-length"
framing_name BodyTooLarge = codes "body-too-large"

-- the reply to it, after which the stream stops
abbrev pub framing_reply : FramingError → List ℕ
framing_reply e = reply_text (framing_status e) None true (error_text (framing_name e))

-- the reply where memory is missing
abbrev pub no_memory_reply : List ℕ
no_memory_reply = reply_text 503 None true (error_text (codes "no-memory"))

-- the reply where the store failed
abbrev pub store_reply : List ℕ
store_reply = reply_text 500 None true (error_text (codes "store"))

-- the bytes of a reply
abbrev pub bytes_of : Reply → List ℕ
bytes_of (Made bytes) = bytes.items
bytes_of NoMemory = no_memory_reply
bytes_of Store = store_reply

-- it is the reply of a handler, and not a fixed one that a fault has
abbrev pub is_made : Reply → Bool
is_made (Made bytes) = true
is_made NoMemory = false
is_made Store = false
