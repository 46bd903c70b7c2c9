-- One reading after another.
use Rattle.std.proofs.Common.{◌≡◌, ℕ, ◌+◌, ◌-◌, ◌<◌, ◌≤◌, List, [], ◌∷◌, ◌++◌, length, Option, Bool, true, false, arith, ap, inl, inr, refl, subst, sym, ◌∙◌, append-nil, append_assoc}
use Rattle.std.proofs.KnownBytes.{Consumes-trans, Consumes-nil}
use Rattle.std.proofs.lemmas.Bool.{cases_lt}
use Rattle.std.proofs.lemmas.Fn.{FoldsTo-push}
use Rattle.std.proofs.lemmas.List.{length-append}
use Rattle.std.proofs.lemmas.List.Folds.{concat-append}
use Rattle.std.specs.List.{FoldsTo, concat}
use Rattle.std.specs.Io.KnownBytes.{Consumes, IsAtEnd}
use Rattle.counted_io.specs.declared.counted.Counted.{Counted}
use Rattle.counted_io.specs.Chains.{IsRead, Brings, Brought}
use Rattle.counted_io.specs.Counted.{calls_of, known_bytes, HasMade, one_more}
use Rattle.counted_io.proofs.Calls.{made_none, made_more, made_on}
use Rattle.counted_io.proofs.Chaining.{FoldsTo-append}
use Rattle.http_wire.specs.declared.reading.StopCause.{StopCause}
use Rattle.http_wire.specs.declared.reading.StopCause.TheVariants.{Closed, Cut, ReadsSpent, ReadFault, NoMemory, Refused, Head, WriteFault}
use Rattle.http_wire.specs.Reading.{HasRead, ReadsOn, StopsAs, Finish, brought, ended, failed, LastRead, count_of, IsNeeded, KeepsRoom}
use Rattle.http_wire.specs.Wire.{IsOpen}

-- no read was made
unfoldable pub read_none : {R : Type 0} (remaining : R → Option (List ℕ)) (old : Counted R) (x : ℕ) → HasRead remaining old old [] x x brought
read_none remaining old x =
    record {
      consumed = Consumes-nil _;
      spent = omega arith;
      counted = let none : x - x ≡ 0 = omega arith in rw none (made_none _);
      pieces = [];
      given_is = refl;
      reads = record { mid = old; brought = refl; last = refl };
      count = omega arith;
    }

pub reads_none : {R : Type 0} (remaining : R → Option (List ℕ)) (old : Counted R) (stood : List ℕ) (x : ℕ) → ReadsOn remaining old old stood [] x x brought
unfolding read_none
reads_none remaining old stood x = record { read = read_none remaining old x; needed = inl refl }

-- one call after some
one_call : (x y a b c : ℕ) → y ≤ x → 0 < y → HasMade (x - y) a b → c ≡ one_more b → HasMade (x - (y - 1)) a c
one_call x y a b c spent some made is =
    let sum : (x - y) + 1 ≡ x - (y - 1) = omega arith in
    subst (λ (n : ℕ). HasMade n a c) sum (subst (HasMade ((x - y) + 1) a) (sym is) (made_more (x - y) a b made))

-- the pieces with one more
pub pieces_more : (pieces : List (List ℕ)) (piece given : List ℕ) → concat pieces ≡ given → concat (pieces ++ piece ∷ []) ≡ given ++ piece
pieces_more pieces piece given is = concat-append pieces (piece ∷ []) ∙ (ap (λ (b : List ℕ). b ++ concat (piece ∷ [])) is ∙ ap (λ (b : List ℕ). given ++ b) (append-nil piece))

-- one read more brought bytes, where there was no whole request yet
pub reads_more : {R : Type 0} (remaining : R → Option (List ℕ)) (old now new : Counted R) (stood given piece : List ℕ) (x y : ℕ)
    → ReadsOn remaining old now stood given x y brought → 0 < y → Brings remaining now piece new → IsOpen (stood ++ given)
    → ReadsOn remaining old new stood (given ++ piece) x (y - 1) brought
reads_more remaining old now new stood given piece x y on some brings still =
    let spent = on.read.spent in
    let before = on.read.count in
    record {
      read = record {
        consumed = Consumes-trans _ _ _ _ _ on.read.consumed brings.0.consumed;
        spent = omega arith;
        counted = one_call x y _ _ _ on.read.spent some on.read.counted brings.0.called;
        pieces = on.read.pieces ++ piece ∷ [];
        given_is = pieces_more on.read.pieces piece given on.read.given_is;
        reads = record {
          mid = new;
          brought = FoldsTo-push (Brings remaining) old on.read.pieces on.read.reads.mid piece new on.read.reads.brought
              (subst (λ m. Brings remaining m piece new) on.read.reads.last brings);
          last = refl;
        };
        count = let grown = length-append on.read.pieces (piece ∷ []) in omega arith;
      };
      needed = inr (on.read.pieces, piece, refl, subst (λ (b : List ℕ). IsOpen (stood ++ b)) (sym on.read.given_is) still);
    }

-- one read more brought none
reads_last : {R : Type 0} (remaining : R → Option (List ℕ)) (old now new : Counted R) (stood given : List ℕ) (x y : ℕ) (fails : Bool) (finish : Finish)
    → ReadsOn remaining old now stood given x y brought → 0 < y → IsRead remaining fails now [] new → LastRead remaining now new finish
    → ((pieces : List (List ℕ)) → count_of pieces finish ≡ length pieces + 1)
    → ReadsOn remaining old new stood given x (y - 1) finish
reads_last remaining old now new stood given x y fails finish on some read last one =
    let spent = on.read.spent in
    let before = on.read.count in
    let more = one on.read.pieces in
    record {
      read = record {
        consumed = subst (λ (b : List ℕ). Consumes (known_bytes remaining old) (known_bytes remaining new) b) (append-nil given) (Consumes-trans _ _ _ _ _ on.read.consumed read.consumed);
        spent = omega arith;
        counted = one_call x y _ _ _ on.read.spent some on.read.counted read.called;
        pieces = on.read.pieces;
        given_is = on.read.given_is;
        reads = record { mid = now; brought = subst (λ m. Brought remaining old on.read.pieces m) (sym on.read.reads.last) on.read.reads.brought; last = last };
        count = omega arith;
      };
      needed = on.needed;
    }

-- one read more found the end of the input
pub reads_end : {R : Type 0} (remaining : R → Option (List ℕ)) (old now new : Counted R) (stood given : List ℕ) (x y : ℕ)
    → ReadsOn remaining old now stood given x y brought → 0 < y → IsRead remaining false now [] new → IsAtEnd (known_bytes remaining new)
    → ReadsOn remaining old new stood given x (y - 1) ended
reads_end remaining old now new stood given x y on some read end = reads_last remaining old now new stood given x y false ended on some read (read, end) (λ pieces. refl)

-- one read more failed
pub reads_fault : {R : Type 0} (remaining : R → Option (List ℕ)) (old now new : Counted R) (stood given : List ℕ) (x y : ℕ)
    → ReadsOn remaining old now stood given x y brought → 0 < y → IsRead remaining true now [] new
    → ReadsOn remaining old new stood given x (y - 1) failed
reads_fault remaining old now new stood given x y on some read = reads_last remaining old now new stood given x y true failed on some read read (λ pieces. refl)

-- the number of reads after reads
pub count_on : (xs ys : List (List ℕ)) (finish : Finish) → count_of (xs ++ ys) finish ≡ length xs + count_of ys finish
count_on xs ys brought = length-append xs ys
count_on xs ys ended = let both = length-append xs ys in omega arith
count_on xs ys failed = let both = length-append xs ys in omega arith

-- where the last of the reads after reads was needed
needed_on : (stood given : List ℕ) (xs ys : List (List ℕ)) → concat xs ≡ given → IsNeeded stood xs → IsNeeded (stood ++ given) ys → IsNeeded stood (xs ++ ys)
needed_on stood given xs ys is first (inl none) = rw (none, append-nil xs) first
needed_on stood given xs ys is first (inr h) =
    inr (
      xs ++ h.0,
      h.1,
      ap (λ (zs : List (List ℕ)). xs ++ zs) h.2 ∙ sym (append_assoc xs h.0 (h.1 ∷ [])),
      subst (λ (b : List ℕ). IsOpen b) (append_assoc stood given (concat h.0) ∙ ap (λ (b : List ℕ). stood ++ b) (ap (λ (b : List ℕ). b ++ concat h.0) (sym is) ∙ sym (concat-append xs h.0))) h.3,
    )

-- reads after reads
unfoldable pub HasRead-trans : {R : Type 0} (remaining : R → Option (List ℕ)) (old mid new : Counted R) (given more : List ℕ) (x y z : ℕ) (finish : Finish)
    → HasRead remaining old mid given x y brought → HasRead remaining mid new more y z finish → HasRead remaining old new (given ++ more) x z finish
HasRead-trans remaining old mid new given more x y z finish first second =
    let a = first.spent in
    let b = second.spent in
    let m = first.count in
    let n = second.count in
    record {
      consumed = Consumes-trans _ _ _ _ _ first.consumed second.consumed;
      spent = omega arith;
      counted =
          let sum : (x - y) + (y - z) ≡ x - z = omega arith in
          subst (λ (n : ℕ). HasMade n (calls_of old) (calls_of new)) sum (made_on _ _ _ _ _ first.counted second.counted);
      pieces = first.pieces ++ second.pieces;
      given_is = concat-append first.pieces second.pieces
          ∙ (ap (λ (b : List ℕ). b ++ concat second.pieces) first.given_is ∙ ap (λ (b : List ℕ). given ++ b) second.given_is);
      reads = record {
        mid = second.reads.mid;
        brought = FoldsTo-append (Brings remaining) old first.pieces second.pieces first.reads.mid second.reads.mid first.reads.brought
            (subst (λ s. FoldsTo (Brings remaining) s second.pieces second.reads.mid) first.reads.last second.reads.brought);
        last = second.reads.last;
      };
      count = let both = count_on first.pieces second.pieces finish in omega arith;
    }

pub ReadsOn-trans : {R : Type 0} (remaining : R → Option (List ℕ)) (old mid new : Counted R) (stood given more : List ℕ) (x y z : ℕ) (finish : Finish)
    → ReadsOn remaining old mid stood given x y brought → ReadsOn remaining mid new (stood ++ given) more y z finish
    → ReadsOn remaining old new stood (given ++ more) x z finish
unfolding HasRead-trans
ReadsOn-trans remaining old mid new stood given more x y z finish first second =
    record {
      read = HasRead-trans remaining old mid new given more x y z finish first.read second.read;
      needed = needed_on stood given first.read.pieces second.read.pieces first.read.given_is first.needed second.needed;
    }

-- where the same bytes stood
pub stood_at : {R : Type 0} {remaining : R → Option (List ℕ)} {old new : Counted R} {now stood more : List ℕ} {x y : ℕ} {finish : Finish}
    → now ≡ stood → ReadsOn remaining old new now more x y finish → ReadsOn remaining old new stood more x y finish
stood_at {remaining = remaining} {old = old} {new = new} {more = more} {x = x} {y = y} {finish = finish} same on = subst (λ (s : List ℕ). ReadsOn remaining old new s more x y finish) same on

-- room after room
pub room_on : (a b c x y z : ℕ) → y ≤ x → z ≤ y → KeepsRoom a b x y → KeepsRoom b c y z → KeepsRoom a c x z
room_on a b c x y z first_spent second_spent first second =
    let up = first.kept in
    let on = second.kept in
    record {
      kept = omega arith;
      whole = λ fell. elim (cases_lt y x) [ inl lt ↦ (let top = first.whole lt in omega arith) | inr ge ↦ (let top = second.whole (omega arith) in top) ];
    }

-- the room where no read was made
pub room_first : (a x : ℕ) → KeepsRoom a a x x
room_first a x = record { kept = omega arith; whole = λ fell. absurd (let never : ⊥ = omega arith in never) }

-- what holds of a stop holds where there were more reads before
StopsAs-earlier : {R : Type 0} (remaining : R → Option (List ℕ)) (new : Counted R) (x y z a b : ℕ) (rest : List ℕ) (stop : StopCause)
    → y ≤ x → KeepsRoom a b x y → StopsAs remaining new y z b rest stop → StopsAs remaining new x z a rest stop
StopsAs-earlier remaining new x y z a b rest Closed more room h = (h.0, record { end = h.1.end; read = let r = h.1.read in omega arith })
StopsAs-earlier remaining new x y z a b rest Cut more room h = (h.0, h.1, record { end = h.2.end; read = let r = h.2.read in omega arith })
StopsAs-earlier remaining new x y z a b rest ReadsSpent more room h = h
StopsAs-earlier remaining new x y z a b rest ReadFault more room h = (h.0, h.1, let r = h.2 in omega arith)
StopsAs-earlier remaining new x y z a b rest NoMemory more room (inl h) =
    elim (cases_lt y x) [
      | inl lt ↦ (let top = room.whole lt in let small = h.2 in absurd (let never : b < b = omega arith in omega arith))
      | inr ge ↦ (let up = room.kept in let small = h.2 in let same = h.1 in inl (h.0, omega arith, omega arith))
    ]
StopsAs-earlier remaining new x y z a b rest NoMemory more room (inr h) = inr h
StopsAs-earlier remaining new x y z a b rest (Refused e) more room h = h
StopsAs-earlier remaining new x y z a b rest (Head target) more room h = h
StopsAs-earlier remaining new x y z a b rest WriteFault more room h = h

-- a stop after two readings
pub StopsAs-after : {R : Type 0} (remaining : R → Option (List ℕ)) (new : Counted R) (x y z a b : ℕ) (bytes mid given more : List ℕ) (stop : StopCause)
    → y ≤ x → KeepsRoom a b x y → mid ≡ bytes ++ given → StopsAs remaining new y z b (mid ++ more) stop → StopsAs remaining new x z a (bytes ++ (given ++ more)) stop
StopsAs-after remaining new x y z a b bytes mid given more stop earlier room is h =
    subst (λ (rest : List ℕ). StopsAs remaining new x z a rest stop) (ap (λ (b : List ℕ). b ++ more) is ∙ append_assoc bytes given more)
    (StopsAs-earlier remaining new x y z a b (mid ++ more) stop earlier room h)

-- what was read after two readings
pub joined : (bytes mid given new more : List ℕ) → mid ≡ bytes ++ given → new ≡ mid ++ more → new ≡ bytes ++ (given ++ more)
joined bytes mid given new more is grown = grown ∙ (ap (λ (b : List ℕ). b ++ more) is ∙ append_assoc bytes given more)
