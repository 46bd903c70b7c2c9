-- What follows on a call that was well; and a text that doesn't write leaves all as it was.
use Rattle.std.proofs.Common.{Err, List, Ok, OnOk, Result, ℕ}
use Rattle.std.proofs.lemmas.Bool.{false≢true}
use Rattle.std.specs.Prelude.{IfOk, is_ok, true}
use Rattle.sqlite_schema.specs.declared.schema.Schema.{Schema}
use Rattle.sqlite.specs.Given.{IsPlain}
use Rattle.sqlite.specs.Listing.{understood}
use Rattle.sqlite.specs.State.{State, HasCleanDisk}
use Rattle.typed_sql.proofs.OnlyRead.{one_read}
use Rattle.typed_sql.specs.Reading.{LeavesAll, OnlyReads, Reads, StaysInside}

-- what holds whatever a call answered
pub any_ok : {T E P : Type 0} (r : Result T E) → P → OnOk r P
any_ok (Ok x) p = p
any_ok (Err e) p = tt

-- what follows from what a call says that was well
pub on_ok : {T E P Q : Type 0} (r : Result T E) → (P → Q) → OnOk r P → OnOk r Q
on_ok (Ok x) so p = so p
on_ok (Err e) so p = p

-- what follows from two things that hold of an answer
pub if_both : {T E : Type 0} {P Q W : T → Type 0} (r : Result T E) → ((x : T) → P x → Q x → W x) → IfOk r P
    → IfOk r Q → IfOk r W
if_both (Ok x) so p q = so x p q
if_both (Err e) so p q = p

pub stays : (s : Schema) (text : List ℕ) → IsPlain (understood s text) → (old new : State) → OnlyReads text old new
    → LeavesAll s old new
stays s text plain old new h has = h s has plain

pub stays_ok : {T E : Type 0} (s : Schema) (text : List ℕ) → IsPlain (understood s text) → (old new : State)
    (r : Result T E) → OnOk r (OnlyReads text old new) → OnOk r (LeavesAll s old new)
stays_ok s text plain old new r h = on_ok r (stays s text plain old new) h

-- a statement that doesn't write and was well has only read
pub reads_ok : (s : Schema) (text : List ℕ) → IsPlain (understood s text) → (old new : State)
    → (HasCleanDisk new → OnlyReads text old new) → StaysInside true old new → Reads s true old new
reads_ok s text plain old new still within = record {
  still = λ clean well. one_read old new (stays s text plain old new (still clean));
  within = within;
}

-- and so it has whatever came of it
pub reads_by : {T E : Type 0} (s : Schema) (text : List ℕ) → IsPlain (understood s text) → (old new : State)
    (r : Result T E) → (HasCleanDisk new → OnOk r (OnlyReads text old new)) → StaysInside (is_ok r) old new
    → Reads s (is_ok r) old new
reads_by s text plain old new (Ok x) still within = reads_ok s text plain old new still within
reads_by s text plain old new (Err e) still within = record {
  still = λ clean well. absurd (false≢true well);
  within = within;
}
