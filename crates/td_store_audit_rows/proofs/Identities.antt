-- The fields of a holder's row are there exactly where its columns are of their kinds and in range.
use Rattle.std.proofs.Common.{◌≡◌, ◌^◌, Bool, true, false, Some, None, refl}
use Rattle.std.specs.Option.{option_and_then}
use Rattle.std.specs.Prelude.{IfSome, if◌then◌else◌, nat_le, nat_lt, negsuc, pos, ◌&&◌}
use Rattle.sqlite_value.specs.declared.value.Value.{Value}
use Rattle.sqlite_value.specs.declared.value.Value.TheVariants.{Blob, Int, Null, Real, Text}
use Rattle.sqlite_value.specs.Order.{Row, column}
use Rattle.sqlite_trees.proofs.ListLemmas.{all-map, all_both, all_from_map, all_weaker}
use Rattle.td_base.specs.Codes.{is_eori, holder_of, is_holder_number}
use Rattle.td_schema.specs.Fields.{eori_in, holder_in, moment_in, serial_in}
use Rattle.td_store_rows.specs.Columns.{holder_typing}
use Rattle.typed_sql.specs.Typed.{row_of}
use Rattle.typed_sql.specs.Values.{number_in, text_in}
use Rattle.td_table_model.specs.Rules.{IsHolderInRange}
use Rattle.std.specs.Prelude.{IsSome}
use Rattle.td_store_audit_rows.specs.Holders.{fields_of}
use Rattle.td_store_audit_rows.specs.Untyped.{HasIdentity}
use Rattle.td_store_audit_rows.specs.Told.{FieldsTell, HolderFieldsTell, HoldersTellS2}
use Rattle.td_store_audit_rows.proofs.Fields.{eori_field, holder_field, moment_field, serial_field}
use Rattle.td_store_audit_rows.proofs.Raw.{number_read, text_read}

tell : (r : Row) → FieldsTell r
tell r =
    let holder = holder_field (column r 0) in
    let eori = eori_field (column r 2) in
    let last_at = moment_field (column r 3) in
    let grns = serial_field (column r 4) in
    let mrns = serial_field (column r 5) in
    record {
      holder = (λ is. let h = holder.0 is in ((number_in (column r 0), h.0), h.1), λ h. holder.1 (number_read (column r 0) h.0, h.1));
      identity = (
        λ is.
            let e = eori.0 is.0 in
            let l = last_at.0 is.1 in
            (((text_in (column r 2), e.0), (number_in (column r 3), l.0)), record { eori = e.1; last_at = l.1 }),
        λ h. (eori.1 (text_read (column r 2) h.0.0, h.1.eori), last_at.1 (number_read (column r 3) h.0.1, h.1.last_at)),
      );
      grn_count = (λ is. let h = grns.0 is in ((number_in (column r 4), h.0), h.1), λ h. grns.1 (number_read (column r 4) h.0, h.1));
      mrn_count = (λ is. let h = mrns.0 is in ((number_in (column r 5), h.0), h.1), λ h. mrns.1 (number_read (column r 5) h.0, h.1));
    }

-- what a test lets through is the value
said : {X : Type 0} (b : Bool) (x : X) → IfSome (if b then Some x else None) (λ y. y ≡ x)
said true x = refl
said false x = tt

serial_said : (v : Value) → IfSome (serial_in v) (λ n. n ≡ number_in v)
serial_said (Int (pos n)) = said (nat_lt n (2 ^ 32)) n
serial_said (Int (negsuc n)) = tt
serial_said Null = tt
serial_said (Real x) = tt
serial_said (Text t) = tt
serial_said (Blob b) = tt

holder_said : (v : Value) → IfSome (holder_in v) (λ n. n ≡ number_in v)
holder_said (Int (pos n)) = by_test (nat_lt n (2 ^ 32))
  where
    by_test : (b : Bool) → IfSome (option_and_then holder_of (if b then Some n else None)) (λ k. k ≡ n)
    by_test true = said (is_holder_number n) n
    by_test false = tt
holder_said (Int (negsuc n)) = tt
holder_said Null = tt
holder_said (Real x) = tt
holder_said (Text t) = tt
holder_said (Blob b) = tt

moment_said : (v : Value) → IfSome (moment_in v) (λ n. n ≡ number_in v)
moment_said (Int (pos n)) = said (nat_le 946684800 n && nat_le n 4102444799) n
moment_said (Int (negsuc n)) = tt
moment_said Null = tt
moment_said (Real x) = tt
moment_said (Text t) = tt
moment_said (Blob b) = tt

eori_said : (v : Value) → IfSome (eori_in v) (λ text. text ≡ text_in v)
eori_said (Text t) = said (is_eori t) t
eori_said Null = tt
eori_said (Int n) = tt
eori_said (Real x) = tt
eori_said (Blob b) = tt

pub fields_tell : HolderFieldsTell
fields_tell r = (
  tell r,
  record {
    holder = holder_said (column r 0);
    eori = eori_said (column r 2);
    last_at = moment_said (column r 3);
    grn_count = serial_said (column r 4);
    mrn_count = serial_said (column r 5);
  },
)

abbrev IsThere : Row → Type 0
IsThere r = IsSome (fields_of r).eori × IsSome (fields_of r).last_at

abbrev InRange : Row → Type 0
InRange r = IsHolderInRange (row_of holder_typing r)

pub tell_s2 : HoldersTellS2
tell_s2 l trees =
    let rows = trees holder_typing.table.tree in (
      λ keeps. all_both HasIdentity InRange IsThere (λ r kind range. (tell r).identity.1 (kind, range)) rows keeps.0
          (all_from_map IsHolderInRange (row_of holder_typing) rows keeps.1),
      λ there. (
        all_weaker IsThere HasIdentity (λ r it. ((tell r).identity.0 it).0) rows there,
        all-map IsHolderInRange (row_of holder_typing) rows (all_weaker IsThere InRange (λ r it. ((tell r).identity.0 it).1) rows there),
      ),
    )
