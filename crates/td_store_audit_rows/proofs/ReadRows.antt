-- The columns that are shown of a row, after its rowid, are its fields exactly where the row is of its kinds and in range.
use Rattle.std.proofs.Common.{◌≡◌, ◌∙◌, ◌∷◌, refl, sym, ap}
use Rattle.std.specs.Prelude.{◌↔◌}
use Rattle.sqlite_typed.proofs.TestLemmas.{then_value}
use Rattle.sqlite_value.specs.declared.value.Value.{Value}
use Rattle.sqlite_value.specs.declared.value.Value.TheVariants.{Text}
use Rattle.sqlite_value.specs.Order.{Row, column}
use Rattle.sqlite_trees.specs.Tree.{rowid}
use Rattle.td_movement.specs.States.{state_name}
use Rattle.td_movement.specs.declared.state.State.{State}
use Rattle.td_movement.specs.declared.state.State.TheVariants.{Accepted, Arrived, Cancelled, Cleared, Discrepant, Enquired, Released, WrittenOff}
use Rattle.typed_sql.specs.Values.{text_in}
use Rattle.td_schema.specs.declared.layout.Layout.{Layout}
use Rattle.td_store_rows.specs.Columns.{code_columns, code_typing, guarantee_columns, guarantee_typing, line_columns, line_typing, movement_columns, movement_typing, state_in}
use Rattle.td_store_audit_rows.specs.Fields.{AreCodeFields, AreGuaranteeFields, AreLineFields, AreMovementFields}
use Rattle.td_store_audit_rows.specs.Scans.{AreCodeColumns, AreGuaranteeColumns, AreLineColumns, AreMovementColumns, IsReadRow}
use Rattle.td_store_audit_rows.proofs.Fields.{amount_field, code_field, cover_field, day_field, day_if_field, grn_field, holder_field, lrn_field, mrn_field, office_field, office_if_field, serial_field}

pub guarantee_read : (layout : Layout) (r : Row) → AreGuaranteeColumns (rowid r ∷ guarantee_columns r) ↔ IsReadRow (guarantee_typing layout) AreGuaranteeFields r
guarantee_read layout r = (
  λ h.
      let holder = (holder_field (column r 1)).0 h.key.holder in
      let serial = (serial_field (column r 2)).0 h.key.serial in
      let grn = (grn_field (column r 3)).0 h.grn in
      let reference = (amount_field (column r 4)).0 h.reference in
      let cover = (cover_field (column r 5)).0 h.cover in
      let ends = (day_if_field (column r 6)).0 h.ends in (
        then_value holder.0 (then_value serial.0 (then_value grn.0 (then_value reference.0 (then_value cover.0 (then_value ends.0 refl))))),
        record { key = record { holder = holder.1; serial = serial.1 }; grn = grn.1; reference = reference.1; cover = cover.1; ends = ends.1 },
      ),
  λ h. record {
    key = record {
      holder = (holder_field (column r 1)).1 (ap (λ l. column l 0) h.0, h.1.key.holder);
      serial = (serial_field (column r 2)).1 (ap (λ l. column l 1) h.0, h.1.key.serial);
    };
    grn = (grn_field (column r 3)).1 (ap (λ l. column l 2) h.0, h.1.grn);
    reference = (amount_field (column r 4)).1 (ap (λ l. column l 3) h.0, h.1.reference);
    cover = (cover_field (column r 5)).1 (ap (λ l. column l 4) h.0, h.1.cover);
    ends = (day_if_field (column r 6)).1 (ap (λ l. column l 5) h.0, h.1.ends);
  },
)

pub code_read : (r : Row) → AreCodeColumns (rowid r ∷ code_columns r) ↔ IsReadRow code_typing AreCodeFields r
code_read r = (
  λ h.
      let holder = (holder_field (column r 1)).0 h.key.holder in
      let serial = (serial_field (column r 2)).0 h.key.serial in
      let code = (code_field (column r 3)).0 h.code in (
        then_value holder.0 (then_value serial.0 (then_value code.0 refl)),
        record { key = record { holder = holder.1; serial = serial.1 }; code = code.1 },
      ),
  λ h. record {
    key = record {
      holder = (holder_field (column r 1)).1 (ap (λ l. column l 0) h.0, h.1.key.holder);
      serial = (serial_field (column r 2)).1 (ap (λ l. column l 1) h.0, h.1.key.serial);
    };
    code = (code_field (column r 3)).1 (ap (λ l. column l 2) h.0, h.1.code);
  },
)

-- a state is told by its name
state_back : (s : State) → state_in (state_name s) ≡ s
state_back Accepted = refl
state_back Cancelled = refl
state_back Released = refl
state_back Enquired = refl
state_back Arrived = refl
state_back Discrepant = refl
state_back Cleared = refl
state_back WrittenOff = refl

state_field : (v : Value) (s : State) → v ≡ Text (state_name s) → v ≡ Text (state_name (state_in (text_in v)))
state_field v s is = is ∙ ap (λ t. Text (state_name t)) (sym (ap (λ w. state_in (text_in w)) is ∙ state_back s))

pub movement_read : (r : Row) → AreMovementColumns (rowid r ∷ movement_columns r) ↔ IsReadRow movement_typing AreMovementFields r
movement_read r = (
  λ h.
      let holder = (holder_field (column r 1)).0 h.key.holder in
      let serial = (serial_field (column r 2)).0 h.key.serial in
      let mrn = (mrn_field (column r 3)).0 h.declared.mrn in
      let lrn = (lrn_field (column r 4)).0 h.declared.lrn in
      let departure = (office_field (column r 5)).0 h.declared.departure in
      let destination = (office_field (column r 6)).0 h.declared.destination in
      let accepted = (day_field (column r 7)).0 h.declared.accepted in
      let limit = (day_if_field (column r 9)).0 h.status.limit in
      let arrival = (day_if_field (column r 10)).0 h.status.arrival in
      let actual = (office_if_field (column r 11)).0 h.status.actual in (
        then_value holder.0 (then_value serial.0 (then_value mrn.0 (then_value lrn.0 (then_value departure.0
            (then_value destination.0 (then_value accepted.0 (then_value (state_field (column r 8) h.status.state.0 h.status.state.1)
            (then_value limit.0 (then_value arrival.0 (then_value actual.0 refl)))))))))),
        record {
          key = record { holder = holder.1; serial = serial.1 };
          mrn = mrn.1;
          lrn = lrn.1;
          departure = departure.1;
          destination = destination.1;
          accepted = accepted.1;
          limit = limit.1;
          arrival = arrival.1;
          actual = actual.1;
        },
      ),
  λ h. record {
    key = record {
      holder = (holder_field (column r 1)).1 (ap (λ l. column l 0) h.0, h.1.key.holder);
      serial = (serial_field (column r 2)).1 (ap (λ l. column l 1) h.0, h.1.key.serial);
    };
    declared = record {
      mrn = (mrn_field (column r 3)).1 (ap (λ l. column l 2) h.0, h.1.mrn);
      lrn = (lrn_field (column r 4)).1 (ap (λ l. column l 3) h.0, h.1.lrn);
      departure = (office_field (column r 5)).1 (ap (λ l. column l 4) h.0, h.1.departure);
      destination = (office_field (column r 6)).1 (ap (λ l. column l 5) h.0, h.1.destination);
      accepted = (day_field (column r 7)).1 (ap (λ l. column l 6) h.0, h.1.accepted);
    };
    status = record {
      state = (state_in (text_in (column r 8)), ap (λ l. column l 7) h.0);
      limit = (day_if_field (column r 9)).1 (ap (λ l. column l 8) h.0, h.1.limit);
      arrival = (day_if_field (column r 10)).1 (ap (λ l. column l 9) h.0, h.1.arrival);
      actual = (office_if_field (column r 11)).1 (ap (λ l. column l 10) h.0, h.1.actual);
    };
  },
)

pub line_read : (layout : Layout) (r : Row) → AreLineColumns (rowid r ∷ line_columns r) ↔ IsReadRow (line_typing layout) AreLineFields r
line_read layout r = (
  λ h.
      let holder = (holder_field (column r 1)).0 h.key.holder in
      let serial = (serial_field (column r 2)).0 h.key.serial in
      let no = (serial_field (column r 3)).0 h.no in
      let guarantee = (serial_field (column r 4)).0 h.guarantee in
      let cents = (amount_field (column r 5)).0 h.cents in (
        then_value holder.0 (then_value serial.0 (then_value no.0 (then_value guarantee.0 (then_value cents.0 refl)))),
        record { key = record { holder = holder.1; serial = serial.1 }; no = no.1; guarantee = guarantee.1; cents = cents.1 },
      ),
  λ h. record {
    key = record {
      holder = (holder_field (column r 1)).1 (ap (λ l. column l 0) h.0, h.1.key.holder);
      serial = (serial_field (column r 2)).1 (ap (λ l. column l 1) h.0, h.1.key.serial);
    };
    no = (serial_field (column r 3)).1 (ap (λ l. column l 2) h.0, h.1.no);
    guarantee = (serial_field (column r 4)).1 (ap (λ l. column l 3) h.0, h.1.guarantee);
    cents = (amount_field (column r 5)).1 (ap (λ l. column l 4) h.0, h.1.cents);
  },
)
