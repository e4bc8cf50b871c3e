use Rattle.std.proofs.Common.{◌∙◌, ◌≡◌, ◌-◌, map, refl, sym, ap, rules}
use Rattle.std.proofs.lemmas.Result.{err_from_is_err_and}
use Rattle.proto_wire.specs.Given.{view_record, view_scan, view_value}
use Rattle.proxy_proto.specs.Faults.{fault_at, value_fault}
use Rattle.proxy_proto.specs.MetKeys.{is_map_field}
use Rattle.proxy_proto.specs.Tables.{label_of}
use Rattle.proxy_proto.proofs.Checking.{opened, ended, all_done, stopped, unknown, one_more, ill, passed, met_same, met_after, met_unknown, nested_is, on_ok}
use Rattle.proxy_proto.proofs.check.+check.Goals as goal

pub check-returns-then-depth-eq0 : goal.check-returns-then-depth-eq0
unfolding fault_at
check-returns-then-depth-eq0 t c = rw c.if-depth-eq0.true refl

pub check-returns-in_err-check_record : goal.check-returns-in_err-check_record
check-returns-in_err-check_record t c =
    let p = err_from_is_err_and c.from_residual-in_err-check_record.result c.from_residual-in_err-check_record.ensures.1 in
    let e = opened c.args.depth c.args.schema c.args.bytes.now c.fields-fields.result.now (view_scan c.in_ok-found.found) (search rules) c.fields-fields.ensures c.in_ok-found.ensures in
    rw (p.1, p.2, e) (stopped c.in_err-check_record.field-0.0 (fault_at (c.args.depth - 1)) c.args.schema c.fields-fields.result.now c.in_ok-found.found.records.items c.loop-i.i c.index.result.now (view_scan c.in_ok-found.found) (search rules) (search rules) (rw c.deref.ensures.value at c.in_err-check_record.ensures.fault) c.loop-i.invariant.left)

pub check-returns : goal.check-returns
check-returns t c =
    let e = opened c.args.depth c.args.schema c.args.bytes.now c.fields-fields.result.now (view_scan c.in_ok-found.found) (search rules) c.fields-fields.ensures c.in_ok-found.ensures in
    rw e (ended c.finish.result (fault_at (c.args.depth - 1)) c.args.schema c.fields-fields.result.now (view_scan c.in_ok-found.found) (sym c.loop-i.invariant.left ∙ all_done (fault_at (c.args.depth - 1)) c.fields-fields.result.now c.in_ok-found.found.records.items c.loop-i.i (search rules)) c.finish.ensures)

pub check_record-returns-in_default-clause-fault : goal.check_record-returns-in_default-clause-fault
check_record-returns-in_default-clause-fault t c = unknown (fault_at c.args.depth) c.args.fields.now (map view_record c.args.seen.now) (view_record c.args.next.now) (sym c.in_default.ensures)

pub check_record-returns-in_default-clause-keys : goal.check_record-returns-in_default-clause-keys
check_record-returns-in_default-clause-keys t c = met_unknown c.args.fields.now c.args.keys.now (map view_record c.args.seen.now) (view_record c.args.next.now) (sym c.in_default.ensures) c.requires

pub check_record-returns-then-is_one_more-clause-fault : goal.check_record-returns-then-is_one_more-clause-fault
check_record-returns-then-is_one_more-clause-fault t c = one_more (fault_at c.args.depth) c.args.fields.now (map view_record c.args.seen.now) (view_record c.args.next.now) c.in-Some.field (sym c.in-Some.ensures) (sym c.is_one_more.ensures ∙ c.if-is_one_more.true)

pub check_record-returns-in_err-check_value-clause-fault : goal.check_record-returns-in_err-check_value-clause-fault
check_record-returns-in_err-check_value-clause-fault t c =
    let p = err_from_is_err_and c.from_residual.result c.from_residual.ensures.1 in
    rw (p.1, p.2) (ill c.in_err-check_value.field-0.0 (fault_at c.args.depth) c.args.fields.now (map view_record c.args.seen.now) (view_record c.args.next.now) c.in-Some.field (sym c.in-Some.ensures) (sym c.is_one_more.ensures ∙ c.if-is_one_more.false) c.in_err-check_value.ensures)

pub check_record-returns-clause-fault : goal.check_record-returns-clause-fault
check_record-returns-clause-fault t c =
    passed c.meet.result (fault_at c.args.depth) c.args.fields.now (map view_record c.args.seen.now) (view_record c.args.next.now) c.in-Some.field _ (sym c.in-Some.ensures) (sym c.is_one_more.ensures ∙ c.if-is_one_more.false) c.in_ok-check_value.ensures
    (met_same c.args.fields.now c.args.keys.now (map view_record c.args.seen.now) (view_record c.args.next.now) c.in-Some.field (sym c.in-Some.ensures) c.requires) c.meet.ensures.fault

pub check_record-returns-clause-keys : goal.check_record-returns-clause-keys
check_record-returns-clause-keys t c =
    on_ok c.meet.result _ _ (met_after c.args.fields.now c.args.keys.now c.meet.new.keys (map view_record c.args.seen.now) (view_record c.args.next.now) (label_of c.in-Some.field) (ap is_map_field (sym c.in-Some.ensures)) c.requires) c.meet.ensures.keys

pub check_value-returns-in-Some : goal.check_value-returns-in-Some
check_value-returns-in-Some t c =
    let e : value_fault (fault_at c.args.depth) c.args.number c.args.kind (view_value c.args.value) ≡ fault_at c.args.depth c.in-Some.schema c.in-Some.bytes.now = nested_is (fault_at c.args.depth) c.args.number c.args.kind (view_value c.args.value) c.in-Some.schema c.in-Some.bytes.now (rw c.in-Some.is at c.in_ok-look.ensures) in
    rw e c.check.ensures
