use Rattle.std.proofs.Common.{◌-◌, refl, arith, add-one}
use Rattle.std.proofs.Math.Nat.{pow-suc}
use Rattle.std.proofs.lemmas.Result.{err_from_is_err_and}
use Rattle.proto_wire.specs.Wire.{varint_in}
use Rattle.proto_wire.proofs.VarintRead.{short, last, more, tenth, too_long, part_fits}
use Rattle.proto_wire.proofs.scan.varint.Goals as goal

pub returns-in_err-first : goal.returns-in_err-first
returns-in_err-first c =
    let p = err_from_is_err_and c.from_residual.result c.from_residual.ensures.1 in
    rw (p.1, p.2) (short (9 - c.loop.counter) c.args.at c.loop.value c.loop.scale c.loop.rest.now c.in_err-first.field-0.0 (varint_in 9 c.args.at c.args.bytes.now) c.in_err-first.ensures.reads c.loop.invariant.read)

pub overflow_mul-result : goal.overflow_mul-result
overflow_mul-result c =
    let h = part_fits c.loop.counter c.loop.scale c.loop.value c.in_ok-first.first c.loop-test.true c.loop.invariant.scale c.loop.invariant.value c.if-first-lt128.true in
    omega (arith, h.0)

pub overflow_add-result : goal.overflow_add-result
overflow_add-result c =
    let h = part_fits c.loop.counter c.loop.scale c.loop.value c.in_ok-first.first c.loop-test.true c.loop.invariant.scale c.loop.invariant.value c.if-first-lt128.true in
    omega (arith, h.1, h.2)

pub returns-then-first-lt128 : goal.returns-then-first-lt128
returns-then-first-lt128 c =
    last c.loop.counter c.args.at c.in_ok-first.first c.loop.value c.loop.scale c.loop.rest.now c.in_ok-first.after.now (varint_in 9 c.args.at c.args.bytes.now) c.loop-test.true c.if-first-lt128.true c.in_ok-first.ensures.reads c.loop.invariant.read

pub overflow_mul-value : goal.overflow_mul-value
overflow_mul-value c =
    let h = part_fits c.loop.counter c.loop.scale c.loop.value (c.in_ok-first.first - 128) c.loop-test.true c.loop.invariant.scale c.loop.invariant.value (omega (arith, c.in_ok-first.ensures.small)) in
    omega (arith, h.0)

pub overflow_add-value : goal.overflow_add-value
overflow_add-value c =
    let h = part_fits c.loop.counter c.loop.scale c.loop.value (c.in_ok-first.first - 128) c.loop-test.true c.loop.invariant.scale c.loop.invariant.value (omega (arith, c.in_ok-first.ensures.small)) in
    omega (arith, h.1, h.2)

pub overflow_mul-scale : goal.overflow_mul-scale
overflow_mul-scale c =
    let h = part_fits c.loop.counter c.loop.scale c.loop.value 0 c.loop-test.true c.loop.invariant.scale c.loop.invariant.value (omega (arith, c.in_ok-first.ensures.small)) in
    omega (arith, h.2)

pub loop-preserved : goal.loop-preserved
loop-preserved c = record {
  scale = rw (c.loop.invariant.scale, add-one, pow-suc 128 c.loop.counter) refl;
  value = (part_fits c.loop.counter c.loop.scale c.loop.value (c.in_ok-first.first - 128) c.loop-test.true c.loop.invariant.scale c.loop.invariant.value (omega (arith, c.in_ok-first.ensures.small))).1;
  read = more c.loop.counter c.args.at c.in_ok-first.first c.loop.value c.loop.scale c.loop.rest.now c.in_ok-first.after.now (varint_in 9 c.args.at c.args.bytes.now) c.loop-test.true c.if-first-lt128.false c.in_ok-first.ensures.reads c.loop.invariant.read;
}

pub returns-in_err-last : goal.returns-in_err-last
returns-in_err-last c =
    let p = err_from_is_err_and c.from_residual-in_err-last.result c.from_residual-in_err-last.ensures.1 in
    rw (p.1, p.2) (short (9 - c.loop.counter) c.args.at c.loop.value c.loop.scale c.loop.rest.now c.in_err-last.field-0.0 (varint_in 9 c.args.at c.args.bytes.now) c.in_err-last.ensures.reads c.loop.invariant.read)

pub returns-then-last-lt2 : goal.returns-then-last-lt2
returns-then-last-lt2 c =
    tenth c.loop.counter c.args.at c.in_ok-last.last c.loop.value c.loop.scale c.loop.rest.now c.in_ok-last.after.now (varint_in 9 c.args.at c.args.bytes.now) c.loop-test.false c.if-last-lt2.true c.in_ok-last.ensures.reads c.loop.invariant.read

pub returns-else-last-lt2 : goal.returns-else-last-lt2
returns-else-last-lt2 c =
    too_long c.loop.counter c.args.at c.in_ok-last.last c.loop.value c.loop.scale c.loop.rest.now c.in_ok-last.after.now (varint_in 9 c.args.at c.args.bytes.now) c.loop-test.false c.if-last-lt2.false c.in_ok-last.ensures.reads c.loop.invariant.read
