use Rattle.std.proofs.Common.{sym}
use Rattle.k8s_meta.proofs.Maps.{skips, takes, refuses, ends}
use Rattle.k8s_meta.proofs.label_map.labels_of.Goals as goal

pub loop-key-preserved-then-is_null : goal.loop-key-preserved-then-is_null
loop-key-preserved-then-is_null c = skips c.loop-key.found c.loop-key.key-iterator c.next.new.self c.args.members.now.entries c.in-Some.key.now c.in-Some.value.now c.in-Some.ensures.steps (sym c.if-is_null.ensures) c.loop-key.invariant

pub returns-in_default : goal.returns-in_default
returns-in_default c = refuses c.loop-key.found c.loop-key.key-iterator c.next.new.self c.args.members.now.entries c.in-Some.key.now c.in-Some.value.now c.in-Some.ensures.steps (sym c.if-is_null.ensures) (sym c.in_default.ensures) c.loop-key.invariant

pub loop-key-preserved : goal.loop-key-preserved
loop-key-preserved c =
    rw (c.in_ok-put.ensures.ok, c.in_ok-key.ensures, c.in_ok-value.ensures, c.as_str.ensures.value) (takes c.loop-key.found c.loop-key.key-iterator c.next.new.self c.args.members.now.entries c.in-Some.key.now c.in-Some.value.now c.in-Some-string_in.text.now c.in-Some.ensures.steps (sym c.if-is_null.ensures) (sym c.in-Some-string_in.ensures) c.loop-key.invariant)

pub returns : goal.returns
returns c = ends c.loop-key.found c.loop-key.key-iterator c.args.members.now.entries c.in-None.ensures.steps.0 c.loop-key.invariant
