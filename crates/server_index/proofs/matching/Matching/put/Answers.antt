use Rattle.std.proofs.Common.{cond, Some, sym, ap, ◌∙◌}
use Rattle.std.specs.BTreeMap.{get, is_at}
use Rattle.std.specs.Cmp.Lexicographic.{slice_cmp}
use Rattle.std.specs.Map.{lookup}
use Rattle.std.specs.Option.{is_some}
use Rattle.std.specs.Ordering.{nat_cmp}
use Rattle.server_index.specs.Matches.{at_name}
use Rattle.server_index.specs.Probes.{may_have, probe_of}
use Rattle.server_index.proofs.Filters.{either_way, named_more}
use Rattle.server_index.proofs.Names.{put_same, same_name}
use Rattle.server_index.proofs.matching.Matching.put.Goals as goal

pub returns-then-is_same-clause-put : goal.returns-then-is_same-clause-put
returns-then-is_same-clause-put c = λ other.
    put_same (at_name c.args.self.now) c.args.name.now other c.args.terms (sym c.at.ensures ∙ c.is_same.ensures.0 c.if-is_same.true)

pub returns-in_ok-insert-in-Some-clause-put : goal.returns-in_ok-insert-in-Some-clause-put
returns-in_ok-insert-in-Some-clause-put c = λ other.
    c.in_ok-insert-in-Some.ensures.updates.0 other
    ∙ (λ i. cond (same_name (c.in_ok-copy-in-Some.ensures i) other) (sym c.in-Some.is i) (at_name c.args.self.now other))

pub returns-in-None-clause-put : goal.returns-in-None-clause-put
returns-in-None-clause-put c = λ other.
    c.remove.ensures.updates.0 other ∙ ap (λ terms. cond (same_name c.args.name.now other) terms (at_name c.args.self.now other)) (sym c.in-None.is)

pub invariant_of-self-in-Some-clause-named : goal.invariant_of-self-in-Some-clause-named
invariant_of-self-in-Some-clause-named c =
    let before = c.args.self.now in
    let filter = c.insert.new.self in
    let probe = c.probe_of.ensures ∙ ap probe_of c.as_bytes.ensures.value in
    let has = ap (may_have filter) (ap probe_of c.in_ok-copy-in-Some.ensures ∙ sym probe) ∙ c.insert.ensures.has in
    either_way c.insert-in-Some.result c.insert-in-Some.ensures.updates c.insert-in-Some.ensures.err
    (λ updates. named_more (at_name before) (get (slice_cmp nat_cmp) c.insert-in-Some.new.self) before.names filter c.in_ok-copy-in-Some.field-0 (Some c.in-Some.terms) updates.0
    before.named c.insert.ensures.keeps has)
    (λ same name there. c.insert.ensures.keeps (probe_of name) (before.named name (ap (λ entries. is_some (lookup (is_at (slice_cmp nat_cmp name)) entries)) (sym same) ∙ there)))
