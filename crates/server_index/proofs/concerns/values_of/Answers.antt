use Rattle.std.proofs.Common.{◌≡◌, true, List, take, sym, ap, subst, ◌∙◌}
use Rattle.std.proofs.lemmas.List.{take_all}
use Rattle.std.proofs.lemmas.List.Elements.{All-more, All-weaker}
use Rattle.server_index.specs.Concerned.{HaveValues}
use Rattle.server_index.specs.Probes.{may_have, probe_of}
use Rattle.server_index.specs.Requiring.{Label}
use Rattle.server_index.specs.declared.name_filter.NameFilter.{NameFilter}
use Rattle.server_index.proofs.concerns.values_of.Goals as goal

abbrev HasValue : NameFilter → Label → Type 0
HasValue values label = may_have values (probe_of label.1) ≡ true

pub loop-label-preserved : goal.loop-label-preserved
loop-label-preserved c =
    let labels = c.args.labels.now in
    let old = c.loop-label.values in
    let new = c.insert.new.self in
    let probe = c.probe_of.ensures ∙ ap probe_of c.as_bytes.ensures.value in
    All-more (HasValue new) labels c.loop-label.label-index c.label-item.result c.loop-label-test.true
    (All-weaker (HasValue old) (HasValue new) (λ label has. c.insert.ensures.keeps (probe_of label.1) has) (take c.loop-label.label-index labels) c.loop-label.invariant)
    (subst (HasValue new) c.label-item.is (ap (may_have new) (sym probe) ∙ c.insert.ensures.has))

pub returns : goal.returns
returns c = subst (λ (labels : List Label). HaveValues c.loop-label.values labels) (take_all c.loop-label.label-index c.args.labels.now c.loop-label-test.false) c.loop-label.invariant
