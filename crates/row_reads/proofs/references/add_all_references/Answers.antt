use Rattle.std.proofs.Common.{◌++◌, Bor, sym, ap, ◌∙◌}
use Rattle.std.specs.List.{flat_map}
use Rattle.std.proofs.lemmas.List.{take_all}
use Rattle.std.proofs.lemmas.List.Folds.{flat_map-map}
use Rattle.view_types.specs.declared.object.Object.{Object}
use Rattle.row_reads.specs.References.{references}
use Rattle.row_reads.proofs.references.add_all_references.Goals as goal

pub returns : goal.returns
returns c =
    c.loop-object.invariant
    ∙ ap (λ objects. c.args.marks.now ++ flat_map (λ (o : Bor Object). references c.args.sort o.now) objects) (take_all c.loop-object.object-index c.args.objects.now c.loop-object-test.false)
    ∙ ap (λ marks. c.args.marks.now ++ marks) (sym (flat_map-map (references c.args.sort) (λ (o : Bor Object). o.now) c.args.objects.now))
