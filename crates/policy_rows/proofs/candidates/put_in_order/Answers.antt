use Rattle.std.proofs.Common.{map, ap, rules, Bor, ◌∙◌}
use Rattle.std.proofs.lemmas.Fn.{dedup_same}
use Rattle.std.proofs.lemmas.List.Sorted.{answers_always, ranks_by}
use Rattle.mesh_base.proofs.KeyOrder.{keys_exact, keys_total}
use Rattle.mesh_base.specs.declared.key.ObjKey.{ObjKey}
use Rattle.view_types.specs.Objects.{key_of}
use Rattle.view_types.specs.declared.object.Object.{Object}
use Rattle.view_rules.proofs.FirstOfEach.{first_of_each}
use Rattle.policy_rows.proofs.InOrder.{in_order_through}
use Rattle.policy_rows.proofs.candidates.put_in_order.Goals as goal

abbrev shown : Bor Object → Object
shown object = object.now

abbrev place : Bor Object → ObjKey
place object = key_of object.now

pub returns : goal.returns
returns c =
    ap (map shown)
    (dedup_same _ _ _ (λ x y b f' x' y' called. search rules) _ _ c.dedup_by.ensures.filtered
    ∙ first_of_each keys_total keys_exact place c.args.objects.now.items c.sort_by.new.self.items
    (c.in_ok-sort_by.ensures.sorted _ (ranks_by keys_total place) (answers_always _ _ _ (λ f a r g called. search rules)))
    (c.in_ok-sort_by.ensures.stable _ (ranks_by keys_total place) (answers_always _ _ _ (λ f a r g called. search rules))))
    ∙ in_order_through keys_total shown key_of c.args.objects.now.items
