use Rattle.std.proofs.Common.{◌+◌, ◌++◌, [], ◌∷◌, Bor, List, length, map, sym, ap, subst, take, ◌∙◌, arith}
use Rattle.std.proofs.lemmas.List.{map-append, take_all}
use Rattle.std.proofs.lemmas.List.Sums.{sum_by_push}
use Rattle.std.specs.FinMap.{get}
use Rattle.std.specs.List.{sum_by}
use Rattle.mesh_base.specs.declared.key.ObjKey.{ObjKey}
use Rattle.server_index.proofs.Selecting.{first_list, one_list_more}
use Rattle.server_index.specs.Requiring.{HaveServers, Label, may_select}
use Rattle.server_index.proofs.required.required_lists.Goals as goal

abbrev shown : Bor (List ObjKey) → List ObjKey
shown keys = keys.now

pub loop-label-init : goal.loop-label-init
loop-label-init c =
    let held = c.args.store.now.objects in
    let ns = c.args.ns.now in
    let items = ap (map shown) (c.in_ok-push.ensures.items ∙ ap (λ (before : List (Bor (List ObjKey))). before ++ c.servers_requiring-of_any.result ∷ []) c.new-lists.ensures.items) in
    let size = sum_by_push length [] c.servers_requiring-of_any.result.now in
    let shown_size = ap (sum_by length) items in
    record {
      servers = subst (HaveServers held ns []) (sym items) (first_list held ns c.servers_requiring-of_any.result.now (c.servers_requiring-of_any.ensures c.requires));
      left = omega (arith, size, shown_size);
    }

pub loop-label-preserved : goal.loop-label-preserved
loop-label-preserved c =
    let held = c.args.store.now.objects in
    let ns = c.args.ns.now in
    let labels = c.args.labels.now in
    let so_far = map shown c.loop-label.lists.items in
    let keys = c.servers_requiring-keys.result in
    let items = ap (map shown) c.in_ok-push-2.ensures.items ∙ map-append shown c.loop-label.lists.items (keys ∷ []) in
    let size = sum_by_push length so_far keys.now in
    let shown_size = ap (sum_by length) items in
    let left = c.loop-label.invariant.left in
    record {
      servers = subst (HaveServers held ns (take (c.loop-label.label-index + 1) labels)) (sym items)
          (one_list_more held ns labels c.loop-label.label-index c.label-item.result so_far keys.now c.loop-label-test.true c.label-item.is c.loop-label.invariant.servers (c.servers_requiring-keys.ensures c.requires));
      left = omega (arith, size, shown_size, left);
    }

pub returns-clause-servers : goal.returns-clause-servers
returns-clause-servers c = λ k.
    c.loop-label.invariant.servers k
    ∙ ap (λ (labels : List Label). may_select c.args.ns.now labels (get c.args.store.now.objects k)) (take_all c.loop-label.label-index c.args.labels.now c.loop-label-test.false)

pub returns-clause-few : goal.returns-clause-few
returns-clause-few c =
    let left = c.loop-label.invariant.left in
    omega (arith, left)
