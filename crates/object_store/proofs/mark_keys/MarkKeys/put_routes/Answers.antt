use Rattle.std.proofs.Common.{◌≡◌, ◌&&◌, ◌||◌, OnOk, refl}
use Rattle.std.specs.Ordering.{eq_by_cmp}
use Rattle.key_lists.specs.Keys.{has_key, key_by_kind}
use Rattle.object_store.specs.KeyLists.{text_cmp}
use Rattle.object_store.proofs.ByCmp.{by_parent_cmp}
use Rattle.object_store.proofs.KeptAt.{on_ok, routes_changed}
use Rattle.object_store.proofs.mark_keys.MarkKeys.put_routes.Goals as goal

pub returns : goal.returns
returns c =
    let at = c.args.parent.now in
    on_ok c.put_list.result (routes_changed ◌||◌ (λ b. refl) c.args.self.now (λ k. has_key k c.args.keys) c.args.parent.now.ns c.args.parent.now.kind c.args.parent.now.name c.put_list.new.by)
    (by_parent_cmp (λ cmp. OnOk c.put_list.result ((q : _) (x y : _) (k : _) → key_by_kind cmp text_cmp text_cmp c.put_list.new.by q x y k ≡ ((eq_by_cmp cmp at.kind q && (eq_by_cmp text_cmp at.ns x && (eq_by_cmp text_cmp at.name y && has_key k c.args.keys))) || key_by_kind cmp text_cmp text_cmp c.args.self.now.routes q x y k))) c.put_list.ensures.put)
