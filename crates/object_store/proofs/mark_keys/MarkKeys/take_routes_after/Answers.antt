use Rattle.std.proofs.Common.{◌≡◌, ◌&&◌, ◌||◌, refl}
use Rattle.std.specs.Ordering.{eq_by_cmp}
use Rattle.key_lists.specs.Keys.{has_key, is_after, key_by_kind}
use Rattle.object_store.specs.KeyLists.{is_at, is_kept, text_cmp}
use Rattle.object_store.specs.declared.mark_keys.MarkKeys.{MarkKeys}
use Rattle.object_store.proofs.AsideKeys.{cut}
use Rattle.object_store.proofs.ByCmp.{by_parent_cmp}
use Rattle.object_store.proofs.KeptAt.{routes_changed}
use Rattle.object_store.proofs.mark_keys.MarkKeys.take_routes_after.Goals as goal

pub returns-clause-parted : goal.returns-clause-parted
returns-clause-parted c = λ m k.
    let own = c.args.self.now in
    let at = c.args.parent.now in
    let list = c.take_list-keys.result in
    let rest : MarkKeys = record { slices = own.slices; servers = own.servers; server_authz = own.server_authz; policies = own.policies; routes = c.take_list-keys.new.by; services = own.services; pods = own.pods } in
    let had = by_parent_cmp (λ cmp. (q : _) (x y : _) (k : _) → key_by_kind cmp text_cmp text_cmp own.routes q x y k ≡ ((eq_by_cmp cmp at.kind q && (eq_by_cmp text_cmp at.ns x && (eq_by_cmp text_cmp at.name y && has_key k list))) || key_by_kind cmp text_cmp text_cmp c.take_list-keys.new.by q x y k)) c.take_list-keys.ensures.list in
    cut (is_at at m) (is_after c.args.kind k) (has_key k list) (has_key k c.split_after.new.self) (has_key k c.in_ok-after.after) (is_kept rest m k) (is_kept own m k) (is_kept c.put_routes.new.self m k)
    (routes_changed ◌||◌ (λ b. refl) rest (λ k. has_key k list) at.ns at.kind at.name own.routes had m k)
    (c.in_ok-after.ensures.left k) (c.in_ok-after.ensures.taken k) (c.in_ok-put_routes.ensures m k)
