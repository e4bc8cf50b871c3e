use Rattle.std.proofs.Common.{◌≡◌, ◌&&◌, ◌||◌, OnOk, refl, ap, sym, ◌∙◌}
use Rattle.std.specs.Ordering.{eq_by_cmp}
use Rattle.key_lists.specs.Keys.{is_key, key_at, key_by_kind}
use Rattle.object_store.specs.KeyLists.{text_cmp}
use Rattle.view_types.specs.declared.mark.Mark.TheVariants.{IpPod, IpService}
use Rattle.object_store.proofs.ByCmp.{by_ip_cmp, by_parent_cmp, by_ref_cmp}
use Rattle.object_store.proofs.KeptAt.{on_ok, pods_changed, policies_changed, routes_changed, server_authz_changed, servers_changed, services_changed, slices_changed}
use Rattle.object_store.proofs.mark_keys.MarkKeys.put_one.Goals as goal

pub returns-in-SlicesOf : goal.returns-in-SlicesOf
returns-in-SlicesOf c = rw c.in-SlicesOf.is (on_ok c.put_one.result (slices_changed ◌||◌ (λ b. refl) c.args.self.now (λ k. is_key k c.args.key.now) c.in-SlicesOf.ns c.in-SlicesOf.service c.put_one.new.by) c.put_one.ensures.put)

pub returns-in-ServersIn : goal.returns-in-ServersIn
returns-in-ServersIn c = rw c.in-ServersIn.is (on_ok c.put_one-in-ServersIn.result (servers_changed ◌||◌ (λ b. refl) c.args.self.now (λ k. is_key k c.args.key.now) c.in-ServersIn.ns c.put_one-in-ServersIn.new.by) c.put_one-in-ServersIn.ensures.put)

pub returns-in-ServerAuthzIn : goal.returns-in-ServerAuthzIn
returns-in-ServerAuthzIn c = rw c.in-ServerAuthzIn.is (on_ok c.put_one-in-ServerAuthzIn.result (server_authz_changed ◌||◌ (λ b. refl) c.args.self.now (λ k. is_key k c.args.key.now) c.in-ServerAuthzIn.ns c.put_one-in-ServerAuthzIn.new.by) c.put_one-in-ServerAuthzIn.ensures.put)

pub returns-in-PolicyOn : goal.returns-in-PolicyOn
returns-in-PolicyOn c = rw c.in-PolicyOn.is (on_ok c.put_one-in-PolicyOn.result (policies_changed ◌||◌ (λ b. refl) c.args.self.now (λ k. is_key k c.args.key.now) c.in-PolicyOn.ns c.in-PolicyOn.kind c.in-PolicyOn.name c.put_one-in-PolicyOn.new.by) (by_ref_cmp (λ cmp. OnOk c.put_one-in-PolicyOn.result ((q : _) (x y : _) (k : _) → key_by_kind cmp text_cmp text_cmp c.put_one-in-PolicyOn.new.by q x y k ≡ ((eq_by_cmp cmp c.in-PolicyOn.kind q && (eq_by_cmp text_cmp c.in-PolicyOn.ns x && (eq_by_cmp text_cmp c.in-PolicyOn.name y && is_key k c.args.key.now))) || key_by_kind cmp text_cmp text_cmp c.args.self.now.policies q x y k))) c.put_one-in-PolicyOn.ensures.put))

pub returns-in-RouteOn : goal.returns-in-RouteOn
returns-in-RouteOn c = rw c.in-RouteOn.is (on_ok c.put_one-in-RouteOn.result (routes_changed ◌||◌ (λ b. refl) c.args.self.now (λ k. is_key k c.args.key.now) c.in-RouteOn.ns c.in-RouteOn.kind c.in-RouteOn.name c.put_one-in-RouteOn.new.by) (by_parent_cmp (λ cmp. OnOk c.put_one-in-RouteOn.result ((q : _) (x y : _) (k : _) → key_by_kind cmp text_cmp text_cmp c.put_one-in-RouteOn.new.by q x y k ≡ ((eq_by_cmp cmp c.in-RouteOn.kind q && (eq_by_cmp text_cmp c.in-RouteOn.ns x && (eq_by_cmp text_cmp c.in-RouteOn.name y && is_key k c.args.key.now))) || key_by_kind cmp text_cmp text_cmp c.args.self.now.routes q x y k))) c.put_one-in-RouteOn.ensures.put))

pub returns-in-IpService : goal.returns-in-IpService
returns-in-IpService c = rw (c.in-IpService.is ∙ ap IpService (sym c.get.ensures)) (on_ok c.put_one-in-IpService.result (services_changed ◌||◌ (λ b. refl) c.args.self.now (λ k. is_key k c.args.key.now) c.get.result c.put_one-in-IpService.new.by) (by_ip_cmp (λ cmp. OnOk c.put_one-in-IpService.result ((x : _) (k : _) → key_at cmp c.put_one-in-IpService.new.by x k ≡ ((eq_by_cmp cmp c.get.result x && is_key k c.args.key.now) || key_at cmp c.args.self.now.services x k))) c.put_one-in-IpService.ensures.put))

pub returns-in-IpPod : goal.returns-in-IpPod
returns-in-IpPod c = rw (c.in-IpPod.is ∙ ap IpPod (sym c.get-in-IpPod.ensures)) (on_ok c.put_one-in-IpPod.result (pods_changed ◌||◌ (λ b. refl) c.args.self.now (λ k. is_key k c.args.key.now) c.get-in-IpPod.result c.put_one-in-IpPod.new.by) (by_ip_cmp (λ cmp. OnOk c.put_one-in-IpPod.result ((x : _) (k : _) → key_at cmp c.put_one-in-IpPod.new.by x k ≡ ((eq_by_cmp cmp c.get-in-IpPod.result x && is_key k c.args.key.now) || key_at cmp c.args.self.now.pods x k))) c.put_one-in-IpPod.ensures.put))
