use Rattle.std.proofs.Common.{◌≡◌, Bool, ◌&&◌, not, refl, ap, sym, ◌∙◌}
use Rattle.std.specs.Ordering.{eq_by_cmp}
use Rattle.key_lists.specs.Keys.{is_key, key_at, key_by_kind}
use Rattle.object_store.specs.KeyLists.{text_cmp}
use Rattle.view_types.specs.declared.mark.Mark.TheVariants.{IpPod, IpService}
use Rattle.object_store.proofs.ByCmp.{by_ip_cmp, by_parent_cmp, by_ref_cmp}
use Rattle.object_store.proofs.KeptAt.{pods_changed, policies_changed, routes_changed, server_authz_changed, servers_changed, services_changed, slices_changed}
use Rattle.object_store.proofs.mark_keys.MarkKeys.take_one.Goals as goal

abbrev unless : Bool → Bool → Bool
unless taken there = not taken && there

pub returns-in-SlicesOf : goal.returns-in-SlicesOf
returns-in-SlicesOf c = rw c.in-SlicesOf.is (slices_changed unless (λ b. refl) c.args.self.now (λ k. is_key k c.args.key.now) c.in-SlicesOf.ns c.in-SlicesOf.service c.take_one.new.by c.take_one.ensures.taken)

pub returns-in-ServersIn : goal.returns-in-ServersIn
returns-in-ServersIn c = rw c.in-ServersIn.is (servers_changed unless (λ b. refl) c.args.self.now (λ k. is_key k c.args.key.now) c.in-ServersIn.ns c.take_one-in-ServersIn.new.by c.take_one-in-ServersIn.ensures.taken)

pub returns-in-ServerAuthzIn : goal.returns-in-ServerAuthzIn
returns-in-ServerAuthzIn c = rw c.in-ServerAuthzIn.is (server_authz_changed unless (λ b. refl) c.args.self.now (λ k. is_key k c.args.key.now) c.in-ServerAuthzIn.ns c.take_one-in-ServerAuthzIn.new.by c.take_one-in-ServerAuthzIn.ensures.taken)

pub returns-in-PolicyOn : goal.returns-in-PolicyOn
returns-in-PolicyOn c = rw c.in-PolicyOn.is (policies_changed unless (λ b. refl) c.args.self.now (λ k. is_key k c.args.key.now) c.in-PolicyOn.ns c.in-PolicyOn.kind c.in-PolicyOn.name c.take_one-in-PolicyOn.new.by (by_ref_cmp (λ cmp. (q : _) (x y : _) (k : _) → key_by_kind cmp text_cmp text_cmp c.take_one-in-PolicyOn.new.by q x y k ≡ (not ((eq_by_cmp cmp c.in-PolicyOn.kind q && (eq_by_cmp text_cmp c.in-PolicyOn.ns x && (eq_by_cmp text_cmp c.in-PolicyOn.name y && is_key k c.args.key.now)))) && key_by_kind cmp text_cmp text_cmp c.args.self.now.policies q x y k)) c.take_one-in-PolicyOn.ensures.taken))

pub returns-in-RouteOn : goal.returns-in-RouteOn
returns-in-RouteOn c = rw c.in-RouteOn.is (routes_changed unless (λ b. refl) c.args.self.now (λ k. is_key k c.args.key.now) c.in-RouteOn.ns c.in-RouteOn.kind c.in-RouteOn.name c.take_one-in-RouteOn.new.by (by_parent_cmp (λ cmp. (q : _) (x y : _) (k : _) → key_by_kind cmp text_cmp text_cmp c.take_one-in-RouteOn.new.by q x y k ≡ (not ((eq_by_cmp cmp c.in-RouteOn.kind q && (eq_by_cmp text_cmp c.in-RouteOn.ns x && (eq_by_cmp text_cmp c.in-RouteOn.name y && is_key k c.args.key.now)))) && key_by_kind cmp text_cmp text_cmp c.args.self.now.routes q x y k)) c.take_one-in-RouteOn.ensures.taken))

pub returns-in-IpService : goal.returns-in-IpService
returns-in-IpService c = rw (c.in-IpService.is ∙ ap IpService (sym c.get.ensures)) (services_changed unless (λ b. refl) c.args.self.now (λ k. is_key k c.args.key.now) c.get.result c.take_one-in-IpService.new.by (by_ip_cmp (λ cmp. (x : _) (k : _) → key_at cmp c.take_one-in-IpService.new.by x k ≡ (not ((eq_by_cmp cmp c.get.result x && is_key k c.args.key.now)) && key_at cmp c.args.self.now.services x k)) c.take_one-in-IpService.ensures.taken))

pub returns-in-IpPod : goal.returns-in-IpPod
returns-in-IpPod c = rw (c.in-IpPod.is ∙ ap IpPod (sym c.get-in-IpPod.ensures)) (pods_changed unless (λ b. refl) c.args.self.now (λ k. is_key k c.args.key.now) c.get-in-IpPod.result c.take_one-in-IpPod.new.by (by_ip_cmp (λ cmp. (x : _) (k : _) → key_at cmp c.take_one-in-IpPod.new.by x k ≡ (not ((eq_by_cmp cmp c.get-in-IpPod.result x && is_key k c.args.key.now)) && key_at cmp c.args.self.now.pods x k)) c.take_one-in-IpPod.ensures.taken))
