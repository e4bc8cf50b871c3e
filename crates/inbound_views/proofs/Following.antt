-- Views of ports after a change.
use Rattle.std.proofs.Common.{◌≡◌, ◌||◌, ◌++◌, ℕ, Bool, true, false, nat_eq, List, refl, sym, ap, ◌∙◌}
use Rattle.std.proofs.lemmas.List.Folds.{list_any-append}
use Rattle.std.specs.BTreeMap.{BTreeMap}
use Rattle.std.specs.Prelude.{option_map}
use Rattle.mesh_base.specs.declared.key.ObjKey.{ObjKey}
use Rattle.view_types.specs.Objects.{ObjectMap}
use Rattle.view_types.specs.declared.config.Config.{Config}
use Rattle.view_types.specs.declared.mark.Mark.{Mark}
use Rattle.mark_graph.specs.RowMarks.{has_row}
use Rattle.mark_rules.proofs.MarkTests.{neither_first, neither_second}
use Rattle.mark_rules.specs.Changes.{Leads}
use Rattle.mark_rules.specs.declared.keys.RouteKey.{RouteKey}
use Rattle.mark_rules.specs.declared.keys.ServerKey.{ServerKey}
use Rattle.row_views.specs.Ids.{key_at}
use Rattle.row_views.specs.Queries.{reads_one}
use Rattle.row_views.specs.Standing.{is_met}
use Rattle.row_sets.specs.Standing.{any_met, keys_at}
use Rattle.inbound_views.specs.PortRows.{authz_keys, authz_rows, query_for, route_keys, route_rows, server_rows}
use Rattle.inbound_views.specs.Standing.{AreJoined, AreMoved, AreThoseWithout, HasAuthz, HasKeys, HasRoutes, SetsAllRows, authz_of, query_at, reads_row, routes_of}
use Rattle.inbound_views.specs.declared.moving.Earlier.TheVariants.{Stay, Leave}
use Rattle.inbound_views.specs.declared.moving.KeysOf.{KeysOf}
use Rattle.inbound_views.specs.declared.moving.KeysOf.TheVariants.{Routes, Rows}
use Rattle.inbound_views.specs.declared.views.InboundViews.{InboundViews}
use Rattle.inbound_views.proofs.Rows.{asks, authz_still}

-- an id reads a mark of a change where its query does
pub reads_is : (stand : InboundViews → Config → ObjectMap → Type 0) (config : Config) (held : ObjectMap) (changed : List Mark) (views : InboundViews) → AreJoined stand config held views → (id : ℕ)
    → reads_row config held changed views id ≡ reads_one config held changed (query_at views id)
reads_is stand config held changed views joined id =
    (λ i. is_met (server_rows config) held changed (key_at views.servers.by_id id) || (any_met route_rows held changed (joined.routes id i) || any_met (authz_rows config) held changed (joined.authz id i)))
    ∙ sym (asks config held changed (key_at views.servers.by_id id))

pub same_queries : (old new : InboundViews) → new.servers.by_id ≡ old.servers.by_id → (id : ℕ) → query_at new id ≡ query_at old id
same_queries old new same id = ap (λ (by_id : BTreeMap ℕ ServerKey). option_map query_for (key_at by_id id)) same

pub same_ports : (old new : InboundViews) → new.servers ≡ old.servers → new.servers.by_id ≡ old.servers.by_id
same_ports old new same = λ i. (same i).by_id

module _ (stand : InboundViews → Config → ObjectMap → Type 0) (config : Config) (before after : ObjectMap) (old mid first new : InboundViews) (moved : List ℕ) (joined : AreJoined stand config before old) (are : AreMoved config before after old moved)
    (mid_ports : mid.servers.by_id ≡ old.servers.by_id) (first_ports : first.servers.by_id ≡ mid.servers.by_id) (new_ports : new.servers.by_id ≡ first.servers.by_id)
    (mid_routes : mid.routes.by_id ≡ old.routes.by_id) (mid_authz : mid.authz.by_id ≡ old.authz.by_id)
    (sets : SetsAllRows stand config after Stay moved mid first) (resets : SetsAllRows stand config after Leave moved first new) where
  still_routes : (id : ℕ) → has_row id moved ≡ false → routes_of new id ≡ routes_of old id
  still_routes id out = (resets.others id out).0 ∙ (sets.others id out).0 ∙ ap (λ (by_id : BTreeMap ℕ (List RouteKey)). keys_at by_id id) mid_routes

  still_authz : (id : ℕ) → has_row id moved ≡ false → authz_of new id ≡ authz_of old id
  still_authz id out = (resets.others id out).1 ∙ (sets.others id out).1 ∙ ap (λ (by_id : BTreeMap ℕ (List ObjKey)). keys_at by_id id) mid_authz

  now_asked : (id : ℕ) → query_at old id ≡ query_at new id
  now_asked id = sym (same_queries old new (new_ports ∙ first_ports ∙ mid_ports) id)

  keys_now : (id : ℕ) (b : Bool) → has_row id moved ≡ b → HasKeys config after Rows new id
  keys_now id true in_list =
      let set = resets.these refl id in_list in
      let asked = sym (same_queries first new new_ports id) in
      (set.0 ∙ ap (route_keys config after) asked, set.1 ∙ ap (authz_keys config after) asked)
  keys_now id false out =
      let has = are.others id out (joined.routes id, joined.authz id) in
      (still_routes id out ∙ has.0 ∙ ap (route_keys config after) (now_asked id), still_authz id out ∙ has.1 ∙ ap (authz_keys config after) (now_asked id))

  pub joined_after : AreJoined stand config after new
  joined_after = record { kept = resets.kept; routes = λ id. (keys_now id (has_row id moved) refl).0; authz = λ id. (keys_now id (has_row id moved) refl).1 }

-- ---- the ids that a change touches

pub in_either : (id : ℕ) (ids others : List ℕ) → has_row id (ids ++ others) ≡ (has_row id ids || has_row id others)
in_either id ids others = list_any-append (nat_eq id) ids others

pub in_all : (id : ℕ) (asked rerouted authorized : List ℕ) (a r z : Bool) → has_row id asked ≡ a → has_row id rerouted ≡ r → has_row id authorized ≡ z → has_row id ((asked ++ rerouted) ++ authorized) ≡ (a || (r || z))
in_all id asked rerouted authorized a r z is also too =
    in_either id (asked ++ rerouted) authorized ∙ ap (λ b. b || has_row id authorized) (in_either id asked rerouted)
    ∙ (λ i. (is i || also i) || too i) ∙ or_over a r z
  where
    or_over : (a b c : Bool) → ((a || b) || c) ≡ (a || (b || c))
    or_over true b c = refl
    or_over false b c = refl

-- ---- the ids whose keys are others after it

-- ids have the same keys by views that are open with the same
module _ (config : Config) (held : ObjectMap) (views others : InboundViews) (ports : others.servers.by_id ≡ views.servers.by_id) (routes : others.routes.by_id ≡ views.routes.by_id) (authz : others.authz.by_id ≡ views.authz.by_id) where
  routes_same : (id : ℕ) → HasRoutes config held others id → HasRoutes config held views id
  routes_same id has = ap (λ (by_id : BTreeMap ℕ (List RouteKey)). keys_at by_id id) (sym routes) ∙ has ∙ ap (route_keys config held) (same_queries views others ports id)

  authz_same : (id : ℕ) → HasAuthz config held others id → HasAuthz config held views id
  authz_same id has = ap (λ (by_id : BTreeMap ℕ (List ObjKey)). keys_at by_id id) (sym authz) ∙ has ∙ ap (authz_keys config held) (same_queries views others ports id)

  has_same : (keys : KeysOf) (id : ℕ) → HasKeys config held keys others id → HasKeys config held keys views id
  has_same Routes id has = routes_same id has
  has_same Rows id has = (routes_same id has.0, authz_same id has.1)

pub without_same : (config : Config) (held : ObjectMap) (views others : InboundViews) → others.servers.by_id ≡ views.servers.by_id → others.routes.by_id ≡ views.routes.by_id → others.authz.by_id ≡ views.authz.by_id
    → (keys : KeysOf) (ids without : List ℕ) → AreThoseWithout (HasKeys config held keys others) ids without → AreThoseWithout (HasKeys config held keys views) ids without
without_same config held views others ports routes authz keys ids without are = record {
  all = λ id has out. has_same config held views others ports routes authz keys id (are.all id has out);
  only = λ id has. let noted = are.only id has in (noted.0, λ holds. noted.1 (has_same config held others views (sym ports) (sym routes) (sym authz) keys id holds));
}

-- those of the ids that may be served otherwise, and of those with routes that read a mark of the change
module _ (config : Config) (changed : List Mark) (before after : ObjectMap) (leads : Leads changed before after) (views : InboundViews) (differing rerouted moved others : List ℕ)
    (same : (id : ℕ) → has_row id differing ≡ false → route_keys config after (query_at views id) ≡ route_keys config before (query_at views id)) (is_rerouted : (id : ℕ) → has_row id rerouted ≡ any_met route_rows before changed (routes_of views id))
    (by_routes : AreThoseWithout (HasKeys config after Routes views) differing moved) (by_rows : AreThoseWithout (HasKeys config after Rows views) rerouted others) where
  routes_stay : (id : ℕ) (b : Bool) → has_row id differing ≡ b → has_row id moved ≡ false → HasRoutes config before views id → HasRoutes config after views id
  routes_stay id true at out has = by_routes.all id at out
  routes_stay id false at out has = has ∙ sym (same id at)

  authz_stay : (id : ℕ) (b : Bool) → has_row id rerouted ≡ b → has_row id others ≡ false → HasKeys config before Rows views id → HasRoutes config after views id → HasAuthz config after views id
  authz_stay id true at out has now = (by_rows.all id at out).1
  authz_stay id false at out has now =
      has.1 ∙ sym (authz_still config changed before after leads (key_at views.servers.by_id id) (sym now ∙ has.0) (ap (any_met route_rows before changed) (sym has.0) ∙ sym (is_rerouted id) ∙ at))

  rows_stay : (id : ℕ) → has_row id moved ≡ false → has_row id others ≡ false → HasKeys config before Rows views id → HasKeys config after Rows views id
  rows_stay id out also has =
      let now = routes_stay id (has_row id differing) refl out has.0 in
      (now, authz_stay id (has_row id rerouted) refl also has now)

  only_these : (id : ℕ) (b : Bool) → has_row id moved ≡ b → (b || has_row id others) ≡ true → ¬ HasKeys config after Rows views id
  only_these id true is either = λ has. (by_routes.only id is).1 has.0
  only_these id false is either = (by_rows.only id either).1

  pub are_moved : (all : List ℕ) → ((id : ℕ) → has_row id all ≡ (has_row id moved || has_row id others)) → AreMoved config before after views all
  are_moved all among = record {
    others = λ id out. let neither = sym (among id) ∙ out in rows_stay id (neither_first _ _ neither) (neither_second (has_row id moved) _ neither);
    only = λ id in_list. only_these id (has_row id moved) refl (sym (among id) ∙ in_list);
  }
