-- The authorizations of the Server at a key.
use Rattle.std.proofs.Common.{◌≡◌, List, Option, Some, refl, sym, ap, ◌∙◌}
use Rattle.std.specs.FinMap.{get}
use Rattle.std.specs.List.{filter, filter_map}
use Rattle.mesh_base.specs.declared.key.ObjKey.{ObjKey}
use Rattle.view_types.specs.Objects.{AtKeys, ObjectMap, key_of}
use Rattle.view_types.specs.declared.config.Config.{Config}
use Rattle.view_types.specs.declared.object.Object.{Object}
use Rattle.view_types.specs.declared.object.Object.TheVariants as object
use Rattle.view_types.specs.declared.server.ServerSpec.{ServerSpec}
use Rattle.view_rules.specs.Policies.{applies_to_server, authz_row}
use Rattle.view_rules.specs.Servers.{server_found}
use Rattle.mark_rules.specs.MarkLookups.{AuthzByMarks}
use Rattle.mark_rules.specs.Marks.{objects_with}
use Rattle.mark_rules.specs.Reads.{server_authz_marks}
use Rattle.mark_rules.specs.Rows.{authz_found}

module _ (config : Config) (held : ObjectMap) (own : AtKeys held) (key : ObjKey) where
  at_key : (found : Option Object) (server : ServerSpec) → get held key ≡ found → Some server ≡ server_found found → key_of (object.Server server) ≡ key
  at_key (Some (object.Server s)) server there is = let same : server ≡ s = cc is in ap (λ (t : ServerSpec). key_of (object.Server t)) same ∙ own key (object.Server s) there
  at_key _ server there is = absurd (cc is)

  -- those among the objects with one of its marks that apply to it
  pub server_rows : AuthzByMarks → (server : ServerSpec) → Some server ≡ server_found (get held key) → (objects : List Object) → objects ≡ objects_with held (server_authz_marks key.ns key.name)
      → filter_map (authz_row config held) (filter (applies_to_server held server) objects) ≡ authz_found config held (server_found (get held key))
  server_rows by_marks server is objects seen =
      let at = at_key (get held key) server refl is in
      ap (λ os. filter_map (authz_row config held) (filter (applies_to_server held server) os)) (seen ∙ ap (λ (k : ObjKey). objects_with held (server_authz_marks k.ns k.name)) (sym at))
      ∙ sym (by_marks config held server)
      ∙ ap (authz_found config held) is
