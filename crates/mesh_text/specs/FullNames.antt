-- A Service is reached by its full name.
use Rattle.std.specs.Prelude.{◌≡◌, List, ℕ, Some, IsTrue}
use Rattle.k8s_meta.specs.Scalars.{is_name}
use Rattle.mesh_text.specs.Names.{is_dotless}
use Rattle.mesh_text.specs.Targets.{full_name, target_of}
use Rattle.view_types.specs.declared.config.Config.{Config}
use Rattle.view_types.specs.declared.query.Target.TheVariants.{Service}

abbrev pub EachFullNameLeadsToItsService : Type 0
EachFullNameLeadsToItsService =
    (config : Config) (ns name : List ℕ) → IsTrue (is_dotless ns) → IsTrue (is_dotless name) → IsTrue (is_name config.cluster_domain)
    → target_of config (full_name name ns config.cluster_domain) ≡ Some (Service ns name 80)
