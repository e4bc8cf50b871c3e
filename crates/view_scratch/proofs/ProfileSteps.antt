-- What the profile of a Service costs.
use Rattle.std.proofs.Common.{◌≡◌, ℕ, ◌+◌, ◌++◌, List, [], ◌∷◌, Option, ap, ◌∙◌, sym, arith}
use Rattle.mesh_text.specs.Targets.{full_name}
use Rattle.view_types.specs.Objects.{ObjectMap}
use Rattle.view_types.specs.declared.config.Config.{Config}
use Rattle.view_types.specs.declared.mark.Mark.{Mark}
use Rattle.view_types.specs.declared.mark.Mark.TheVariants.{Obj}
use Rattle.view_rules.specs.Endpoints.{service_key}
use Rattle.view_rules.specs.Profiles.{profile_key}
use Rattle.mark_rules.specs.Reads.{client_marks, cost, count_at, service_profile_reads}
use Rattle.mark_rules.proofs.Counts.{cost_append}

two_parts : (held : ObjectMap) (marks : List Mark) (mark last : Mark) → cost held (marks ++ mark ∷ last ∷ []) ≡ count_at held last + cost held (marks ++ mark ∷ [])
two_parts held marks mark last =
    let all = cost_append held marks (mark ∷ last ∷ []) in
    let part = cost_append held marks (mark ∷ []) in
    omega (arith, all, part)

-- its own mark, and those of the ServiceProfiles of its full name
pub profile_costs : (config : Config) (held : ObjectMap) (client : Option (List ℕ)) (ns name full : List ℕ) → full ≡ full_name name ns config.cluster_domain
    → cost held (service_profile_reads config client ns name) ≡ count_at held (Obj (service_key ns name)) + cost held (client_marks client full ++ Obj (profile_key ns full) ∷ [])
profile_costs config held client ns name full is =
    ap (λ full. cost held (client_marks client full ++ Obj (profile_key ns full) ∷ Obj (service_key ns name) ∷ [])) (sym is)
    ∙ two_parts held (client_marks client full) (Obj (profile_key ns full)) (Obj (service_key ns name))
