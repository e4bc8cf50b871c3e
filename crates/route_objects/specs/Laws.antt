-- Routes that are read are lawful, and so are the parts that routes of other kinds have, too.
use Rattle.std.specs.Prelude.{ℕ, List, IfSome, IsUtf8}
use Rattle.k8s_meta.specs.Given.{GivesOnly}
use Rattle.mesh_base.specs.declared.key.Kind.{Kind}
use Rattle.route_objects.specs.Backends.{backend_at}
use Rattle.route_objects.specs.Filters.{headers_at}
use Rattle.route_objects.specs.NameMatches.{name_match_at}
use Rattle.route_objects.specs.Parents.{parent_at}
use Rattle.route_objects.specs.Routes.{route_at}
use Rattle.view_types.specs.Lawful.{IsLawfulBackend, IsLawfulFilter, IsLawfulName, IsLawfulParent, IsLawfulRoute}

abbrev pub RoutesAreLawful : Type 0
RoutesAreLawful = (kind : Kind) → GivesOnly (IsLawfulRoute kind) (route_at kind)

abbrev pub ParentsAreLawful : Type 0
ParentsAreLawful = (own : List ℕ) → GivesOnly (λ parent. IfSome parent IsLawfulParent) (parent_at own)

abbrev pub BackendsAreLawful : Type 0
BackendsAreLawful = (own : List ℕ) → IsUtf8 own → GivesOnly IsLawfulBackend (backend_at own)

abbrev pub NameMatchesAreLawful : Type 0
NameMatchesAreLawful = GivesOnly IsLawfulName name_match_at

abbrev pub HeaderFiltersAreLawful : Type 0
HeaderFiltersAreLawful = GivesOnly IsLawfulFilter headers_at
