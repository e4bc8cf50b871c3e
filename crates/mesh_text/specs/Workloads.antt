-- A Pod as a string.
use Rattle.std.specs.Prelude.{ℕ, List, [], ◌∷◌, ◌&&◌, Option, Some, None, if◌then◌else◌}
use Rattle.mesh_base.specs.Pieces.{pieces}
use Rattle.k8s_meta.specs.Scalars.{is_name}

abbrev pub workload_of_pieces : List (List ℕ) → Option (List ℕ × List ℕ)
workload_of_pieces (ns ∷ pod ∷ []) = if is_name ns && is_name pod then Some (ns, pod) else None
workload_of_pieces _ = None

-- namespace:pod, both names
unfoldable pub workload_of : List ℕ → Option (List ℕ × List ℕ)
workload_of text = workload_of_pieces (pieces 58 text)
