-- Which Pods are in the mesh, the identities of service accounts, and opaque ports.
use Rattle.std.specs.Prelude.{codes, ℕ, Bool, false, List, [], ◌∷◌, ◌++◌, map, Option, Some, None, bytes_eq}
use Rattle.std.specs.FinMap.{get}
use Rattle.k8s_meta.specs.PortSet.{ranges_of}
use Rattle.k8s_meta.specs.declared.meta.Meta.{Meta}
use Rattle.view_types.specs.declared.config.Config.{Config}

abbrev pub is_some_text : List ℕ → Option (List ℕ) → Bool
is_some_text text None = false
is_some_text text (Some found) = bytes_eq found text

-- its label names the configured control plane
abbrev pub is_meshed : Config → Meta → Bool
is_meshed config pod = is_some_text config.control_ns (get pod.labels (codes "linkerd.io/control-plane-ns"))

-- account.namespace.serviceaccount.identity.control-plane-namespace.trust-domain
abbrev pub identity_of : Config → List ℕ → List ℕ → List ℕ
identity_of config ns account = account ++ 46 ∷ (ns ++ codes ".serviceaccount.identity." ++ (config.control_ns ++ 46 ∷ config.trust_domain))

abbrev pub usual_opaque_ports : List ℕ
usual_opaque_ports = 25 ∷ 587 ∷ 3306 ∷ 4444 ∷ 5432 ∷ 6379 ∷ 9300 ∷ 11211 ∷ []

abbrev pub ranges_from : Option (List ℕ) → List (ℕ × ℕ)
ranges_from None = map (λ port. (port, port)) usual_opaque_ports
ranges_from (Some text) = ranges_of text

-- those of the annotation of a Pod or Service, or the default without it
abbrev pub opaque_ranges : Meta → List (ℕ × ℕ)
opaque_ranges meta = ranges_from (get meta.notes (codes "config.linkerd.io/opaque-ports"))
