-- A row says of its endpoint exactly what the Pod adds.
use Rattle.std.proofs.Common.{◌≡◌, ◌↔◌, ◌⊎◌, ℕ, Bool, true, false, cond, not, List, Option, Some, None, inl, inr, refl, sym, ap, subst, ◌∙◌}
use Rattle.std.specs.Prelude.{IsTrue, codes}
use Rattle.std.specs.Cmp.{tied_itself}
use Rattle.std.specs.Cmp.Lexicographic.{nat_list_cmp_total, slice_cmp}
use Rattle.std.specs.FinMap.{empty, get, get-empty, get-insert, insert}
use Rattle.std.specs.Ordering.{is_eq, nat_cmp}
use Rattle.std.proofs.lemmas.Map.Lookups.{exact_bytes}
use Rattle.k8s_meta.specs.PortSet.{is_within}
use Rattle.mesh_text.specs.Mesh.{identity_of, is_meshed, opaque_ranges}
use Rattle.net_cidr.specs.declared.ip.Ip.{Ip}
use Rattle.view_types.specs.Objects.{ObjectMap}
use Rattle.view_types.specs.declared.config.Config.{Config}
use Rattle.view_types.specs.declared.endpoint.EndpointRow.{EndpointRow}
use Rattle.view_types.specs.declared.object.Object.{Object}
use Rattle.view_types.specs.declared.object.Object.TheVariants as object
use Rattle.view_types.specs.declared.pod.Pod.{Pod}
use Rattle.view_rules.specs.Endpoints.{pair_of, service_held}
use Rattle.view_rules.specs.Laws.{IsOfTheLeast}
use Rattle.view_rules.specs.PodRows.{as_pod, bare_row, labelled_row, labels_of, meshed_row, pod_found, pod_held, pod_key, row_for, row_of}
use Rattle.view_rules.specs.RowLaws.{IsLabel, IsRowOfItsEndpoint, IsTarget, RowOfSaysOfThePod, RowsSayOfTheirPods, SaysOfItsPod}
use Rattle.view_rules.proofs.Entries.{equal}
use Rattle.view_rules.proofs.Given.{keeps_pair}
use Rattle.view_rules.proofs.Least.{rows_are_of_the_least}

-- ---- labels

abbrev ties : List ℕ → List ℕ → Bool
ties a b = is_eq (slice_cmp nat_cmp a b)

label_at : (pod : Pod) (key : List ℕ) → get (labels_of pod) key ≡ cond (ties key (codes "serviceaccount")) (Some pod.account) (cond (ties key (codes "pod")) (Some pod.meta.name) None)
label_at pod key =
    get-insert nat_list_cmp_total (insert empty (codes "pod") pod.meta.name) (codes "serviceaccount") pod.account key
    ∙ ap (cond (ties key (codes "serviceaccount")) (Some pod.account))
    (get-insert nat_list_cmp_total empty (codes "pod") pod.meta.name key ∙ ap (cond (ties key (codes "pod")) (Some pod.meta.name)) (get-empty (slice_cmp nat_cmp) key))

tied : (a b : List ℕ) → ties a b ≡ true → a ≡ b
tied a b e = exact_bytes a b (equal _ e)

from_labels : (pod : Pod) (key value : List ℕ) → get (labels_of pod) key ≡ Some value → IsLabel pod key value
from_labels pod key value e =
    elim (ties key (codes "serviceaccount")) as (λ b. ties key (codes "serviceaccount") ≡ b → cond b (Some pod.account) (cond (ties key (codes "pod")) (Some pod.meta.name) None) ≡ Some value → IsLabel pod key value) [
      | true ↦ λ t e. let is : pod.account ≡ value = cc e in inr (tied _ _ t, sym is)
      | false ↦ λ t e. elim (ties key (codes "pod")) as (λ b. ties key (codes "pod") ≡ b → cond b (Some pod.meta.name) None ≡ Some value → IsLabel pod key value) [
        | true ↦ λ t e. let is : pod.meta.name ≡ value = cc e in inl (tied _ _ t, sym is)
        | false ↦ λ t e. absurd (cc e)
      ] refl e
    ] refl (sym (label_at pod key) ∙ e)

to_labels : (pod : Pod) (key value : List ℕ) → IsLabel pod key value → get (labels_of pod) key ≡ Some value
to_labels pod key value is = elim is [
  | inl name ↦ ap (get (labels_of pod)) name.0 ∙ label_at pod (codes "pod") ∙ ap Some (sym name.1)
  | inr account ↦ ap (get (labels_of pod)) account.0 ∙ label_at pod (codes "serviceaccount") ∙ ap Some (sym account.1)
]

-- ---- the row of a Pod, and of none

turned : (b : Bool) → b ≡ false → IsTrue (not b)
turned true e = absurd (cc e)
turned false e = refl

turned_back : (b : Bool) → IsTrue (not b) → b ≡ false
turned_back true e = absurd (cc e)
turned_back false e = refl

module _ (config : Config) (IsPod : Pod → Type 0) (ip : Ip) (port : ℕ) where
  of_none : ((pod : Pod) → IsPod pod → ⊥) → SaysOfItsPod config IsPod (bare_row ip port)
  of_none none = record {
    weight = refl;
    labels = λ key value. (λ e. absurd (let no : None ≡ Some value = sym (get-empty (slice_cmp nat_cmp) key) ∙ e in cc no), λ is. absurd (none is.0 is.1));
    identity = λ name. (λ e. absurd (cc e), λ is. absurd (none is.0 is.1));
    tunnel = λ to. (λ e. absurd (cc e), λ is. absurd (none is.0 is.1));
    h2 = (λ e. absurd (cc e), λ is. absurd (none is.0 is.1));
  }

  module _ (pod : Pod) (own : IsPod pod) (only : (other : Pod) → IsPod other → pod ≡ other) where
    labelled : (key value : List ℕ) → (get (labels_of pod) key ≡ Some value) ↔ ((pod : Pod) × IsPod pod × IsLabel pod key value)
    labelled key value = (
      λ e. (pod, own, from_labels pod key value e),
      λ is. to_labels pod key value (subst (λ (p : Pod). IsLabel p key value) (sym (only is.0 is.1)) is.2),
    )

    unmeshed : is_meshed config pod.meta ≡ false → (P : Pod → Type 0) → ((other : Pod) × IsPod other × IsTrue (is_meshed config other.meta) × P other) → ⊥
    unmeshed out P is =
        let same : is_meshed config pod.meta ≡ true = ap (λ (p : Pod). is_meshed config p.meta) (only is.0 is.1) ∙ is.2 in
        let no : false ≡ true = sym out ∙ same in
        absurd (cc no)

    of_unmeshed : is_meshed config pod.meta ≡ false → SaysOfItsPod config IsPod (labelled_row pod (bare_row ip port))
    of_unmeshed out = record {
      weight = refl;
      labels = labelled;
      identity = λ name. (λ e. absurd (cc e), λ is. absurd (unmeshed out (λ (p : Pod). name ≡ identity_of config p.meta.ns p.account) is));
      tunnel = λ to. (λ e. absurd (cc e), λ is. absurd (unmeshed out (λ (p : Pod). to ≡ 4143) is));
      h2 = (λ e. absurd (cc e), λ is. absurd (unmeshed out (λ (p : Pod). is_within (opaque_ranges p.meta) port ≡ false) is));
    }

    of_meshed : is_meshed config pod.meta ≡ true → SaysOfItsPod config IsPod (meshed_row config pod port (labelled_row pod (bare_row ip port)))
    of_meshed meshed = record {
      weight = refl;
      labels = labelled;
      identity = λ name. (
        λ e. let is : identity_of config pod.meta.ns pod.account ≡ name = cc e in (pod, own, meshed, sym is),
        λ is. ap (λ (p : Pod). Some (identity_of config p.meta.ns p.account)) (only is.0 is.1) ∙ ap Some (sym is.3),
      );
      tunnel = λ to. (λ e. let is : 4143 ≡ to = cc e in (pod, own, meshed, sym is), λ is. ap Some (sym is.3));
      h2 = (
        λ e. (pod, own, meshed, turned_back _ e),
        λ is. turned _ (ap (λ (p : Pod). is_within (opaque_ranges p.meta) port) (only is.0 is.1) ∙ is.3),
      );
    }

    of_one : SaysOfItsPod config IsPod (row_of config (Some pod) ip port)
    of_one =
        let row = labelled_row pod (bare_row ip port) in
        elim (is_meshed config pod.meta) as (λ b. is_meshed config pod.meta ≡ b → SaysOfItsPod config IsPod (cond b (meshed_row config pod port row) row)) [
          | true ↦ λ t. of_meshed t
          | false ↦ λ t. of_unmeshed t
        ] refl

  pub of_found : (found : Option Pod) → ((pod : Pod) → IsPod pod ↔ (found ≡ Some pod)) → SaysOfItsPod config IsPod (row_of config found ip port)
  of_found None is = of_none (λ pod h. let no = (is pod).0 h in absurd (cc no))
  of_found (Some pod) is = of_one pod ((is pod).1 refl) (λ other h. let same = (is other).0 h in cc same)

pub row_of_says : RowOfSaysOfThePod
row_of_says config found ip port = (keeps_pair config found ip port, of_found config (λ pod. found ≡ Some pod) ip port found (λ pod. (λ e. e, λ e. e)))

-- ---- the Pod that is targeted

is_pod : (o : Object) (pod : Pod) → as_pod o ≡ Some pod → o ≡ object.Pod pod
is_pod (object.Pod p) pod e = let same : p ≡ pod = cc e in ap object.Pod same
is_pod _ pod e = absurd (cc e)

found_is : (found : Option Object) (pod : Pod) → pod_found found ≡ Some pod → found ≡ Some (object.Pod pod)
found_is None pod e = absurd (cc e)
found_is (Some o) pod e = ap Some (is_pod o pod e)

targeted : (held : ObjectMap) (target : Option (List ℕ × List ℕ)) (pod : Pod) → IsTarget held target pod ↔ (pod_held held target ≡ Some pod)
targeted held None pod = (λ h. absurd h, λ e. absurd (cc e))
targeted held (Some target) pod = (λ at. ap pod_found at, λ e. found_is (get held (pod_key target.0 target.1)) pod e)

made_of : (config : Config) (held : ObjectMap) (target : Option (List ℕ × List ℕ)) (ip : Ip) (port : ℕ) → SaysOfItsPod config (IsTarget held target) (row_for config held target ip port)
made_of config held target ip port = of_found config (IsTarget held target) ip port (pod_held held target) (targeted held target)

of_its_endpoint : (config : Config) (held : ObjectMap) (ns name port_name : List ℕ) (row : EndpointRow) → IsOfTheLeast config held ns name port_name row → IsRowOfItsEndpoint config held ns name port_name row
of_its_endpoint config held ns name port_name row least =
    let g = least.gives.from in
    let pair = sym (ap pair_of g.made) ∙ keeps_pair config (pod_held held g.point.pod) g.ip g.entry.port in
    record {
      place = least;
      address = ap (λ (p : Ip × ℕ). p.0) pair;
      port = ap (λ (p : Ip × ℕ). p.1) pair;
      says = subst (SaysOfItsPod config (IsTarget held g.point.pod)) g.made (made_of config held g.point.pod g.ip g.entry.port);
    }

pub rows_say_of_their_pods : RowsSayOfTheirPods
rows_say_of_their_pods config held at_keys ns name port_name number row named among =
    of_its_endpoint config held ns name port_name row (rows_are_of_the_least config held at_keys ns name port_name number row named among)
