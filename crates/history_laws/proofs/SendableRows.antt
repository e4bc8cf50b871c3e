-- Each row of lawful objects can be sent: it is of an address and a port that a held slice gives, and its strings are those
-- of a held Pod and of the configuration.
use Rattle.std.proofs.Common.{◌≡◌, ℕ, ◌<◌, Bool, true, false, cond, ◌&&◌, List, [], ◌∷◌, ◌++◌, length, Option, Some, None, IfSome, refl, sym, ap, subst, ◌∙◌, arith, lit<}
use Rattle.std.specs.Prelude.{codes, find, ◌≢◌}
use Rattle.std.specs.List.{AllByRecursion, cons_option}
use Rattle.std.specs.FinMap.{empty, entries, entries-insert, get, insert, len-empty, len-entries, put, values}
use lib.Utf8.{encode}
use Rattle.std.specs.Str.{IsUtf8, bytes_eq, chars, is_utf8}
use Rattle.std.proofs.lemmas.Str.{IsUtf8-append, IsUtf8-from_is_utf8}
use Rattle.std.specs.Cmp.Lexicographic.{nat_list_cmp_total, slice_cmp}
use Rattle.std.specs.Ordering.{nat_cmp}
use Rattle.mesh_base.proofs.KeyOrder.{keys_total}
use Rattle.mesh_base.specs.declared.key.ObjKey.{ObjKey}
use Rattle.net_cidr.specs.Texts.{FitsIp}
use Rattle.net_cidr.specs.declared.ip.Ip.{Ip}
use Rattle.view_rules.specs.PodRows.{as_pod, bare_row, labelled_row, labels_of, meshed_row, pod_found, pod_held, pod_key, row_for, row_of}
use Rattle.view_rules.specs.Profiles.{is_pod_with, pod_at}
use Rattle.view_rules.specs.Endpoints.{RowFor, address_rows, endpoints, endpoints_from, has_addresses, no_endpoints, pair_of, point_rows, port_name, port_rows, rows_from, service_held, slice_in, slice_rows, slices_among, slices_held}
use Rattle.mesh_text.specs.Mesh.{identity_of, is_meshed}
use Rattle.view_types.specs.Lawful.{IsLawful, IsLawfulPod, IsLawfulSlice}
use Rattle.view_types.specs.Objects.{ObjectMap}
use Rattle.view_types.specs.declared.config.Config.{Config}
use Rattle.view_types.specs.declared.pod.Pod.{Pod}
use Rattle.view_types.specs.declared.object.Object.TheVariants as objects
use Rattle.view_types.specs.declared.endpoint.EndpointView.{EndpointView}
use Rattle.view_types.specs.declared.object.Object.{Object}
use Rattle.view_types.specs.declared.service.NamedPort.{NamedPort}
use Rattle.view_types.specs.declared.service.Service.{Service}
use Rattle.view_types.specs.declared.slice.Point.{Point}
use Rattle.view_types.specs.declared.slice.Slice.{Slice}
use Rattle.view_rules.proofs.Given.{slice_is}
use Rattle.view_rules.proofs.Entries.{held_somewhere}
use Rattle.view_rules.proofs.Pairs.{pairs_total}
use Rattle.proxy_proto.specs.Sendable.{IsSendableLabel, IsSendableRow}
use Rattle.feed_history.specs.Lawful.{AreLawfulHeld}
use Rattle.feed_history.specs.Sendable.{IsLawfulConfig}
use Rattle.feed_history.proofs.Lists.{all_among, all_flat, all_if, found_is}
use Rattle.history_laws.proofs.Ordered.{all_in_order}

-- ---- rows

none_long : {X : Type 0} (xs : List X) → length xs ≡ 0 → xs ≡ []
none_long [] is = refl
none_long (x ∷ xs) is = absurd (omega arith)

no_labels : entries (empty {X = List ℕ} {R = slice_cmp nat_cmp}) ≡ []
no_labels = none_long _ (sym (len-entries (empty {X = List ℕ} {R = slice_cmp nat_cmp})) ∙ len-empty (slice_cmp nat_cmp) (List ℕ))

-- ---- what is held

pub values_are_lawful : (held : ObjectMap) → AreLawfulHeld held → AllByRecursion IsLawful (values held)
values_are_lawful held lawful = all_among IsLawful (values held) (λ object at. let place = held_somewhere keys_total held object at in lawful place.0 object place.1)

-- what holds where no object is found, and of each lawful one
pub of_found : (Q : Option Object → Type 0) → Q None → ((o : Object) → IsLawful o → Q (Some o)) → (found : Option Object) → ((o : Object) → found ≡ Some o → IsLawful o) → Q found
of_found Q none some None lawful = none
of_found Q none some (Some o) lawful = some o (lawful o refl)

-- the first that passes
pub of_first : (held : ObjectMap) → AreLawfulHeld held → (Q : Option Object → Type 0) → Q None → ((o : Object) → IsLawful o → Q (Some o)) → (test : Object → Bool) → Q (find test (values held))
of_first held lawful Q none some test = of_found Q none some (find test (values held)) (λ o found. found_is IsLawful test (values held) o (values_are_lawful held lawful) found)

-- ---- what a Pod gives a row

pod_of_object : (o : Object) → IsLawful o → IfSome (as_pod o) IsLawfulPod
pod_of_object (objects.Pod pod) lawful = lawful
pod_of_object _ lawful = tt

abbrev HasLawfulPod : Option Object → Type 0
HasLawfulPod found = IfSome (pod_found found) IsLawfulPod

pub pod_is_lawful : (held : ObjectMap) → AreLawfulHeld held → (target : Option (List ℕ × List ℕ)) → IfSome (pod_held held target) IsLawfulPod
pod_is_lawful held lawful None = tt
pod_is_lawful held lawful (Some target) = of_found HasLawfulPod tt pod_of_object (get held (pod_key target.0 target.1)) (lawful (pod_key target.0 target.1))

pub pod_at_is_lawful : (held : ObjectMap) → AreLawfulHeld held → (ip : Ip) → IfSome (pod_at held ip) IsLawfulPod
pod_at_is_lawful held lawful ip = of_first held lawful HasLawfulPod tt pod_of_object (is_pod_with ip)

pod_labels : (pod : Pod) → entries (labels_of pod) ≡ (codes "pod", pod.meta.name) ∷ (codes "serviceaccount", pod.account) ∷ []
pod_labels pod =
    entries-insert nat_list_cmp_total (insert empty (codes "pod") pod.meta.name) (codes "serviceaccount") pod.account
    ∙ ap (put (slice_cmp nat_cmp) (codes "serviceaccount") pod.account)
    (entries-insert nat_list_cmp_total empty (codes "pod") pod.meta.name ∙ ap (put (slice_cmp nat_cmp) (codes "pod") pod.meta.name) no_labels)

labels_are_sendable : (pod : Pod) → IsLawfulPod pod → AllByRecursion IsSendableLabel (entries (labels_of pod))
unfolding is_utf8 chars encode
labels_are_sendable pod lawful =
    subst (AllByRecursion IsSendableLabel) (sym (pod_labels pod))
    ((IsUtf8-from_is_utf8 (codes "pod") refl, lawful.meta.name_text), ((IsUtf8-from_is_utf8 (codes "serviceaccount") refl, lawful.account), tt))

pub dot_and : (text : List ℕ) → IsUtf8 text → IsUtf8 (46 ∷ text)
unfolding is_utf8 chars encode
dot_and text is = IsUtf8-append (46 ∷ []) text (IsUtf8-from_is_utf8 (46 ∷ []) refl) is

middle_is_text : IsUtf8 (codes ".serviceaccount.identity.")
unfolding is_utf8 chars encode
middle_is_text = IsUtf8-from_is_utf8 (codes ".serviceaccount.identity.") refl

pub identity_is_text : (config : Config) → IsLawfulConfig config → (ns account : List ℕ) → IsUtf8 ns → IsUtf8 account → IsUtf8 (identity_of config ns account)
identity_is_text config lawful ns account ns_text account_text =
    IsUtf8-append account _ account_text
    (dot_and _
    (IsUtf8-append (ns ++ codes ".serviceaccount.identity.") (config.control_ns ++ 46 ∷ config.trust_domain)
    (IsUtf8-append ns (codes ".serviceaccount.identity.") ns_text middle_is_text)
    (IsUtf8-append config.control_ns (46 ∷ config.trust_domain) lawful.control_ns (dot_and config.trust_domain lawful.trust_domain))))

some_text : (account rest : List ℕ) → account ++ 46 ∷ rest ≢ []
some_text [] rest is = absurd (cc is)
some_text (c ∷ cs) rest is = absurd (cc is)

pub row_is_sendable : (config : Config) → IsLawfulConfig config → (pod : Option Pod) → IfSome pod IsLawfulPod → (ip : Ip) (port : ℕ) → FitsIp ip → port < 65536 → IsSendableRow (row_of config pod ip port)
row_is_sendable config usual None lawful ip port ip_fits port_fits = record {
  ip = ip_fits;
  port = port_fits;
  weight = lit< tt;
  tunnel = tt;
  labels = subst (AllByRecursion IsSendableLabel) (sym no_labels) tt;
  identity = tt;
}
row_is_sendable config usual (Some pod) lawful ip port ip_fits port_fits =
    let row = labelled_row pod (bare_row ip port) in
    elim (is_meshed config pod.meta) as (λ b. IsSendableRow (cond b (meshed_row config pod port row) row)) [
      | true ↦ record {
        ip = ip_fits;
        port = port_fits;
        weight = lit< tt;
        tunnel = lit< tt;
        labels = labels_are_sendable pod lawful;
        identity = (some_text pod.account _, identity_is_text config usual pod.meta.ns pod.account lawful.meta.ns_text lawful.account);
      }
      | false ↦ record { ip = ip_fits; port = port_fits; weight = lit< tt; tunnel = tt; labels = labels_are_sendable pod lawful; identity = tt }
    ]

-- ---- the rows of slices

-- a row at an address and port that fit can be sent
abbrev GivesSendable : RowFor → Type 0
GivesSendable row = (target : Option (List ℕ × List ℕ)) (ip : Ip) (port : ℕ) → FitsIp ip → port < 65536 → IsSendableRow (row target ip port)

slice_is_good : (row : RowFor) → GivesSendable row → (named : List ℕ) (s : Slice) → IsLawfulSlice s → AllByRecursion IsSendableRow (slice_rows row named s)
slice_is_good row gives named s lawful = all_if IsSendableRow (has_addresses s.family) _
    (all_flat (λ (p : Point). AllByRecursion FitsIp p.addrs) IsSendableRow (point_rows row named s.ports)
    (λ point addrs. all_if IsSendableRow point.ready _
    (all_flat FitsIp IsSendableRow (address_rows (row point.pod) named s.ports)
    (λ ip ip_fits. all_flat (λ (p : NamedPort). p.port < 65536) IsSendableRow (port_rows (row point.pod) named ip)
    (λ port port_fits. all_if IsSendableRow (port.tcp && bytes_eq port.name named) _ (gives point.pod ip port.port ip_fits port_fits, tt))
    s.ports lawful.ports)
    point.addrs addrs))
    s.points lawful.points)

slices_are_lawful : (ns name : List ℕ) (os : List Object) → AllByRecursion IsLawful os → AllByRecursion IsLawfulSlice (slices_among ns name os)
slices_are_lawful ns name [] lawful = tt
slices_are_lawful ns name (o ∷ os) lawful =
    let rest = slices_are_lawful ns name os lawful.1 in
    elim (slice_in ns name o) as (λ found. slice_in ns name o ≡ found → AllByRecursion IsLawfulSlice (cons_option found (slices_among ns name os))) [
      | Some s ↦ λ is. (subst IsLawful (sym (slice_is ns name o s is).0) lawful.0, rest)
      | None ↦ λ is. rest
    ] refl

rows_are_good : (row : RowFor) → GivesSendable row → (slices : List Slice) (named : Option (List ℕ)) → AllByRecursion IsLawfulSlice slices → AllByRecursion IsSendableRow (rows_from row slices named)
rows_are_good row gives slices None lawful = tt
rows_are_good row gives slices (Some named) lawful = all_in_order pairs_total pair_of IsSendableRow _ (all_flat IsLawfulSlice IsSendableRow (slice_rows row named) (slice_is_good row gives named) slices lawful)

view_is_good : (row : RowFor) → GivesSendable row → (slices : List Slice) (number : ℕ) (found : Option Service) → AllByRecursion IsLawfulSlice slices → AllByRecursion IsSendableRow (endpoints_from row slices number found).rows
view_is_good row gives slices number None lawful = tt
view_is_good row gives slices number (Some s) lawful = elim s.external as (λ b. AllByRecursion IsSendableRow
    (cond {A = EndpointView} b no_endpoints (record { exists = true; rows = rows_from row slices (port_name number s.ports) })).rows) [
      | true ↦ tt
      | false ↦ rows_are_good row gives slices (port_name number s.ports) lawful
    ]

-- ---- views

pub shown_are_sendable : (config : Config) → IsLawfulConfig config → (held : ObjectMap) → AreLawfulHeld held → (ns name : List ℕ) (port : ℕ) → AllByRecursion IsSendableRow (endpoints config held ns name port).rows
shown_are_sendable config usual held lawful ns name port = view_is_good (row_for config held)
    (λ target ip port. row_is_sendable config usual (pod_held held target) (pod_is_lawful held lawful target) ip port)
    (slices_held held ns name) port (service_held held ns name) (slices_are_lawful ns name (values held) (values_are_lawful held lawful))
