-- The Server of a port is the least of those that select it.
use Rattle.std.proofs.Common.{◌≡◌, ℕ, List, Option, Some, None, true, refl, ap, subst, ◌∙◌}
use Rattle.std.specs.Bool.{Decides}
use Rattle.std.specs.Cmp.Lexicographic.{bytes_decides}
use Rattle.std.specs.FinMap.{get}
use Rattle.std.proofs.lemmas.Bool.Decides.{Decides-and, Decides-eqb, Decides-like}
use Rattle.label_select.specs.Selects.{Selects}
use Rattle.label_select.specs.declared.selector.Selector.{Selector}
use Rattle.mesh_base.specs.declared.key.ObjKey.{ObjKey}
use Rattle.view_types.specs.Objects.{AtKeys, ObjectMap, key_of}
use Rattle.view_types.specs.declared.object.Object.{Object}
use Rattle.view_types.specs.declared.object.Object.TheVariants as object
use Rattle.view_types.specs.declared.pod.Pod.{Pod}
use Rattle.view_types.specs.declared.server.PortRef.{PortRef}
use Rattle.view_types.specs.declared.server.PortRef.TheVariants.{Number, Named}
use Rattle.view_types.specs.declared.server.ServerSpec.{ServerSpec}
use Rattle.view_types.specs.declared.service.NamedPort.{NamedPort}
use Rattle.view_rules.specs.PolicyLaws.{IsServerFor, MeansPort, ServersAreTheLeast, server_key}
use Rattle.view_rules.specs.Servers.{is_for_port, is_named, is_server_for, selects_pod, selects_port, server_found}
use Rattle.view_rules.proofs.FirstHeld.{finds_least}
use Rattle.view_rules.proofs.Selected.{selects_decides}
use Rattle.view_rules.proofs.Tests.{any_decides, is_true_decides}

abbrev IsNamed : List ℕ → ℕ → NamedPort → Type 0
IsNamed name number p = ((p.tcp ≡ true) × (p.name ≡ name)) × (p.port ≡ number)

named_decides : (name : List ℕ) (number : ℕ) (p : NamedPort) → Decides (is_named name number p) (IsNamed name number p)
named_decides name number p = Decides-and _ _ (Decides-and _ _ (is_true_decides p.tcp) (bytes_decides p.name name)) (Decides-eqb p.port number)

port_decides : (p : PortRef) (pod : Pod) (number : ℕ) → Decides (selects_port p pod number) (MeansPort p pod number)
port_decides (Number port) pod number = Decides-eqb port number
port_decides (Named name) pod number =
    let some = any_decides (is_named name number) (IsNamed name number) (named_decides name number) pod.ports in (
      λ e. let at = some.0 e in record { entry = at.1; among_ports = (at.0, at.2, at.3); tcp = at.4.0.0; same_name = at.4.0.1; same_number = at.4.1 },
      λ h. some.1 (h.among_ports.0, h.entry, h.among_ports.1, h.among_ports.2, ((h.tcp, h.same_name), h.same_number)),
    )

abbrev IsSelected : Option Selector → Pod → Type 0
IsSelected pods pod = (s : Selector) × (pods ≡ Some s) × Selects s pod.meta.labels

pod_decides : (pods : Option Selector) (pod : Pod) → Decides (selects_pod pods pod) (IsSelected pods pod)
pod_decides None pod = (λ e. absurd (cc e), λ h. absurd (cc h.1))
pod_decides (Some s) pod =
    Decides-like _ (λ h. (s, refl, h)) (λ (h : IsSelected (Some s) pod). let same : h.0 ≡ s = cc h.1 in subst (λ s. Selects s pod.meta.labels) same h.2) (selects_decides s pod.meta.labels)

for_port_decides : (ns : List ℕ) (pod : Pod) (number : ℕ) (s : ServerSpec) → Decides (is_for_port ns pod number s) (((s.meta.ns ≡ ns) × IsSelected s.pods pod) × MeansPort s.port pod number)
for_port_decides ns pod number s = Decides-and _ _ (Decides-and _ _ (bytes_decides s.meta.ns ns) (pod_decides s.pods pod)) (port_decides s.port pod number)

pub server_is : (held : ObjectMap) (ns : List ℕ) (pod : Pod) (number : ℕ) (o : Object) → is_server_for ns pod number o ≡ true → get held (key_of o) ≡ Some o
    → (s : ServerSpec) × (object.Server s ≡ o) × IsServerFor held ns pod number s
server_is held ns pod number (object.Server s) e at =
    let is = (for_port_decides ns pod number s).0 e in (
      s,
      refl,
      record {
        at_key = subst (λ ns. get held (server_key ns s.meta.name) ≡ Some (object.Server s)) is.0.0 at;
        selector = is.0.1.0;
        with_selector = is.0.1.1;
        selected = is.0.1.2;
        port = is.1;
      },
    )
server_is held ns pod number _ e at = absurd (cc e)

pub server_told : (held : ObjectMap) → AtKeys held → (ns : List ℕ) (pod : Pod) (number : ℕ) (s : ServerSpec) → IsServerFor held ns pod number s
    → (is_server_for ns pod number (object.Server s) ≡ true) × (get held (key_of (object.Server s)) ≡ Some (object.Server s))
server_told held at_keys ns pod number s is =
    let key = at_keys (server_key ns s.meta.name) (object.Server s) is.at_key in
    ((for_port_decides ns pod number s).1 ((ap (λ (k : ObjKey). k.ns) key, (is.selector, is.with_selector, is.selected)), is.port), ap (get held) key ∙ is.at_key)

pub servers_are_the_least : ServersAreTheLeast
servers_are_the_least held at_keys ns pod number =
    finds_least (is_server_for ns pod number) held at_keys (λ (s : ServerSpec). s.meta) (IsServerFor held ns pod number) object.Server server_found refl (λ s. refl) (λ s t. refl) (server_told held at_keys ns pod number) (server_is held ns pod number)
