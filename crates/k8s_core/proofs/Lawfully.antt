-- Each core object that was read is lawful.
use Rattle.std.proofs.Common.{◌≡◌, ◌++◌, ℕ, Bool, true, false, List, [], ◌∷◌, codes, Option, Some, None, if◌then◌else◌, option_map, option_to_list, refl, subst}
use Rattle.std.specs.List.{AllByRecursion, flat_map, fold}
use Rattle.std.specs.Prelude.{unwrap_or}
use Rattle.std.specs.Str.{IsUtf8}
use Rattle.std.proofs.lemmas.Option.{none-some}
use Rattle.net_cidr.specs.Address.{ip_of}
use Rattle.net_cidr.specs.Texts.{FitsIp}
use Rattle.net_cidr.specs.declared.ip.Ip.{Ip}
use Rattle.net_cidr.specs.declared.ip.Ip.TheVariants as ips
use Rattle.net_cidr.proofs.Fits.{each_fits}
use Rattle.k8s_core.specs.Addresses.{add_once, cluster_ip, has, once}
use Rattle.k8s_core.specs.NamedPorts.{port_at, slice_port_at}
use Rattle.k8s_core.specs.Pods.{container_at, pod_at, pod_ip_at}
use Rattle.k8s_core.specs.Probes.{asked}
use Rattle.k8s_core.specs.Services.{service_at}
use Rattle.k8s_core.specs.Slices.{address_at, in_family, point_at, slice_at}
use Rattle.k8s_core.specs.declared.container.Container.{Container}
use Rattle.k8s_core.proofs.Paths.{asked_paths, probe_gives}
use Rattle.k8s_meta.specs.Given.{GivesOnly}
use Rattle.k8s_meta.specs.Lawful.{IsPort, IsSomePort, IsString}
use Rattle.k8s_meta.specs.Scalars.{ip, name, number}
use Rattle.k8s_meta.specs.Words.{filled, some}
use Rattle.k8s_meta.specs.declared.key.Key.{Key}
use Rattle.k8s_meta.specs.declared.key.Key.TheVariants as keys
use Rattle.k8s_meta.proofs.Given.{after, default_gives, filled_gives, last, required_gives, some_gives, unless_gives, valid_value}
use Rattle.k8s_meta.proofs.GivenLists.{IfThere, all-append, each_gives, each_some_gives, one_part}
use Rattle.k8s_meta.proofs.GivenMeta.{meta_gives}
use Rattle.k8s_meta.proofs.GivenNets.{ip_gives}
use Rattle.k8s_meta.proofs.GivenNumbers.{port_gives, some_port_gives}
use Rattle.k8s_meta.proofs.GivenTexts.{default_utf8, filled_text_gives, name_utf8}
use Rattle.view_types.specs.Lawful.{AreAddresses, ArePaths, IsLawfulPod, IsLawfulService, IsLawfulSlice}
use Rattle.view_types.specs.declared.service.NamedPort.{NamedPort}
use Rattle.view_types.specs.declared.slice.Family.{Family}
use Rattle.view_types.specs.declared.slice.Family.TheVariants.{V4, V6, Fqdn}
use Rattle.view_types.specs.declared.slice.Point.{Point}

-- ---- addresses

adds_lawful : (addrs : List Ip) (addr : Ip) → AreAddresses addrs → FitsIp addr → AreAddresses (add_once addrs addr)
adds_lawful addrs addr all fits = cases (has addrs addr)
  where
    cases : (b : Bool) → AreAddresses (if b then addrs else addrs ++ addr ∷ [])
    cases true = all
    cases false = all-append FitsIp addrs (addr ∷ []) all (fits, tt)

folds_lawful : (so_far addrs : List Ip) → AreAddresses so_far → AreAddresses addrs → AreAddresses (fold add_once so_far addrs)
folds_lawful so_far [] all others = all
folds_lawful so_far (addr ∷ addrs) all (fits, others) = folds_lawful (add_once so_far addr) addrs (adds_lawful so_far addr all fits) others

once_lawful : (first : Option Ip) (others : List Ip) → IfThere FitsIp first → AreAddresses others → AreAddresses (once (option_to_list first ++ others))
once_lawful first others fits all = folds_lawful [] (option_to_list first ++ others) tt (all-append FitsIp (option_to_list first) others (one_part FitsIp first fits) all)

filled_ip_gives : GivesOnly (IfThere FitsIp) (filled ip)
filled_ip_gives = filled_gives (IfThere FitsIp) ip tt ip_gives

cluster_ip_gives : GivesOnly (IfThere FitsIp) cluster_ip
unfolding cluster_ip
cluster_ip_gives = unless_gives (IfThere FitsIp) _ None (some ip) tt (some_gives (IfThere FitsIp) ip tt ip_gives)

pod_ip_gives : GivesOnly (IfThere FitsIp) pod_ip_at
unfolding pod_ip_at
pod_ip_gives s = after (IfThere FitsIp) _ _ (λ e _. default_gives (IfThere FitsIp) None (filled ip) tt filled_ip_gives _)

-- an address is of the family, and none of a host name
family_fits : (family : Family) (o : Option Ip) (x : Option Ip) → ((addr : Ip) → o ≡ Some addr → FitsIp addr) → in_family family o ≡ Some x → IfThere FitsIp x
family_fits Fqdn o x each e = let same : None ≡ x = cc in subst (IfThere FitsIp) same tt
family_fits V4 None x each e = absurd (none-some x e)
family_fits V4 (Some (ips.V4 n)) x each e = let same : Some (ips.V4 n) ≡ x = cc in subst (IfThere FitsIp) same (each (ips.V4 n) refl)
family_fits V4 (Some (ips.V6 n)) x each e = absurd (none-some x e)
family_fits V6 None x each e = absurd (none-some x e)
family_fits V6 (Some (ips.V4 n)) x each e = absurd (none-some x e)
family_fits V6 (Some (ips.V6 n)) x each e = let same : Some (ips.V6 n) ≡ x = cc in subst (IfThere FitsIp) same (each (ips.V6 n) refl)

address_gives : (family : Family) → GivesOnly (IfThere FitsIp) (address_at family)
unfolding address_at
address_gives family s = after (IfThere FitsIp) _ _ (λ t _ x e. family_fits family (ip_of t) x (each_fits t) (valid_value _ _ (in_family family (ip_of t)) x e))

-- ---- ports

abbrev HasPort : NamedPort → Type 0
HasPort p = IsPort p.port

named_port_gives : (key : Key) → GivesOnly HasPort (port_at key)
unfolding port_at
named_port_gives key s = after HasPort _ _ (λ p _. after HasPort _ _ (λ name _. after HasPort _ _ (λ port is_port. after HasPort _ _ (λ protocol _.
    last HasPort _ (required_gives IsPort (number 1 65535) port_gives _ port is_port)))))

-- the ports of a container have numbers of ports, and its probes have paths
record IsLawfulContainer (c : Container) : Type 0 where
  ports : AllByRecursion HasPort c.ports
  probes : ArePaths c.probes

container_gives : GivesOnly IsLawfulContainer container_at
unfolding container_at
container_gives s =
    after IsLawfulContainer _ _ (λ c _. after IsLawfulContainer _ _ (λ ports are_ports. after IsLawfulContainer _ _ (λ liveness is_liveness.
    after IsLawfulContainer _ _ (λ readiness is_readiness. after IsLawfulContainer _ _ (λ startup is_startup. last IsLawfulContainer _ (record {
      ports = each_gives HasPort (port_at keys.ContainerPort) (named_port_gives keys.ContainerPort) _ ports are_ports;
      probes = all-append _ (asked ports liveness ++ asked ports readiness) (asked ports startup)
          (all-append _ (asked ports liveness) (asked ports readiness) (asked_paths ports liveness (probe_gives _ liveness is_liveness))
          (asked_paths ports readiness (probe_gives _ readiness is_readiness)))
          (asked_paths ports startup (probe_gives _ startup is_startup));
    }))))))

abbrev AllContainers : List Container → Type 0
AllContainers containers = AllByRecursion IsLawfulContainer containers

all_ports : (containers : List Container) → AllContainers containers → AllByRecursion HasPort (flat_map (λ (c : Container). c.ports) containers)
all_ports [] all = tt
all_ports (c ∷ cs) (here, all) = all-append HasPort c.ports _ here.ports (all_ports cs all)

all_probes : (containers : List Container) → AllContainers containers → ArePaths (flat_map (λ (c : Container). c.probes) containers)
all_probes [] all = tt
all_probes (c ∷ cs) (here, all) = all-append _ c.probes _ here.probes (all_probes cs all)

mapped : (make : ℕ → NamedPort) → ((n : ℕ) → IsPort n → HasPort (make n)) → (port : Option ℕ) → IsSomePort port → IfThere HasPort (option_map make port)
mapped make each None is = tt
mapped make each (Some n) is = each n is

slice_port_gives : GivesOnly (IfThere HasPort) slice_port_at
unfolding slice_port_at
slice_port_gives s = after (IfThere HasPort) _ _ (λ p _. after (IfThere HasPort) _ _ (λ name _. after (IfThere HasPort) _ _ (λ port is_port. after (IfThere HasPort) _ _ (λ protocol _.
    last (IfThere HasPort) _ (mapped _ (λ n is. is) port (some_port_gives _ port is_port))))))

-- ---- objects

or_default : (account : Option (List ℕ)) → IsString account → IsUtf8 (unwrap_or account (codes "default"))
or_default None is = default_utf8
or_default (Some t) is = is

pub pod_gives : GivesOnly IsLawfulPod pod_at
unfolding pod_at
pod_gives s =
    after IsLawfulPod _ _ (λ meta is_meta. after IsLawfulPod _ _ (λ spec _. after IsLawfulPod _ _ (λ account is_account. after IsLawfulPod _ _ (λ host _.
    after IsLawfulPod _ _ (λ node _. after IsLawfulPod _ _ (λ containers are_containers. after IsLawfulPod _ _ (λ status _. after IsLawfulPod _ _ (λ phase _.
    after IsLawfulPod _ _ (λ first is_first. after IsLawfulPod _ _ (λ others are_others. last IsLawfulPod _ (record {
      meta = meta_gives 253 _ meta is_meta;
      account = or_default account (default_gives IsString None (filled name) tt (filled_text_gives name (name_utf8 253)) _ account is_account);
      addrs = once_lawful first others (default_gives (IfThere FitsIp) None (filled ip) tt filled_ip_gives _ first is_first)
          (each_some_gives FitsIp pod_ip_at pod_ip_gives _ others are_others);
      ports = all_ports containers (each_gives IsLawfulContainer container_at container_gives _ containers are_containers);
      probes = all_probes containers (each_gives IsLawfulContainer container_at container_gives _ containers are_containers);
    })))))))))))

pub service_gives : GivesOnly IsLawfulService service_at
unfolding service_at
service_gives s =
    after IsLawfulService _ _ (λ meta is_meta. after IsLawfulService _ _ (λ spec _. after IsLawfulService _ _ (λ kind _. after IsLawfulService _ _ (λ first is_first.
    after IsLawfulService _ _ (λ others are_others. after IsLawfulService _ _ (λ ports are_ports. last IsLawfulService _ (record {
      meta = meta_gives 253 _ meta is_meta;
      addrs = once_lawful first others (default_gives (IfThere FitsIp) None cluster_ip tt cluster_ip_gives _ first is_first)
          (each_some_gives FitsIp cluster_ip cluster_ip_gives _ others are_others);
      ports = each_gives HasPort (port_at keys.Port) (named_port_gives keys.Port) _ ports are_ports;
    })))))))

abbrev HasAddresses : Point → Type 0
HasAddresses point = AreAddresses point.addrs

point_gives : (family : Family) (own : List ℕ) → GivesOnly HasAddresses (point_at family own)
unfolding point_at
point_gives family own s =
    after HasAddresses _ _ (λ p _. after HasAddresses _ _ (λ addrs are_addrs. after HasAddresses _ _ (λ conditions _. after HasAddresses _ _ (λ ready _.
    after HasAddresses _ _ (λ target _. after HasAddresses _ _ (λ pod _. last HasAddresses _ (each_some_gives FitsIp (address_at family) (address_gives family) _ addrs are_addrs)))))))

pub slice_gives : GivesOnly IsLawfulSlice slice_at
unfolding slice_at
slice_gives s =
    after IsLawfulSlice _ _ (λ meta is_meta. after IsLawfulSlice _ _ (λ family _. after IsLawfulSlice _ _ (λ points are_points. after IsLawfulSlice _ _ (λ ports are_ports.
    last IsLawfulSlice _ (record {
      meta = meta_gives 253 _ meta is_meta;
      points = each_gives HasAddresses (point_at family meta.ns) (point_gives family meta.ns) _ points are_points;
      ports = each_some_gives HasPort slice_port_at slice_port_gives _ ports are_ports;
    })))))
