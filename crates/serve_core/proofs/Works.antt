-- Whether a link has work.
use Rattle.std.proofs.Common.{◌≡◌, Bool, true, List}
use Rattle.std.specs.List.{list_any}
use Rattle.mesh_base.specs.declared.limits.Limits.{Limits}
use Rattle.mesh_links.specs.Calls.{last_in}
use Rattle.mesh_links.specs.declared.call.LinkCall.{LinkCall}
use Rattle.view_types.specs.declared.config.Config.{Config}
use Rattle.route_match.specs.Matching.{Pat}
use Rattle.link_sessions.specs.Entries.{entries_of, passes_at}
use Rattle.link_sessions.specs.Sets.{IsAnyOf}
use Rattle.link_sessions.specs.declared.link.Link.{Link}
use Rattle.serve_rules.specs.FedLines.{FedRow}
use Rattle.serve_rules.specs.LinkStates.{LinkState, has_work}
use Rattle.serve_core.specs.Linked.{IsKept}
use Rattle.serve_core.specs.LinkTurns.{has_any_turn}
use Rattle.serve_core.specs.Served.{IsAt, IsServed, serving_of}
use Rattle.serve_core.specs.declared.turning.Turning.{Turning}
use Rattle.serve_core.proofs.KeptTests.{any_of}
use Rattle.serve_core.proofs.LinkTurns.{all_served, work_closed, work_is}

pub works_at : (config : Config) (limits : Limits) (pat : Pat) (fed : List FedRow) (links : List LinkState) (trace : List LinkCall) (now : Turning) → IsAt config limits pat fed links trace now
    → (work : Bool) → IsAnyOf (passes_at (has_any_turn now.hub) (entries_of now.kept)) work → work ≡ list_any (has_work (serving_of config limits pat) fed) links
works_at config limits pat fed links trace now at work any =
    let serving = serving_of config limits pat in
    let Served : LinkState → Type 0 = λ s. IsServed serving fed at.id_of now.hub s in
    let same : (s : LinkState) (link : Link) → s.is_open ≡ true → Served s → IsKept serving at.id_of s link → has_any_turn now.hub link ≡ has_work serving fed s = λ s link is_open served kept. work_is serving fed at.id_of now.hub s link is_open served kept in
    any_of serving at.id_of Served (has_any_turn now.hub) (has_work serving fed) same (λ s closed. work_closed serving fed s closed) work links 0 (last_in trace) (entries_of now.kept) at.is.in_order (all_served serving fed at.id_of now.hub links at.is.served)
    at.keeps.links_are any
