-- What is looked up where a call is refused: nothing.
use Rattle.std.proofs.Common.{◌≤◌, ◌+◌, ℕ, Err, refl, arith}
use Rattle.view_types.specs.declared.query.Query.{Query}
use Rattle.mark_rules.specs.Rows.{rows}
use Rattle.watch_events.specs.declared.event.Event.{Event}
use Rattle.row_views.specs.Costs.{cost_of}
use Rattle.feed_history.specs.declared.refusal.HubFault.{HubFault}
use Rattle.feed_history.specs.declared.refusal.HubFault.TheVariants.{Memory, Full, TooManySubs, IdOrder, NoSuchId, Oversize}
use Rattle.mesh_hub.specs.Costs.{AppliesWithin, FindsWithin}
use Rattle.mesh_hub.specs.Hub.{HubState}

at_most : (old more : ℕ) → old ≤ old + more
at_most old more = omega arith

pub finds_nothing : (now : HubState) (query : Query) (steps : ℕ) → FindsWithin now query steps steps
finds_nothing now query steps = at_most steps (cost_of now.config now.objects (rows now.config now.objects query))

pub applies_nothing : (now : HubState) (event : Event) (fault : HubFault) (steps : ℕ) → AppliesWithin now event (Err fault) steps steps
applies_nothing now event Memory steps = tt
applies_nothing now event (Full held) steps = refl
applies_nothing now event (TooManySubs live) steps = refl
applies_nothing now event (IdOrder last) steps = refl
applies_nothing now event (NoSuchId id) steps = refl
applies_nothing now event (Oversize bytes) steps = refl
