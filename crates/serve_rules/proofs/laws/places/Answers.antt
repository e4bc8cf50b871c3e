use Rattle.serve_rules.proofs.HubSubscriptions.{all_places_ascend, due_by_places}
use Rattle.serve_rules.proofs.DrainPlaces.{by_places, places_ascend}
use Rattle.serve_rules.proofs.laws.places.Goals as goal

pub returns-clause-due : goal.returns-clause-due
returns-clause-due c = by_places

pub returns-clause-ascend : goal.returns-clause-ascend
returns-clause-ascend c = places_ascend

pub returns-clause-all_due : goal.returns-clause-all_due
returns-clause-all_due c = due_by_places

pub returns-clause-all_ascend : goal.returns-clause-all_ascend
returns-clause-all_ascend c = all_places_ascend
