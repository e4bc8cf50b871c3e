use Rattle.std.proofs.Common.{ℕ, Option, subst, sym}
use Rattle.view_types.specs.declared.query.Query.{Query}
use Rattle.row_views.specs.InUse.{AreInUse}
use Rattle.mesh_hub.specs.InUse.{users_in}
use Rattle.mesh_hub.proofs.LiveSubs.{are_covered, query_live}
use Rattle.mesh_hub.proofs.hub.Hub.rows_in_use_are_those_of_subscriptions.Goals as goal

pub returns : goal.returns
returns c = λ going.
    let self = c.args.self.now in
    subst (λ (queries : ℕ → Option Query). AreInUse self.config self.store.objects queries (users_in self)) (λ i id. sym (query_live self.spent self.subscribers id) i)
    (c.rows_in_use_are_those_of_queries.ensures self.config self.limits self.store.objects are_covered (self.stands going))
