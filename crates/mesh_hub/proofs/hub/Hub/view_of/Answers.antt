use Rattle.std.proofs.Common.{◌≡◌, Some, ap, sym, subst, ◌∙◌}
use Rattle.std.specs.Prelude.{option_map}
use Rattle.view_types.specs.declared.view.View.{View}
use Rattle.view_rules.specs.Fold.{IsOrderlyIfShown}
use Rattle.view_rules.specs.Views.{view_of}
use Rattle.subscriptions.specs.Live.{LiveSubscription}
use Rattle.mesh_hub.proofs.LiveSubs.{are_covered}
use Rattle.mesh_hub.proofs.hub.Hub.view_of.Goals as goal

pub unreachable-requires : goal.unreachable-requires
unreachable-requires c =
    let self = c.args.self.now in
    let sub = c.requires.live.0 in
    absurd (cc (sym c.in-None.is ∙ c.in_ok-view.ensures self.config self.limits self.store.objects c.get-held.ensures.at_keys (c.get-held.ensures.lawful (self.going c.requires.going)) are_covered (self.stands c.requires.going)
    sub.query (ap (option_map (λ (s : LiveSubscription). s.query)) c.requires.live.1) c.requires.live.2))

pub returns-clause-orderly : goal.returns-clause-orderly
returns-clause-orderly c =
    let self = c.args.self.now in
    let sub = c.requires.live.0 in
    let seen : Some c.in-Some.view ≡ Some (view_of self.config self.store.objects sub.query) =
    sym c.in-Some.is ∙ c.in_ok-view.ensures self.config self.limits self.store.objects c.get-held.ensures.at_keys (c.get-held.ensures.lawful (self.going c.requires.going)) are_covered (self.stands c.requires.going)
    sub.query (ap (option_map (λ (s : LiveSubscription). s.query)) c.requires.live.1) c.requires.live.2 in
    let is : c.in-Some.view ≡ view_of self.config self.store.objects sub.query = cc seen in
    subst (λ (view : View). IsOrderlyIfShown (Some view)) (sym is) (c.views_are_orderly.ensures self.config self.store.objects c.get-held.ensures.at_keys sub.query)
