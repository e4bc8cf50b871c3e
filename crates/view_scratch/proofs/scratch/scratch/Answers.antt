use Rattle.std.proofs.Common.{Some, sym, ap, subst, ◌∙◌}
use Rattle.view_types.specs.declared.view.View.{View}
use Rattle.view_types.specs.declared.view.View.TheVariants.{Endpoints, Profile, Server, Outbound, ServerRows}
use Rattle.view_rules.proofs.Orderly.{endpoints_are_orderly}
use Rattle.view_rules.proofs.OrderlyViews.{views_are_orderly}
use Rattle.view_rules.specs.Fold.{IsOrderly, IsOrderlyIfShown}
use Rattle.view_rules.specs.Views.{view_of}
use Rattle.view_scratch.proofs.scratch.scratch.Goals as goal

pub returns-in_ok-view-in-Get-clause-value : goal.returns-in_ok-view-in-Get-clause-value
returns-in_ok-view-in-Get-clause-value g c =
    ap Endpoints c.in_ok-view-in-Get.ensures.value ∙ ap (view_of c.args.config.now c.args.store.now.objects) (sym c.in-Get.is)

pub returns-in_ok-view-in-Get-clause-orderly : goal.returns-in_ok-view-in-Get-clause-orderly
returns-in_ok-view-in-Get-clause-orderly g c = subst IsOrderly (sym c.in_ok-view-in-Get.ensures.value) (endpoints_are_orderly c.args.config.now _ _ _ _)

pub returns-in_ok-view-in-Profile-clause-value : goal.returns-in_ok-view-in-Profile-clause-value
returns-in_ok-view-in-Profile-clause-value g c =
    ap Profile c.in_ok-view-in-Profile.ensures.value ∙ ap (view_of c.args.config.now c.args.store.now.objects) (sym c.in-Profile.is)

pub returns-in_ok-view-in-Port-clause-value : goal.returns-in_ok-view-in-Port-clause-value
returns-in_ok-view-in-Port-clause-value g c =
    ap Server c.in_ok-view-in-Port.ensures.value ∙ ap (view_of c.args.config.now c.args.store.now.objects) (sym c.in-Port.is)

pub returns-in_ok-view-in-Traffic-clause-value : goal.returns-in_ok-view-in-Traffic-clause-value
returns-in_ok-view-in-Traffic-clause-value g c =
    ap Outbound c.in_ok-view-in-Traffic.ensures.value ∙ ap (view_of c.args.config.now c.args.store.now.objects) (sym c.in-Traffic.is)

pub returns-in_ok-view-in-PortRows-clause-value : goal.returns-in_ok-view-in-PortRows-clause-value
returns-in_ok-view-in-PortRows-clause-value g c =
    ap ServerRows c.in_ok-view-in-PortRows.ensures.value ∙ ap (view_of c.args.config.now c.args.store.now.objects) (sym c.in-PortRows.is)

pub returns-in_ok-view-in-PortRows-clause-orderly : goal.returns-in_ok-view-in-PortRows-clause-orderly
returns-in_ok-view-in-PortRows-clause-orderly g c =
    subst (λ (view : View). IsOrderlyIfShown (Some view)) (sym (returns-in_ok-view-in-PortRows-clause-value g c))
    (views_are_orderly c.args.config.now c.args.store.now.objects c.stand_at_keys.ensures c.args.query.now)
