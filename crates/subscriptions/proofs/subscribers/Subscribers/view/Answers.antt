use Rattle.std.proofs.Common.{◌≡◌, Option, Some, ap, sym, ◌∙◌}
use Rattle.std.specs.Option.{option_copied}
use Rattle.std.specs.Prelude.{option_and_then, option_map}
use Rattle.view_types.specs.declared.query.Query.{Query}
use Rattle.view_rules.specs.Views.{as_asked}
use Rattle.row_views.specs.Queries.{view_at}
use Rattle.subscriptions.specs.Live.{LiveSubscription}
use Rattle.subscriptions.proofs.AllKept.{kept_view}
use Rattle.subscriptions.proofs.subscribers.Subscribers.view.Goals as goal

abbrev query_in : Option LiveSubscription → Option Query
query_in found = option_map (λ (sub : LiveSubscription). sub.query) found

pub returns-in_ok-view-in-Some : goal.returns-in_ok-view-in-Some
returns-in_ok-view-in-Some g c = λ config limits held at_keys lawful covers all query found other.
    let kept_query = g.V.QueryViews.kept_query in
    let id = c.args.id.0 in
    let both : Some c.in-Some.sub.now.query ≡ Some query = sym (ap query_in (sym c.get.ensures ∙ ap option_copied c.in-Some.is)) ∙ found in
    let held_as : c.in-Some.sub.now.query ≡ query = cc both in
    let own : c.sub.inside.query ≡ query = ap (λ (sub : LiveSubscription). sub.query) c.sub.view_is ∙ held_as in
    c.told.ensures
    ∙ ap (option_map (as_asked c.sub.inside.query)) (c.in_ok-view-in-Some.ensures config held at_keys lawful all.views)
    ∙ ap (λ (asked : Query). option_map (as_asked asked) (view_at config held (g.V.QueryViews.query_of c.args.self.now.views id))) own
    ∙ ap (λ (asked : Option Query). option_map (as_asked query) (view_at config held asked)) (all.kept id ∙ ap (λ (asked : Option Query). option_and_then kept_query asked) found)
    ∙ kept_view kept_query covers g.met.V.QueryViews.same config held query other

pub returns-in-None : goal.returns-in-None
returns-in-None g c = λ config limits held at_keys lawful covers all query found other.
    absurd (cc (sym (ap query_in (sym c.get.ensures ∙ ap option_copied c.in-None.is)) ∙ found))
