use Rattle.std.proofs.Common.{rules, not, sym, ap, ◌∙◌}
use Rattle.std.specs.List.{list_any}
use Rattle.std.specs.Str.{bytes_eq}
use Rattle.std.proofs.lemmas.Fn.{filter_same}
use Rattle.view_types.specs.declared.server_view.RouteRow.{RouteRow}
use Rattle.route_index.proofs.Followed.{all_others}
use Rattle.route_index.proofs.placed.take_named.Goals as goal

pub returns-then-not-has_named-clause-gone : goal.returns-then-not-has_named-clause-gone
returns-then-not-has_named-clause-gone c =
    let named = λ (row : RouteRow). bytes_eq c.args.name.now row.name in
    all_others c.args.name.now c.args.rows.now.items (sym (c.has_named.ensures ∙ ap (list_any named) c.as_slice.ensures.value) ∙ c.if-not-has_named.true)

pub returns-clause-gone : goal.returns-clause-gone
returns-clause-gone c = filter_same _ (λ (row : RouteRow). not (bytes_eq c.args.name.now row.name)) _ (λ x b f' called. search rules) _ _ c.retain.ensures.filtered
