use Rattle.std.proofs.Common.{◌<◌, [], ◌∷◌, ◌++◌, ap, sym, subst, ◌∙◌}
use Rattle.std.specs.List.{AllByRecursion}
use Rattle.view_relay.specs.ById.{id_of}
use Rattle.view_relay.proofs.ById.{behind}
use Rattle.view_relay.proofs.by_id.ById.add.Goals as goal

pub returns-clause-ok : goal.returns-clause-ok
returns-clause-ok g c =
    c.in_ok-insert.ensures.entries
    ∙ behind c.args.id c.self.inside.map.entries c.args.value (subst (AllByRecursion (λ entry. id_of entry < c.args.id)) (sym c.self.view_is) c.requires)
    ∙ ap (λ entries. entries ++ (c.args.id, c.args.value) ∷ []) c.self.view_is
