use Rattle.std.proofs.Common.{◌≡◌, None, refl, sym, ap, ◌∙◌, append-nil}
use Rattle.std.specs.Option.{option_copied}
use Rattle.view_rules.specs.Endpoints.{service_of}
use Rattle.mark_rules.proofs.object_marks.add_slice.Goals as goal

pub returns-in-None : goal.returns-in-None
returns-in-None c =
    let none : service_of c.args.slice.now ≡ None = sym c.get.ensures ∙ ap option_copied c.in-None.is in
    rw (none, append-nil c.args.marks.now) refl
