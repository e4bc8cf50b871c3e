use Rattle.std.proofs.Common.{length, refl, sym, ◌∙◌}
use Rattle.std.proofs.lemmas.Map.Keys.{any_passes_from_place}
use Rattle.std.proofs.lemmas.Option.{slice_get_read}
use Rattle.mark_rules.specs.Marks.{same_mark}
use Rattle.slice_marks.proofs.slices.stands_at.Goals as goal

pub returns-in-Some : goal.returns-in-Some
returns-in-Some c =
    let at = c.in-Some.ensures.lookup in
    λ same. any_passes_from_place (same_mark c.args.mark.now) c.args.marks.now c.args.place c.in-Some.other.now
    (slice_get_read c.args.marks.now (length c.args.marks.now) c.args.place c.in-Some.other.now refl at.3.0 at.1)
    (sym c.is_same_mark.ensures ∙ same)
