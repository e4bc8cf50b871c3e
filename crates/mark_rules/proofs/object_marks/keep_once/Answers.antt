use Rattle.std.proofs.Common.{rules, ap, ◌∙◌}
use Rattle.std.proofs.lemmas.Fn.{dedup_same}
use Rattle.std.proofs.lemmas.List.Sorted.{answers_always, ranks_by}
use Rattle.view_rules.proofs.FirstOfEach.{first_of_each}
use Rattle.mark_rules.specs.Marks.{each_once}
use Rattle.mark_rules.proofs.MarkOrder.{marks_exact, marks_total}
use Rattle.mark_rules.proofs.object_marks.keep_once.Goals as goal

pub returns : goal.returns
returns c =
    c.from_vec.ensures
    ∙ dedup_same _ _ _ (λ x y b f' x' y' called. search rules) _ _ c.dedup_by.ensures.filtered
    ∙ first_of_each marks_total marks_exact (λ m. m) c.into_vec-marks.result.items c.sort_by.new.self.items
    (c.in_ok-sort_by.ensures.sorted _ (ranks_by marks_total (λ m. m)) (answers_always _ _ _ (λ f a r g called. search rules)))
    (c.sort_by.ensures.stable _ (ranks_by marks_total (λ m. m)) (answers_always _ _ _ (λ f a r g called. search rules)))
    ∙ ap each_once c.into_vec-marks.ensures
