use Rattle.std.proofs.Common.{ℕ, List, rules, ◌∙◌}
use Rattle.std.proofs.lemmas.Fn.{dedup_same}
use Rattle.std.proofs.lemmas.List.Sorted.{answers_always, ranks_by}
use Rattle.mesh_base.proofs.ByBytes.{bytes_total, bytes_exact}
use Rattle.view_rules.proofs.FirstOfEach.{first_of_each}
use Rattle.policy_rows.proofs.in_order.in_byte_order.Goals as goal

pub returns : goal.returns
returns c =
    c.from_vec.ensures
    ∙ dedup_same _ _ _ (λ x y b f' x' y' called. search rules) _ _ c.dedup_by.ensures.filtered
    ∙ first_of_each bytes_total bytes_exact (λ (string : List ℕ). string) c.args.strings.items c.sort_by.new.self.items
    (c.in_ok-sort_by.ensures.sorted _ (ranks_by bytes_total (λ (string : List ℕ). string)) (answers_always _ _ _ (λ f a r g called. search rules)))
    (c.sort_by.ensures.stable _ (ranks_by bytes_total (λ (string : List ℕ). string)) (answers_always _ _ _ (λ f a r g called. search rules)))
