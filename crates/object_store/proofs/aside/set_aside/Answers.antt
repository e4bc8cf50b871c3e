use Rattle.std.proofs.Common.{◌≡◌, ◌||◌, ap, ◌∙◌}
use Rattle.std.specs.List.{list_any}
use Rattle.std.specs.Option.{option_to_list}
use Rattle.std.proofs.lemmas.List.Folds.{list_any-append}
use Rattle.object_store.specs.KeyLists.{is_aside}
use Rattle.object_store.proofs.AsideKeys.{either_after, more_aside}
use Rattle.object_store.proofs.aside.set_aside.Goals as goal

pub loop-mark-preserved : goal.loop-mark-preserved
loop-mark-preserved c =
    let all : (m : _) (k : _) → list_any (is_aside m k) c.add.new.asides ≡ (list_any (is_aside m k) c.loop-mark.asides || list_any (is_aside m k) (option_to_list c.in_ok-aside.aside)) =
    λ m k. ap (list_any (is_aside m k)) c.in_ok-add.ensures ∙ list_any-append (is_aside m k) c.loop-mark.asides (option_to_list c.in_ok-aside.aside) in (
      λ m k. more_aside _ _ _ _ _ _ (c.loop-mark.invariant.0 m k) (c.in_ok-aside.ensures.parted m k) (all m k),
      λ m k. either_after _ _ _ (all m k) (c.loop-mark.invariant.1 m k) (c.in_ok-aside.ensures.after m k),
    )
