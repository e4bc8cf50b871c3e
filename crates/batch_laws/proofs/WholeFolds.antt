-- A whole view that is sent is shown; one that isn't sent was shown before.
use Rattle.std.proofs.Common.{◌≡◌, Bool, true, false, [], ◌∷◌, Option, Some, None, if◌then◌else◌, refl, ap, ◌∙◌}
use Rattle.std.specs.Bool.{Decides}
use Rattle.view_types.specs.declared.message.Message.{Message}
use Rattle.view_types.specs.declared.view.View.{View}
use Rattle.view_rules.specs.Batch.{whole_batch}
use Rattle.view_rules.specs.Fold.{folded_onto, shown_after}

module _ {X : Type 0} (view : X → View) (same : X → X → Bool) (message : X → Message) (decides : (v w : X) → Decides (same v w) (v ≡ w)) where
  pub whole_folds : (new : X) → ((shown : Option View) → shown_after shown (message new) ≡ view new) → (old : Option View) (found : Option X) → ((v : X) → found ≡ Some v → old ≡ Some (view v))
      → folded_onto old (whole_batch same message found new) ≡ Some (view new)
  whole_folds new shows old None was = ap Some (shows old)
  whole_folds new shows old (Some v) was =
      elim (same v new) as (λ b. same v new ≡ b → folded_onto old (if b then [] else message new ∷ []) ≡ Some (view new)) [
        | true ↦ λ t. was v refl ∙ ap (λ v. Some (view v)) ((decides v new).0 t)
        | false ↦ λ t. ap Some (shows old)
      ] refl
