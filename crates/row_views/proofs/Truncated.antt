-- Facts of views that stand for something, of which it isn't said how they do.
use Rattle.std.proofs.Common.{◌≡◌, Bool, Option}
use Rattle.std.proofs.Math.Logic.{∥∥₁_elim, ∥∥₁_prop}
use Rattle.std.specs.Coded.{Coded, Coded-set, codes, coded_bool}
use Rattle.view_types.specs.contracts.view.View as the_view
use Rattle.view_types.specs.declared.view.View.{View}

pub map_truncated : {A B : Type 0} → ∥ A ∥₁ → (A → B) → ∥ B ∥₁
map_truncated a f = ∥∥₁_elim a ∥∥₁_prop (λ a. ∣ f a ∣₁)

pub same_views : {A : Type 0} (a b : Option View) → ∥ A ∥₁ → (A → a ≡ b) → a ≡ b
same_views a b t f = let coded : Coded (Option View) = hlevel (codes, the_view.the_row.coded) in ∥∥₁_elim t (Coded-set coded a b) f

pub same_tests : {A : Type 0} (a b : Bool) → ∥ A ∥₁ → (A → a ≡ b) → a ≡ b
same_tests a b t f = ∥∥₁_elim t (Coded-set coded_bool a b) f
