-- What is found at a key counts among the objects with the mark of the key.
use Rattle.std.proofs.Common.{◌≡◌, ◌+◌, ◌-◌, ◌^◌, ◌≤◌, Bor, min, ℕ, Bool, true, false, cond, Option, Some, None, refl, sym, ap, ◌∙◌, arith}
use Rattle.std.specs.Prelude.{is_some}
use Rattle.std.specs.FinMap.{get}
use Rattle.std.specs.Option.{option_copied}
use Rattle.mesh_base.specs.declared.key.ObjKey.{ObjKey}
use Rattle.view_types.specs.Objects.{AtKeys, ObjectMap}
use Rattle.view_types.specs.declared.mark.Mark.TheVariants.{Obj}
use Rattle.view_types.specs.declared.object.Object.{Object}
use Rattle.mark_rules.specs.Reads.{count_at}
use Rattle.mark_rules.proofs.Counts.{key_counts, one_if}

pub copied_some : {A : Type 0} (found : Option (Bor A)) → is_some (option_copied found) ≡ is_some found
copied_some None = refl
copied_some (Some a) = refl

at_most_one : (there : Bool) (start after : ℕ) → after ≡ cond there (min (start + 1) (2 ^ 64 - 1)) start → after ≤ start + one_if there
at_most_one true start after steps = omega (arith, steps)
at_most_one false start after steps = omega (arith, steps)

-- a look-up counts as one where something is found
pub found_one : {A : Type 0} (found : Option (Bor A)) (o : Option A) (start after : ℕ) → option_copied found ≡ o → after ≡ cond (is_some found) (min (start + 1) (2 ^ 64 - 1)) start → after ≤ start + one_if (is_some o)
found_one found o start after is steps = at_most_one (is_some o) start after (steps ∙ ap (λ there. cond there (min (start + 1) (2 ^ 64 - 1)) start) (sym (copied_some found) ∙ ap is_some is))

-- and so at most as often as objects have the mark of the key
pub found_counts : (held : ObjectMap) → AtKeys held → (key : ObjKey) (found : Option (Bor Object)) (start after : ℕ) → option_copied found ≡ get held key
    → after ≡ cond (is_some found) (min (start + 1) (2 ^ 64 - 1)) start → after ≤ start + count_at held (Obj key)
found_counts held own key found start after is steps =
    let one = found_one found (get held key) start after is steps in
    let counts = key_counts held own key in
    omega (arith, one, counts)
