-- The users of a key, as one is added or removed.
use Rattle.std.proofs.Common.{◌≡◌, ℕ, Option, Some, None, sym, ap, subst, ◌∙◌}
use Rattle.std.specs.Prelude.{option_map}
use Rattle.std.specs.declared.cmp.Ordering.{Ordering}
use Rattle.row_table.specs.KeyNumbers.{PutsAt, TakesOne, TakesUser, number_in, one_less, one_more, used_at}
use Rattle.row_table.specs.declared.key_numbers.KeyNumbers.{KeyNumbers}
use Rattle.row_table.specs.declared.key_numbers.UsedKey.{UsedKey}

module _ {Key : Type 0} (cmp : Key → Key → Ordering) (key : Key) (at : UsedKey) (old new : KeyNumbers Key) (there : Some at ≡ used_at cmp old key) where
  -- one user more of a key that has users
  pub puts_more : (after : UsedKey) → PutsAt cmp key (Some after) (used_at cmp old) (used_at cmp new) → after ≡ one_more at → PutsAt cmp key (option_map one_more (used_at cmp old key)) (used_at cmp old) (used_at cmp new)
  puts_more after put is = subst (λ (x : Option UsedKey). PutsAt cmp key x (used_at cmp old) (used_at cmp new)) (ap Some is ∙ ap (option_map one_more) there) put

  -- one user less, unless it is the last
  pub takes_user : (after : UsedKey) (taken : Option ℕ) → PutsAt cmp key (Some after) (used_at cmp old) (used_at cmp new) → TakesOne at taken after → TakesUser cmp key old taken new
  takes_user after None put takes = (
    subst (λ (x : Option UsedKey). PutsAt cmp key x (used_at cmp old) (used_at cmp new)) (sym takes.0 ∙ ap one_less there) put,
    ap (λ x. number_in (one_less x)) (sym there) ∙ ap number_in takes.0 ∙ ap Some takes.1 ∙ ap number_in there,
  )
  takes_user after (Some n) put takes = (
    subst (λ (x : Option UsedKey). PutsAt cmp key x (used_at cmp old) (used_at cmp new)) (ap Some takes.0 ∙ there) put,
    ap number_in (sym there) ∙ ap Some (sym takes.1),
    ap one_less (sym there) ∙ takes.2,
  )
