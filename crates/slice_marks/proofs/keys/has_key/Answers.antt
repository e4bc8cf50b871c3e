use Rattle.std.proofs.Common.{rules, ◌≡◌, not, ◌&&◌, ◌||◌, Result, Ok, Err, IfErr, IfOk, ℕ, List, sym, ap, ◌∙◌}
use Rattle.std.proofs.lemmas.Fn.{always_returns_same}
use Rattle.std.specs.Result.{is_ok}
use Rattle.key_lists.proofs.Lists.{had_has, lacks_has}
use Rattle.key_lists.specs.Keys.{Rises, has_key}
use Rattle.mesh_base.specs.KeyOrder.{key_cmp}
use Rattle.mesh_base.specs.Places.{IsGap, IsHit}
use Rattle.mesh_base.specs.declared.key.ObjKey.{ObjKey}
use Rattle.mesh_base.proofs.KeyOrder.{keys_total, keys_exact}
use Rattle.mesh_base.proofs.Keyed.{searchable}
use Rattle.mesh_base.proofs.Places.{searched}
use Rattle.endpoint_rows.proofs.KeysAt.{own_key}
use Rattle.slice_marks.proofs.keys.has_key.Goals as goal

told : (keys : List ObjKey) → Rises keys → (key : ObjKey) (r : Result ℕ ℕ) → IfOk r (IsHit (λ k. key_cmp k key) keys) → IfErr r (IsGap (λ k. key_cmp k key) keys) → is_ok r ≡ has_key key keys
told keys rises key (Ok i) hit gap = sym (had_has keys rises key i hit key ∙ ap (λ b. b || has_key key keys) (own_key key))
told keys rises key (Err i) hit gap = sym (lacks_has keys rises key i gap key ∙ ap (λ b. not b && has_key key keys) (own_key key))

pub returns : goal.returns
returns c =
    let facts = c.binary_search_by.ensures in
    let by_key = facts.position (λ k. key_cmp k c.args.key.now) (always_returns_same _ _ _ (λ a r g called. (search rules, search rules))) in
    let found = searched _ _ (searchable keys_total keys_exact (λ k. k) (λ k. k) c.args.keys.now c.requires c.args.key.now) _ facts.bound by_key in
    c.is_ok.ensures.value ∙ told c.args.keys.now c.requires c.args.key.now c.binary_search_by.result found.hit found.gap
