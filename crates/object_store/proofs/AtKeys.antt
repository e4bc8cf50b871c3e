-- Each object of a list whose keys rise is found at its own key.
use Rattle.std.proofs.Common.{◌≡◌, Bool, true, false, cond, List, [], ◌∷◌, Option, Some, None, IfSome, Bor, Ordering, refl, sym, ◌∙◌}
use Rattle.std.specs.Ordering.{eq_by_cmp, is_eq}
use Rattle.std.specs.FinMap.{find, get, get-from_sorted}
use Rattle.std.specs.Option.{option_copied}
use Rattle.std.specs.declared.cmp.Ordering.TheVariants.{Less, Equal, Greater}
use Rattle.mesh_base.specs.declared.key.ObjKey.{ObjKey}
use Rattle.mesh_base.specs.KeyOrder.{key_cmp}
use Rattle.mesh_base.specs.Keyed.{keyed, IsKeyed, keyed_map}
use Rattle.mesh_base.proofs.KeyOrder.{keys_exact}
use Rattle.view_types.specs.declared.object.Object.{Object}
use Rattle.view_types.specs.Objects.{AtKeys, key_of}

equal : (r : Ordering) → is_eq r ≡ true → r ≡ Equal
equal Less e = cc
equal Equal e = refl
equal Greater e = cc

own_at : (k : ObjKey) (o x : Object) (os : List Object) → (find key_cmp k (keyed key_cmp key_of (λ o. o) os) ≡ Some o → key_of o ≡ k)
    → (tied : Bool) → eq_by_cmp key_cmp k (key_of x) ≡ tied
    → cond tied (Some x) (find key_cmp k (keyed key_cmp key_of (λ o. o) os)) ≡ Some o → key_of o ≡ k
own_at k o x os rest true tied found = let is : k ≡ key_of x = keys_exact k (key_of x) (equal _ tied) in cc
own_at k o x os rest false tied found = rest found

found_own : (k : ObjKey) (o : Object) (os : List Object) → find key_cmp k (keyed key_cmp key_of (λ o. o) os) ≡ Some o → key_of o ≡ k
found_own k o [] found = cc
found_own k o (x ∷ os) found = own_at k o x os (found_own k o os) (eq_by_cmp key_cmp k (key_of x)) refl found

pub at_keys : (os : List Object) → IsKeyed key_cmp key_of (λ o. o) os → AtKeys (keyed_map key_cmp key_of (λ o. o) os)
at_keys os h k o found = found_own k o os (sym (get-from_sorted key_cmp _ k h) ∙ found)

-- and so is that which a look-up shows
pub shown_key : (os : List Object) → IsKeyed key_cmp key_of (λ o. o) os → (k : ObjKey) (shown : Option (Bor Object)) → option_copied shown ≡ get (keyed_map key_cmp key_of (λ o. o) os) k → IfSome shown (λ o. key_of o.now ≡ k)
shown_key os h k (Some o) is = at_keys os h k o.now (sym is)
shown_key os h k None is = tt
