-- The maps of routes: what is followed of the objects held.
use Rattle.std.proofs.Common.{◌≡◌, ◌&&◌, ℕ, Bool, true, false, cond, not, List, map, Option, Some, None, eqb, refl, sym, ap, subst, ◌∙◌, arith}
use Rattle.std.specs.FinMap as fin
use Rattle.std.specs.FinMap.{get, get-empty, get-insert, get-remove, get-retain_keys, insert, remove, retain_keys, same_map, values}
use Rattle.std.specs.List.{AllByRecursion, IsDistinct, filter}
use Rattle.std.specs.List.Sorted.{IsPermutation}
use Rattle.std.specs.Option.{option_or}
use Rattle.std.specs.Ordering.{eq_by_cmp}
use Rattle.std.proofs.lemmas.Bool.Decides.{nat_tests}
use Rattle.std.proofs.lemmas.List.Elements.{recursion_from_All}
use Rattle.mesh_base.specs.KeyOrder.{key_cmp, kind_place}
use Rattle.mesh_base.specs.Keyed.{IsKeyed, keyed_map}
use Rattle.mesh_base.specs.declared.key.Kind.{Kind}
use Rattle.mesh_base.specs.declared.key.Kind.TheVariants.{GatewayRoute}
use Rattle.mesh_base.specs.declared.key.ObjKey.{ObjKey}
use Rattle.mesh_base.proofs.KeyOrder.{keys_exact, keys_total}
use Rattle.mesh_base.proofs.Keyed.{filtered, filtered_sorted, items_are_values}
use Rattle.view_types.specs.Objects.{IsListOf, ObjectMap, key_of, kind_of}
use Rattle.view_types.specs.declared.object.Object.{Object}
use Rattle.object_store.specs.Relisted.{is_of, item_at, put_all, relisted}
use Rattle.object_store.proofs.KindLists.{get-keyed}
use Rattle.object_store.proofs.PutAll.{get-put_all, get-relisted, item_at-absent, item_at-moved, keys_tied, weaker}
use Rattle.grpc_feed.specs.FeedKinds.{is_gateway_route, is_lowered, is_lowered_name}
use Rattle.grpc_feed.specs.FeedLines.{kept, stays}
use Rattle.grpc_feed.specs.Routes.{routes_of}
use Rattle.grpc_feed.specs.declared.kinds.FeedKind.{FeedKind}
use Rattle.grpc_feed.specs.declared.kinds.FeedKind.TheVariants as kinds

-- what is held at a key that passes a test
pub get-kept : (p : ObjKey → Bool) (m : ObjectMap) (key : ObjKey) → get (retain_keys m p) key ≡ cond (p key) (get m key) None
get-kept p m key = get-retain_keys m p key (λ other tied. ap p (sym (keys_exact key other tied)))

-- ---- copies of lists

or_none : (found : Option Object) → option_or found None ≡ found
or_none None = refl
or_none (Some o) = refl

get-items : (items : List Object) (key : ObjKey) → get (put_all items fin.empty) key ≡ item_at key items
get-items items key = get-put_all items fin.empty key ∙ ap (option_or (item_at key items)) (get-empty key_cmp key) ∙ or_none (item_at key items)

pub copied : (items sorted : List Object) → IsPermutation items sorted → IsDistinct (eq_by_cmp key_cmp) (map key_of items) → IsKeyed key_cmp key_of (λ o. o) sorted
    → keyed_map key_cmp key_of (λ o. o) sorted ≡ put_all items fin.empty
copied items sorted moved apart rises = same_map keys_total keys_exact _ _ (λ key. get-keyed sorted rises key ∙ item_at-moved key items sorted moved apart ∙ sym (get-items items key))

-- ---- the routes that stay

pub kept_are : (kind : FeedKind) (os : List Object) → IsKeyed key_cmp key_of (λ o. o) os → filter (λ o. stays kind (key_of o)) os ≡ kept kind (keyed_map key_cmp key_of (λ o. o) os)
kept_are kind os rises =
    sym (items_are_values key_cmp key_of _ (filtered_sorted keys_total keys_exact key_of (λ o. o) (stays kind) os rises))
    ∙ ap values (filtered keys_total keys_exact key_of (λ o. o) (stays kind) os rises)

-- only routes stay
among_both : (own route lowered : Bool) (found : Option Object) → cond (own && (route && lowered)) (cond route found None) None ≡ cond (own && (route && lowered)) found None
among_both true true true found = refl
among_both true true false found = refl
among_both true false lowered found = refl
among_both false route lowered found = refl

among : (route lowered : Bool) (found : Option Object) → cond (route && not lowered) (cond route found None) None ≡ cond (route && not lowered) found None
among true lowered found = refl
among false lowered found = refl

stays_among : (kind : FeedKind) (key : ObjKey) (found : Option Object) → cond (stays kind key) (cond (is_gateway_route key.kind) found None) None ≡ cond (stays kind key) found None
stays_among kinds.GrpcRoute key found = among (is_gateway_route key.kind) (is_lowered key) found
stays_among (kinds.Held kind) key found = among_both (is_gateway_route kind) (is_gateway_route key.kind) (is_lowered_name key.name) found

pub kept_same : (kind : FeedKind) (held : ObjectMap) → kept kind (routes_of held) ≡ kept kind held
kept_same kind held = ap values (same_map keys_total keys_exact _ _ (λ key.
    get-kept (stays kind) (routes_of held) key
    ∙ ap (λ found. cond (stays kind key) found None) (get-kept (λ (k : ObjKey). is_gateway_route k.kind) held key)
    ∙ stays_among kind key (get held key)
    ∙ sym (get-kept (stays kind) held key)))

-- ---- events

abbrev get-routes : (held : ObjectMap) (key : ObjKey) → get (routes_of held) key ≡ cond (is_gateway_route key.kind) (get held key) None
get-routes held key = get-kept (λ (k : ObjKey). is_gateway_route k.kind) held key

own_as : (key other : ObjKey) → eq_by_cmp key_cmp key other ≡ true → is_gateway_route key.kind ≡ is_gateway_route other.kind
own_as key other tied = ap (λ (k : ObjKey). is_gateway_route k.kind) (keys_tied key other tied)

put_at : (tied own : Bool) (o : Object) (found : Option Object) → (tied ≡ true → own ≡ true) → cond tied (Some o) (cond own found None) ≡ cond own (cond tied (Some o) found) None
put_at true own o found is = rw (is refl) refl
put_at false own o found is = refl

pub follows_put : (held : ObjectMap) (o : Object) → is_gateway_route (kind_of o) ≡ true → insert (routes_of held) (key_of o) o ≡ routes_of (insert held (key_of o) o)
follows_put held o own = same_map keys_total keys_exact _ _ (λ key.
    let tied = eq_by_cmp key_cmp key (key_of o) in
    get-insert keys_total (routes_of held) (key_of o) o key
    ∙ ap (cond tied (Some o)) (get-routes held key)
    ∙ put_at tied (is_gateway_route key.kind) o (get held key) (λ is. own_as key (key_of o) is ∙ own)
    ∙ sym (get-routes (insert held (key_of o) o) key ∙ ap (λ found. cond (is_gateway_route key.kind) found None) (get-insert keys_total held (key_of o) o key)))

passed : (own of : Bool) (item found : Option Object) → (of ≡ true → own ≡ false) → cond own found None ≡ cond own (cond of item found) None
passed own true item found other = rw (other refl) refl
passed own false item found other = refl

pub follows_other : (held : ObjectMap) (o : Object) → is_gateway_route (kind_of o) ≡ false → routes_of held ≡ routes_of (insert held (key_of o) o)
follows_other held o other = same_map keys_total keys_exact _ _ (λ key.
    let tied = eq_by_cmp key_cmp key (key_of o) in
    get-routes held key
    ∙ passed (is_gateway_route key.kind) tied (Some o) (get held key) (λ is. own_as key (key_of o) is ∙ other)
    ∙ sym (get-routes (insert held (key_of o) o) key ∙ ap (λ found. cond (is_gateway_route key.kind) found None) (get-insert keys_total held (key_of o) o key)))

taken : (tied own : Bool) (found : Option Object) → cond tied None (cond own found None) ≡ cond own (cond tied None found) None
taken true true found = refl
taken true false found = refl
taken false own found = refl

pub follows_removed : (held : ObjectMap) (gone : ObjKey) → remove (routes_of held) gone ≡ routes_of (remove held gone)
follows_removed held gone = same_map keys_total keys_exact _ _ (λ key.
    let tied = eq_by_cmp key_cmp key gone in
    get-remove keys_total (routes_of held) gone key
    ∙ ap (cond tied None) (get-routes held key)
    ∙ taken tied (is_gateway_route key.kind) (get held key)
    ∙ sym (get-routes (remove held gone) key ∙ ap (λ found. cond (is_gateway_route key.kind) found None) (get-remove keys_total held gone key)))

-- ---- lists

unlike : (a b c : ℕ) → a ≡ b → eqb c b ≡ false → eqb a c ≡ false
unlike a b c is other = grind (arith, nat_tests)

unlike_both : (a b c : ℕ) → eqb b c ≡ false → eqb a b ≡ true → eqb a c ≡ false
unlike_both a b c other is = grind (arith, nat_tests)

no_item : (items : List Object) → AllByRecursion (λ o. kind_of o ≡ GatewayRoute) items → (key : ObjKey) → is_gateway_route key.kind ≡ false → item_at key items ≡ None
no_item items all key other = item_at-absent key items
    (weaker (λ o. kind_of o ≡ GatewayRoute) _ (λ o of. unlike (kind_place (kind_of o)) (kind_place GatewayRoute) (kind_place key.kind) (ap kind_place of) other) items all)

listed : (own : Bool) (item found : Option Object) → (own ≡ false → item ≡ None) → item ≡ cond own (cond own item found) None
listed true item found none = refl
listed false item found none = none refl

follows_gateway : (held : ObjectMap) (items : List Object) → IsListOf GatewayRoute items → put_all items fin.empty ≡ routes_of (relisted held GatewayRoute items)
follows_gateway held items is =
    let all = recursion_from_All (λ o. kind_of o ≡ GatewayRoute) items is.each in
    same_map keys_total keys_exact _ _ (λ key.
    get-items items key
    ∙ listed (is_gateway_route key.kind) (item_at key items) (get held key) (no_item items all key)
    ∙ sym (get-routes (relisted held GatewayRoute items) key ∙ ap (λ found. cond (is_gateway_route key.kind) found None) (get-relisted held GatewayRoute items all key)))

gateway : (kind : Kind) → is_gateway_route kind ≡ true → kind ≡ GatewayRoute
gateway GatewayRoute is = refl
gateway _ is = absurd cc

pub follows_list : (held : ObjectMap) (kind : Kind) (items : List Object) → IsListOf kind items → is_gateway_route kind ≡ true → put_all items fin.empty ≡ routes_of (relisted held kind items)
follows_list held kind items is own = subst (λ (k : Kind). IsListOf k items → put_all items fin.empty ≡ routes_of (relisted held k items)) (sym (gateway kind own)) (follows_gateway held items) is

pub follows_other_list : (held : ObjectMap) (kind : Kind) (items : List Object) → IsListOf kind items → is_gateway_route kind ≡ false → routes_of held ≡ routes_of (relisted held kind items)
follows_other_list held kind items is other =
    let all = recursion_from_All (λ o. kind_of o ≡ kind) items is.each in
    same_map keys_total keys_exact _ _ (λ key.
    get-routes held key
    ∙ passed (is_gateway_route key.kind) (is_of kind key) (item_at key items) (get held key) (unlike_both (kind_place key.kind) (kind_place kind) (kind_place GatewayRoute) other)
    ∙ sym (get-routes (relisted held kind items) key ∙ ap (λ found. cond (is_gateway_route key.kind) found None) (get-relisted held kind items all key)))

abbrev no_object : Option Object
no_object = None

no_route : (own : Bool) → cond own (no_object) None ≡ no_object
no_route true = refl
no_route false = refl

-- nothing is followed of nothing
pub follows_nothing : fin.empty ≡ routes_of fin.empty
follows_nothing = same_map keys_total keys_exact _ _ (λ key.
    get-empty key_cmp key ∙ sym (get-routes fin.empty key ∙ ap (λ found. cond (is_gateway_route key.kind) found None) (get-empty key_cmp key) ∙ no_route (is_gateway_route key.kind)))
