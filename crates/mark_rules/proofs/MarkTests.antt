-- Tests of marks.
use Rattle.std.proofs.Common.{◌≡◌, ℕ, Bool, true, false, ◌||◌, List, [], ◌∷◌, ◌++◌, map, inl, inr, refl, sym, ap, subst, ◌∙◌}
use Rattle.std.specs.Cmp.{tied_itself}
use Rattle.std.specs.Cmp.Lexicographic.{nat_list_cmp_total, slice_cmp}
use Rattle.std.specs.List.{flat_map}
use Rattle.std.specs.Ordering.{is_eq, nat_cmp, ordering_then}
use Rattle.std.specs.declared.cmp.Ordering.{Ordering}
use Rattle.std.specs.declared.cmp.Ordering.TheVariants.{Equal}
use Rattle.std.proofs.lemmas.Cmp.{nat_cmp_total}
use Rattle.std.proofs.lemmas.List.Folds.{list_any-append}
use Rattle.mesh_base.proofs.KeyOrder.{keys_total}
use Rattle.view_types.specs.declared.mark.Mark.{Mark}
use Rattle.view_types.specs.declared.mark.Mark.TheVariants.{Obj, SlicesOf, ServersIn, ServerAuthzIn, PolicyOn, RouteOn, IpService, IpPod}
use Rattle.view_rules.proofs.Among.{Among}
use Rattle.view_rules.proofs.Pairs.{ips_total}
use Rattle.mark_rules.specs.Marks.{has_mark, mark_cmp, meets, named_cmp, parent_place, ref_place, same_mark}

-- ---- a mark is itself

tied_then : (a b : Ordering) → a ≡ Equal → b ≡ Equal → ordering_then a b ≡ Equal
tied_then a b e f = rw e f

tied_text : (text : List ℕ) → slice_cmp nat_cmp text text ≡ Equal
tied_text text = tied_itself nat_list_cmp_total text

tied_named : (ns : List ℕ) (place : ℕ) (name : List ℕ) → named_cmp (ns, place, name) (ns, place, name) ≡ Equal
tied_named ns place name = tied_then _ _ (tied_text ns) (tied_then _ _ (tied_itself nat_cmp_total place) (tied_text name))

tied : (mark : Mark) → mark_cmp mark mark ≡ Equal
tied (Obj key) = tied_itself keys_total key
tied (SlicesOf ns service) = tied_then _ _ (tied_text ns) (tied_text service)
tied (ServersIn ns) = tied_text ns
tied (ServerAuthzIn ns) = tied_text ns
tied (PolicyOn ns kind name) = tied_named ns (ref_place kind) name
tied (RouteOn ns kind name) = tied_named ns (parent_place kind) name
tied (IpService ip) = tied_itself ips_total ip
tied (IpPod ip) = tied_itself ips_total ip

pub is_itself : (mark : Mark) → same_mark mark mark ≡ true
is_itself mark = ap is_eq (tied mark)

-- ---- lists of marks

pub neither_first : (a b : Bool) → (a || b) ≡ false → a ≡ false
neither_first true b e = e
neither_first false b e = refl

pub neither_second : (a b : Bool) → (a || b) ≡ false → b ≡ false
neither_second true b e = absurd (cc e)
neither_second false b e = e

pub either_first : (a b : Bool) → a ≡ true → (a || b) ≡ true
either_first true b e = refl
either_first false b e = absurd (cc e)

pub either_second : (a b : Bool) → b ≡ true → (a || b) ≡ true
either_second true b e = refl
either_second false b e = e

pub has_one : (mark : Mark) → has_mark (mark ∷ []) mark ≡ true
has_one mark = rw (is_itself mark) refl

-- a mark that stands there by itself
pub has_among : (marks : List Mark) (mark : Mark) → Among mark marks → has_mark marks mark ≡ true
has_among [] mark at = absurd at
has_among (m ∷ ms) mark at = elim at [
  | inl e ↦ rw (ap (λ m. same_mark mark m) e ∙ is_itself mark) refl
  | inr rest ↦ either_second (same_mark mark m) (has_mark ms mark) (has_among ms mark rest)
]

module _ (changed : List Mark) where
  pub misses_one : (mark : Mark) → has_mark changed mark ≡ false → meets (mark ∷ []) changed ≡ false
  misses_one mark e = rw e refl

  pub misses_left : (xs ys : List Mark) → meets (xs ++ ys) changed ≡ false → meets xs changed ≡ false
  misses_left xs ys e = neither_first _ _ (sym (list_any-append (has_mark changed) xs ys) ∙ e)

  pub misses_right : (xs ys : List Mark) → meets (xs ++ ys) changed ≡ false → meets ys changed ≡ false
  misses_right xs ys e = neither_second _ _ (sym (list_any-append (has_mark changed) xs ys) ∙ e)

  module _ {A : Type 0} (asks : A → List Mark) where
    -- what an item asks for is not of the change where what all ask for is not
    pub misses_each : (xs : List A) (x : A) → Among x xs → meets (flat_map asks xs) changed ≡ false → meets (asks x) changed ≡ false
    misses_each [] x at e = absurd at
    misses_each (y ∷ ys) x at e = elim at [
      | inl same ↦ subst (λ x. meets (asks x) changed ≡ false) same (misses_left (asks y) (flat_map asks ys) e)
      | inr rest ↦ misses_each ys x rest (misses_right (asks y) (flat_map asks ys) e)
    ]

    -- a function of each item that stays where what the item asks for is not of the change
    module _ {B : Type 0} where
      pub stay_joined : (f g : A → List B) → ((x : A) → meets (asks x) changed ≡ false → f x ≡ g x)
          → (xs : List A) → meets (flat_map asks xs) changed ≡ false → flat_map f xs ≡ flat_map g xs
      stay_joined f g one [] e = refl
      stay_joined f g one (x ∷ xs) e =
          (λ i. one x (misses_left (asks x) (flat_map asks xs) e) i ++ stay_joined f g one xs (misses_right (asks x) (flat_map asks xs) e) i)

      pub stay_each : (f g : A → B) → ((x : A) → meets (asks x) changed ≡ false → f x ≡ g x)
          → (xs : List A) → meets (flat_map asks xs) changed ≡ false → map f xs ≡ map g xs
      stay_each f g one [] e = refl
      stay_each f g one (x ∷ xs) e =
          (λ i. one x (misses_left (asks x) (flat_map asks xs) e) i ∷ stay_each f g one xs (misses_right (asks x) (flat_map asks xs) e) i)
