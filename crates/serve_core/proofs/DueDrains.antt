-- Whether a drain of some subscription has its turn.
use Rattle.std.proofs.Common.{◌≡◌, ◌<◌, ℕ, zero, suc, ◌+◌, Bool, true, false, ◌&&◌, ◌||◌, cond, List, [], ◌∷◌, length, take, get_or, Option, Some, None, refl, sym, ap, ◌∙◌, subst, arith}
use Rattle.std.specs.Prelude.{Result, Ok, Err, OnOk, is_some, nat_eq}
use Rattle.std.specs.List.{list_any}
use Rattle.std.proofs.lemmas.List.Folds.{list_any_at, list_any_more}
use Rattle.mesh_base.specs.declared.sub_id.SubId.{SubId}
use Rattle.subscriptions.specs.DueIds.{is_among}
use Rattle.link_sessions.specs.Entries.{Entries, entries_of, link_at, passes, passes_at}
use Rattle.link_sessions.specs.Roles.{is_subscriber, is_to_drain}
use Rattle.link_sessions.specs.Settled.{IsSettled, subscribes}
use Rattle.link_sessions.specs.Sets.{IsAnyOf, IsOneOf}
use Rattle.link_sessions.specs.declared.link.Link.{Link}
use Rattle.link_sessions.specs.declared.open_links.OpenLinks.{OpenLinks}
use Rattle.link_sessions.proofs.Changes.{is_here, same_number}
use Rattle.std.specs.BTreeMap.{is_at}
use Rattle.std.specs.BTreeSet.{BTreeSet, contains}
use Rattle.std.specs.Ordering.{nat_cmp}
use Rattle.link_sessions.specs.declared.link.Role.{Role}
use Rattle.link_sessions.specs.declared.link.Role.TheVariants as roles
use Rattle.serve_core.specs.LinkTurns.{IsFoundAmong, IsPutIn, drains_among, drains_if, subscribes_to}

-- ---- the subscriptions one after another

none_of_none : (role : Role) (d : Bool) → (subscribes_to (λ id. is_among id []) role && d) ≡ false
none_of_none roles.Opening d = refl
none_of_none roles.Feed d = refl
none_of_none (roles.Subscriber own) d = refl

neither : (a b d : Bool) → (a && d) ≡ false → (b && d) ≡ false → ((a || b) && d) ≡ false
neither true b d e g = e
neither false b d e g = g

first_part : (a b : Bool) → (a && b) ≡ true → a ≡ true
first_part true b e = refl
first_part false b e = e

second_part : (a b : Bool) → (a && b) ≡ true → b ≡ true
second_part true b e = e
second_part false b e = absurd cc

-- the id stands in a list
abbrev own_in : SubId → SubId → Bool
own_in own other = nat_eq own.0 other.0

module _ (ids : List SubId) (i : ℕ) (id : SubId) (lt : i < length ids) (at : id ≡ get_or ids i id) where
  among_more : (own : SubId) → is_among own.0 (take (i + 1) ids) ≡ (is_among own.0 (take i ids) || nat_eq own.0 id.0)
  among_more own = list_any_more (own_in own) ids i id lt ∙ ap (λ (other : SubId). is_among own.0 (take i ids) || nat_eq own.0 other.0) (sym at)

  role_more : (role : Role) (d : Bool) → (subscribes_to (λ n. is_among n (take i ids)) role && d) ≡ false → (is_subscriber id.0 role && d) ≡ false → (subscribes_to (λ n. is_among n (take (i + 1) ids)) role && d) ≡ false
  role_more roles.Opening d e g = refl
  role_more roles.Feed d e g = refl
  role_more (roles.Subscriber own) d e g = ap (λ b. b && d) (among_more own) ∙ neither (is_among own.0 (take i ids)) (nat_eq own.0 id.0) d e g

  role_there : (role : Role) → is_subscriber id.0 role ≡ true → subscribes_to (λ n. is_among n ids) role ≡ true
  role_there roles.Opening e = e
  role_there roles.Feed e = e
  role_there (roles.Subscriber own) e = list_any_at (own_in own) ids i id lt (ap (λ (other : SubId). nat_eq own.0 other.0) (sym at) ∙ e)

  abbrev drains_one : Link → Bool
  drains_one link = subscribes id.0 link && is_to_drain link

  more_by : (found : Option Link) → passes (drains_among (take i ids)) found ≡ false → passes drains_one found ≡ false → passes (drains_among (take (i + 1) ids)) found ≡ false
  more_by None e g = refl
  more_by (Some link) e g = role_more link.role (is_to_drain link) e g

  here_by : (found : Option Link) → passes drains_one found ≡ true → passes (drains_among ids) found ≡ true
  here_by None e = e
  here_by (Some link) e =
      ap (λ b. b && is_to_drain link) (role_there link.role (first_part (subscribes id.0 link) (is_to_drain link) e)) ∙ second_part (subscribes id.0 link) (is_to_drain link) e

  module _ (entries : Entries) where
    -- none of those so far, and not this one
    pub no_more : ((n : ℕ) → passes_at (drains_among (take i ids)) entries n ≡ false) → ((n : ℕ) → passes_at drains_one entries n ≡ false) → (n : ℕ) → passes_at (drains_among (take (i + 1) ids)) entries n ≡ false
    no_more none this n = more_by (link_at n entries) (none n) (this n)

    pub drains_this : (n : ℕ) → passes_at drains_one entries n ≡ true → passes_at (drains_among ids) entries n ≡ true
    drains_this n this = here_by (link_at n entries) this

none_by : (found : Option Link) → passes (drains_among []) found ≡ false
none_by None = refl
none_by (Some link) = none_of_none link.role (is_to_drain link)

pub none_drains : (entries : Entries) (n : ℕ) → passes_at (drains_among []) entries n ≡ false
none_drains entries n = none_by (link_at n entries)

-- ---- the same ids by other tests

role_same : (a b : ℕ → Bool) → ((id : ℕ) → a id ≡ b id) → (role : Role) → subscribes_to a role ≡ subscribes_to b role
role_same a b same roles.Opening = refl
role_same a b same roles.Feed = refl
role_same a b same (roles.Subscriber id) = same id.0

passes_alike : (a b : Link → Bool) → ((link : Link) → a link ≡ b link) → (found : Option Link) → passes a found ≡ passes b found
passes_alike a b same None = refl
passes_alike a b same (Some link) = same link

any_alike : (a b : ℕ → Bool) → ((n : ℕ) → a n ≡ b n) → (some : Bool) → IsAnyOf a some → IsAnyOf b some
any_alike a b same true is = (is.0, sym (same is.0) ∙ is.1)
any_alike a b same false is = λ n. sym (same n) ∙ is n

pub drains_alike : (entries : Entries) (a b : ℕ → Bool) → ((id : ℕ) → a id ≡ b id) → (some : Bool) → IsAnyOf (passes_at (drains_if a) entries) some → IsAnyOf (passes_at (drains_if b) entries) some
drains_alike entries a b same some is =
    any_alike (passes_at (drains_if a) entries) (passes_at (drains_if b) entries)
    (λ n. passes_alike (drains_if a) (drains_if b) (λ link. ap (λ c. c && is_to_drain link) (role_same a b same link.role)) (link_at n entries)) some is

-- ---- links that pass one test or another

either_by : (a b : Link → Bool) (found : Option Link) → passes (λ link. a link || b link) found ≡ (passes a found || passes b found)
either_by a b None = refl
either_by a b (Some link) = refl

or_true : (a b : Bool) → b ≡ true → (a || b) ≡ true
or_true true b e = refl
or_true false b e = e

module _ (a b : Link → Bool) (entries : Entries) where
  pub any_first : IsAnyOf (passes_at a entries) true → IsAnyOf (passes_at (λ link. a link || b link) entries) true
  any_first is = (is.0, either_by a b (link_at is.0 entries) ∙ ap (λ c. c || passes_at b entries is.0) is.1)

  pub any_second : (some : Bool) → IsAnyOf (passes_at a entries) false → IsAnyOf (passes_at b entries) some → IsAnyOf (passes_at (λ link. a link || b link) entries) some
  any_second true none is = (is.0, either_by a b (link_at is.0 entries) ∙ or_true (passes_at a entries is.0) (passes_at b entries is.0) is.1)
  any_second false none is = λ n. either_by a b (link_at n entries) ∙ ap (λ c. c || passes_at b entries n) (none n) ∙ is n

-- ---- what a link of a subscription tells

pub none_one : (test : ℕ → Bool) (found : Option ℕ) → is_some found ≡ false → IsOneOf test found → (n : ℕ) → test n ≡ false
none_one test None e is = is
none_one test (Some one) e is = absurd cc

pub some_one : (test : ℕ → Bool) (found : Option ℕ) → is_some found ≡ true → IsOneOf test found → IsAnyOf test true
some_one test None e is = absurd cc
some_one test (Some one) e is = (one, is)

-- ---- those that are found

distributes : (a b d : Bool) → ((a || b) && d) ≡ ((a && d) || (b && d))
distributes true true true = refl
distributes true true false = refl
distributes true false true = refl
distributes true false false = refl
distributes false b d = refl

neither_else : (d : Bool) → (false && d) ≡ ((false && d) || (false && d))
neither_else d = refl

module _ (ids : List SubId) (i : ℕ) (id : SubId) (lt : i < length ids) (at : id ≡ get_or ids i id) where
  role_or : (role : Role) (d : Bool) → (subscribes_to (λ n. is_among n (take (i + 1) ids)) role && d) ≡ ((subscribes_to (λ n. is_among n (take i ids)) role && d) || (is_subscriber id.0 role && d))
  role_or roles.Opening d = neither_else d
  role_or roles.Feed d = neither_else d
  role_or (roles.Subscriber own) d = ap (λ b. b && d) (among_more ids i id lt at own) ∙ distributes (is_among own.0 (take i ids)) (nat_eq own.0 id.0) d

  or_by : (found : Option Link) → passes (drains_among (take (i + 1) ids)) found ≡ (passes (drains_among (take i ids)) found || passes (λ link. subscribes id.0 link && is_to_drain link) found)
  or_by None = refl
  or_by (Some link) = role_or link.role (is_to_drain link)

  pub found_more : (entries : Entries) (n : ℕ) → passes_at (drains_among (take (i + 1) ids)) entries n ≡ (passes_at (drains_among (take i ids)) entries n || passes_at (λ link. subscribes id.0 link && is_to_drain link) entries n)
  found_more entries n = or_by (link_at n entries)

subscribed_by : (id : ℕ) (found : Option Link) → passes (λ link. subscribes id link && is_to_drain link) found ≡ true → passes (subscribes id) found ≡ true
subscribed_by id None e = e
subscribed_by id (Some link) e = first_part (subscribes id link) (is_to_drain link) e

-- a subscription is that of one link
pub one_link : (kept : OpenLinks) (id n m : ℕ) → IsSettled kept → passes_at (λ link. subscribes id link && is_to_drain link) (entries_of kept) n ≡ true → passes_at (λ link. subscribes id link && is_to_drain link) (entries_of kept) m ≡ true → n ≡ m
one_link kept id n m settled first second =
    let one = settled.found.there id n (subscribed_by id (link_at n (entries_of kept)) first) in
    let two = settled.found.there id m (subscribed_by id (link_at m (entries_of kept)) second) in
    cc

found_by : (is was so_far one now : Bool) → now ≡ cond is true was → (is ≡ true → one ≡ true) → (one ≡ true → is ≡ true) → was ≡ so_far → now ≡ (so_far || one)
found_by true was so_far one now updates here there same = updates ∙ sym (or_true so_far one (here refl))
found_by false was true one now updates here there same = updates ∙ same
found_by false was false true now updates here there same = absurd (let not_so : false ≡ true = there refl in cc)
found_by false was false false now updates here there same = updates ∙ same

-- the number of its link is put in
pub found_in : (kept : OpenLinks) (id number : ℕ) (was so_far now : ℕ → Bool) → IsSettled kept → passes_at (λ link. subscribes id link && is_to_drain link) (entries_of kept) number ≡ true → ((n : ℕ) → now n ≡ cond (is_at (nat_cmp number) n) true (was n))
    → ((n : ℕ) → was n ≡ so_far n) → (n : ℕ) → now n ≡ (so_far n || passes_at (λ link. subscribes id link && is_to_drain link) (entries_of kept) n)
found_in kept id number was so_far now settled is updates same n =
    let one : ℕ → Bool = λ n. passes_at (λ link. subscribes id link && is_to_drain link) (entries_of kept) n in
    found_by (is_at (nat_cmp number) n) (was n) (so_far n) (one n) (now n) (updates n) (λ here. ap one (sym (same_number number n here)) ∙ is)
    (λ passes. let equal : n ≡ number = one_link kept id n number settled passes is in ap (λ m. is_at (nat_cmp number) m) equal ∙ is_here number) (same n)

or_false : (a b : Bool) → b ≡ false → a ≡ (a || b)
or_false true b e = refl
or_false false b e = sym e

pub found_none : (was so_far one : ℕ → Bool) → ((n : ℕ) → one n ≡ false) → ((n : ℕ) → was n ≡ so_far n) → (n : ℕ) → was n ≡ (so_far n || one n)
found_none was so_far one none same n = same n ∙ or_false (so_far n) (one n) (none n)

-- the same links by the ids that are due
pub found_alike : (entries : Entries) (a b : ℕ → Bool) → ((id : ℕ) → a id ≡ b id) → (n : ℕ) → passes_at (drains_if a) entries n ≡ passes_at (drains_if b) entries n
found_alike entries a b same n = passes_alike (drains_if a) (drains_if b) (λ link. ap (λ c. c && is_to_drain link) (role_same a b same link.role)) (link_at n entries)

or_once : (a b c : Bool) → ((a || b) || c) ≡ (a || (b || c))
or_once true b c = refl
or_once false b c = refl

pub put_found : (kept : OpenLinks) (id : ℕ) (found : Option ℕ) (old new : BTreeSet ℕ) (so_far : ℕ → Bool) → IsSettled kept → IsOneOf (passes_at (λ link. subscribes id link && is_to_drain link) (entries_of kept)) found → IsPutIn found old new
    → ((n : ℕ) → contains nat_cmp old n ≡ so_far n) → (n : ℕ) → contains nat_cmp new n ≡ (so_far n || passes_at (λ link. subscribes id link && is_to_drain link) (entries_of kept) n)
put_found kept id None old new so_far settled none put same n =
    let one : ℕ → Bool = λ n. passes_at (λ link. subscribes id link && is_to_drain link) (entries_of kept) n in
    subst (λ set. contains nat_cmp set n ≡ (so_far n || one n)) (sym put) (found_none (λ n. contains nat_cmp old n) so_far one none same n)
put_found kept id (Some number) old new so_far settled is put same n = found_in kept id number (λ n. contains nat_cmp old n) so_far (λ n. contains nat_cmp new n) settled is put.0 same n

-- one more subscription
pub found_next : (kept : OpenLinks) (ids : List SubId) (i : ℕ) (id : SubId) (found : Option ℕ) (first old new : BTreeSet ℕ) → i < length ids → id ≡ get_or ids i id → IsSettled kept
    → IsOneOf (passes_at (λ link. subscribes id.0 link && is_to_drain link) (entries_of kept)) found → IsPutIn found old new → IsFoundAmong kept (take i ids) first old → IsFoundAmong kept (take (i + 1) ids) first new
found_next kept ids i id found first old new less at settled is put before n =
    let entries = entries_of kept in
    let so_far : ℕ → Bool = λ n. contains nat_cmp first n || passes_at (drains_among (take i ids)) entries n in
    put_found kept id.0 found old new so_far settled is put before n
    ∙ or_once (contains nat_cmp first n) (passes_at (drains_among (take i ids)) entries n) (passes_at (λ link. subscribes id.0 link && is_to_drain link) entries n)
    ∙ ap (λ b. contains nat_cmp first n || b) (sym (found_more ids i id less at entries n))

-- ---- those found in an empty set

on_ok : {A E : Type 0} (P Q : Type 0) (result : Result A E) → (P → Q) → OnOk result P → OnOk result Q
on_ok P Q (Ok a) turn p = turn p
on_ok P Q (Err e) turn p = tt

-- those of the subscriptions that are due are found, where none was noted before
pub found_due : {A E : Type 0} (result : Result A E) (kept : OpenLinks) (ids : List SubId) (due : ℕ → Bool) (first new : BTreeSet ℕ) → first.keys ≡ [] → ((id : ℕ) → is_among id ids ≡ due id) → OnOk result (IsSettled kept → IsFoundAmong kept ids first new)
    → OnOk result (IsSettled kept → (n : ℕ) → contains nat_cmp new n ≡ passes_at (drains_if due) (entries_of kept) n)
found_due result kept ids due first new empty same found =
    on_ok (IsSettled kept → IsFoundAmong kept ids first new) (IsSettled kept → (n : ℕ) → contains nat_cmp new n ≡ passes_at (drains_if due) (entries_of kept) n) result
    (λ among settled n.
    among settled n ∙ ap (λ (keys : List ℕ). list_any (is_at (nat_cmp n)) keys || passes_at (drains_among ids) (entries_of kept) n) empty
    ∙ found_alike (entries_of kept) (λ id. is_among id ids) due same n) found

-- ---- the item at a place, whatever stands for one that isn't there

pub same_item : (ids : List SubId) (i : ℕ) (a b : SubId) → i < length ids → get_or ids i a ≡ get_or ids i b
same_item [] i a b less = absurd (omega (arith, less))
same_item (id ∷ ids) zero a b less = refl
same_item (id ∷ ids) (suc i) a b less = same_item ids i a b (omega (arith, less))

-- one more subscription of which no drain has its turn
pub none_more : (kept : OpenLinks) (ids : List SubId) (i : ℕ) (d : SubId) (found : Option ℕ) → i < length ids → IsSettled kept → is_some found ≡ false → (IsSettled kept → IsOneOf (passes_at (λ link. subscribes (get_or ids i d).0 link && is_to_drain link) (entries_of kept)) found)
    → (IsSettled kept → (n : ℕ) → passes_at (drains_among (take i ids)) (entries_of kept) n ≡ false) → (n : ℕ) → passes_at (drains_among (take (i + 1) ids)) (entries_of kept) n ≡ false
none_more kept ids i d found less settled none one before =
    let id = get_or ids i d in
    no_more ids i id less (same_item ids i d id less) (entries_of kept) (before settled) (none_one (passes_at (λ link. subscribes id.0 link && is_to_drain link) (entries_of kept)) found none (one settled))

any_there : (entries : Entries) (a b : Link → Bool) → ((n : ℕ) → passes_at a entries n ≡ true → passes_at b entries n ≡ true) → IsAnyOf (passes_at a entries) true → IsAnyOf (passes_at b entries) true
any_there entries a b turn is = (is.0, turn is.0 is.1)

-- a drain of this one has its turn
pub some_there : (kept : OpenLinks) (ids : List SubId) (i : ℕ) (d : SubId) (found : Option ℕ) → i < length ids → IsSettled kept → is_some found ≡ true → (IsSettled kept → IsOneOf (passes_at (λ link. subscribes (get_or ids i d).0 link && is_to_drain link) (entries_of kept)) found)
    → IsAnyOf (passes_at (drains_among ids) (entries_of kept)) true
some_there kept ids i d found less settled some one =
    let id = get_or ids i d in
    let test : Link → Bool = λ link. subscribes id.0 link && is_to_drain link in
    any_there (entries_of kept) test (drains_among ids) (λ n this. drains_this ids i id less (same_item ids i d id less) (entries_of kept) n this) (some_one (passes_at test (entries_of kept)) found some (one settled))

-- one more is put in
pub found_on : (kept : OpenLinks) (ids : List SubId) (i : ℕ) (d : SubId) (found : Option ℕ) (first old new : BTreeSet ℕ) → i < length ids → IsSettled kept → (IsSettled kept → IsOneOf (passes_at (λ link. subscribes (get_or ids i d).0 link && is_to_drain link) (entries_of kept)) found)
    → IsPutIn found old new → (IsSettled kept → IsFoundAmong kept (take i ids) first old) → IsFoundAmong kept (take (i + 1) ids) first new
found_on kept ids i d found first old new less settled one put before =
    let id = get_or ids i d in
    found_next kept ids i id found first old new less (same_item ids i d id less) settled (one settled) put (before settled)
