-- What finds open links, after a change of one of them.
use Rattle.std.proofs.Common.{◌≡◌, ◌≢◌, ℕ, ◌+◌, Bool, true, false, cond, eqb, List, Option, Some, None, refl, sym, ap, ◌∙◌, subst, eqb-true, eq-eqb}
use Rattle.std.specs.Prelude.{Result, option_map}
use Rattle.std.specs.BTreeMap.{get, is_at}
use Rattle.std.specs.BTreeMap as tree
use Rattle.std.specs.BTreeSet.{BTreeSet, Updates, contains}
use Rattle.std.specs.Ordering.{nat_cmp}
use Rattle.mesh_base.specs.declared.sub_id.SubId.{SubId}
use Rattle.session_core.specs.declared.session.Ask.{Ask}
use Rattle.session_core.specs.declared.session.SessionFault.{SessionFault}
use Rattle.link_sessions.specs.Entries.{Entries, Feeds, FeedsBy, changed, changed_by, entries_of, feeds_in, filled, link_at, passes, passes_at, with_outbox}
use Rattle.link_sessions.specs.Roles.{is_feed, is_opening, is_subscriber, is_to_read, is_to_write, is_written}
use Rattle.link_sessions.specs.Settled.{AreFound, IsSettled, IsSettledBut, IsUnknown, subscribes}
use Rattle.link_sessions.specs.declared.link.Link.{Link}
use Rattle.link_sessions.specs.declared.link.Role.{Role}
use Rattle.link_sessions.specs.declared.link.Role.TheVariants as roles
use Rattle.link_sessions.specs.declared.open_links.OpenLinks.{OpenLinks}
use Rattle.link_sessions.proofs.Changes.{feeds_by_count, feeds_more, feeds_same, here_at, is_elsewhere, is_here, passes_other, passes_same, same_number}

pub but_one : (number : ℕ) (kept : OpenLinks) → IsSettled kept → IsSettledBut number kept
but_one number kept settled = record { reads = λ n apart. settled.reads n; writes = λ n apart. settled.writes n; found = settled.found }

-- the sets of links that may be read and written are the same
pub record SameSets (old new : OpenLinks) : Type 0 where
  pub to_read : new.to_read ≡ old.to_read
  pub to_write : new.to_write ≡ old.to_write

-- and so is what is found by ids, and the count of feeds
pub record SameFound (old new : OpenLinks) : Type 0 where
  pub by_sub : new.by_sub ≡ old.by_sub
  pub feeds : new.feeds ≡ old.feeds

module _ (number : ℕ) (f : Link → Link) (old new : OpenLinks) (is : entries_of new ≡ changed number f (entries_of old)) where
  -- a change of a link leaves the others settled
  pub others_settled : SameSets old new → AreFound new → IsSettledBut number old → IsSettledBut number new
  others_settled same found settled = record {
    reads = λ n apart. ap (λ set. contains nat_cmp set n) same.to_read ∙ settled.reads n apart ∙ sym (ap (λ es. passes_at is_to_read es n) is ∙ passes_other number (entries_of old) f is_to_read n apart);
    writes = λ n apart. ap (λ set. contains nat_cmp set n) same.to_write ∙ settled.writes n apart ∙ sym (ap (λ es. passes_at is_to_write es n) is ∙ passes_other number (entries_of old) f is_to_write n apart);
    found = found;
  }

  subscribes_same : (id n : ℕ) → ((v : Link) → link_at number (entries_of old) ≡ Some v → is_subscriber id (f v).role ≡ is_subscriber id v.role) → passes_at (subscribes id) (entries_of new) n ≡ passes_at (subscribes id) (entries_of old) n
  subscribes_same id n keeps = ap (λ es. passes_at (subscribes id) es n) is ∙ passes_same number (entries_of old) f (subscribes id) n keeps

  module _ (keeps : (v : Link) → link_at number (entries_of old) ≡ Some v → (f v).role ≡ v.role) where
    found_same : SameFound old new → AreFound old → AreFound new
    found_same same found = record {
      found = λ id n at. subscribes_same id n (λ v here. ap (is_subscriber id) (keeps v here)) ∙ found.found id n (sym (ap (λ by. tree.get nat_cmp by id) same.by_sub) ∙ at);
      there = λ id n at. ap (λ by. tree.get nat_cmp by id) same.by_sub ∙ found.there id n (sym (subscribes_same id n (λ v here. ap (is_subscriber id) (keeps v here))) ∙ at);
      feeds_are = same.feeds ∙ found.feeds_are ∙ sym (ap feeds_in is ∙ feeds_same number (entries_of old) f keeps);
    }

    -- a change of a link that stays what it is
    pub changed_settled : SameSets old new → SameFound old new → IsSettledBut number old → IsSettledBut number new
    changed_settled sets same settled = others_settled sets (found_same same settled.found) settled

-- what stands at a number is one thing
one_link : (found : Option Link) (v w : Link) → found ≡ Some v → found ≡ Some w → v ≡ w
one_link found v w e g = let same : Some v ≡ Some w = sym e ∙ g in cc

-- items that are put into an outbox, or not, leave the link what it is
pub filled_role : (items : List (List ℕ)) (link : Link) → (filled items link).role ≡ link.role
filled_role items link = by_written (is_written link.session.outbox)
  where
    by_written : (b : Bool) → (cond b (with_outbox items link) link).role ≡ link.role
    by_written true = refl
    by_written false = refl

module _ (number : ℕ) (piece : List ℕ) (old new : OpenLinks) (result : Result (List Ask) SessionFault) where
  fed_by : (found : Option Link) → link_at number (entries_of old) ≡ found → FeedsBy number piece (entries_of old) result (entries_of new) found → SameSets old new → SameFound old new → IsSettledBut number old → IsSettledBut number new
  fed_by None at feeds sets same = changed_settled number (λ link. link) old new (feeds.1 ∙ sym (ap (changed_by number (λ link. link) (entries_of old)) at)) (λ v here. refl) sets same
  fed_by (Some link) at feeds sets same =
      let fed : Link → Link = λ v. record link { session = feeds.0 } in
      changed_settled number fed old new (feeds.1 ∙ sym (ap (changed_by number fed (entries_of old)) at)) (λ v here. ap (λ one. one.role) (one_link (link_at number (entries_of old)) link v at here)) sets same

  pub fed_settled : Feeds number piece (entries_of old) result (entries_of new) → SameSets old new → SameFound old new → IsSettledBut number old → IsSettledBut number new
  fed_settled feeds = fed_by (link_at number (entries_of old)) refl feeds

-- ---- a link that becomes a feed or a subscriber

pub record IsOpening (found : Option Link) : Type 0 where
  pub link : Link
  pub is : found ≡ Some link
  pub role : link.role ≡ roles.Opening

opening_role : (role : Role) → is_opening role ≡ true → role ≡ roles.Opening
opening_role roles.Opening e = refl
opening_role roles.Feed e = absurd cc
opening_role (roles.Subscriber id) e = absurd cc

pub opening_at : (found : Option Link) → passes (λ link. is_opening link.role) found ≡ true → IsOpening found
opening_at None e = absurd cc
opening_at (Some link) e = record { link = link; is = refl; role = opening_role link.role e }

module _ (number : ℕ) (old new : OpenLinks) (opening : IsOpening (link_at number (entries_of old))) where
  abbrev with_role : Role → Link → Link
  with_role role link = record link { role = role }

  role_here : (v : Link) → link_at number (entries_of old) ≡ Some v → v.role ≡ roles.Opening
  role_here v at = ap (λ link. link.role) (one_link (link_at number (entries_of old)) v opening.link at opening.is) ∙ opening.role

  pub feed_settled : entries_of new ≡ changed number (with_role roles.Feed) (entries_of old) → SameSets old new → new.by_sub ≡ old.by_sub → new.feeds ≡ old.feeds + 1 → IsSettledBut number old → IsSettledBut number new
  feed_settled is sets same counted settled =
      let keeps = λ (id : ℕ) (v : Link) (at : link_at number (entries_of old) ≡ Some v). sym (ap (is_subscriber id) (role_here v at)) in
      others_settled number (with_role roles.Feed) old new is sets (record {
        found = λ id n at. subscribes_same number (with_role roles.Feed) old new is id n (keeps id) ∙ settled.found.found id n (sym (ap (λ by. tree.get nat_cmp by id) same) ∙ at);
        there = λ id n at. ap (λ by. tree.get nat_cmp by id) same ∙ settled.found.there id n (sym (subscribes_same number (with_role roles.Feed) old new is id n (keeps id)) ∙ at);
        feeds_are = counted ∙ ap (λ k. k + 1) settled.found.feeds_are
            ∙ sym (ap feeds_in is ∙ feeds_more number (entries_of old) (with_role roles.Feed) opening.link opening.is (ap (λ role. cond (is_feed role) 1 0) opening.role) refl);
      }) settled

  module _ (id : SubId) (is : entries_of new ≡ changed number (with_role (roles.Subscriber id)) (entries_of old)) (updates : tree.Updates nat_cmp old.by_sub new.by_sub id.0 (Some number)) where
    abbrev f : Link → Link
    f = with_role (roles.Subscriber id)

    subscribes_here : (other : ℕ) → passes_at (subscribes other) (entries_of new) number ≡ eqb id.0 other
    subscribes_here other = ap (λ es. passes_at (subscribes other) es number) is ∙ ap (passes (subscribes other)) (here_at number (entries_of old) f ∙ ap (option_map f) opening.is)

    subscribed_not : (other : ℕ) → passes_at (subscribes other) (entries_of old) number ≡ false
    subscribed_not other = ap (passes (subscribes other)) opening.is ∙ ap (is_subscriber other) opening.role

    subscribes_other : (other n : ℕ) → n ≢ number → passes_at (subscribes other) (entries_of new) n ≡ passes_at (subscribes other) (entries_of old) n
    subscribes_other other n apart = ap (λ es. passes_at (subscribes other) es n) is ∙ passes_other number (entries_of old) f (subscribes other) n apart

    abbrev by_old : ℕ → Option ℕ
    by_old other = tree.get nat_cmp old.by_sub other

    abbrev by_new : ℕ → Option ℕ
    by_new other = tree.get nat_cmp new.by_sub other

    found_by : AreFound old → (other n : ℕ) (b : Bool) → is_at (nat_cmp id.0) other ≡ b → by_new other ≡ cond b (Some number) (by_old other) → by_new other ≡ Some n → passes_at (subscribes other) (entries_of new) n ≡ true
    found_by found other n true e up at =
        let here : Some number ≡ Some n = sym up ∙ at in
        let same : number ≡ n = cc in
        subst (λ m. passes_at (subscribes other) (entries_of new) m ≡ true) same (subscribes_here other ∙ eq-eqb id.0 other (same_number id.0 other e))
    found_by found other n false e up at =
        let was : passes_at (subscribes other) (entries_of old) n ≡ true = found.found other n (sym up ∙ at) in
        subscribes_other other n (λ same. absurd (let not : true ≡ false = sym was ∙ ap (passes_at (subscribes other) (entries_of old)) same ∙ subscribed_not other in cc)) ∙ was

    there_by : AreFound old → IsUnknown id.0 (entries_of old) → (other n : ℕ) (b : Bool) → is_at (nat_cmp number) n ≡ b → passes_at (subscribes other) (entries_of new) n ≡ true → by_new other ≡ Some n
    there_by found unknown other n true e at =
        let same : number ≡ n = same_number number n e in
        let here : eqb id.0 other ≡ true = sym (subscribes_here other) ∙ ap (passes_at (subscribes other) (entries_of new)) same ∙ at in
        let one : id.0 ≡ other = eqb-true id.0 other here in
        updates.0 other ∙ ap (λ b. cond b (Some number) (by_old other)) (subst (λ m. is_at (nat_cmp id.0) m ≡ true) one (is_here id.0)) ∙ ap Some same
    there_by found unknown other n false e at =
        let apart : n ≢ number = λ same. absurd (let not : true ≡ false = sym (subst (λ m. is_at (nat_cmp number) m ≡ true) (sym same) (is_here number)) ∙ e in cc) in
        let was : passes_at (subscribes other) (entries_of old) n ≡ true = sym (subscribes_other other n apart) ∙ at in
        let fresh : other ≢ id.0 = λ same. absurd (let not : true ≡ false = sym was ∙ ap (λ m. passes_at (subscribes m) (entries_of old) n) same ∙ unknown n in cc) in
        updates.0 other ∙ ap (λ b. cond b (Some number) (by_old other)) (is_elsewhere id.0 other fresh) ∙ found.there other n was

    pub subscriber_settled : SameSets old new → new.feeds ≡ old.feeds → IsUnknown id.0 (entries_of old) → IsSettledBut number old → IsSettledBut number new
    subscriber_settled sets counted unknown settled = others_settled number f old new is sets (record {
      found = λ other n at. found_by settled.found other n (is_at (nat_cmp id.0) other) refl (updates.0 other) at;
      there = λ other n at. there_by settled.found unknown other n (is_at (nat_cmp number) n) refl at;
      feeds_are = counted ∙ settled.found.feeds_are ∙ sym (ap feeds_in is ∙ feeds_kept);
    }) settled
      where
        feeds_kept : feeds_in (changed number f (entries_of old)) ≡ feeds_in (entries_of old)
        feeds_kept = feeds_by_count number (entries_of old) f (link_at number (entries_of old)) refl (λ v at. sym (ap (λ role. cond (is_feed role) 1 0) (role_here v at)))

-- ---- settling

module _ (number : ℕ) (test : Link → Bool) (es : Entries) (set set_now : BTreeSet ℕ) (expected : Bool) (is : expected ≡ passes_at test es number) (updates : Updates nat_cmp set set_now number expected)
    (others : (n : ℕ) → n ≢ number → contains nat_cmp set n ≡ passes_at test es n) where
  marked_by : (n : ℕ) (b : Bool) → is_at (nat_cmp number) n ≡ b → contains nat_cmp set_now n ≡ cond b expected (contains nat_cmp set n) → contains nat_cmp set_now n ≡ passes_at test es n
  marked_by n true e up = up ∙ is ∙ ap (passes_at test es) (same_number number n e)
  marked_by n false e up = up ∙ others n (λ same. absurd (let not : true ≡ false = sym (subst (λ m. is_at (nat_cmp number) m ≡ true) (sym same) (is_here number)) ∙ e in cc))

  pub is_marked : (n : ℕ) → contains nat_cmp set_now n ≡ passes_at test es n
  is_marked n = marked_by n (is_at (nat_cmp number) n) refl (updates.0 n)
