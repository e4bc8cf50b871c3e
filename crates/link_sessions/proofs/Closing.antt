-- What finds open links, after a link was added or closed.
use Rattle.std.proofs.Common.{◌≡◌, ◌≢◌, ℕ, ◌+◌, ◌-◌, Bool, true, false, cond, eqb, Some, None, refl, sym, ap, ◌∙◌, subst, arith, eqb-true, eq-eqb}
use Rattle.std.specs.Prelude.{option_map, unwrap_or}
use Rattle.std.specs.BTreeMap as tree
use Rattle.std.specs.BTreeMap.{insert_entry, is_at}
use Rattle.std.specs.Cmp.{nat_cmp_total}
use Rattle.std.specs.BTreeSet as set
use Rattle.std.specs.BTreeSet.{contains}
use Rattle.std.specs.Ordering.{nat_cmp}
use Rattle.std.proofs.lemmas.Map.Entries.{sum_by-insert_entry, sum_by-remove_entry}
use Rattle.mesh_base.specs.declared.sub_id.SubId.{SubId}
use Rattle.link_sessions.specs.Entries.{entries_of, feeds_in, link_at, one_feed, passes, passes_at, without}
use Rattle.link_sessions.specs.Roles.{is_feed, is_subscriber, is_to_read, is_to_write}
use Rattle.link_sessions.specs.Settled.{AreFound, IsSettled, IsSettledBut, subscribes}
use Rattle.link_sessions.specs.declared.link.Link.{Link}
use Rattle.link_sessions.specs.declared.link.Role.TheVariants as roles
use Rattle.link_sessions.specs.declared.open_links.OpenLinks.{OpenLinks}
use Rattle.link_sessions.proofs.Changes.{is_elsewhere, is_here, same_number}
use Rattle.link_sessions.proofs.Settling.{is_marked}

-- ---- a link that is closed

module _ (number : ℕ) (old new : OpenLinks) (updates : tree.UpdatesBy nat_cmp (nat_cmp number) old.by_number new.by_number None) where
  gone : link_at number (entries_of new) ≡ None
  gone = updates.0 number ∙ ap (λ b. cond b None (link_at number (entries_of old))) (is_here number)

  stays : (n : ℕ) → n ≢ number → link_at n (entries_of new) ≡ link_at n (entries_of old)
  stays n apart = updates.0 n ∙ ap (λ b. cond b None (link_at n (entries_of old))) (is_elsewhere number n apart)

  -- a test that the link did not pass
  passes_stays : (test : Link → Bool) (n : ℕ) → passes_at test (entries_of old) number ≡ false → passes_at test (entries_of new) n ≡ passes_at test (entries_of old) n
  passes_stays test n failed = by_number (is_at (nat_cmp number) n) refl
    where
      by_number : (b : Bool) → is_at (nat_cmp number) n ≡ b → passes_at test (entries_of new) n ≡ passes_at test (entries_of old) n
      by_number true e = let same = same_number number n e in subst (λ m. passes_at test (entries_of new) m ≡ passes_at test (entries_of old) m) same (ap (passes test) gone ∙ sym failed)
      by_number false e = ap (passes test) (updates.0 n ∙ ap (λ b. cond b None (link_at n (entries_of old))) e)

  module _ (reads : set.UpdatesBy nat_cmp (nat_cmp number) old.to_read new.to_read false) (writes : set.UpdatesBy nat_cmp (nat_cmp number) old.to_write new.to_write false) where
    pub closed_settled : AreFound new → IsSettledBut number old → IsSettled new
    closed_settled found settled = record {
      reads = is_marked number is_to_read (entries_of new) old.to_read new.to_read false (sym (ap (passes is_to_read) gone)) reads (λ n apart. settled.reads n apart ∙ sym (ap (passes is_to_read) (stays n apart)));
      writes = is_marked number is_to_write (entries_of new) old.to_write new.to_write false (sym (ap (passes is_to_write) gone)) writes (λ n apart. settled.writes n apart ∙ sym (ap (passes is_to_write) (stays n apart)));
      found = found;
    }

  module _ (is : entries_of new ≡ without number (entries_of old)) where
    feeds_left : feeds_in (entries_of new) + unwrap_or (option_map one_feed (link_at number (entries_of old))) 0 ≡ feeds_in (entries_of old)
    feeds_left = ap (λ es. feeds_in es + unwrap_or (option_map one_feed (link_at number (entries_of old))) 0) is ∙ sum_by-remove_entry one_feed (is_at (nat_cmp number)) (entries_of old)

    no_fewer : (a b c : ℕ) → a + c ≡ b → c ≡ 0 → b ≡ a
    no_fewer a b c e none = omega arith

    all_left : (n : ℕ) → n ≡ n - 0
    all_left n = omega arith

    -- a link that is no subscriber
    found_rest : (feeds : ℕ) → unwrap_or (option_map one_feed (link_at number (entries_of old))) 0 ≡ feeds → ((id : ℕ) → passes_at (subscribes id) (entries_of old) number ≡ false)
        → new.by_sub ≡ old.by_sub → new.feeds ≡ old.feeds - feeds → AreFound old → AreFound new
    found_rest feeds counts none same counted found = record {
      found = λ id n at. passes_stays (subscribes id) n (none id) ∙ found.found id n (sym (ap (λ by. tree.get nat_cmp by id) same) ∙ at);
      there = λ id n at. ap (λ by. tree.get nat_cmp by id) same ∙ found.there id n (sym (passes_stays (subscribes id) n (none id)) ∙ at);
      feeds_are = counted ∙ ap (λ k. k - feeds) found.feeds_are ∙ fewer (feeds_in (entries_of new)) (feeds_in (entries_of old)) (unwrap_or (option_map one_feed (link_at number (entries_of old))) 0) feeds_left counts;
    }
      where
        fewer : (a b c : ℕ) → a + c ≡ b → c ≡ feeds → b - feeds ≡ a
        fewer a b c e same = omega arith

    pub found_opening : (link : Link) → link_at number (entries_of old) ≡ Some link → link.role ≡ roles.Opening → new.by_sub ≡ old.by_sub → new.feeds ≡ old.feeds → AreFound old → AreFound new
    found_opening link at role same counted =
        found_rest 0 (ap (λ found. unwrap_or (option_map one_feed found) 0) at ∙ ap (λ r. cond (is_feed r) 1 0) role) (λ id. ap (passes (subscribes id)) at ∙ ap (is_subscriber id) role) same (counted ∙ all_left old.feeds)

    pub found_feed : (link : Link) → link_at number (entries_of old) ≡ Some link → link.role ≡ roles.Feed → new.by_sub ≡ old.by_sub → new.feeds ≡ old.feeds - 1 → AreFound old → AreFound new
    found_feed link at role same counted =
        found_rest 1 (ap (λ found. unwrap_or (option_map one_feed found) 0) at ∙ ap (λ r. cond (is_feed r) 1 0) role) (λ id. ap (passes (subscribes id)) at ∙ ap (is_subscriber id) role) same counted

    -- a subscriber
    module _ (id : SubId) (link : Link) (at : link_at number (entries_of old) ≡ Some link) (role : link.role ≡ roles.Subscriber id)
        (ids : tree.UpdatesBy nat_cmp (nat_cmp id.0) old.by_sub new.by_sub None) where
      own : (other : ℕ) → passes_at (subscribes other) (entries_of old) number ≡ eqb id.0 other
      own other = ap (passes (subscribes other)) at ∙ ap (is_subscriber other) role

      found_by : AreFound old → (other n : ℕ) (b : Bool) → is_at (nat_cmp id.0) other ≡ b → tree.get nat_cmp new.by_sub other ≡ cond b None (tree.get nat_cmp old.by_sub other) → tree.get nat_cmp new.by_sub other ≡ Some n
          → passes_at (subscribes other) (entries_of new) n ≡ true
      found_by found other n true e up there = absurd (let not : None ≡ Some n = sym up ∙ there in cc)
      found_by found other n false e up there =
          let was : passes_at (subscribes other) (entries_of old) n ≡ true = found.found other n (sym up ∙ there) in
          let apart : n ≢ number = λ same. absurd (
          let mine : eqb id.0 other ≡ true = sym (own other) ∙ sym (ap (passes_at (subscribes other) (entries_of old)) same) ∙ was in
          let one : id.0 ≡ other = eqb-true id.0 other mine in
          let not : true ≡ false = sym (subst (λ m. is_at (nat_cmp id.0) m ≡ true) one (is_here id.0)) ∙ e in cc) in
          ap (passes (subscribes other)) (stays n apart) ∙ was

      there_by : AreFound old → (other n : ℕ) (b : Bool) → is_at (nat_cmp number) n ≡ b → passes_at (subscribes other) (entries_of new) n ≡ true → tree.get nat_cmp new.by_sub other ≡ Some n
      there_by found other n true e passed =
          let same : number ≡ n = same_number number n e in
          absurd (let not : false ≡ true = sym (subst (λ m. passes_at (subscribes other) (entries_of new) m ≡ false) same (ap (passes (subscribes other)) gone)) ∙ passed in cc)
      there_by found other n false e passed =
          let apart : n ≢ number = λ same. absurd (let not : true ≡ false = sym (subst (λ m. is_at (nat_cmp number) m ≡ true) (sym same) (is_here number)) ∙ e in cc) in
          let was : passes_at (subscribes other) (entries_of old) n ≡ true = sym (ap (passes (subscribes other)) (stays n apart)) ∙ passed in
          let there : tree.get nat_cmp old.by_sub other ≡ Some n = found.there other n was in
          let mine : tree.get nat_cmp old.by_sub id.0 ≡ Some number = found.there id.0 number (own id.0 ∙ eq-eqb id.0 id.0 refl) in
          let fresh : other ≢ id.0 = λ same. absurd (
          let both : Some number ≡ Some n = sym mine ∙ ap (tree.get nat_cmp old.by_sub) (sym same) ∙ there in
          let one : number ≡ n = cc in apart (sym one)) in
          ids.0 other ∙ ap (λ b. cond b None (tree.get nat_cmp old.by_sub other)) (is_elsewhere id.0 other fresh) ∙ there

      pub found_without : new.feeds ≡ old.feeds → AreFound old → AreFound new
      found_without counted found = record {
        found = λ other n there. found_by found other n (is_at (nat_cmp id.0) other) refl (ids.0 other) there;
        there = λ other n passed. there_by found other n (is_at (nat_cmp number) n) refl passed;
        feeds_are = counted ∙ found.feeds_are ∙ no_fewer (feeds_in (entries_of new)) (feeds_in (entries_of old)) (unwrap_or (option_map one_feed (link_at number (entries_of old))) 0) feeds_left
            (ap (λ found. unwrap_or (option_map one_feed found) 0) at ∙ ap (λ r. cond (is_feed r) 1 0) role);
      }

-- ---- a link that is added

module _ (number : ℕ) (link : Link) (old new : OpenLinks) (updates : tree.Updates nat_cmp old.by_number new.by_number number (Some link)) (role : link.role ≡ roles.Opening)
    (absent : link_at number (entries_of old) ≡ None) where
  others : (n : ℕ) → n ≢ number → link_at n (entries_of new) ≡ link_at n (entries_of old)
  others n apart = updates.0 n ∙ ap (λ b. cond b (Some link) (link_at n (entries_of old))) (is_elsewhere number n apart)

  passes_too : (test : Link → Bool) (n : ℕ) → test link ≡ false → passes_at test (entries_of new) n ≡ passes_at test (entries_of old) n
  passes_too test n failed = by_number (is_at (nat_cmp number) n) refl
    where
      by_number : (b : Bool) → is_at (nat_cmp number) n ≡ b → passes_at test (entries_of new) n ≡ passes_at test (entries_of old) n
      by_number true e =
          let same = same_number number n e in
          subst (λ m. passes_at test (entries_of new) m ≡ passes_at test (entries_of old) m) same
          (ap (passes test) (updates.0 number ∙ ap (λ b. cond b (Some link) (link_at number (entries_of old))) (is_here number)) ∙ failed ∙ sym (ap (passes test) absent))
      by_number false e = ap (passes test) (updates.0 n ∙ ap (λ b. cond b (Some link) (link_at n (entries_of old))) e)

  as_many : (a b x y : ℕ) → a + x ≡ b + y → x ≡ 0 → y ≡ 0 → a ≡ b
  as_many a b x y e none no_more = omega arith

  pub added_settled : tree.IsOrdered nat_cmp old.by_number → entries_of new ≡ insert_entry nat_cmp (entries_of old) number link → new.to_read ≡ old.to_read → new.to_write ≡ old.to_write → new.by_sub ≡ old.by_sub → new.feeds ≡ old.feeds
      → IsSettled old → IsSettledBut number new
  added_settled ordered is same_reads same_writes same counted settled = record {
    reads = λ n apart. ap (λ s. contains nat_cmp s n) same_reads ∙ settled.reads n ∙ sym (ap (passes is_to_read) (others n apart));
    writes = λ n apart. ap (λ s. contains nat_cmp s n) same_writes ∙ settled.writes n ∙ sym (ap (passes is_to_write) (others n apart));
    found = record {
      found = λ id n at. passes_too (subscribes id) n (ap (is_subscriber id) role) ∙ settled.found.found id n (sym (ap (λ by. tree.get nat_cmp by id) same) ∙ at);
      there = λ id n at. ap (λ by. tree.get nat_cmp by id) same ∙ settled.found.there id n (sym (passes_too (subscribes id) n (ap (is_subscriber id) role)) ∙ at);
      feeds_are = counted ∙ settled.found.feeds_are ∙ sym (ap feeds_in is ∙ as_many (feeds_in (insert_entry nat_cmp (entries_of old) number link)) (feeds_in (entries_of old)) (unwrap_or (option_map one_feed (link_at number (entries_of old))) 0) (one_feed link)
          (sum_by-insert_entry one_feed nat_cmp_total (entries_of old) number link ordered) (ap (λ found. unwrap_or (option_map one_feed found) 0) absent) (ap (λ r. cond (is_feed r) 1 0) role));
    };
  }
