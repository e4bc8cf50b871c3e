-- A link whose bytes were taken, and what it becomes by them.
use Rattle.std.proofs.Common.{◌≡◌, ℕ, ◌+◌, ◌≤◌, ◌<◌, Bool, true, false, List, [], ◌∷◌, ◌++◌, Option, Some, None, refl, sym, ap, ◌∙◌, subst, append-nil, arith}
use Rattle.std.specs.Prelude.{Result, is_ok, is_some}
use Rattle.std.specs.BTreeMap.{is_at}
use Rattle.std.specs.Ordering.{nat_cmp}
use Rattle.std.proofs.lemmas.Map.Steps.{set_value_same}
use Rattle.mesh_base.specs.declared.limits.Limits.{Limits}
use Rattle.mesh_links.specs.Calls.{last_in}
use Rattle.mesh_links.specs.declared.call.LinkCall.{LinkCall}
use Rattle.view_types.specs.declared.config.Config.{Config}
use Rattle.view_types.specs.declared.query.Query.{Query}
use Rattle.session_core.specs.Phases.{Phase}
use Rattle.session_core.specs.Pieces.{Given, answer_to, given_next}
use Rattle.session_core.specs.Sessions.{SessionState, Stands}
use Rattle.session_core.specs.States.{Answers}
use Rattle.session_core.specs.declared.session.Ask.{Ask}
use Rattle.session_core.specs.declared.session.SessionFault.{SessionFault}
use Rattle.route_match.specs.Matching.{Pat}
use Rattle.mesh_base.specs.declared.sub_id.SubId.{SubId}
use Rattle.link_sessions.specs.Entries.{FeedsBy, changed, changed_by, entries_of, link_at, passes, passes_at, with_link}
use Rattle.link_sessions.specs.Roles.{is_opening}
use Rattle.link_sessions.specs.Settled.{IsSettledBut, IsUnknown}
use Rattle.link_sessions.specs.declared.open_links.OpenLinks.{OpenLinks}
use Rattle.fed_hub.specs.HubSteps.{IsSubscribed, id_at}
use Rattle.link_sessions.specs.declared.link.Link.{Link}
use Rattle.link_sessions.specs.declared.link.Role.TheVariants as roles
use Rattle.link_sessions.proofs.Settling.{but_one}
use Rattle.serve_rules.specs.Batches.{Serving}
use Rattle.serve_rules.specs.FedLines.{FedRow}
use Rattle.serve_rules.specs.LinkStates.{LinkState, is_empty, is_feed, phase_in, query_of}
use Rattle.serve_core.specs.Hearing.{IsGiven, IsRefused, IsSubscriber}
use Rattle.serve_core.specs.Linked.{IsKept, role_by, role_of}
use Rattle.serve_core.specs.Served.{IsAt, IsAtBut, IsNearly, IsServed, serving_of}
use Rattle.serve_core.specs.declared.turning.Turning.{Turning}
use Rattle.serve_core.proofs.Closes.{same_here}
use Rattle.serve_core.proofs.HeardLinks.{nearly_replaced}
use Rattle.serve_core.proofs.HeardSubs.{id_by, id_here, id_other, nearly_refused, nearly_subscribed}
use Rattle.serve_core.proofs.HubLinks.{served_each}
use Rattle.serve_core.proofs.KeptIds.{all_as, role_at, role_none, unknown_but}
use Rattle.serve_core.proofs.KeptLinks.{Kept, replaced_at}
use Rattle.serve_core.proofs.OpenOnes.{AllOpen, all_replaced, any_open, map_open}
use Rattle.serve_core.proofs.LinesHeard.{IsHearing, with_twice}
use Rattle.serve_core.proofs.Noted.{nearly_kept}
use Rattle.serve_core.proofs.Staying.{found_here, found_number}

given_is : (bytes piece : List ℕ) → given_next (record { bytes = bytes; ended = false }) piece ≡ record { bytes = bytes ++ piece; ended = is_empty piece }
given_is bytes [] = ap (λ all. let given : Given = record { bytes = all; ended = true } in given) (sym (append-nil bytes))
given_is bytes (byte ∷ piece) = refl

module _ (config : Config) (limits : Limits) (pat : Pat) (fed : List FedRow) (number : ℕ) (done : List LinkState) (s : LinkState) (links : List LinkState) (trace : List LinkCall) (same : s.number ≡ number) (is_open : s.is_open ≡ true) (going : s.ended ≡ false) (piece : List ℕ) where
  abbrev serving : Serving
  serving = serving_of config limits pat

  -- the link with the piece
  abbrev pub t : LinkState
  t = record s { bytes = s.bytes ++ piece; ended = is_empty piece }

  abbrev phase_was : Result Phase SessionFault
  phase_was = phase_in serving s.bytes

  abbrev phase_now : Result Phase SessionFault
  phase_now = phase_in serving (s.bytes ++ piece)

  -- its bytes were taken, and it is still what it was
  pub record IsTakenIn (now : Turning) : Type 0 where
    pub id_of : ℕ → ℕ
    pub is : IsNearly config limits pat fed (done ++ s ∷ links) trace id_of now
    pub was : Link
    pub link : Link
    pub at : link_at number (entries_of now.kept) ≡ Some link
    pub kept : IsKept serving id_of s was
    pub links_are : Kept serving id_of (done ++ s ∷ links) (with_link number (entries_of now.kept) was)
    pub role : link.role ≡ was.role
    pub readable : link.readable ≡ was.readable
    pub writable : link.writable ≡ was.writable
    pub going_on : link.ended ≡ false
    pub outbox : link.session.outbox ≡ was.session.outbox
    pub session : Stands config limits (record { bytes = s.bytes ++ piece; ended = is_empty piece }) link.session
    pub settled : IsSettledBut number now.kept

  -- ---- the bytes are taken

  stands_was : (link : Link) (id_of : ℕ → ℕ) → IsKept serving id_of s link → Stands config limits (record { bytes = s.bytes; ended = false }) link.session
  stands_was link id_of is = subst (λ b. Stands config limits (record { bytes = s.bytes; ended = b }) link.session) going is.session

  module _ (old mid : Turning) (answer : Result (List Ask) SessionFault) (given : IsGiven number piece answer old mid) (at : IsAt config limits pat fed (done ++ s ∷ links) trace old) where
    feeds_by : FeedsBy number piece (entries_of old.kept) answer (entries_of mid.kept) (Some (found_here config limits pat fed number done s links trace old same is_open at).link)
    feeds_by = subst (λ found. FeedsBy number piece (entries_of old.kept) answer (entries_of mid.kept) found) (found_number config limits pat fed number done s links trace old same is_open at) given.feeds

    pub answered : Answers answer (answer_to config limits (record { bytes = s.bytes; ended = false }) piece)
    answered = let found = found_here config limits pat fed number done s links trace old same is_open at in feeds_by.2.answers config limits (record { bytes = s.bytes; ended = false }) (stands_was found.link at.id_of found.is)

    pub taken_in : IsTakenIn mid
    taken_in =
        let found = found_here config limits pat fed number done s links trace old same is_open at in
        let here = found_number config limits pat fed number done s links trace old same is_open at in
        let es = entries_of old.kept in
        let link : Link = record found.link { session = feeds_by.0 } in
        let made : entries_of mid.kept ≡ with_link number es link = feeds_by.1 in
        let back : with_link number (entries_of mid.kept) found.link ≡ es = ap (λ all. with_link number all found.link) made ∙ with_twice number link found.link es ∙ set_value_same (is_at (nat_cmp number)) es found.link here in
        record {
          id_of = at.id_of;
          is = nearly_kept config limits pat fed (done ++ s ∷ links) trace at.id_of old mid given.same at.is;
          was = found.link;
          link = link;
          at = ap (link_at number) made ∙ same_here number es link found.link here;
          kept = found.is;
          links_are = subst (λ all. Kept serving at.id_of (done ++ s ∷ links) all) (sym back) at.keeps.links_are;
          role = refl;
          readable = refl;
          writable = refl;
          going_on = found.is.ended ∙ going;
          outbox = feeds_by.2.outbox;
          session = subst (λ given. Stands config limits given feeds_by.0) (given_is s.bytes piece) (feeds_by.2.stands config limits (record { bytes = s.bytes; ended = false }) (stands_was found.link at.id_of found.is));
          settled = given.settled (but_one number old.kept at.keeps.settled);
        }

  -- a link that is still what it was can be closed
  pub taken_but : (now : Turning) → IsTakenIn now → IsAtBut config limits pat fed number (done ++ s ∷ links) trace now
  taken_but now taken = record {
    id_of = taken.id_of;
    is = taken.is;
    keeps = record { before = taken.was; now = taken.link; is = taken.at; same = taken.role; links_are = taken.links_are; settled = taken.settled };
  }

  -- ---- it stays what it was

  module _ (fine : is_ok phase_now ≡ true) (query : query_of serving (s.bytes ++ piece) ≡ query_of serving s.bytes) where
    -- the entries with the link as it will be
    module _ (mid now : Turning) (taken : IsTakenIn mid) (link : Link) (made : entries_of now.kept ≡ with_link number (entries_of mid.kept) link) (settled : IsSettledBut number now.kept) (unchanged : now ≡ record mid { kept = now.kept })
        (readable : link.readable ≡ taken.link.readable) (writable : link.writable ≡ taken.link.writable) (going_on : link.ended ≡ false) (session : link.session ≡ taken.link.session) (role : link.role ≡ role_of serving taken.id_of t)
        (quiet : is_feed serving t.bytes ≡ false → query_of serving t.bytes ≡ None → s.outbox ≡ []) where
      kept_now : IsKept serving taken.id_of t (record link { ended = is_empty piece })
      kept_now = record {
        fine = fine;
        readable = readable ∙ taken.readable ∙ taken.kept.readable;
        writable = writable ∙ taken.writable ∙ taken.kept.writable;
        ended = refl;
        role = role;
        session = subst (λ (one : SessionState). Stands config limits (record { bytes = s.bytes ++ piece; ended = is_empty piece }) one) (sym session) taken.session;
        outbox = ap (λ (one : SessionState). one.outbox) session ∙ taken.outbox ∙ taken.kept.outbox;
        quiet = quiet;
      }

      pub heard_as : IsHearing config limits pat fed number false (is_empty piece) (done ++ t ∷ links) trace now
      heard_as =
          let es = entries_of mid.kept in
          let last : Link = record link { ended = is_empty piece } in
          let whole : with_link number (entries_of now.kept) last ≡ with_link number (with_link number es taken.was) last = ap (λ all. with_link number all last) made ∙ with_twice number link last es ∙ sym (with_twice number taken.was last es) in
          record {
            id_of = taken.id_of;
            is = nearly_replaced config limits pat fed number done s links trace same is_open (s.bytes ++ piece) (is_empty piece) s.outbox query taken.id_of mid now
                (ap (λ (one : Turning). one.hub) unchanged) (ap (λ (one : Turning). one.config) unchanged) (ap (λ (one : Turning). one.limits) unchanged) taken.is;
            link = link;
            at = ap (link_at number) made ∙ same_here number es link taken.link taken.at;
            was_is = going_on;
            links_are = subst (λ all. Kept serving taken.id_of (done ++ t ∷ links) all) (sym whole)
                (replaced_at serving taken.id_of number last t same kept_now done s links 0 (last_in trace) (with_link number es taken.was) taken.is.in_order same is_open is_open taken.links_are);
            settled = settled;
          }

    -- it has become nothing else
    pub heard_same : is_feed serving (s.bytes ++ piece) ≡ is_feed serving s.bytes → (now : Turning) → IsTakenIn now → IsHearing config limits pat fed number false (is_empty piece) (done ++ t ∷ links) trace now
    heard_same feed now taken =
        heard_as now now taken taken.link (sym (set_value_same (is_at (nat_cmp number)) (entries_of now.kept) taken.link taken.at)) taken.settled refl refl refl taken.going_on refl
        (taken.role ∙ taken.kept.role ∙ ap (λ b. role_by taken.id_of s.number b (query_of serving s.bytes)) (sym feed) ∙ ap (λ q. role_by taken.id_of s.number (is_feed serving (s.bytes ++ piece)) q) (sym query))
        (λ no_feed unasked. taken.kept.quiet (sym feed ∙ no_feed) (sym query ∙ unasked))

    -- it has become a feed
    pub heard_feed : is_feed serving (s.bytes ++ piece) ≡ true → (mid now : Turning) → IsTakenIn mid → now ≡ record mid { kept = now.kept } → entries_of now.kept ≡ changed number (λ link. record link { role = roles.Feed }) (entries_of mid.kept) → IsSettledBut number now.kept
        → IsHearing config limits pat fed number false (is_empty piece) (done ++ t ∷ links) trace now
    heard_feed feed mid now taken is entries settled =
        let link : Link = record taken.link { role = roles.Feed } in
        heard_as mid now taken link (entries ∙ ap (changed_by number (λ one. record one { role = roles.Feed }) (entries_of mid.kept)) taken.at) settled is refl refl taken.going_on refl
        (ap (λ b. role_by taken.id_of s.number b (query_of serving (s.bytes ++ piece))) (sym feed))
        (λ no_feed unasked. absurd (let not_so : true ≡ false = sym feed ∙ no_feed in cc))

  -- ---- it has become a subscriber

  opening_by : (id_of : ℕ → ℕ) (n : ℕ) (feed : Bool) (query : Option Query) → feed ≡ false → query ≡ None → role_by id_of n feed query ≡ roles.Opening
  opening_by id_of n true query unfed unasked = absurd cc
  opening_by id_of n false None unfed unasked = refl
  opening_by id_of n false (Some query) unfed unasked = absurd cc

  subscriber_by : (id_of : ℕ → ℕ) (n : ℕ) (feed : Bool) (found : Option Query) (query : Query) → feed ≡ false → found ≡ Some query → role_by id_of n feed found ≡ roles.Subscriber (record { 0 = id_of n })
  subscriber_by id_of n true found query unfed asked = absurd cc
  subscriber_by id_of n false None query unfed asked = absurd cc
  subscriber_by id_of n false (Some found) query unfed asked = refl

  module _ (unfed : is_feed serving s.bytes ≡ false) (unasked : query_of serving s.bytes ≡ None) where
    -- the link is still opening
    pub is_opening_still : (now : Turning) (taken : IsTakenIn now) → passes_at (λ link. is_opening link.role) (entries_of now.kept) number ≡ true
    is_opening_still now taken = ap (λ found. passes (λ (link : Link). is_opening link.role) found) taken.at ∙ ap is_opening (taken.role ∙ taken.kept.role ∙ opening_by taken.id_of s.number (is_feed serving s.bytes) (query_of serving s.bytes) unfed unasked)

    module _ (fine : is_ok phase_now ≡ true) (unfed_now : is_feed serving (s.bytes ++ piece) ≡ false) (query : Query) (asked : query_of serving (s.bytes ++ piece) ≡ Some query) where
      pub heard_sub : (mid now : Turning) → IsTakenIn mid → IsSubscriber number query mid now → IsHearing config limits pat fed number false (is_empty piece) (done ++ t ∷ links) trace now
      heard_sub mid now taken sub =
          let r = mid.hub.requests in
          let es = entries_of mid.kept in
          let id_now : ℕ → ℕ = id_by taken.id_of number r in
          let subscribed : IsSubscribed query mid.hub now.hub (id_at (r + 1)) = subst (λ id. IsSubscribed query mid.hub now.hub id) sub.subscribed.id_is sub.subscribed in
          let link : Link = record taken.link { role = roles.Subscriber sub.id } in
          let last : Link = record link { ended = is_empty piece } in
          let made : entries_of now.kept ≡ with_link number es link = sub.entries ∙ ap (changed_by number (λ one. record one { role = roles.Subscriber sub.id }) es) taken.at in
          let whole : with_link number (entries_of now.kept) last ≡ with_link number (with_link number es taken.was) last = ap (λ all. with_link number all last) made ∙ with_twice number link last es ∙ sym (with_twice number taken.was last es) in
          let high = last_in trace in
          let here : id_now s.number ≡ r + 1 = id_here taken.id_of number r s.number same in
          let kept_now : IsKept serving id_now t last = record {
            fine = fine;
            readable = taken.readable ∙ taken.kept.readable;
            writable = taken.writable ∙ taken.kept.writable;
            ended = refl;
            role = ap (λ id. roles.Subscriber id) sub.subscribed.id_is ∙ ap (λ n. roles.Subscriber (record { 0 = n })) (sym here) ∙ sym (subscriber_by id_now s.number (is_feed serving (s.bytes ++ piece)) (query_of serving (s.bytes ++ piece)) query unfed_now asked);
            session = taken.session;
            outbox = taken.outbox ∙ taken.kept.outbox;
            quiet = λ no_feed none. absurd (let not_so : None ≡ Some query = sym none ∙ asked in cc);
          } in
          let roles_same : AllOpen (λ u. role_of serving taken.id_of u ≡ role_of serving id_now u) (done ++ s ∷ links) =
          all_replaced (λ u. Unit {0}) (λ u. role_of serving taken.id_of u ≡ role_of serving id_now u) number
          (λ u apart is_open unit. role_at taken.id_of id_now u.number (is_feed serving u.bytes) (query_of serving u.bytes) (sym (id_other taken.id_of number r u.number apart)))
          s s same (λ e. role_none taken.id_of id_now s.number (is_feed serving s.bytes) (query_of serving s.bytes) unasked) 0 done links high taken.is.in_order (any_open (done ++ s ∷ links)) in
          let below = map_open (IsServed serving fed taken.id_of mid.hub) (λ u. is_some (query_of serving u.bytes) ≡ true → taken.id_of u.number ≤ r) (λ u is_open own. own.given) (done ++ s ∷ links) (served_each serving fed taken.id_of mid.hub (done ++ s ∷ links) taken.is.served) in
          let less : r < r + 1 = omega arith in
          let unknown : IsUnknown sub.id.0 es = subst (λ id. IsUnknown id es) (ap (λ (id : SubId). id.0) (sym sub.subscribed.id_is)) (unknown_but serving taken.id_of r (r + 1) less number (done ++ s ∷ links) es taken.was taken.link below taken.at taken.role taken.links_are) in
          record {
            id_of = id_now;
            is = nearly_subscribed config limits pat fed number done s links trace same is_open (s.bytes ++ piece) (is_empty piece) query unasked asked taken.id_of mid now subscribed (ap (λ (one : Turning). one.config) sub.same) (ap (λ (one : Turning). one.limits) sub.same) taken.is;
            link = link;
            at = ap (link_at number) made ∙ same_here number es link taken.link taken.at;
            was_is = taken.going_on;
            links_are = subst (λ all. Kept serving id_now (done ++ t ∷ links) all) (sym whole)
                (replaced_at serving id_now number last t same kept_now done s links 0 high (with_link number es taken.was) taken.is.in_order same is_open is_open (all_as serving taken.id_of id_now (done ++ s ∷ links) (with_link number es taken.was) roles_same taken.links_are));
            settled = sub.settled (is_opening_still mid taken) unknown taken.settled;
          }

  -- a request that is refused leaves it what it was
  pub taken_refused : (mid now : Turning) → IsTakenIn mid → IsRefused mid now → IsTakenIn now
  taken_refused mid now taken refused =
      let kept : now.kept ≡ mid.kept = ap (λ (one : Turning). one.kept) refused.same in
      record {
        id_of = taken.id_of;
        is = nearly_refused config limits pat fed (done ++ s ∷ links) trace taken.id_of mid now refused.turned_away (ap (λ (one : Turning). one.config) refused.same) (ap (λ (one : Turning). one.limits) refused.same) taken.is;
        was = taken.was;
        link = taken.link;
        at = ap (λ (one : OpenLinks). link_at number (entries_of one)) kept ∙ taken.at;
        kept = taken.kept;
        links_are = subst (λ (one : OpenLinks). Kept serving taken.id_of (done ++ s ∷ links) (with_link number (entries_of one) taken.was)) (sym kept) taken.links_are;
        role = taken.role;
        readable = taken.readable;
        writable = taken.writable;
        going_on = taken.going_on;
        outbox = taken.outbox;
        session = taken.session;
        settled = subst (λ one. IsSettledBut number one) (sym kept) taken.settled;
      }

  -- what is kept of the links stays
  pub taken_kept : (mid now : Turning) → IsTakenIn mid → now ≡ record mid { kept = now.kept } → entries_of now.kept ≡ entries_of mid.kept → IsSettledBut number now.kept → IsTakenIn now
  taken_kept mid now taken is entries settled = record {
    id_of = taken.id_of;
    is = nearly_kept config limits pat fed (done ++ s ∷ links) trace taken.id_of mid now is taken.is;
    was = taken.was;
    link = taken.link;
    at = ap (link_at number) entries ∙ taken.at;
    kept = taken.kept;
    links_are = subst (λ es. Kept serving taken.id_of (done ++ s ∷ links) (with_link number es taken.was)) (sym entries) taken.links_are;
    role = taken.role;
    readable = taken.readable;
    writable = taken.writable;
    going_on = taken.going_on;
    outbox = taken.outbox;
    session = taken.session;
    settled = settled;
  }
