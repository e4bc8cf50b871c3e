-- Whether the limits admit what a link has come to.
use Rattle.std.proofs.Common.{◌≡◌, ℕ, ◌+◌, Bool, true, false, ◌&&◌, cond, eqb, List, [], ◌∷◌, ◌++◌, Some, None, refl, sym, ap, ◌∙◌, arith}
use Rattle.std.specs.Prelude.{Result, is_some, nat_lt}
use Rattle.std.specs.Map.{values_of}
use Rattle.std.proofs.lemmas.List.Sums.{sum_by-cons}
use Rattle.mesh_base.specs.declared.limits.Limits.{Limits}
use Rattle.session_core.specs.Phases.{Phase, is_feeding, query_in}
use Rattle.session_core.specs.declared.session.SessionFault.{SessionFault}
use Rattle.link_sessions.specs.Entries.{Entries, feeds_in, link_at, with_link}
use Rattle.link_sessions.specs.Entries.{one_feed as one_feed_link}
use Rattle.link_sessions.specs.Roles.{is_feed as is_feed_role}
use Rattle.link_sessions.specs.declared.link.Link.{Link}
use Rattle.serve_rules.specs.Batches.{Serving}
use Rattle.serve_rules.specs.LinkStates.{LinkState, admits_by, feeds, is_feed, one_feed, one_sub, query_of, subs, within}
use Rattle.serve_core.proofs.AskShapes.{IsAskNow, IsFeedNow, IsSame}
use Rattle.serve_core.proofs.KeptTests.{here_at, is_head, not_head, not_same}
use Rattle.serve_core.proofs.OpenOnes.{sum_without}

within_same : (limit others : ℕ) (b : Bool) → within limit others b b ≡ true
within_same limit others true = refl
within_same limit others false = refl

both_so : (a b : Bool) → a ≡ true → b ≡ true → (a && b) ≡ true
both_so true b first second = second
both_so false b first second = first

and_true : (b : Bool) → (b && true) ≡ b
and_true true = refl
and_true false = refl

module _ (limits : Limits) (other_feeds other_subs : ℕ) (was now : Result Phase SessionFault) where
  admits_at : (was_feed feed was_some some : Bool) → is_feeding was ≡ was_feed → is_feeding now ≡ feed → is_some (query_in was) ≡ was_some → is_some (query_in now) ≡ some
      → admits_by limits other_feeds other_subs was now ≡ (within limits.feeds other_feeds was_feed feed && within limits.subs other_subs was_some some)
  admits_at was_feed feed was_some some a b c d = rw (a, b, c, d) refl

  -- what has become nothing else is admitted
  pub admits_same : IsSame was now → admits_by limits other_feeds other_subs was now ≡ true
  admits_same same =
      let feed = is_feeding was in
      let some = is_some (query_in was) in
      admits_at feed feed some some refl same.feed refl (ap is_some same.query) ∙ both_so (within limits.feeds other_feeds feed feed) (within limits.subs other_subs some some) (within_same limits.feeds other_feeds feed) (within_same limits.subs other_subs some)

  -- a feed, unless there are as many as may be
  pub admits_feed : IsFeedNow was now → admits_by limits other_feeds other_subs was now ≡ nat_lt other_feeds limits.feeds
  admits_feed is = admits_at false true false false is.unfed is.feed (ap is_some is.unasked) (ap is_some is.none) ∙ and_true (nat_lt other_feeds limits.feeds)

  -- a subscriber likewise
  pub admits_ask : IsAskNow was now → admits_by limits other_feeds other_subs was now ≡ nat_lt other_subs limits.subs
  admits_ask is = admits_at false false false true is.unfed is.unfed_now (ap is_some is.unasked) (ap is_some is.asked)

-- ---- how many others feed

count_of : Bool → ℕ
count_of b = cond b 1 0

-- a link whose role is the same counts the same
pub feeds_with : (n : ℕ) (es : Entries) (was now : Link) → link_at n es ≡ Some now → is_feed_role now.role ≡ is_feed_role was.role → feeds_in es ≡ feeds_in (with_link n es was)
feeds_with n [] was now at same = refl
feeds_with n (e ∷ es) was now at same = by_number (λ rest. feeds_with n es was now rest same) (eqb e.0 n) refl
  where
    by_number : (link_at n es ≡ Some now → feeds_in es ≡ feeds_in (with_link n es was)) → (b : Bool) → eqb e.0 n ≡ b → feeds_in (e ∷ es) ≡ feeds_in (with_link n (e ∷ es) was)
    by_number rest true is =
        let here : Some e.1 ≡ Some now = sym (is_head n e es is) ∙ at in
        let one : e.1 ≡ now = cc in
        sum_by-cons one_feed_link e.1 (values_of es) ∙ ap (λ b. cond b 1 0 + feeds_in es) (ap (λ (link : Link). is_feed_role link.role) one ∙ same) ∙ sym (sum_by-cons one_feed_link was (values_of es))
        ∙ ap (λ b. feeds_in (cond b ((e.0, was) ∷ es) (e ∷ with_link n es was))) (sym (here_at n e.0 is))
    by_number rest false is =
        sum_by-cons one_feed_link e.1 (values_of es) ∙ ap (λ m. one_feed_link e.1 + m) (rest (sym (not_head n e es is) ∙ at)) ∙ sym (sum_by-cons one_feed_link e.1 (values_of (with_link n es was)))
        ∙ ap (λ b. feeds_in (cond b ((e.0, was) ∷ es) (e ∷ with_link n es was))) (sym (not_same n e.0 is))

-- a link that neither feeds nor has subscribed is not counted
none_more : (all rest one : ℕ) → all ≡ one + rest → one ≡ 0 → all ≡ rest
none_more all rest one sum none = omega (arith, sum, none)

pub feeds_others : (serving : Serving) (done : List LinkState) (s : LinkState) (links : List LinkState) → is_feed serving s.bytes ≡ false → feeds serving (done ++ s ∷ links) ≡ feeds serving (done ++ links)
feeds_others serving done s links unfed = none_more (feeds serving (done ++ s ∷ links)) (feeds serving (done ++ links)) (one_feed serving s) (sum_without (one_feed serving) done s links) (not_counted s.is_open (is_feed serving s.bytes) unfed)
  where
    not_counted : (a b : Bool) → b ≡ false → ◌≡◌ {A = ℕ} (cond (a && b) 1 0) 0
    not_counted true b none = ap (λ c. cond c 1 0) none
    not_counted false b none = refl

pub subs_others : (serving : Serving) (done : List LinkState) (s : LinkState) (links : List LinkState) → query_of serving s.bytes ≡ None → subs serving (done ++ s ∷ links) ≡ subs serving (done ++ links)
subs_others serving done s links unasked = none_more (subs serving (done ++ s ∷ links)) (subs serving (done ++ links)) (one_sub serving s) (sum_without (one_sub serving) done s links) (not_counted s.is_open (is_some (query_of serving s.bytes)) (ap is_some unasked))
  where
    not_counted : (a b : Bool) → b ≡ false → ◌≡◌ {A = ℕ} (cond (a && b) 1 0) 0
    not_counted true b none = ap (λ c. cond c 1 0) none
    not_counted false b none = refl
