-- A read of a link is the step of its turn, where the link gives no bytes.
use Rattle.std.proofs.Common.{◌≡◌, ℕ, Bool, true, false, not, ◌&&◌, ◌||◌, List, [], ◌∷◌, ◌++◌, Option, Some, None, Ok, Err, refl, sym, ap, ◌∙◌, subst, append_assoc, append-nil}
use Rattle.std.specs.Prelude.{Result, OnOk}
use Rattle.mesh_base.specs.declared.limits.Limits.{Limits}
use Rattle.mesh_base.specs.declared.memory.Memory.{Memory}
use Rattle.mesh_links.specs.Calls.{Continues}
use Rattle.mesh_links.specs.declared.call.LinkCall.{LinkCall}
use Rattle.mesh_links.specs.declared.call.LinkCall.TheVariants as calls
use Rattle.mesh_links.specs.declared.call.ReadGot.{ReadGot}
use Rattle.mesh_links.specs.declared.call.ReadGot.TheVariants as reads
use Rattle.view_types.specs.declared.config.Config.{Config}
use Rattle.feed_history.specs.KnownPatterns.{known_of}
use Rattle.route_match.specs.Matching.{Pat}
use Rattle.link_sessions.specs.Entries.{changed, entries_of}
use Rattle.link_sessions.specs.Settled.{IsSettled}
use Rattle.link_sessions.specs.declared.link.Link.{Link}
use Rattle.serve_rules.specs.Batches.{Serving}
use Rattle.serve_rules.specs.FedLines.{FedRow}
use Rattle.serve_rules.specs.LinkStates.{LinkState, closed, closing, is_empty, is_feed, may_read, read_feeds, read_to}
use Rattle.serve_rules.specs.Turns.{ReadIf, ReadStep, room}
use Rattle.serve_rules.proofs.Total.{IsTotal, read_total}
use Rattle.serve_core.specs.Linked.{IsKept}
use Rattle.serve_core.specs.Served.{IsAt, serving_of}
use Rattle.serve_core.specs.Steps.{ClosesAt, IsBegun, StaysFed, TakesStep}
use Rattle.serve_core.specs.TurnCalls.{Grows, MayClose}
use Rattle.serve_core.specs.declared.turning.Pass.TheVariants as passes
use Rattle.serve_core.specs.declared.turning.Turning.{Turning}
use Rattle.serve_core.proofs.OpenTraces.{last_read, shown_read}
use Rattle.serve_core.proofs.Settles.{closing_closed, closing_open, few_none, none_fed, same_made, stays_same}
use Rattle.serve_core.proofs.Staying.{at_but, at_changed, at_later, goes_on_with}
use Rattle.serve_core.proofs.Writing.{IsChanged}

is_first : (a b : Bool) → (a && b) ≡ true → a ≡ true
is_first true b both = refl
is_first false b both = absurd cc

abbrev unread_link : LinkState → LinkState
unread_link s = record s { readable = false }

pending_to : (serving : Serving) (fed : List FedRow) (s : LinkState) → read_to serving true (λ n. None) fed s reads.Pending ≡ unread_link s
unfolding read_to
pending_to serving fed s = refl

pending_feeds : (serving : Serving) (fed : List FedRow) (s : LinkState) → read_feeds serving true (λ n. None) fed s reads.Pending ≡ fed
unfolding read_feeds
pending_feeds serving fed s = refl

failed_to : (serving : Serving) (fed : List FedRow) (s : LinkState) → read_to serving true (λ n. None) fed s reads.Failed ≡ closed s
unfolding read_to
failed_to serving fed s = refl

failed_feeds : (serving : Serving) (fed : List FedRow) (s : LinkState) → read_feeds serving true (λ n. None) fed s reads.Failed ≡ fed
unfolding read_feeds
failed_feeds serving fed s = refl

kept_pending : (serving : Serving) (id_of : ℕ → ℕ) (s : LinkState) (link : Link) → IsKept serving id_of s link → IsKept serving id_of (unread_link s) (record link { readable = false })
kept_pending serving id_of s link is = record { fine = is.fine; readable = refl; writable = is.writable; ended = is.ended; role = is.role; session = is.session; outbox = is.outbox; quiet = is.quiet }

pending_is : (serving : Serving) (others : List LinkState) (fed : List FedRow) (s : LinkState) (made : List LinkCall) → may_read serving s ≡ true → made ≡ calls.Read s.number room reads.Pending ∷ closing s (unread_link s) → ReadStep serving false others fed s made fed (unread_link s)
pending_is serving others fed s made turn calls_are = subst (λ b. ReadIf b serving false others fed s made fed (unread_link s)) (sym turn) (record { got = reads.Pending; met = λ n. None; calls = calls_are; fed_now = sym (pending_feeds serving fed s); link = sym (pending_to serving fed s); unmet = tt })

failed_is : (serving : Serving) (others : List LinkState) (fed : List FedRow) (s : LinkState) (made : List LinkCall) → may_read serving s ≡ true → made ≡ calls.Read s.number room reads.Failed ∷ closing s (closed s) → ReadStep serving false others fed s made fed (closed s)
failed_is serving others fed s made turn calls_are = subst (λ b. ReadIf b serving false others fed s made fed (closed s)) (sym turn) (record { got = reads.Failed; met = λ n. None; calls = calls_are; fed_now = sym (failed_feeds serving fed s); link = sym (failed_to serving fed s); unmet = tt })

-- some step begins with no call
begins_later : (serving : Serving) (others : List LinkState) (fed : List FedRow) (s : LinkState) → IsBegun (ReadStep serving false) others fed s [] fed
begins_later serving others fed s =
    let total : IsTotal (ReadStep serving false) = read_total serving in
    let one = total.some others fed s in
    record { more = one.made; rest = []; unmarked = tt; after = one.t; stepped = one.stepped }

module _ (number : ℕ) (trace_before trace_mid : Option (List LinkCall)) (old : Turning) (tells : Option Pat) (refuses : Option (List ℕ → Bool)) (count : ℕ) where
  module _ (config : Config) (limits : Limits) (pat : Pat) (fed : List FedRow) (done : List LinkState) (s : LinkState) (links : List LinkState) (trace : List LinkCall) (same : s.number ≡ number) (turn : may_read (serving_of config limits pat) s ≡ true) where
    opens : s.is_open ≡ true
    opens = let serving = serving_of config limits pat in is_first s.is_open (s.readable && (not s.ended && (not (is_feed serving s.bytes) || is_empty s.outbox))) turn

    call_is : (got : ReadGot) (more : List LinkCall) → calls.Read number room got ∷ more ≡ calls.Read s.number room got ∷ more
    call_is got more = ap (λ n. calls.Read n room got ∷ more) (sym same)

    abbrev at_call : (got : ReadGot) → IsAt config limits pat fed (done ++ s ∷ links) trace old → IsAt config limits pat fed (done ++ s ∷ links) (trace ++ calls.Read number room got ∷ []) old
    at_call got at = at_later config limits pat fed (done ++ s ∷ links) trace (trace ++ calls.Read number room got ∷ []) old (last_read trace number room got) (λ shown. shown_read trace number room got (done ++ s ∷ links) shown) at

  pending : (new : Turning) → Continues trace_before trace_mid (λ t. Some (calls.Read number room reads.Pending)) → IsChanged number (λ link. record link { readable = false }) old new → TakesStep passes.Reads number (known_of tells refuses count count) trace_before old (Ok tt) trace_mid new
  pending new read change config limits pat fed trace told holds hub_config =
      let call = calls.Read number room reads.Pending in
      record {
        lines = [];
        made = call ∷ [];
        grew = read trace told;
        is_fed = none_fed config limits pat tells refuses count fed old new (stays_same old new change.hub) holds;
        steps = λ matches done s links same turn at.
            let serving = serving_of config limits pat in
            let is_open = opens config limits pat fed done s links trace same turn in
            let after = unread_link s in
            let called = at_call config limits pat fed done s links trace same turn reads.Pending at in
            record {
              after = after;
              stepped = pending_is serving (done ++ links) fed s (call ∷ []) turn (call_is config limits pat fed done s links trace same turn reads.Pending [] ∙ ap (λ made. calls.Read s.number room reads.Pending ∷ made) (closing_open s after refl));
              at = at_changed config limits pat fed number done s links (trace ++ call ∷ []) old same is_open false s.writable s.outbox s.drained called (λ link. record link { readable = false }) new
                  change.config change.limits (goes_on_with config limits pat fed number done s links (trace ++ call ∷ []) old same is_open false s.writable s.outbox called new.hub change.hub) change.entries (change.settled at.keeps.settled) (λ link is. kept_pending serving at.id_of s link is);
            };
      }

  -- memory ran out behind a call that gave nothing
  unsettled : (new : Turning) → Continues trace_before trace_mid (λ t. Some (calls.Read number room reads.Pending)) → TakesStep passes.Reads number (known_of tells refuses count count) trace_before old (Err (record {})) trace_mid new
  unsettled new read config limits pat fed trace told holds hub_config = record {
    lines = [];
    made = calls.Read number room reads.Pending ∷ [];
    grew = read trace told;
    few = few_none count;
    fair = λ fair. fair;
    begins = λ matches done s links same turn at.
        let serving = serving_of config limits pat in
        let after = unread_link s in
        record {
          more = closing s after;
          rest = [];
          unmarked = tt;
          after = after;
          stepped = pending_is serving (done ++ links) fed s (calls.Read number room reads.Pending ∷ closing s after) turn (call_is config limits pat fed done s links trace same turn reads.Pending (closing s after));
        };
  }

  -- nothing can be read now
  pub read_pending : (new : Turning) (result : Result (Unit {0}) Memory) → Continues trace_before trace_mid (λ t. Some (calls.Read number room reads.Pending)) → new ≡ record old { kept = new.kept }
      → OnOk result (entries_of new.kept ≡ changed number (λ link. record link { readable = false }) (entries_of old.kept)) → OnOk result (IsSettled old.kept → IsSettled new.kept) → TakesStep passes.Reads number (known_of tells refuses count count) trace_before old result trace_mid new
  read_pending new (Ok done) read is entries settled =
      let change : IsChanged number (λ link. record link { readable = false }) old new = record { config = ap (λ (now : Turning). now.config) is; limits = ap (λ (now : Turning). now.limits) is; hub = ap (λ (now : Turning). now.hub) is; entries = entries; settled = settled } in
      pending new read change
  read_pending new (Err memory) read is entries settled = unsettled new read

  -- the link can't be read any more
  pub read_failed : (new : Turning) (trace_now : Option (List LinkCall)) → Continues trace_before trace_mid (λ t. Some (calls.Read number room reads.Failed)) → Grows (MayClose number) trace_mid trace_now → ClosesAt number trace_mid old trace_now new → StaysFed old new
      → TakesStep passes.Reads number (known_of tells refuses count count) trace_before old (Ok tt) trace_now new
  read_failed new trace_now read more closes stays config limits pat fed trace told holds hub_config =
      let call = calls.Read number room reads.Failed in
      let trace_then = trace ++ call ∷ [] in
      let told_then = read trace told in
      let rest = more trace_then told_then in
      record {
        lines = [];
        made = call ∷ rest.made;
        grew = rest.grew ∙ ap Some (append_assoc trace (call ∷ []) rest.made);
        is_fed = none_fed config limits pat tells refuses count fed old new stays holds;
        steps = λ matches done s links same turn at.
            let serving = serving_of config limits pat in
            let is_open = opens config limits pat fed done s links trace same turn in
            let after = closed s in
            let ends = closes config limits pat fed done s links trace_then told_then same is_open (at_but config limits pat fed number done s links trace_then old same is_open (at_call config limits pat fed done s links trace same turn reads.Failed at)) in
            let one : rest.made ≡ calls.Close number ∷ [] = same_made trace_then rest.made (calls.Close number ∷ []) trace_now rest.grew ends.grew in
            let closes_it : rest.made ≡ closing s after = one ∙ ap (λ n. calls.Close n ∷ []) (sym same) ∙ sym (closing_closed s after is_open refl) in
            record {
              after = after;
              stepped = failed_is serving (done ++ links) fed s (call ∷ rest.made) turn (call_is config limits pat fed done s links trace same turn reads.Failed rest.made ∙ ap (λ made. calls.Read s.number room reads.Failed ∷ made) closes_it);
              at = subst (λ calls_so_far. IsAt config limits pat fed (done ++ after ∷ links) calls_so_far new) (ap (λ made. trace_then ++ made) (sym one) ∙ append_assoc trace (call ∷ []) rest.made) (ends.at after same refl);
            };
      }

  -- memory ran out in the call itself
  pub unread : (new : Turning) → Continues trace_before trace_mid (λ t. None) → TakesStep passes.Reads number (known_of tells refuses count count) trace_before old (Err (record {})) trace_mid new
  unread new none config limits pat fed trace told holds hub_config = record {
    lines = [];
    made = [];
    grew = none trace told ∙ ap Some (sym (append-nil trace));
    few = few_none count;
    fair = λ fair. fair;
    begins = λ matches done s links same turn at. begins_later (serving_of config limits pat) (done ++ links) fed s;
  }
