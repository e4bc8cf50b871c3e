-- A write of a link is the step of its turn.
use Rattle.std.proofs.Common.{◌≡◌, ℕ, Bool, true, false, not, ◌&&◌, List, [], ◌∷◌, ◌++◌, Option, Some, None, Ok, Err, refl, sym, ap, ◌∙◌, subst, append_assoc, append-nil}
use Rattle.std.specs.Prelude.{Result, OnOk}
use Rattle.mesh_base.specs.declared.limits.Limits.{Limits}
use Rattle.mesh_base.specs.declared.memory.Memory.{Memory}
use Rattle.mesh_links.specs.Calls.{Continues}
use Rattle.mesh_links.specs.declared.call.LinkCall.{LinkCall}
use Rattle.mesh_links.specs.declared.call.LinkCall.TheVariants as calls
use Rattle.mesh_links.specs.declared.call.WriteGot.{WriteGot}
use Rattle.mesh_links.specs.declared.call.WriteGot.TheVariants as writes
use Rattle.view_types.specs.declared.config.Config.{Config}
use Rattle.session_core.specs.Outboxes.{head, wrote}
use Rattle.feed_history.specs.KnownPatterns.{known_of}
use Rattle.route_match.specs.Matching.{Pat}
use Rattle.link_sessions.specs.Entries.{changed, entries_of, outbox_at, outbox_of, wrote_of}
use Rattle.link_sessions.specs.Settled.{IsSettled}
use Rattle.link_sessions.specs.declared.link.Link.{Link}
use Rattle.serve_rules.specs.Batches.{Serving}
use Rattle.serve_rules.specs.FedLines.{FedRow}
use Rattle.serve_rules.specs.LinkStates.{LinkState, closed, closing, goes_on, is_empty, may_write, phase_in, write_to}
use Rattle.serve_rules.specs.Turns.{WriteIf, WriteStep}
use Rattle.serve_rules.proofs.Total.{IsTotal, write_total}
use Rattle.serve_core.specs.Linked.{IsKept}
use Rattle.serve_core.specs.Served.{IsAt, serving_of}
use Rattle.serve_core.specs.Steps.{ClosesAt, IsBegun, SettlesAt, StaysFed, TakesStep, gone_on}
use Rattle.serve_core.specs.TurnCalls.{Grows, MayClose}
use Rattle.serve_core.specs.declared.turning.Pass.TheVariants as passes
use Rattle.serve_core.specs.declared.turning.Turning.{Turning}
use Rattle.serve_core.proofs.OpenTraces.{last_write, shown_write}
use Rattle.serve_core.proofs.Settles.{closing_closed, closing_open, few_none, none_fed, same_made, stays_same, stays_then}
use Rattle.serve_core.proofs.Staying.{at_but, at_changed, at_later, found_here, found_number, goes_on_with}

-- one link is changed, and nothing else that a server keeps
pub record IsChanged (number : ℕ) (change : Link → Link) (old new : Turning) : Type 0 where
  pub config : new.config ≡ old.config
  pub limits : new.limits ≡ old.limits
  pub hub : new.hub ≡ old.hub
  pub entries : entries_of new.kept ≡ changed number change (entries_of old.kept)
  pub settled : IsSettled old.kept → IsSettled new.kept

abbrev the_link : LinkState → Bool → Bool → List (List ℕ) → LinkState
the_link s readable writable outbox = record s { readable = readable; writable = writable; outbox = outbox }

is_first : (a b : Bool) → (a && b) ≡ true → a ≡ true
is_first true b both = refl
is_first false b both = absurd cc

-- ---- what becomes of the link

took_to : (serving : Serving) (s : LinkState) (n : ℕ) → write_to serving s (writes.Took n) ≡ record s { is_open = goes_on (phase_in serving s.bytes) s.ended (wrote n s.outbox); outbox = wrote n s.outbox }
unfolding write_to
took_to serving s n = refl

pending_to : (serving : Serving) (s : LinkState) → write_to serving s writes.Pending ≡ record s { writable = false }
unfolding write_to
pending_to serving s = refl

failed_to : (serving : Serving) (s : LinkState) → write_to serving s writes.Failed ≡ closed s
unfolding write_to
failed_to serving s = refl

kept_wrote : (serving : Serving) (id_of : ℕ → ℕ) (s : LinkState) (n : ℕ) (link : Link) → IsKept serving id_of s link → IsKept serving id_of (the_link s s.readable s.writable (wrote n s.outbox)) (wrote_of n link)
kept_wrote serving id_of s n link is = record {
  fine = is.fine;
  readable = is.readable;
  writable = is.writable;
  ended = is.ended;
  role = is.role;
  session = record { config_is = is.session.config_is; limits_are = is.session.limits_are; keeps = is.session.keeps };
  outbox = ap (wrote n) is.outbox;
  quiet = λ no_feed unasked. ap (wrote n) (is.quiet no_feed unasked);
}

kept_pending : (serving : Serving) (id_of : ℕ → ℕ) (s : LinkState) (link : Link) → IsKept serving id_of s link → IsKept serving id_of (the_link s s.readable false s.outbox) (record link { writable = false })
kept_pending serving id_of s link is = record { fine = is.fine; readable = is.readable; writable = refl; ended = is.ended; role = is.role; session = is.session; outbox = is.outbox; quiet = is.quiet }

-- the step, by the answer of the write
write_is : (serving : Serving) (others : List LinkState) (fed : List FedRow) (s : LinkState) (got : WriteGot) (made : List LinkCall) (t : LinkState) → may_write s ≡ true → made ≡ calls.Write s.number (head s.outbox) got ∷ closing s t → t ≡ write_to serving s got
    → WriteStep serving others fed s made fed t
write_is serving others fed s got made t turn calls_are link = subst (λ b. WriteIf b serving others fed s made fed t) (sym turn) (record { got = got; calls = calls_are; fed_now = refl; link = link })

-- some step begins so
write_begins : (serving : Serving) (others : List LinkState) (fed : List FedRow) (s : LinkState) (got : WriteGot) (made : List LinkCall) → may_write s ≡ true → made ≡ calls.Write s.number (head s.outbox) got ∷ [] → IsBegun (WriteStep serving) others fed s made fed
write_begins serving others fed s got made turn made_is =
    let t = write_to serving s got in
    record {
      more = closing s t;
      rest = [];
      unmarked = tt;
      after = t;
      stepped = write_is serving others fed s got (made ++ closing s t) t turn (ap (λ first. first ++ closing s t) made_is) refl;
    }

-- with no call yet
pub begins_later : (serving : Serving) (others : List LinkState) (fed : List FedRow) (s : LinkState) → IsBegun (WriteStep serving) others fed s [] fed
begins_later serving others fed s =
    let total : IsTotal (WriteStep serving) = write_total serving in
    let one = total.some others fed s in
    record { more = one.made; rest = []; unmarked = tt; after = one.t; stepped = one.stepped }

module _ (number : ℕ) (trace_before trace_mid : Option (List LinkCall)) (old : Turning) (piece : List ℕ) (piece_is : piece ≡ head (outbox_at number (entries_of old.kept))) (tells : Option Pat) (refuses : Option (List ℕ → Bool)) (count : ℕ) where
  module _ (config : Config) (limits : Limits) (pat : Pat) (fed : List FedRow) (done : List LinkState) (s : LinkState) (links : List LinkState) (trace : List LinkCall) (same : s.number ≡ number) (turn : may_write s ≡ true) (at : IsAt config limits pat fed (done ++ s ∷ links) trace old) where
    opens : s.is_open ≡ true
    opens = is_first s.is_open (s.writable && not (is_empty s.outbox)) turn

    head_is : piece ≡ head s.outbox
    head_is =
        let found = found_here config limits pat fed number done s links trace old same opens at in
        piece_is ∙ ap (λ link. head (outbox_of link)) (found_number config limits pat fed number done s links trace old same opens at) ∙ ap head found.is.outbox

    call_is : (got : WriteGot) (more : List LinkCall) → calls.Write number piece got ∷ more ≡ calls.Write s.number (head s.outbox) got ∷ more
    call_is got more = ap (λ n. calls.Write n piece got ∷ more) (sym same) ∙ ap (λ bytes. calls.Write s.number bytes got ∷ more) head_is

    abbrev at_call : (got : WriteGot) → IsAt config limits pat fed (done ++ s ∷ links) (trace ++ calls.Write number piece got ∷ []) old
    at_call got = at_later config limits pat fed (done ++ s ∷ links) trace (trace ++ calls.Write number piece got ∷ []) old (last_write trace number piece got) (λ shown. shown_write trace number piece got (done ++ s ∷ links) shown) at

  -- some bytes were written
  pub took : (n : ℕ) (mid new : Turning) (trace_now : Option (List LinkCall)) → Continues trace_before trace_mid (λ t. Some (calls.Write number piece (writes.Took n))) → IsChanged number (wrote_of n) old mid → Grows (MayClose number) trace_mid trace_now
      → SettlesAt number trace_mid mid trace_now new → StaysFed mid new → TakesStep passes.Writes number (known_of tells refuses count count) trace_before old (Ok tt) trace_now new
  took n mid new trace_now written change more settles stays config limits pat fed trace told holds hub_config =
      let call = calls.Write number piece (writes.Took n) in
      let trace_then = trace ++ call ∷ [] in
      let told_then = written trace told in
      let rest = more trace_then told_then in
      record {
        lines = [];
        made = call ∷ rest.made;
        grew = rest.grew ∙ ap Some (append_assoc trace (call ∷ []) rest.made);
        is_fed = none_fed config limits pat tells refuses count fed old new (stays_then old mid new (stays_same old mid change.hub) stays) holds;
        steps = λ matches done s links same turn at.
            let serving = serving_of config limits pat in
            let is_open = opens config limits pat fed done s links trace same turn at in
            let s_mid = the_link s s.readable s.writable (wrote n s.outbox) in
            let called = at_call config limits pat fed done s links trace same turn at (writes.Took n) in
            let mid_at = at_changed config limits pat fed number done s links trace_then old same is_open s.readable s.writable (wrote n s.outbox) s.drained called (wrote_of n) mid
            change.config change.limits (goes_on_with config limits pat fed number done s links trace_then old same is_open s.readable s.writable (wrote n s.outbox) called mid.hub change.hub) change.entries (change.settled at.keeps.settled) (λ link is. kept_wrote serving at.id_of s n link is) in
            let settled = settles config limits pat fed done s_mid links trace_then told_then same is_open mid_at in
            let after = gone_on serving s_mid in
            let closes : rest.made ≡ closing s after = same_made trace_then rest.made (closing s after) trace_now rest.grew settled.grew in
            record {
              after = after;
              stepped = write_is serving (done ++ links) fed s (writes.Took n) (call ∷ rest.made) after turn (call_is config limits pat fed done s links trace same turn at (writes.Took n) rest.made ∙ ap (λ made. calls.Write s.number (head s.outbox) (writes.Took n) ∷ made) closes) (sym (took_to serving s n));
              at = subst (λ calls_so_far. IsAt config limits pat fed (done ++ after ∷ links) calls_so_far new) (ap (λ made. trace_then ++ made) (sym closes) ∙ append_assoc trace (call ∷ []) rest.made) settled.at;
            };
      }

  -- none can be written now
  pub pending : (new : Turning) → Continues trace_before trace_mid (λ t. Some (calls.Write number piece writes.Pending)) → IsChanged number (λ link. record link { writable = false }) old new
      → TakesStep passes.Writes number (known_of tells refuses count count) trace_before old (Ok tt) trace_mid new
  pending new written change config limits pat fed trace told holds hub_config =
      let call = calls.Write number piece writes.Pending in
      record {
        lines = [];
        made = call ∷ [];
        grew = written trace told;
        is_fed = none_fed config limits pat tells refuses count fed old new (stays_same old new change.hub) holds;
        steps = λ matches done s links same turn at.
            let serving = serving_of config limits pat in
            let is_open = opens config limits pat fed done s links trace same turn at in
            let after = the_link s s.readable false s.outbox in
            let called = at_call config limits pat fed done s links trace same turn at writes.Pending in
            record {
              after = after;
              stepped = write_is serving (done ++ links) fed s writes.Pending (call ∷ []) after turn (call_is config limits pat fed done s links trace same turn at writes.Pending [] ∙ ap (λ made. calls.Write s.number (head s.outbox) writes.Pending ∷ made) (closing_open s after refl)) (sym (pending_to serving s));
              at = at_changed config limits pat fed number done s links (trace ++ call ∷ []) old same is_open s.readable false s.outbox s.drained called (λ link. record link { writable = false }) new
                  change.config change.limits (goes_on_with config limits pat fed number done s links (trace ++ call ∷ []) old same is_open s.readable false s.outbox called new.hub change.hub) change.entries (change.settled at.keeps.settled) (λ link is. kept_pending serving at.id_of s link is);
            };
      }

  -- the link can't be written any more
  pub failed : (new : Turning) (trace_now : Option (List LinkCall)) → Continues trace_before trace_mid (λ t. Some (calls.Write number piece writes.Failed)) → Grows (MayClose number) trace_mid trace_now → ClosesAt number trace_mid old trace_now new → StaysFed old new
      → TakesStep passes.Writes number (known_of tells refuses count count) trace_before old (Ok tt) trace_now new
  failed new trace_now written more closes stays config limits pat fed trace told holds hub_config =
      let call = calls.Write number piece writes.Failed in
      let trace_then = trace ++ call ∷ [] in
      let told_then = written trace told in
      let rest = more trace_then told_then in
      record {
        lines = [];
        made = call ∷ rest.made;
        grew = rest.grew ∙ ap Some (append_assoc trace (call ∷ []) rest.made);
        is_fed = none_fed config limits pat tells refuses count fed old new stays holds;
        steps = λ matches done s links same turn at.
            let serving = serving_of config limits pat in
            let is_open = opens config limits pat fed done s links trace same turn at in
            let after = closed s in
            let ends = closes config limits pat fed done s links trace_then told_then same is_open (at_but config limits pat fed number done s links trace_then old same is_open (at_call config limits pat fed done s links trace same turn at writes.Failed)) in
            let one : rest.made ≡ calls.Close number ∷ [] = same_made trace_then rest.made (calls.Close number ∷ []) trace_now rest.grew ends.grew in
            let closes_it : rest.made ≡ closing s after = one ∙ ap (λ n. calls.Close n ∷ []) (sym same) ∙ sym (closing_closed s after is_open refl) in
            record {
              after = after;
              stepped = write_is serving (done ++ links) fed s writes.Failed (call ∷ rest.made) after turn (call_is config limits pat fed done s links trace same turn at writes.Failed rest.made ∙ ap (λ made. calls.Write s.number (head s.outbox) writes.Failed ∷ made) closes_it) (sym (failed_to serving s));
              at = subst (λ calls_so_far. IsAt config limits pat fed (done ++ after ∷ links) calls_so_far new) (ap (λ made. trace_then ++ made) (sym one) ∙ append_assoc trace (call ∷ []) rest.made) (ends.at after same refl);
            };
      }

  -- ---- where memory ran out

  -- in the call itself
  pub unwritten : (new : Turning) → Continues trace_before trace_mid (λ t. None) → TakesStep passes.Writes number (known_of tells refuses count count) trace_before old (Err (record {})) trace_mid new
  unwritten new none config limits pat fed trace told holds hub_config = record {
    lines = [];
    made = [];
    grew = none trace told ∙ ap Some (sym (append-nil trace));
    few = few_none count;
    fair = λ fair. fair;
    begins = λ matches done s links same turn at. begins_later (serving_of config limits pat) (done ++ links) fed s;
  }

  -- after the call
  pub unsettled : (got : WriteGot) (new : Turning) → Continues trace_before trace_mid (λ t. Some (calls.Write number piece got)) → TakesStep passes.Writes number (known_of tells refuses count count) trace_before old (Err (record {})) trace_mid new
  unsettled got new written config limits pat fed trace told holds hub_config = record {
    lines = [];
    made = calls.Write number piece got ∷ [];
    grew = written trace told;
    few = few_none count;
    fair = λ fair. fair;
    begins = λ matches done s links same turn at. write_begins (serving_of config limits pat) (done ++ links) fed s got (calls.Write number piece got ∷ []) turn (call_is config limits pat fed done s links trace same turn at got []);
  }

  -- none can be written now, or memory ran out behind the call
  pub pending_by : (new : Turning) (result : Result (Unit {0}) Memory) → Continues trace_before trace_mid (λ t. Some (calls.Write number piece writes.Pending)) → new ≡ record old { kept = new.kept }
      → OnOk result (entries_of new.kept ≡ changed number (λ link. record link { writable = false }) (entries_of old.kept)) → OnOk result (IsSettled old.kept → IsSettled new.kept) → TakesStep passes.Writes number (known_of tells refuses count count) trace_before old result trace_mid new
  pending_by new (Ok done) written is entries settled =
      let change : IsChanged number (λ link. record link { writable = false }) old new = record { config = ap (λ (now : Turning). now.config) is; limits = ap (λ (now : Turning). now.limits) is; hub = ap (λ (now : Turning). now.hub) is; entries = entries; settled = settled } in
      pending new written change
  pending_by new (Err memory) written is entries settled = unsettled writes.Pending new written
