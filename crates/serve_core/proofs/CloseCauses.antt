-- A link is closed exactly for its causes.
use Rattle.std.proofs.Common.{◌≡◌, ◌&&◌, ◌||◌, not, ℕ, Bool, true, false, if◌then◌else◌, List, [], ◌∷◌, ◌++◌, Option, Some, None, refl, sym, ap, ◌∙◌, subst}
use Rattle.std.specs.Prelude.{is_ok, is_some}
use Rattle.mesh_links.specs.declared.call.LinkCall.{LinkCall}
use Rattle.mesh_links.specs.declared.call.LinkCall.TheVariants as calls
use Rattle.mesh_links.specs.declared.call.ReadGot.{ReadGot}
use Rattle.mesh_links.specs.declared.call.ReadGot.TheVariants as reads
use Rattle.mesh_links.specs.declared.call.WriteGot.{WriteGot}
use Rattle.mesh_links.specs.declared.call.WriteGot.TheVariants as writes
use Rattle.view_types.specs.declared.query.Query.{Query}
use Rattle.request_sim.specs.declared.fault.SimFault.{SimFault}
use Rattle.serve_rules.specs.Batches.{Serving, frames_due}
use Rattle.serve_rules.specs.FedLines.{FedRow}
use Rattle.serve_rules.specs.LinkStates.{LinkState, admits, closed, drain_to, filled, filled_for, is_empty, is_feed, may_drain, phase_in, query_of, read_to, write_to}
use Rattle.serve_core.specs.CloseCauses.{ClosesIf, EachCloseHasItsCause, drain_closes, is_too_long, read_closes, write_closes}

-- ---- tests

stays_unless : (ok ended feed none : Bool) → (ok && (not ended || (feed && not none))) ≡ not (not ok || (ended && (not feed || none)))
stays_unless false ended feed none = refl
stays_unless true false feed none = refl
stays_unless true true false none = refl
stays_unless true true true true = refl
stays_unless true true true false = refl

closes_by : (cause : Bool) (s t : LinkState) → s.is_open ≡ true → t.is_open ≡ not cause → ClosesIf cause s t
closes_by cause s t was now = record { is_open = now; close = by cause now }
  where
    by : (c : Bool) → t.is_open ≡ not c → (if s.is_open && not t.is_open then calls.Close s.number ∷ [] else []) ≡ (if c then calls.Close s.number ∷ [] else [])
    by true is = rw (was, is) refl
    by false is = rw (was, is) refl

-- ---- steps

module _ (serving : Serving) where
  read_open : (admitted : Bool) (met : ℕ → Option SimFault) (fed : List FedRow) (s : LinkState) (piece : List ℕ) → let t = read_to serving admitted met fed s (reads.Bytes piece) in
      t.is_open ≡ not (not admitted || (not (is_ok (phase_in serving (s.bytes ++ piece))) || (t.ended && (not (is_feed serving t.bytes) || is_empty t.outbox))))
  unfolding read_to
  read_open true met fed s piece = stays_unless (is_ok (phase_in serving (s.bytes ++ piece))) (is_empty piece) (is_feed serving (s.bytes ++ piece)) _
  read_open false met fed s piece = refl

  read_is : (others : List LinkState) (met : ℕ → Option SimFault) (fed : List FedRow) (s : LinkState) (got : ReadGot) → s.is_open ≡ true → let t = read_to serving (admits serving others s.bytes got) met fed s got in t.is_open ≡ not (read_closes serving others s got t)
  unfolding read_to
  read_is others met fed s (reads.Bytes piece) was = read_open (admits serving others s.bytes (reads.Bytes piece)) met fed s piece
  read_is others met fed s reads.Pending was = was
  read_is others met fed s reads.Failed was = refl

  filled_open : (fed : List FedRow) (s : LinkState) (frames : Option (List (List ℕ))) → s.is_open ≡ true → (filled fed s frames).is_open ≡ not (not (is_some frames))
  filled_open fed s None was = refl
  filled_open fed s (Some frames) was = was

  filled_for_open : (fed : List FedRow) (s : LinkState) (query : Option Query) → s.is_open ≡ true → (filled_for serving fed s query).is_open ≡ not (is_too_long serving fed s.drained query)
  filled_for_open fed s None was = was
  filled_for_open fed s (Some query) was = filled_open fed s (frames_due serving.program query s.drained fed) was

  drain_if : (b : Bool) (fed : List FedRow) (s : LinkState) → s.is_open ≡ true → (if b then filled_for serving fed s (query_of serving s.bytes) else s).is_open ≡ not (b && is_too_long serving fed s.drained (query_of serving s.bytes))
  drain_if true fed s was = filled_for_open fed s (query_of serving s.bytes) was
  drain_if false fed s was = was

  drain_is : (fed : List FedRow) (s : LinkState) → s.is_open ≡ true → (drain_to serving fed s).is_open ≡ not (drain_closes serving fed s)
  unfolding drain_to
  drain_is fed s was = drain_if (may_drain serving fed s) fed s was

  write_is : (s : LinkState) (got : WriteGot) → s.is_open ≡ true → let t = write_to serving s got in t.is_open ≡ not (write_closes serving s got t)
  unfolding write_to
  write_is s (writes.Took n) was = stays_unless (is_ok (phase_in serving s.bytes)) s.ended (is_feed serving s.bytes) _
  write_is s writes.Pending was = was
  write_is s writes.Failed was = refl

stop_is : (stopped : Bool) (s : LinkState) → s.is_open ≡ true → (if stopped then closed s else s).is_open ≡ not stopped
stop_is true s was = refl
stop_is false s was = was

pub each_close_has_its_cause : EachCloseHasItsCause
each_close_has_its_cause serving others fed s made now t was = record {
  read = λ step. closes_by (read_closes serving others s step.got t) s t was (subst (λ (x : LinkState). x.is_open ≡ not (read_closes serving others s step.got x)) (sym step.link) (read_is serving others step.met fed s step.got was));
  drain = λ step. closes_by (drain_closes serving fed s) s t was (ap (λ (x : LinkState). x.is_open) step.link ∙ drain_is serving fed s was);
  write = λ step. closes_by (write_closes serving s step.got t) s t was (subst (λ (x : LinkState). x.is_open ≡ not (write_closes serving s step.got x)) (sym step.link) (write_is serving s step.got was));
  stop = λ stopped step. closes_by stopped s t was (ap (λ (x : LinkState). x.is_open) step.link ∙ stop_is stopped s was);
}
