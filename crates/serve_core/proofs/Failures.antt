-- A link whose read or write fails is closed by the next call.
use Rattle.std.proofs.Common.{◌≡◌, ℕ, Bool, true, false, List, [], ◌∷◌, ◌++◌, Option, Some, None, refl, sym, ap, subst}
use Rattle.std.proofs.lemmas.List.Concat.{flat_map-cons}
use Rattle.mesh_links.specs.declared.call.LinkCall.{LinkCall}
use Rattle.mesh_links.specs.declared.call.LinkCall.TheVariants as calls
use Rattle.mesh_links.specs.declared.call.ReadGot.{ReadGot}
use Rattle.mesh_links.specs.declared.call.ReadGot.TheVariants as reads
use Rattle.mesh_links.specs.declared.call.WriteGot.{WriteGot}
use Rattle.mesh_links.specs.declared.call.WriteGot.TheVariants as writes
use Rattle.session_core.specs.Outboxes.{head}
use Rattle.serve_rules.specs.Batches.{Serving}
use Rattle.serve_rules.specs.FedLines.{FedRow}
use Rattle.serve_rules.specs.LinkFailures.{FailedReadCloses, FailedWriteCloses}
use Rattle.serve_rules.specs.LinkStates.{LinkState, closing, may_read, may_write}
use Rattle.serve_rules.specs.Traces.{AreTurns, opened, trace_of}
use Rattle.serve_rules.specs.Turns.{ReadIf, Turn, WriteIf, calls_of, room}
use Rattle.serve_core.specs.Laws.{ClosesNext, FailuresClose, failed_link}
use Rattle.serve_core.proofs.MadeCalls.{OfSteps, of_closing, of_turn}

next_still : (link : Option ℕ) (more later : List LinkCall) → ClosesNext link more → ClosesNext link (more ++ later)
next_still None more later next = tt
next_still (Some n) more later next = (next.0 ++ later, ap (λ calls. calls ++ later) next.1)

close_then : (xs ys : List LinkCall) → FailuresClose xs → FailuresClose ys → FailuresClose (xs ++ ys)
close_then [] ys first second = second
close_then (call ∷ xs) ys first second = (next_still (failed_link call) xs ys first.0, close_then xs ys first.1 second)

module _ (serving : Serving) (reads_close : FailedReadCloses) (writes_close : FailedWriteCloses) where
  module _ (others : List LinkState) (fed : List FedRow) (s : LinkState) (now : List FedRow) (t : LinkState) where
    after_closing : FailuresClose (closing s t)
    after_closing = of_closing FailuresClose tt (λ n. (tt, tt)) s t

    read_got : (got : ReadGot) → ReadIf (may_read serving s) serving false others fed s (calls.Read s.number room got ∷ closing s t) now t → FailuresClose (calls.Read s.number room got ∷ closing s t)
    read_got (reads.Bytes piece) step = (tt, after_closing)
    read_got reads.Pending step = (tt, after_closing)
    read_got reads.Failed step = (([], (reads_close serving false others fed s (closing s t) now t step).closes), after_closing)

    write_got : (got : WriteGot) → WriteIf (may_write s) serving others fed s (calls.Write s.number (head s.outbox) got ∷ closing s t) now t → FailuresClose (calls.Write s.number (head s.outbox) got ∷ closing s t)
    write_got (writes.Took n) step = (tt, after_closing)
    write_got writes.Pending step = (tt, after_closing)
    write_got writes.Failed step = (([], (writes_close serving others fed s (closing s t) now t step).closes), after_closing)

    read_by : (made : List LinkCall) (b : Bool) → may_read serving s ≡ b → ReadIf b serving false others fed s made now t → FailuresClose made
    read_by made true may step =
        let P : Bool → List LinkCall → Type 0 = λ c calls. ReadIf c serving false others fed s calls now t in
        subst FailuresClose (sym step.calls) (read_got step.got (subst (λ c. P c (calls.Read s.number room step.got ∷ closing s t)) (sym may) (subst (P true) step.calls step)))
    read_by made false may step = subst FailuresClose (sym step.calls) tt

    write_by : (made : List LinkCall) (b : Bool) → may_write s ≡ b → WriteIf b serving others fed s made now t → FailuresClose made
    write_by made true may step =
        let P : Bool → List LinkCall → Type 0 = λ c calls. WriteIf c serving others fed s calls now t in
        subst FailuresClose (sym step.calls) (write_got step.got (subst (λ c. P c (calls.Write s.number (head s.outbox) step.got ∷ closing s t)) (sym may) (subst (P true) step.calls step)))
    write_by made false may step = subst FailuresClose (sym step.calls) tt

  failures_close : OfSteps serving FailuresClose
  failures_close = record {
    none = tt;
    both = close_then;
    close = λ n. (tt, tt);
    read = λ others fed s made now t step. read_by others fed s now t made (may_read serving s) refl step;
    write = λ others fed s made now t step. write_by others fed s now t made (may_write s) refl step;
  }

  pub trace_closes : (fed : List FedRow) (before : List LinkState) (turns : List Turn) → AreTurns serving false fed before turns → FailuresClose (trace_of turns)
  trace_closes fed before [] are = tt
  trace_closes fed before (r ∷ turns) are =
      subst FailuresClose (sym (flat_map-cons calls_of r turns))
      (close_then (calls_of r) (trace_of turns) (tt, of_turn serving FailuresClose failures_close r.shown fed before r.made r.fed r.links are.0) (trace_closes r.fed (opened r.links) turns are.1))
