-- What holds of each kind of step, for leaving out a link.
use Rattle.std.proofs.Common.{◌≡◌, ℕ, zero, suc, ◌==◌, Bool, true, false, not, if◌then◌else◌, List, [], ◌∷◌, ◌++◌, length, drop, Option, Some, None, Result, Ok, Err, refl, sym, ap, ◌∙◌}
use Rattle.std.specs.Prelude.{◌&&◌}
use Rattle.std.proofs.lemmas.List.Concat.{flat_map-cons}
use Rattle.mesh_links.specs.declared.call.LinkCall.{LinkCall}
use Rattle.mesh_links.specs.declared.call.LinkCall.TheVariants as calls
use Rattle.mesh_links.specs.declared.call.ReadGot.{ReadGot}
use Rattle.mesh_links.specs.declared.call.ReadGot.TheVariants as reads
use Rattle.mesh_links.specs.declared.call.WriteGot.{WriteGot}
use Rattle.mesh_links.specs.declared.call.WriteGot.TheVariants as writes
use Rattle.view_types.specs.declared.query.Query.{Query}
use Rattle.request_sim.specs.declared.fault.SimFault.{SimFault}
use Rattle.session_core.specs.Phases.{Phase, Opening, Feeding, Asking, Asked, is_feeding, rows_in}
use Rattle.session_core.specs.declared.session.SessionFault.{SessionFault}
use Rattle.session_core.proofs.PhaseLaws.{no_feed_yet}
use Rattle.session_core.specs.Outboxes.{head}
use Rattle.serve_rules.specs.FedLines.{FedRow}
use Rattle.serve_rules.specs.Batches.{Serving, frames_due}
use Rattle.serve_rules.specs.LinkStates.{LinkState, is_feed, is_empty, phase_in, query_of, rows_by, fed_rows, came, fed_then, may_read, admits, read_to, read_feeds, filled, filled_for, drain_to, may_drain, may_write, write_to, closing, closed}
use Rattle.serve_rules.specs.Turns.{room, ReadIf, ReadStep, DrainStep, WriteIf, WriteStep, StopStep}
use Rattle.serve_rules.specs.LinkErasure.{without, call_without, calls_without}
use Rattle.serve_rules.proofs.ErasureSteps.{Own, Fair, admits_fewer}

-- ---- calls

pub calls-cons : (k : ℕ) (c : LinkCall) (cs : List LinkCall) → calls_without k (c ∷ cs) ≡ call_without k c ++ calls_without k cs
calls-cons k c cs = flat_map-cons (call_without k) c cs

close_dropped : (k : ℕ) (s t : LinkState) → (s.number == k) ≡ true → calls_without k (closing s t) ≡ []
close_dropped k s t e =
    let P : Bool → Type 0 = λ b. calls_without k (if b then calls.Close s.number ∷ [] else []) ≡ [] in
    let one : call_without k (calls.Close s.number) ++ [] ≡ [] = rw e refl in
    let at : (b : Bool) → P b = λ b. elim b as P [ true ↦ calls-cons k (calls.Close s.number) [] ∙ one | false ↦ refl ] in
    at (s.is_open && not t.is_open)

close_kept : (k : ℕ) (s t : LinkState) → (s.number == k) ≡ false → calls_without k (closing s t) ≡ closing s t
close_kept k s t e =
    let P : Bool → Type 0 = λ b. calls_without k (if b then calls.Close s.number ∷ [] else []) ≡ (if b then calls.Close s.number ∷ [] else []) in
    let one : call_without k (calls.Close s.number) ++ [] ≡ calls.Close s.number ∷ [] = rw e refl in
    let at : (b : Bool) → P b = λ b. elim b as P [ true ↦ calls-cons k (calls.Close s.number) [] ∙ one | false ↦ refl ] in
    at (s.is_open && not t.is_open)

own_close : (s t : LinkState) (made : List LinkCall) → t.number ≡ s.number → made ≡ closing s t → Own s made t
own_close s t made n e =
    record { number = n; dropped = λ k h. ap (calls_without k) e ∙ close_dropped k s t h; kept = λ k h. ap (calls_without k) e ∙ close_kept k s t h ∙ sym e }

own_none : (s t : LinkState) (made : List LinkCall) → t ≡ s → made ≡ [] → Own s made t
own_none s t made n e =
    record { number = ap (λ x. x.number) n; dropped = λ k h. ap (calls_without k) e; kept = λ k h. ap (calls_without k) e ∙ sym e }

-- a call on the link, and its close
own_call : (s t : LinkState) (call : LinkCall) (made : List LinkCall) → t.number ≡ s.number → ((k : ℕ) → call_without k call ≡ (if s.number == k then [] else call ∷ [])) → made ≡ call ∷ closing s t → Own s made t
own_call s t call made n about e =
    let gone : (k : ℕ) → (s.number == k) ≡ true → calls_without k (call ∷ closing s t) ≡ [] = λ k h.
    let one : call_without k call ≡ [] = about k ∙ rw h refl in
    calls-cons k call (closing s t) ∙ ap (λ z. z ++ calls_without k (closing s t)) one ∙ close_dropped k s t h in
    let stays : (k : ℕ) → (s.number == k) ≡ false → calls_without k (call ∷ closing s t) ≡ call ∷ closing s t = λ k h.
    let one : call_without k call ≡ call ∷ [] = about k ∙ rw h refl in
    calls-cons k call (closing s t) ∙ ap (λ z. z ++ calls_without k (closing s t)) one ∙ ap (λ z. call ∷ z) (close_kept k s t h) in
    record { number = n; dropped = λ k h. ap (calls_without k) e ∙ gone k h; kept = λ k h. ap (calls_without k) e ∙ stays k h ∙ sym e }

-- ---- reads

pub read_number : (serving : Serving) (a : Bool) (met : ℕ → Option SimFault) (fed : List FedRow) (s : LinkState) (got : ReadGot) → (read_to serving a met fed s got).number ≡ s.number
unfolding read_to
read_number serving true met fed s (reads.Bytes piece) = refl
read_number serving false met fed s (reads.Bytes piece) = refl
read_number serving a met fed s reads.Pending = refl
read_number serving a met fed s reads.Failed = refl

pub read_stays : (serving : Serving) (a : Bool) (met : ℕ → Option SimFault) (fed : List FedRow) (s : LinkState) (got : ReadGot) → is_feed serving (read_to serving a met fed s got).bytes ≡ false → is_feed serving s.bytes ≡ false
unfolding read_to
read_stays serving true met fed s (reads.Bytes piece) h = no_feed_yet serving.program.config serving.program.limits s.bytes piece h
read_stays serving false met fed s (reads.Bytes piece) h = no_feed_yet serving.program.config serving.program.limits s.bytes piece h
read_stays serving a met fed s reads.Pending h = h
read_stays serving a met fed s reads.Failed h = h

no_rows : (limit : ℕ) (ended : Bool) (phase : Result Phase SessionFault) → is_feeding phase ≡ false → rows_in limit ended phase ≡ []
no_rows limit ended (Ok Opening) h = refl
no_rows limit ended (Ok (Feeding text)) h = absurd cc
no_rows limit ended (Ok Asking) h = refl
no_rows limit ended (Ok (Asked query)) h = refl
no_rows limit ended (Err fault) h = refl

pub drop-none : {A : Type 0} (n : ℕ) → drop {A = A} n [] ≡ []
drop-none zero = refl
drop-none (suc n) = refl

pub none_came : (serving : Serving) (met : ℕ → Option SimFault) (s : LinkState) (piece : List ℕ) → is_feed serving (s.bytes ++ piece) ≡ false → came serving met s piece ≡ []
unfolding came
none_came serving met s piece h =
    let before = length (rows_by serving false s.bytes) in
    let none : drop before (rows_by serving (is_empty piece) (s.bytes ++ piece)) ≡ [] = ap (drop before) (no_rows serving.program.limits.line (is_empty piece) (phase_in serving (s.bytes ++ piece)) h) ∙ drop-none before in
    ap (fed_rows s.number met before) none

read_quiet : (serving : Serving) (a : Bool) (met : ℕ → Option SimFault) (fed : List FedRow) (s : LinkState) (got : ReadGot) → is_feed serving (read_to serving a met fed s got).bytes ≡ false → read_feeds serving a met fed s got ≡ fed
unfolding read_to read_feeds
read_quiet serving true met fed s (reads.Bytes piece) h = ap (fed_then fed) (none_came serving met s piece h)
read_quiet serving false met fed s (reads.Bytes piece) h = refl
read_quiet serving a met fed s reads.Pending h = refl
read_quiet serving a met fed s reads.Failed h = refl

read_own : (b : Bool) (serving : Serving) (others : List LinkState) (fed : List FedRow) (s : LinkState) (made : List LinkCall) (now : List FedRow) (t : LinkState) → ReadIf b serving true others fed s made now t → Own s made t
read_own true serving others fed s made now t h = own_call s t (calls.Read s.number room h.got) made (ap (λ x. x.number) h.link ∙ read_number serving _ h.met fed s h.got) (λ k. refl) h.calls
read_own false serving others fed s made now t h = own_none s t made h.link h.calls

read_fair : (b : Bool) (serving : Serving) (k : ℕ) (others : List LinkState) (fed : List FedRow) (s : LinkState) (made : List LinkCall) (now : List FedRow) (t : LinkState) → ReadIf b serving true others fed s made now t → ReadIf b serving true (without k others) fed s made now t
read_fair true serving k others fed s made now t h =
    let here = admits_fewer serving k others s.bytes h.got h.unmet in
    let same : admits serving others s.bytes h.got ≡ admits serving (without k others) s.bytes h.got = h.unmet ∙ sym here in
    record { got = h.got; met = h.met; calls = h.calls; fed_now = h.fed_now ∙ ap (λ a. read_feeds serving a h.met fed s h.got) same; link = h.link ∙ ap (λ a. read_to serving a h.met fed s h.got) same; unmet = here }
read_fair false serving k others fed s made now t h = h

read_quiets : (b : Bool) (serving : Serving) (others : List LinkState) (fed : List FedRow) (s : LinkState) (made : List LinkCall) (now : List FedRow) (t : LinkState) → ReadIf b serving true others fed s made now t → is_feed serving t.bytes ≡ false → now ≡ fed
read_quiets true serving others fed s made now t h n = h.fed_now ∙ read_quiet serving (admits serving others s.bytes h.got) h.met fed s h.got (sym (ap (λ x. is_feed serving x.bytes) h.link) ∙ n)
read_quiets false serving others fed s made now t h n = h.fed_now

read_stay : (b : Bool) (serving : Serving) (others : List LinkState) (fed : List FedRow) (s : LinkState) (made : List LinkCall) (now : List FedRow) (t : LinkState) → ReadIf b serving true others fed s made now t → is_feed serving t.bytes ≡ false → is_feed serving s.bytes ≡ false
read_stay true serving others fed s made now t h n = read_stays serving (admits serving others s.bytes h.got) h.met fed s h.got (sym (ap (λ x. is_feed serving x.bytes) h.link) ∙ n)
read_stay false serving others fed s made now t h n = sym (ap (λ x. is_feed serving x.bytes) h.link) ∙ n

pub fair_read : (serving : Serving) → Fair serving (ReadStep serving true)
fair_read serving = record {
  own = λ others fed s made now t h. read_own (may_read serving s) serving others fed s made now t h;
  fair = λ k others fed s made now t h. read_fair (may_read serving s) serving k others fed s made now t h;
  quiet = λ others fed s made now t h n. read_quiets (may_read serving s) serving others fed s made now t h n;
  stays = λ others fed s made now t h n. read_stay (may_read serving s) serving others fed s made now t h n;
}

-- ---- drains, writes and stops change no bytes

pub record Keeps (s t : LinkState) : Type 0 where
  pub number : t.number ≡ s.number
  pub bytes : t.bytes ≡ s.bytes

pub kept : (s : LinkState) → Keeps s s
kept s = record { number = refl; bytes = refl }

pub kept_if : (s : LinkState) (b : Bool) (x y : LinkState) → Keeps s x → Keeps s y → Keeps s (if b then x else y)
kept_if s true x y h k = h
kept_if s false x y h k = k

filled_keeps : (fed : List FedRow) (s : LinkState) (frames : Option (List (List ℕ))) → Keeps s (filled fed s frames)
filled_keeps fed s None = record { number = refl; bytes = refl }
filled_keeps fed s (Some frames) = record { number = refl; bytes = refl }

filled_for_keeps : (serving : Serving) (fed : List FedRow) (s : LinkState) (query : Option Query) → Keeps s (filled_for serving fed s query)
filled_for_keeps serving fed s None = kept s
filled_for_keeps serving fed s (Some query) = filled_keeps fed s (frames_due serving.program query s.drained fed)

pub drain_keeps : (serving : Serving) (fed : List FedRow) (s : LinkState) → Keeps s (drain_to serving fed s)
unfolding drain_to
drain_keeps serving fed s = kept_if s (may_drain serving fed s) (filled_for serving fed s (query_of serving s.bytes)) s (filled_for_keeps serving fed s (query_of serving s.bytes)) (kept s)

same_feed : (serving : Serving) (x y : LinkState) → x.bytes ≡ y.bytes → is_feed serving x.bytes ≡ false → is_feed serving y.bytes ≡ false
same_feed serving x y e n = sym (ap (is_feed serving) e) ∙ n

pub fair_drain : (serving : Serving) → Fair serving (DrainStep serving)
fair_drain serving = record {
  own = λ others fed s made now t h. own_close s t made (ap (λ x. x.number) h.link ∙ (drain_keeps serving fed s).number) h.calls;
  fair = λ k others fed s made now t h. h;
  quiet = λ others fed s made now t h n. h.fed_now;
  stays = λ others fed s made now t h n. same_feed serving t s (ap (λ x. x.bytes) h.link ∙ (drain_keeps serving fed s).bytes) n;
}

pub write_keeps : (serving : Serving) (s : LinkState) (got : WriteGot) → Keeps s (write_to serving s got)
unfolding write_to
write_keeps serving s (writes.Took n) = record { number = refl; bytes = refl }
write_keeps serving s writes.Pending = record { number = refl; bytes = refl }
write_keeps serving s writes.Failed = record { number = refl; bytes = refl }

write_own : (b : Bool) (serving : Serving) (others : List LinkState) (fed : List FedRow) (s : LinkState) (made : List LinkCall) (now : List FedRow) (t : LinkState) → WriteIf b serving others fed s made now t → Own s made t
write_own true serving others fed s made now t h = own_call s t (calls.Write s.number (head s.outbox) h.got) made (ap (λ x. x.number) h.link ∙ (write_keeps serving s h.got).number) (λ k. refl) h.calls
write_own false serving others fed s made now t h = own_none s t made h.link h.calls

write_fair : (b : Bool) (serving : Serving) (k : ℕ) (others : List LinkState) (fed : List FedRow) (s : LinkState) (made : List LinkCall) (now : List FedRow) (t : LinkState) → WriteIf b serving others fed s made now t → WriteIf b serving (without k others) fed s made now t
write_fair true serving k others fed s made now t h = h
write_fair false serving k others fed s made now t h = h

pub write_fed : (b : Bool) (serving : Serving) (others : List LinkState) (fed : List FedRow) (s : LinkState) (made : List LinkCall) (now : List FedRow) (t : LinkState) → WriteIf b serving others fed s made now t → now ≡ fed
write_fed true serving others fed s made now t h = h.fed_now
write_fed false serving others fed s made now t h = h.fed_now

pub write_bytes : (b : Bool) (serving : Serving) (others : List LinkState) (fed : List FedRow) (s : LinkState) (made : List LinkCall) (now : List FedRow) (t : LinkState) → WriteIf b serving others fed s made now t → t.bytes ≡ s.bytes
write_bytes true serving others fed s made now t h = ap (λ x. x.bytes) h.link ∙ (write_keeps serving s h.got).bytes
write_bytes false serving others fed s made now t h = ap (λ x. x.bytes) h.link

pub fair_write : (serving : Serving) → Fair serving (WriteStep serving)
fair_write serving = record {
  own = λ others fed s made now t h. write_own (may_write s) serving others fed s made now t h;
  fair = λ k others fed s made now t h. write_fair (may_write s) serving k others fed s made now t h;
  quiet = λ others fed s made now t h n. write_fed (may_write s) serving others fed s made now t h;
  stays = λ others fed s made now t h n. same_feed serving t s (write_bytes (may_write s) serving others fed s made now t h) n;
}

pub stop_keeps : (stopped : Bool) (s : LinkState) → Keeps s (if stopped then closed s else s)
stop_keeps stopped s = kept_if s stopped (closed s) s (record { number = refl; bytes = refl }) (kept s)

pub fair_stop : (serving : Serving) (stopped : Bool) → Fair serving (StopStep stopped)
fair_stop serving stopped = record {
  own = λ others fed s made now t h. own_close s t made (ap (λ x. x.number) h.link ∙ (stop_keeps stopped s).number) h.calls;
  fair = λ k others fed s made now t h. h;
  quiet = λ others fed s made now t h n. h.fed_now;
  stays = λ others fed s made now t h n. same_feed serving t s (ap (λ x. x.bytes) h.link ∙ (stop_keeps stopped s).bytes) n;
}
