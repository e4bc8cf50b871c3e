-- A link that fails is closed.
use Rattle.std.proofs.Common.{◌≡◌, ℕ, Bool, true, false, List, [], ◌∷◌, Option, refl, ap, subst, ◌∙◌}
use Rattle.std.proofs.lemmas.Bool.{and_parts}
use Rattle.mesh_links.specs.declared.call.LinkCall.{LinkCall}
use Rattle.mesh_links.specs.declared.call.LinkCall.TheVariants as calls
use Rattle.mesh_links.specs.declared.call.ReadGot.{ReadGot}
use Rattle.mesh_links.specs.declared.call.ReadGot.TheVariants as reads
use Rattle.mesh_links.specs.declared.call.WriteGot.{WriteGot}
use Rattle.mesh_links.specs.declared.call.WriteGot.TheVariants as writes
use Rattle.request_sim.specs.declared.fault.SimFault.{SimFault}
use Rattle.session_core.specs.Outboxes.{head}
use Rattle.serve_rules.specs.FedLines.{FedRow}
use Rattle.serve_rules.specs.Batches.{Serving}
use Rattle.serve_rules.specs.LinkStates.{LinkState, closed, closing, may_read, may_write, admits, read_to, read_feeds, write_to}
use Rattle.serve_rules.specs.Turns.{ReadIf, WriteIf, room}
use Rattle.serve_rules.specs.LinkFailures.{IsClosedAlone, FailedReadCloses, FailedWriteCloses}

nothing_made : (call : LinkCall) (rest : List LinkCall) → call ∷ rest ≡ [] → ⊥
nothing_made call rest h = cc

closing_is : (s : LinkState) → s.is_open ≡ true → closing s (closed s) ≡ calls.Close s.number ∷ []
closing_is s i = rw i refl

got_failed : (n m : ℕ) (got : ReadGot) (rest more : List LinkCall) → calls.Read n room reads.Failed ∷ rest ≡ calls.Read m room got ∷ more → (reads.Failed ≡ got) × (rest ≡ more)
got_failed n m got rest more h = (cc, cc)

wrote_failed : (n m : ℕ) (piece other : List ℕ) (got : WriteGot) (rest more : List LinkCall) → calls.Write n piece writes.Failed ∷ rest ≡ calls.Write m other got ∷ more → (writes.Failed ≡ got) × (rest ≡ more)
wrote_failed n m piece other got rest more h = (cc, cc)

read_fails : (serving : Serving) (a : Bool) (met : ℕ → Option SimFault) (fed : List FedRow) (s : LinkState) (got : ReadGot) → reads.Failed ≡ got → (read_to serving a met fed s got ≡ closed s) × (read_feeds serving a met fed s got ≡ fed)
unfolding read_to read_feeds
read_fails serving a met fed s got e = subst (λ g. (read_to serving a met fed s g ≡ closed s) × (read_feeds serving a met fed s g ≡ fed)) e (refl, refl)

write_fails : (serving : Serving) (s : LinkState) (got : WriteGot) → writes.Failed ≡ got → write_to serving s got ≡ closed s
unfolding write_to
write_fails serving s got e = subst (λ g. write_to serving s g ≡ closed s) e refl

read_closes : (b : Bool) (serving : Serving) (strict : Bool) (others : List LinkState) (fed : List FedRow) (s : LinkState) (rest : List LinkCall) (now : List FedRow) (t : LinkState) → (b ≡ true → s.is_open ≡ true) → ReadIf b serving strict others fed s (calls.Read s.number room reads.Failed ∷ rest) now t → IsClosedAlone fed s rest now t
read_closes true serving strict others fed s rest now t i h =
    let e = got_failed s.number s.number h.got rest (closing s t) h.calls in
    let a = admits serving others s.bytes h.got in
    let same = read_fails serving a h.met fed s h.got e.0 in
    let link : t ≡ closed s = h.link ∙ same.0 in
    record { closes = e.1 ∙ ap (closing s) link ∙ closing_is s (i refl); fed_now = h.fed_now ∙ same.1; link = link }
read_closes false serving strict others fed s rest now t i h = absurd (nothing_made _ _ h.calls)

write_closes : (b : Bool) (serving : Serving) (others : List LinkState) (fed : List FedRow) (s : LinkState) (rest : List LinkCall) (now : List FedRow) (t : LinkState) → (b ≡ true → s.is_open ≡ true) → WriteIf b serving others fed s (calls.Write s.number (head s.outbox) writes.Failed ∷ rest) now t → IsClosedAlone fed s rest now t
write_closes true serving others fed s rest now t i h =
    let e = wrote_failed s.number s.number (head s.outbox) (head s.outbox) h.got rest (closing s t) h.calls in
    let link : t ≡ closed s = h.link ∙ write_fails serving s h.got e.0 in
    record { closes = e.1 ∙ ap (closing s) link ∙ closing_is s (i refl); fed_now = h.fed_now; link = link }
write_closes false serving others fed s rest now t i h = absurd (nothing_made _ _ h.calls)

pub failed_read_closes : FailedReadCloses
failed_read_closes serving strict others fed s rest now t h = read_closes (may_read serving s) serving strict others fed s rest now t (λ m. (and_parts _ _ m).0) h

pub failed_write_closes : FailedWriteCloses
failed_write_closes serving others fed s rest now t h = write_closes (may_write s) serving others fed s rest now t (λ m. (and_parts _ _ m).0) h
