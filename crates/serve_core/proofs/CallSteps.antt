-- Calls on links, one after another.
use Rattle.std.proofs.Common.{◌≡◌, inl, inr, ◌<◌, ◌≤◌, ◌^◌, ℕ, Bool, true, false, List, [], ◌∷◌, ◌++◌, Option, Some, None, Ok, Err, if◌then◌else◌, refl, sym, ap, ◌∙◌, subst, arith}
use Rattle.std.proofs.lemmas.List.{append_assoc, append-nil}
use Rattle.mesh_links.specs.Calls.{Continues, close_made, is_open_in, with_call}
use Rattle.mesh_links.specs.Counts.{Counts, NoneFalls}
use Rattle.mesh_links.specs.declared.call.LinkCall.{LinkCall}
use Rattle.mesh_links.specs.declared.call.LinkCall.TheVariants as calls
use Rattle.mesh_links.specs.declared.call.ReadGot.{ReadGot}
use Rattle.mesh_links.specs.declared.call.WriteGot.{WriteGot}
use Rattle.mesh_links.specs.declared.links.Links.{Ghosts}
use Rattle.serve_rules.specs.Turns.{room}
use Rattle.serve_core.specs.TurnCalls.{AllGoing, Calls, AllCloses, Each, Growth, Grows, IsTurn, MayClose, Nothing, One, PassesOver, PollShape, Shape, Then, TurnShape, Visit, Visits, VisitsBelow}
use Rattle.serve_core.specs.declared.server.ServeFault.{ServeFault}
use Rattle.serve_core.specs.declared.server.ServeFault.TheVariants as faults
use Rattle.serve_core.specs.declared.server.Turn.TheVariants as turns
use Rattle.serve_core.specs.declared.turning.Pass.TheVariants as passes

-- ---- counts

pub falls_here : (counts : Counts) → NoneFalls counts counts
falls_here counts = record { polls = omega arith; faults = λ link. omega arith; pendings = λ link. omega arith }

le_then : (a b c : ℕ) → a ≤ b → b ≤ c → a ≤ c
le_then a b c le further = omega arith

pub falls_then : {old mid new : Counts} → NoneFalls old mid → NoneFalls mid new → NoneFalls old new
falls_then {old} {mid} {new} a b = record {
  polls = le_then old.polls mid.polls new.polls a.polls b.polls;
  faults = λ link. le_then (old.faults link) (mid.faults link) (new.faults link) (a.faults link) (b.faults link);
  pendings = λ link. le_then (old.pendings link) (mid.pendings link) (new.pendings link) (a.pendings link) (b.pendings link);
}

-- ---- traces

pub grows_then : {first second : Shape} {old mid new : Option (List LinkCall)} → Grows first old mid → Grows second mid new → Grows (Then first second) old new
grows_then a b trace told =
    let one = a trace told in
    let two = b (trace ++ one.made) one.grew in
    record { made = one.made ++ two.made; grew = two.grew ∙ ap Some (append_assoc trace one.made two.made); is = (one.made, two.made, refl, one.is, two.is) }

pub grows_as : {first second : Shape} {old new : Option (List LinkCall)} → ((made : List LinkCall) → first made → second made) → Grows first old new → Grows second old new
grows_as turn a trace told = let one = a trace told in record { made = one.made; grew = one.grew; is = turn one.made one.is }

pub grows_none : (told : Option (List LinkCall)) → Grows Nothing told told
grows_none told trace is = record { made = []; grew = is ∙ ap Some (sym (append-nil trace)); is = refl }

call_nil : (trace : List LinkCall) (now : Option (List LinkCall)) → now ≡ Some trace → now ≡ Some (trace ++ [])
call_nil trace now e = e ∙ ap Some (sym (append-nil trace))

close_by : (link : ℕ) (trace : List LinkCall) (is_open : Bool) (now : Option (List LinkCall)) → now ≡ Some (with_call trace (if is_open then Some (calls.Close link) else None)) → Growth (MayClose link) trace now
close_by link trace true now e = record { made = calls.Close link ∷ []; grew = e; is = inr refl }
close_by link trace false now e = record { made = []; grew = call_nil trace now e; is = inl refl }

closes_new : (link : ℕ) (made : List LinkCall) → MayClose link made → AllCloses made
closes_new link made (inl none) = subst AllCloses (sym none) tt
closes_new link made (inr one) = subst AllCloses (sym one) ((link, refl), tt)

closes_both : (before after : List LinkCall) → AllCloses before → AllCloses after → AllCloses (before ++ after)
closes_both [] after first second = second
closes_both (call ∷ before) after first second = (first.0, closes_both before after first.1 second)

closes_joined : (made : List LinkCall) → Then AllCloses AllCloses made → AllCloses made
closes_joined made (before, after, are, first, second) = subst AllCloses (sym are) (closes_both before after first second)

-- a call whose answer is this fault
pub at_fault : {F : Type 0} (made : F → Option LinkCall) (old new : Option (List LinkCall)) (fault known : F) → fault ≡ known → Continues old new (λ trace. made fault) → Continues old new (λ trace. made known)
at_fault made old new fault known is traced = subst (λ fault. Continues old new (λ trace. made fault)) is traced

pub poll_ends : (fault : ServeFault) (made : List LinkCall) → PollShape (Err fault) made → TurnShape (Err fault) made
poll_ends faults.Links made is = is
poll_ends faults.Memory made none = inl none

module _ {S : Type 0} (N : Ghosts S) where
  pub none_made : (links : S) → Calls N Nothing links links
  none_made links = record { grows = grows_none (N.trace links); counts = falls_here (N.counts links) }

  pub none_at : (old new : S) → Continues (N.trace old) (N.trace new) (λ trace. None) → NoneFalls (N.counts old) (N.counts new) → Calls N Nothing old new
  none_at old new traced falls = record { grows = λ trace told. record { made = []; grew = call_nil trace (N.trace new) (traced trace told); is = refl }; counts = falls }

  pub one_made : (old new : S) (call : LinkCall) → Continues (N.trace old) (N.trace new) (λ trace. Some call) → NoneFalls (N.counts old) (N.counts new) → Calls N (One call) old new
  one_made old new call traced falls = record { grows = λ trace told. record { made = call ∷ []; grew = traced trace told; is = refl }; counts = falls }

  pub may_close : (old new : S) (link : ℕ) → Continues (N.trace old) (N.trace new) (λ trace. close_made trace link) → NoneFalls (N.counts old) (N.counts new) → Calls N (MayClose link) old new
  may_close old new link traced falls = record { grows = λ trace told. close_by link trace (is_open_in trace link) (N.trace new) (traced trace told); counts = falls }

  pub made_then : {first second : Shape} (old mid new : S) → Calls N first old mid → Calls N second mid new → Calls N (Then first second) old new
  made_then old mid new a b = record { grows = grows_then a.grows b.grows; counts = falls_then a.counts b.counts }

  pub made_as : {first second : Shape} (old new : S) → ((made : List LinkCall) → first made → second made) → Calls N first old new → Calls N second old new
  made_as old new turn a = record { grows = grows_as turn a.grows; counts = a.counts }

  pub no_close : (links : S) (link : ℕ) → Calls N (MayClose link) links links
  no_close links link = made_as links links (λ made none. inl none) (none_made links)

  -- ---- new links

  pub no_new : (links : S) → Calls N AllCloses links links
  no_new links = made_as links links (λ made none. subst AllCloses (sym none) tt) (none_made links)

  pub new_close : (old new : S) (link : ℕ) → Calls N (MayClose link) old new → Calls N AllCloses old new
  new_close old new link a = made_as old new (closes_new link) a

  pub new_closes : (old mid new : S) → Calls N AllCloses old mid → Calls N AllCloses mid new → Calls N AllCloses old new
  new_closes old mid new a b = made_as old new closes_joined (made_then old mid new a b)

  -- ---- one link

  pub read_then : (old mid new : S) (link : ℕ) (got : ReadGot) → Continues (N.trace old) (N.trace mid) (λ trace. Some (calls.Read link room got)) → NoneFalls (N.counts old) (N.counts mid) → Calls N (MayClose link) mid new
      → Calls N (Visit passes.Reads link) old new
  read_then old mid new link got traced falls closes = made_as old new (λ made is. inr is) (made_then old mid new (made_as old mid (λ made one. (got, one)) (one_made old mid (calls.Read link room got) traced falls)) closes)

  pub write_then : (old mid new : S) (link : ℕ) (piece : List ℕ) (got : WriteGot) → Continues (N.trace old) (N.trace mid) (λ trace. Some (calls.Write link piece got)) → NoneFalls (N.counts old) (N.counts mid) → Calls N (MayClose link) mid new
      → Calls N (Visit passes.Writes link) old new
  write_then old mid new link piece got traced falls closes = made_as old new (λ made is. inr is) (made_then old mid new (made_as old mid (λ made one. (piece, got, one)) (one_made old mid (calls.Write link piece got) traced falls)) closes)

  pub not_read : (old new : S) (link : ℕ) → Continues (N.trace old) (N.trace new) (λ trace. None) → NoneFalls (N.counts old) (N.counts new) → Calls N (Visit passes.Reads link) old new
  not_read old new link traced falls = made_as old new (λ made none. inl none) (none_at old new traced falls)

  pub not_written : (old new : S) (link : ℕ) → Continues (N.trace old) (N.trace new) (λ trace. None) → NoneFalls (N.counts old) (N.counts new) → Calls N (Visit passes.Writes link) old new
  not_written old new link traced falls = made_as old new (λ made none. inl none) (none_at old new traced falls)

  -- ---- each link

  below_then : (n below above : ℕ) → n < below → below ≤ above → n < above
  below_then n below above lt le = omega arith

  visits_below : (visit : ℕ → Shape) (below above : ℕ) (visits : List (ℕ × List LinkCall)) (made : List LinkCall) → below ≤ above → Visits visit below visits made → Visits visit above visits made
  visits_below visit below above [] made le is = is
  visits_below visit below above (last ∷ before) made le is = (below_then last.0 below above is.0 le, is.1, is.2, is.3, is.4)

  pub none_visited : (links : S) (visit : ℕ → Shape) (below : ℕ) → Calls N (VisitsBelow visit below) links links
  none_visited links visit below = made_as links links (λ made none. ([], none)) (none_made links)

  pub visited : (old mid new : S) (visit : ℕ → Shape) (from link above : ℕ) → from ≤ link → link < above → Calls N (VisitsBelow visit from) old mid → Calls N (visit link) mid new → Calls N (VisitsBelow visit above) old new
  visited old mid new visit from link above le below before last =
      made_as old new (λ made is. joined made is) (made_then old mid new before last)
    where
      joined : (made : List LinkCall) → Then (VisitsBelow visit from) (visit link) made → VisitsBelow visit above made
      joined made (first, second, are, visits, one) = ((link, second) ∷ visits.0, (below, one, first, are, visits_below visit from link visits.0 first le visits.1))

  pub passed : (old new : S) (visit : ℕ → Shape) (below : ℕ) → below ≤ 2 ^ 32 → Calls N (VisitsBelow visit below) old new → Calls N (Each visit) old new
  passed old new visit below le before = made_as old new (λ made is. (is.0, visits_below visit below (2 ^ 32) is.0 made le is.1)) before

  pub none_passed : (links : S) (visit : ℕ → Shape) → Calls N (Each visit) links links
  none_passed links visit = none_visited links visit (2 ^ 32)

  pub no_passes : (links : S) → Calls N PassesOver links links
  no_passes links = made_then links links links (none_passed links (Visit passes.Reads)) (made_then links links links (none_passed links (Visit passes.Drains)) (none_passed links (Visit passes.Writes)))

  -- ---- a turn

  pub no_turn : (links : S) → Calls N (TurnShape (Err faults.Memory)) links links
  no_turn links = made_as links links (λ made none. inl none) (none_made links)

  -- ---- turns

  pub none_going : (links : S) → Calls N AllGoing links links
  none_going links = made_as links links (λ made none. ([], none)) (none_made links)

  pub goes_further : (old mid new : S) → Calls N AllGoing old mid → Calls N (TurnShape (Ok turns.Going)) mid new → Calls N AllGoing old new
  goes_further old mid new before turn =
      made_as old new (λ made is. joined made is) (made_then old mid new before turn)
    where
      joined : (made : List LinkCall) → Then AllGoing (IsTurn (Ok turns.Going)) made → AllGoing made
      joined made (first, second, are, going, turn) = (second ∷ going.0, (turn, first, are, going.1))
