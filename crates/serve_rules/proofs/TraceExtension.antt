-- How a turn extends a trace.
use Rattle.std.proofs.Common.{◌≡◌, ℕ, Bool, true, false, List, [], ◌∷◌, ◌++◌, Option, refl, sym, ap, subst, ◌∙◌, append_assoc}
use Rattle.std.proofs.lemmas.List.{append-nil}
use Rattle.std.proofs.lemmas.List.Concat.{flat_map-cons}
use Rattle.std.proofs.lemmas.Grind.{flat_map-append}
use Rattle.mesh_links.specs.declared.call.LinkCall.{LinkCall}
use Rattle.serve_rules.specs.FedLines.{FedRow}
use Rattle.serve_rules.specs.Batches.{Serving}
use Rattle.serve_rules.specs.LinkStates.{LinkState}
use Rattle.serve_rules.specs.Turns.{Turn, IsTurn, calls_of}
use Rattle.serve_rules.specs.Traces.{Leads, AreTurns, WaitRightly, fed_in, links_in, opened, trace_of, waits}
use Rattle.serve_rules.specs.TraceExtension.{BeginsWithNothing, CutExtends, TurnExtends}

turns_last : (serving : Serving) (fed : List FedRow) (before : List LinkState) (rounds : List Turn) (r : Turn) → AreTurns serving false fed before rounds → IsTurn serving false (fed_in fed rounds) (links_in before rounds) r → AreTurns serving false fed before (rounds ++ r ∷ [])
turns_last serving fed before [] r h t = (t, tt)
turns_last serving fed before (x ∷ rounds) r h t = (h.0, turns_last serving x.fed (opened x.links) rounds r h.1 t)

waits_last : (serving : Serving) (fed : List FedRow) (before : List LinkState) (rounds : List Turn) (r : Turn) → WaitRightly serving fed before rounds → r.waited ≡ waits serving (fed_in fed rounds) (links_in before rounds) → WaitRightly serving fed before (rounds ++ r ∷ [])
waits_last serving fed before [] r h w = (w, tt)
waits_last serving fed before (x ∷ rounds) r h w = (h.0, waits_last serving x.fed (opened x.links) rounds r h.1 w)

fed_last : (fed : List FedRow) (rounds : List Turn) (r : Turn) → fed_in fed (rounds ++ r ∷ []) ≡ r.fed
fed_last fed [] r = refl
fed_last fed (x ∷ rounds) r = fed_last x.fed rounds r

links_last : (before : List LinkState) (rounds : List Turn) (r : Turn) → links_in before (rounds ++ r ∷ []) ≡ opened r.links
links_last before [] r = refl
links_last before (x ∷ rounds) r = links_last (opened x.links) rounds r

one_trace : (r : Turn) → trace_of (r ∷ []) ≡ calls_of r
one_trace r = flat_map-cons calls_of r [] ∙ append-nil (calls_of r)

leads_on : (serving : Serving) (fed : List FedRow) (before : List LinkState) (trace : List LinkCall) (now : List FedRow) (links : List LinkState) (r : Turn) → Leads serving fed before trace now links → IsTurn serving false now links r → r.waited ≡ waits serving now links → Leads serving fed before (trace ++ calls_of r) r.fed (opened r.links)
leads_on serving fed before trace now links r h t w =
    let P : List FedRow → List LinkState → Type 0 = λ g ls. IsTurn serving false g ls r in
    let W : List FedRow → List LinkState → Type 0 = λ g ls. r.waited ≡ waits serving g ls in
    record {
      rounds = h.rounds ++ r ∷ [];
      turns = turns_last serving fed before h.rounds r h.turns (subst (λ ls. P (fed_in fed h.rounds) ls) h.links_are (subst (λ g. P g links) h.fed_is t));
      wait = waits_last serving fed before h.rounds r h.wait (subst (λ ls. W (fed_in fed h.rounds) ls) h.links_are (subst (λ g. W g links) h.fed_is w));
      trace_is = ap (λ z. z ++ calls_of r) h.trace_is ∙ ap (λ z. trace_of h.rounds ++ z) (sym (one_trace r)) ∙ sym (flat_map-append calls_of h.rounds (r ∷ []));
      fed_is = sym (fed_last fed h.rounds r);
      links_are = sym (links_last before h.rounds r);
    }

leads_nowhere : (serving : Serving) (fed : List FedRow) (links : List LinkState) → Leads serving fed links [] fed links
leads_nowhere serving fed links = record { rounds = []; turns = tt; wait = tt; trace_is = refl; fed_is = refl; links_are = refl }

pub begins_with_nothing : BeginsWithNothing
begins_with_nothing serving facts = record { leads = leads_nowhere serving [] []; fair = tt }

pub turn_extends : TurnExtends
turn_extends serving facts trace fed links r s n = record { leads = leads_on serving [] [] trace fed links r s.leads n.turn n.wait; fair = n.fair }

pub cut_extends : CutExtends
cut_extends serving facts trace fed links r part more s n e =
    let one = leads_on serving fed links [] fed links r (leads_nowhere serving fed links) n.turn n.wait in
    record {
      whole = trace;
      part = part;
      more = more;
      now = fed;
      after = links;
      last_fed = r.fed;
      last_links = opened r.links;
      trace_is = refl;
      leads = s.leads;
      last = subst (λ z. Leads serving fed links z r.fed (opened r.links)) e one;
      fair = n.fair;
    }
