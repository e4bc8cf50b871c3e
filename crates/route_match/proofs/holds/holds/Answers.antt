use Rattle.std.proofs.Common.{◌≡◌, ℕ, Bool, List, true, sym, ap, subst, ◌∙◌}
use Rattle.std.specs.List.{list_all}
use Rattle.view_types.specs.declared.route.NameMatch.{NameMatch}
use Rattle.route_match.specs.Matching.{header_holds, hosts_hold, is_method, parts_of, path_holds, query_holds}
use Rattle.mesh_outside.specs.declared.patterns.Patterns.{Ghosts}
use Rattle.route_match.specs.Asking.{RefusesAt, facts_of, value_pattern}
use Rattle.route_match.proofs.Asks.{Untouched, after, answered_after, facts_still, further, header_refused, no_fault, path_refused, query_refused, untouched}
use Rattle.route_match.proofs.Parts.{told_last}
use Rattle.route_match.proofs.holds.holds.Goals as goal

-- what was asked of copies of lists was asked of them
module _ {S : Type 0} {P : Ghosts S} {old mid : S} (u : Untouched P old mid) {wanted given : List NameMatch} (same : given ≡ wanted) where
  of_headers : {headers given_headers : List (List ℕ × List ℕ)} → given_headers ≡ headers → RefusesAt (facts_of P mid) value_pattern (λ pat. header_holds pat given_headers) given
      → RefusesAt (facts_of P old) value_pattern (λ pat. header_holds pat headers) wanted
  of_headers {headers} is at =
      facts_still u (λ facts. RefusesAt facts value_pattern (λ pat. header_holds pat headers) wanted)
      (subst (λ (parts : List NameMatch). RefusesAt (facts_of P mid) value_pattern (λ pat. header_holds pat headers) parts) same
      (subst (λ (headers : List (List ℕ × List ℕ)). RefusesAt (facts_of P mid) value_pattern (λ pat. header_holds pat headers) given) is at))

  of_query_parts : {query given_query : List ℕ} → given_query ≡ query → RefusesAt (facts_of P mid) value_pattern (λ pat. query_holds pat (parts_of given_query)) given
      → RefusesAt (facts_of P old) value_pattern (λ pat. query_holds pat (parts_of query)) wanted
  of_query_parts {query} is at =
      facts_still u (λ facts. RefusesAt facts value_pattern (λ pat. query_holds pat (parts_of query)) wanted)
      (subst (λ (parts : List NameMatch). RefusesAt (facts_of P mid) value_pattern (λ pat. query_holds pat (parts_of query)) parts) same
      (subst (λ (query : List ℕ). RefusesAt (facts_of P mid) value_pattern (λ pat. query_holds pat (parts_of query)) given) is at))

hosts_from : (host : List ℕ) {hosts given : List (List ℕ)} {answer : Bool} → given ≡ hosts → answer ≡ hosts_hold host given → answer ≡ true → hosts_hold host hosts ≡ true
hosts_from host same is holds = subst (λ (hosts : List (List ℕ)). hosts_hold host hosts ≡ true) same (sym is ∙ holds)

pub returns-in-Err-clause-named : goal.returns-in-Err-clause-named
returns-in-Err-clause-named g c = λ met. record {
  hosts_are = hosts_from c.args.request.now.host c.as_slice.ensures c.hosts_hold.ensures c.if-not-hosts_hold.false;
  method_is = sym c.is_method.ensures ∙ c.if-not-is_method.false;
  at_part = path_refused c.args.request.now c.args.item.now (c.in-Err.ensures.named met);
}

pub returns-in-Ok-false-headers_hold-clause-asks : goal.returns-in-Ok-false-headers_hold-clause-asks
returns-in-Ok-false-headers_hold-clause-asks g c = answered_after no_fault no_fault (untouched no_fault c.in-Ok-true.ensures.asks) c.in-Ok-false-headers_hold.ensures.asks

pub returns-in-Err-headers_hold-clause-asks : goal.returns-in-Err-headers_hold-clause-asks
returns-in-Err-headers_hold-clause-asks g c = after (untouched no_fault c.in-Ok-true.ensures.asks) c.in-Err-headers_hold.ensures.asks

pub returns-in-Err-headers_hold-clause-named : goal.returns-in-Err-headers_hold-clause-named
returns-in-Err-headers_hold-clause-named g c = λ met. record {
  hosts_are = hosts_from c.args.request.now.host c.as_slice.ensures c.hosts_hold.ensures c.if-not-hosts_hold.false;
  method_is = sym c.is_method.ensures ∙ c.if-not-is_method.false;
  at_part = header_refused c.args.request.now c.args.item.now (λ pat told. sym (c.in-Ok-true.ensures.told pat told) ∙ c.in-Ok-true.field-0-test)
      (of_headers (untouched no_fault c.in-Ok-true.ensures.asks) c.as_slice-3.ensures c.as_slice-2.ensures (c.in-Err-headers_hold.ensures.named met));
}

pub returns-clause-told : goal.returns-clause-told
returns-clause-told g c = λ pat told.
    let request = c.args.request.now in
    let m = c.args.item.now in
    let after_path = c.in-Ok-true.ensures.asks.tells_same ∙ told in
    let path : c.in-Ok-true.field-0 ≡ path_holds pat request.path m.path = c.in-Ok-true.ensures.told pat told in
    let headers : c.in-Ok-true-headers_hold.field-0 ≡ list_all (header_holds pat c.as_slice-2.result.now) c.as_slice-3.result.now = c.in-Ok-true-headers_hold.ensures.told pat after_path in
    told_last (hosts_hold request.host c.args.hosts.now) (is_method request.method m.method) (path_holds pat request.path m.path) (list_all (header_holds pat request.headers) m.headers) (list_all (query_holds pat (parts_of request.query)) m.query)
    (list_all (query_holds pat (parts_of c.as_str.result.now)) c.as_slice-4.result.now) c.query_holds.result
    (subst (λ (hosts : List (List ℕ)). hosts_hold request.host hosts ≡ true) c.as_slice.ensures (sym c.hosts_hold.ensures ∙ c.if-not-hosts_hold.false))
    (sym c.is_method.ensures ∙ c.if-not-is_method.false)
    (sym path ∙ c.in-Ok-true.field-0-test)
    (subst (λ (given : List (List ℕ × List ℕ)). list_all (header_holds pat given) m.headers ≡ true) c.as_slice-2.ensures
    (subst (λ (wanted : List NameMatch). list_all (header_holds pat c.as_slice-2.result.now) wanted ≡ true) c.as_slice-3.ensures (sym headers ∙ c.in-Ok-true-headers_hold.field-0-test)))
    (ap (λ (query : List ℕ). list_all (query_holds pat (parts_of query)) c.as_slice-4.result.now) c.as_str.ensures ∙ ap (λ (wanted : List NameMatch). list_all (query_holds pat (parts_of request.query)) wanted) c.as_slice-4.ensures)
    (c.query_holds.ensures.told pat (c.in-Ok-true-headers_hold.ensures.asks.tells_same ∙ after_path))

pub returns-clause-asks : goal.returns-clause-asks
returns-clause-asks g c = after (further (untouched no_fault c.in-Ok-true.ensures.asks) (untouched no_fault c.in-Ok-true-headers_hold.ensures.asks)) c.query_holds.ensures.asks

pub returns-clause-named : goal.returns-clause-named
returns-clause-named g c = λ met.
    let path_asked = untouched no_fault c.in-Ok-true.ensures.asks in
    let request = c.args.request.now in
    let m = c.args.item.now in
    record {
      hosts_are = hosts_from c.args.request.now.host c.as_slice.ensures c.hosts_hold.ensures c.if-not-hosts_hold.false;
      method_is = sym c.is_method.ensures ∙ c.if-not-is_method.false;
      at_part = query_refused request m (λ pat told. sym (c.in-Ok-true.ensures.told pat told) ∙ c.in-Ok-true.field-0-test)
          (λ pat told.
          (λ i. list_all (header_holds pat (sym c.as_slice-2.ensures i)) (sym c.as_slice-3.ensures i))
          ∙ sym (c.in-Ok-true-headers_hold.ensures.told pat (path_asked.tells_same ∙ told)) ∙ c.in-Ok-true-headers_hold.field-0-test)
          (of_query_parts (further path_asked (untouched no_fault c.in-Ok-true-headers_hold.ensures.asks)) c.as_slice-4.ensures c.as_str.ensures (c.query_holds.ensures.named met));
    }
