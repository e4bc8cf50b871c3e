-- Rows kept once each: in order, each the first of its pair, and none of the pairs lost.
use Rattle.std.proofs.Common.{ℕ, List, map, subst}
use Rattle.std.proofs.lemmas.List.Elements.{Contains-get_or}
use Rattle.net_cidr.specs.declared.ip.Ip.{Ip}
use Rattle.view_types.specs.declared.endpoint.EndpointRow.{EndpointRow}
use Rattle.view_rules.specs.Endpoints.{first_rows, pair_of}
use Rattle.view_rules.specs.Laws.{FirstRowsAreFirst}
use Rattle.view_rules.proofs.Among.{Among, among_from, among_map, contained, from_map}
use Rattle.view_rules.proofs.KeptOnce.{order_has_key, order_is_first, order_keeps, order_rises}
use Rattle.view_rules.proofs.Pairs.{pairs_total, pairs_exact}

pub pairs_kept : (rows : List EndpointRow) (pair : Ip × ℕ) → Among pair (map pair_of rows) → Among pair (map pair_of (first_rows rows))
pairs_kept rows pair h =
    let at = from_map pair_of rows pair h in
    subst (λ pair. Among pair (map pair_of (first_rows rows))) at.2 (order_keeps pairs_total pairs_exact pair_of rows at.0 at.1)

pub pairs_from : (rows : List EndpointRow) (pair : Ip × ℕ) → Among pair (map pair_of (first_rows rows)) → Among pair (map pair_of rows)
pairs_from rows pair h = order_has_key pairs_total pairs_exact pair_of rows pair h

pub are_first : FirstRowsAreFirst
are_first rows = record {
  rise = order_rises pairs_total pairs_exact pair_of rows;
  firsts = order_is_first pairs_total pairs_exact pair_of rows;
  all = λ k d lt. contained _ _ (pairs_kept rows _ (among_map pair_of rows _ (among_from rows _ (Contains-get_or rows k d lt))));
}
