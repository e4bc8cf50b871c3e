use Rattle.std.proofs.Common.{◌≤◌, ℕ, subst}
use Rattle.std.specs.List.{count_by}
use Rattle.server_index.specs.Matches.{names_server}
use Rattle.server_index.proofs.Followed.{servers_count}
use Rattle.server_index.proofs.kept.follow_concerned.Goals as goal

pub follow_in_place-requires : goal.follow_in_place-requires
follow_in_place-requires g c =
    let port = c.args.port.now in
    let holds = c.if-not-is_in_place.false in
    let count = servers_count port.from.now.store.now.objects port.key.now.ns c.servers_in-servers.result.now (c.servers_in-servers.ensures c.requires.going) in
    record {
      going = c.requires.going;
      notes = c.requires.notes;
      pod = c.is_in_place.ensures.pod holds;
      few = subst (λ (n : ℕ). count_by (names_server port.key.now.ns) c.args.changed.now ≤ n) count (c.is_in_place.ensures.few holds);
    }

pub returns-then-not-is_in_place-clause-stands : goal.returns-then-not-is_in_place-clause-stands
returns-then-not-is_in_place-clause-stands g c = λ held well leads. c.in_ok-find_again.ensures.stands well.marks
