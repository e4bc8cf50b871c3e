use Rattle.std.proofs.Common.{◌≡◌, map, take}
use Rattle.std.specs.List.{filter_map}
use Rattle.view_rules.specs.Endpoints.{pair_of}
use Rattle.view_diff.specs.Earlier.{changed_at, gone_at}
use Rattle.view_diff.proofs.since.find_changes.Given as goal

-- what has changed at the addresses so far is found
abbrev pub invariant-loop-stood : goal.invariant-loop-stood
invariant-loop-stood l = record {
  changed : l.found.changed ≡ filter_map (changed_at l.rows) (take l.stood-index l.before);
  gone : l.found.gone ≡ map pair_of (filter_map (gone_at l.rows) (take l.stood-index l.before));
}
