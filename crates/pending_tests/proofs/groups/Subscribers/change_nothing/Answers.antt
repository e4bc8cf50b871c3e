use Rattle.std.proofs.Common.{◌≡◌}
use Rattle.std.proofs.lemmas.List.Elements.{All-nil}
use Rattle.std.specs.List.Sorted.{IsStrictlySortedBy}
use Rattle.std.specs.Option.{IfSome}
use Rattle.view_diff.specs.Earlier.{Stood, address}
use Rattle.view_rules.specs.Endpoints.{pair_of}
use Rattle.pending_tests.proofs.groups.Subscribers.change_nothing.Goals as goal

pub change-requires : goal.change-requires
unfolding IsStrictlySortedBy
change-requires g = record { rise = tt; own = All-nil (λ (s : Stood). IfSome s.2 (λ row. pair_of row ≡ address s)) }
