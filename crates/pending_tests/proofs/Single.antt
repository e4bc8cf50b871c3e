-- One address is in order.
use Rattle.std.proofs.Common.{◌≡◌, [], ◌∷◌}
use Rattle.std.specs.List.Sorted.{IsStrictlySortedBy}
use Rattle.std.specs.Option.{IfSome}
use Rattle.std.proofs.lemmas.List.Elements.{All-cons, All-nil}
use Rattle.view_rules.specs.Endpoints.{pair_of}
use Rattle.view_diff.specs.Earlier.{IsByAddress, Stood, address}

pub single : (s : Stood) → IfSome s.2 (λ row. pair_of row ≡ address s) → IsByAddress (s ∷ [])
unfolding IsStrictlySortedBy
single s own = record {
  rise = (tt, tt);
  own = All-cons (λ (s : Stood). IfSome s.2 (λ row. pair_of row ≡ address s)) s [] own (All-nil _);
}
