use Rattle.std.proofs.Common.{refl}
use Rattle.shared_endpoints.proofs.Standing.{nothing_each, nothing_stands}
use Rattle.shared_endpoints.proofs.shared.SharedEndpoints.new.Goals as goal

pub returns-clause-stands : goal.returns-clause-stands
returns-clause-stands c = λ held.
    ∣ record {
      stands = nothing_stands c.args.config.now c.args.limits.now held c.in_ok-new.field-0 c.new-2.result c.new-3.result c.args.limits.now c.new-2.ensures.empty c.new-3.ensures.empty (c.in_ok-new.ensures.stands held) c.in_ok-new.ensures.filter c.in_ok-new.ensures.users refl;
      each = nothing_each c.new-2.result c.new-2.ensures.empty;
    } ∣₁
